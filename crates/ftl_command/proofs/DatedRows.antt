-- What arguments of `ftl format` set, by computing.
use Rattle.std.specs.Prelude.{◌≡◌, refl, [], ◌∷◌, None, Some, codes, map, true, false}
use Rattle.fluent_number.specs.Reading.{read_number}
use Rattle.fluent_value.specs.Value.{text}
use Rattle.ftl_command.specs.Dated.{date_variable, has_date, values_of}

a_date : date_variable (codes "due:date") ≡ Some (codes "due")
a_date = refl

no_kind : date_variable (codes "date") ≡ None
no_kind = refl

another_kind : date_variable (codes "due:day") ≡ None
another_kind = refl

-- the kind is all that is after the first colon
two_colons : date_variable (codes "due:a:date") ≡ None
two_colons = refl

sets_its_variable : map (λ pair. pair.0) (values_of (codes "due:date", codes "2026-11-28")) ≡ codes "due" ∷ []
sets_its_variable = refl

-- a text that is no date sets nothing
no_date : values_of (codes "due:date", codes "2026-13-01") ≡ []
no_date = refl

a_text : values_of (codes "due", codes "2026-11-28") ≡ (codes "due", text (codes "2026-11-28")) ∷ []
unfolding read_number
a_text = refl

one_date : has_date ((codes "n", codes "3") ∷ (codes "due:date", codes "2026-11-28") ∷ []) ≡ true
one_date = refl

none_is : has_date ((codes "n", codes "3") ∷ (codes "due", codes "2026-11-28") ∷ []) ≡ false
none_is = refl
