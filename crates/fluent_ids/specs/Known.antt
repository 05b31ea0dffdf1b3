-- What is known while a resource is looked through.
use Rattle.std.specs.Prelude.{◌≡◌, ℕ, Bool, ◌||◌, List, [], ◌∷◌, ◌++◌, map, is_some, if◌then◌else◌}
use Rattle.std.specs.Global.{Vec}
use Rattle.std.specs.Str.{bytes_eq}
use Rattle.std.specs.HashSet.{contains_by}
use Rattle.fluent_errors.specs.Errors as e
use Rattle.fluent_errors.specs.View.{bundle_view}
use Rattle.fluent_errors.specs.declared.bundle.FluentError.{FluentError}
use Rattle.fluent_meaning.specs.Ids.{Ids, find}
use Rattle.fluent_ids.specs.declared.notices.Notices.{Notices}

-- whether the map has an id, or an entry before had it
abbrev pub is_known : {F : Type 0} → Ids F → Notices → List ℕ → Bool
is_known ids notices id = is_some (find ids id) || contains_by (λ k. bytes_eq id k.now) notices.seen

-- the notices so far
abbrev pub told : Notices → List e.Reported
told notices = map bundle_view notices.told.items

-- one notice more is reported if an entry of this kind has an id that is known
abbrev pub TellsIfKnown : {F : Type 0} → Ids F → Notices → Notices → e.Kind → List ℕ → Type 0
TellsIfKnown ids old new kind id = told new ≡ told old ++ (if is_known ids old id then e.overriding kind id ∷ [] else [])

-- the known ids are those of before, and this one
abbrev pub KnowsOneMore : {F : Type 0} → Ids F → Notices → Notices → List ℕ → Type 0
KnowsOneMore ids old new id = (other : List ℕ) → is_known ids new other ≡ (bytes_eq id other || is_known ids old other)

-- what errors report
abbrev pub reports : Vec FluentError → List e.Reported
reports errors = map bundle_view errors.items
