use Rattle.std.proofs.Common.{◌≡◌, ◌∙◌, ◌==◌, ◌||◌, [], ◌∷◌, if◌then◌else◌, ap, refl, sym, true}
use Rattle.std.specs.Char.{encode_utf8}
use Rattle.std.specs.Prelude.{slice_index_or}
use Rattle.fluent_date_tables.specs.Tables.{utf8}
use Rattle.fluent_date_tables.specs.Texts.{text_numbered}
use Rattle.fluent_dates.specs.Patterns.{append_place}
use Rattle.fluent_dates.proofs.joining.append_form.Goals as goal

form : 48 ∷ 32 ∷ 226 ∷ 148 ∷ 156 ∷ 50 ∷ 58 ∷ 32 ∷ 49 ∷ 226 ∷ 148 ∷ 164 ∷ [] ≡ utf8 "0 ├2: 1┤"
unfolding encode_utf8
form = refl

pub returns-then-is_formless : goal.returns-then-is_formless
returns-then-is_formless c =
    let place = c.args.place in
    let test : (place == 5 || place == 9) ≡ true = sym c.is_formless.ensures ∙ c.if-is_formless.true in
    form ∙ sym (ap (λ b. if b then utf8 "0 ├2: 1┤" else text_numbered (slice_index_or c.args.row.now.append (append_place place) 0)) test)
