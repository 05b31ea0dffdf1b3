use Rattle.std.proofs.Common.{◌≡◌, ◌∙◌, ℕ, ◌+◌, List, Option, Some, None, Bor, ap, drop, rules, sym}
use Rattle.std.specs.Prelude.{unwrap_or}
use Rattle.std.proofs.lemmas.List.{drop-map}
use Rattle.fluent_project.specs.Patterns.{Text}
use Rattle.fluent_project.specs.Places.{inside_line, key_at}
use Rattle.fluent_project.specs.PlaceViews.{texts}
use Rattle.fluent_project.proofs.places.inside_line.Goals as goal

-- what was found after the header, or the header itself
behind_header : (key : Text) (lines : List (Bor Text)) (header : ℕ) (found : Option ℕ)
    → found ≡ key_at key (header + 1) (texts (drop (header + 1) lines)) → unwrap_or found header + 1 ≡ inside_line key (texts lines) (Some header)
behind_header key lines header found is =
    ap (λ line. unwrap_or line header + 1) (is ∙ ap (key_at key (header + 1)) (sym (drop-map (λ text. text.now) (header + 1) lines)))

pub returns-in-None-key_at : goal.returns-in-None-key_at
returns-in-None-key_at c =
    let is : c.args.header ≡ Some c.in-Some.header = search rules in
    behind_header c.args.key.now c.args.lines.now c.in-Some.header None c.in-None-key_at.ensures.line
    ∙ ap (inside_line c.args.key.now (texts c.args.lines.now)) (sym is)

pub returns-in-Some-key_at : goal.returns-in-Some-key_at
returns-in-Some-key_at c =
    let is : c.args.header ≡ Some c.in-Some.header = search rules in
    behind_header c.args.key.now c.args.lines.now c.in-Some.header (Some c.in-Some-key_at.line) c.in-Some-key_at.ensures.line
    ∙ ap (inside_line c.args.key.now (texts c.args.lines.now)) (sym is)
