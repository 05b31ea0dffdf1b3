use Rattle.std.proofs.Common.{◌≡◌, ◌∙◌, false, ap, sym, rules}
use Rattle.fluent_ast.specs.Borrowed.{entries_of}
use Rattle.fluent_grammar.specs.Tiling.{errors}
use Rattle.fluent_tidy.specs.Sources.{holds_return}
use Rattle.fluent_tidy.specs.TidyText.{begins_with_mark}
use Rattle.fluent_tidy.proofs.Read.{no_errors_told}
use Rattle.fluent_tidy.proofs.TidyPlain.{stays-as}
use Rattle.fluent_tidy.proofs.tidying.stays_tidy.Goals as goal

pub returns-in-Ok : goal.returns-in-Ok
returns-in-Ok c =
    let text = c.args.text.now in
    let no_return : c.has_return.result ≡ false = search rules in
    let no_mark : c.begins_with_mark.result ≡ false = search rules in
    let none : holds_return text ≡ false = sym c.has_return.ensures ∙ no_return in
    let mark : begins_with_mark text ≡ false = ap begins_with_mark (sym c.as_bytes.ensures.value) ∙ sym c.begins_with_mark.ensures ∙ no_mark in
    stays-as c.is_laid_as.result text (entries_of c.args.tree) none mark (no_errors_told (errors text) c.in-Ok.ensures.errors) c.is_laid_as.ensures
