use Rattle.std.proofs.Common.{◌≡◌, ◌∙◌, ◌-◌, [], ◌++◌, None, Some, Vec, Global, length, sym, ap}
use denote.Ref.{Bor}
use Rattle.std.specs.List.{slice_get}
use Rattle.std.specs.Option.{option_copied}
use Rattle.std.proofs.lemmas.Result.{on_ok_weaker}
use Rattle.fluent_ast.specs.Borrowed.{elements_of, variants_of}
use Rattle.fluent_ast.specs.declared.Expression.TheVariants.{Select}
use Rattle.fluent_ast.specs.declared.PatternElement.TheVariants.{Placeable}
use Rattle.fluent_ast.specs.declared.Variant.{Variant}
use Rattle.fluent_grammar.specs.Words.{Text}
use Rattle.lint_findings.specs.Runs as r
use Rattle.lint_markup.specs.InCode.{texts_of}
use Rattle.lint_texts.proofs.EndSteps.{ends_by, ends_found, found_variants, inline_last, select_last, text_last}
use Rattle.lint_texts.proofs.ends.+ends.Goals as goal

pub push_ends-returns-in-Some-Placeable-Select : goal.push_ends-returns-in-Some-Placeable-Select
push_ends-returns-in-Some-Placeable-Select t c =
    let arm = c.in-Some-Placeable-Select in
    let es = elements_of c.args.pattern.now in
    let old = texts_of c.args.ends.now.items in
    let found = ends_found c.args.pattern.now (option_copied c.last.result) (c.last.ensures.value ∙ ap (λ xs. slice_get xs (length xs - 1)) c.deref.ensures.value) in
    let last : option_copied c.last.result ≡ Some (Placeable (Select arm.field-0-0-0 arm.variants)) = ap option_copied arm.is ∙ ap Some (arm.field-0-is ∙ ap Placeable arm.field-0-0-is) in
    let is : r.ends es ≡ r.variants_ends (variants_of arm.variants.items) = found ∙ ap (ends_by [] es) (ap found_variants last ∙ select_last arm.field-0-0-0 arm.variants) in
    let items : c.deref-in-Some-Placeable-Select.result.now ≡ arm.variants.items = c.deref-in-Some-Placeable-Select.ensures.value ∙ ap (λ (x : Vec (Variant (Bor Text)) Global). x.items) arm.variants-is in
    on_ok_weaker c.push_variants.result
    (λ added. added ∙ ap (λ vs. old ++ r.variants_ends (variants_of vs)) items ∙ ap (λ z. old ++ z) (sym is))
    c.push_variants.ensures

pub push_ends-returns-in-Some-Placeable-Inline : goal.push_ends-returns-in-Some-Placeable-Inline
push_ends-returns-in-Some-Placeable-Inline t c =
    let es = elements_of c.args.pattern.now in
    let old = texts_of c.args.ends.now.items in
    let found = ends_found c.args.pattern.now (option_copied c.last.result) (c.last.ensures.value ∙ ap (λ xs. slice_get xs (length xs - 1)) c.deref.ensures.value) in
    let none : found_variants (option_copied c.last.result) ≡ None = ap (λ o. found_variants (option_copied o)) c.in-Some-Placeable-Inline.is ∙ ap (λ x. found_variants (Some x)) (c.in-Some-Placeable-Inline.field-0-is ∙ ap Placeable c.in-Some-Placeable-Inline.field-0-0-is) ∙ inline_last c.in-Some-Placeable-Inline.field-0-0-0 in
    on_ok_weaker c.push_own.result (λ added. added ∙ ap (λ z. old ++ z) (sym (found ∙ ap (ends_by [] es) none))) c.push_own.ensures

pub push_ends-returns-in-Some-TextElement : goal.push_ends-returns-in-Some-TextElement
push_ends-returns-in-Some-TextElement t c =
    let es = elements_of c.args.pattern.now in
    let old = texts_of c.args.ends.now.items in
    let found = ends_found c.args.pattern.now (option_copied c.last.result) (c.last.ensures.value ∙ ap (λ xs. slice_get xs (length xs - 1)) c.deref.ensures.value) in
    let none : found_variants (option_copied c.last.result) ≡ None = ap (λ o. found_variants (option_copied o)) c.in-Some-TextElement.is ∙ ap (λ x. found_variants (Some x)) c.in-Some-TextElement.field-0-is ∙ text_last c.in-Some-TextElement.field-0-0 in
    on_ok_weaker c.push_own-in-Some-TextElement.result (λ added. added ∙ ap (λ z. old ++ z) (sym (found ∙ ap (ends_by [] es) none))) c.push_own-in-Some-TextElement.ensures

pub push_ends-returns-in-None : goal.push_ends-returns-in-None
push_ends-returns-in-None t c =
    let es = elements_of c.args.pattern.now in
    let old = texts_of c.args.ends.now.items in
    let found = ends_found c.args.pattern.now (option_copied c.last.result) (c.last.ensures.value ∙ ap (λ xs. slice_get xs (length xs - 1)) c.deref.ensures.value) in
    let none : found_variants (option_copied c.last.result) ≡ None = ap (λ o. found_variants (option_copied o)) c.in-None.is in
    on_ok_weaker c.push_own-in-None.result (λ added. added ∙ ap (λ z. old ++ z) (sym (found ∙ ap (ends_by [] es) none))) c.push_own-in-None.ensures
