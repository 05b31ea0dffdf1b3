use Rattle.std.proofs.Common.{◌∙◌, subst, sym}
use Rattle.std.specs.Prelude.{◌≡◌, ◌++◌, OnOk, string_bytes}
use Rattle.fluent_kept.proofs.KeptTexts.{kept_text, on-success}
use Rattle.fluent_kept.proofs.given.push_argument.Goals as goal

pub returns-then-keeps_texts : goal.returns-then-keeps_texts
returns-then-keeps_texts g c =
    let scope = c.args.scope.now in
    let shown = kept_text c.args.argument.now (g.S.ValueScope.formatted scope) (g.S.ValueScope.shown scope) c.if-argument-eq-FLUENT_TEXT.true (c.keeps_texts.ensures c.if-keeps_texts.true) in
    subst (λ t. OnOk c.push_str.result (string_bytes c.push_str.new.self ≡ string_bytes c.args.out.now ++ t))
    (c.from_utf8_unchecked.ensures ∙ sym shown) (on-success c.push_str.result _ _ _ c.push_str.ensures.bytes)
