use Rattle.std.proofs.Common.{◌≡◌, ◌∙◌, List, ℕ, drop, Some, None, sym, ap, subst, arith}
use Rattle.std.proofs.lemmas.Grind.{common_steps}
use Rattle.memchr.specs.Find.{FindsNeedle}
use Rattle.lint_texts.proofs.FoundTexts.{cut_found, found_is, nowhere_is}
use Rattle.lint_texts.proofs.quotes.from_text.Goals as goal

pub range_from-requires : goal.range_from-requires
range_from-requires c = λ _.
    let hay = subst (λ (x : List ℕ). FindsNeedle x c.as_bytes-2.result.now 0 (Some c.in-Some.place)) c.as_bytes.ensures.value c.in-Some.ensures in
    let found = subst (λ (x : List ℕ). FindsNeedle c.args.text.now x 0 (Some c.in-Some.place)) c.as_bytes-2.ensures.value hay in
    (cut_found c.args.part.now c.args.text.now c.in-Some.place c.requires found).boundary c.utf8.text

pub returns-in-Some : goal.returns-in-Some
returns-in-Some c =
    let hay = subst (λ (x : List ℕ). FindsNeedle x c.as_bytes-2.result.now 0 (Some c.in-Some.place)) c.as_bytes.ensures.value c.in-Some.ensures in
    let found = subst (λ (x : List ℕ). FindsNeedle c.args.text.now x 0 (Some c.in-Some.place)) c.as_bytes-2.ensures.value hay in
    let at : c.range_from.result.now ≡ drop c.in-Some.place c.args.text.now = grind (arith, common_steps, c.range_from.ensures.value) in
    ap Some at ∙ sym (found_is c.args.part.now c.args.text.now c.in-Some.place c.requires found)

pub returns-in-None : goal.returns-in-None
returns-in-None c =
    let hay = subst (λ (x : List ℕ). FindsNeedle x c.as_bytes-2.result.now 0 None) c.as_bytes.ensures.value c.in-None.ensures in
    let none = subst (λ (x : List ℕ). FindsNeedle c.args.text.now x 0 None) c.as_bytes-2.ensures.value hay in
    sym (nowhere_is c.args.part.now c.args.text.now none)
