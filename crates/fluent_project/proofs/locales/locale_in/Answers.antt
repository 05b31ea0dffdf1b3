use Rattle.std.proofs.Common.{◌≡◌, ◌∙◌, [], Some, None, rules, subst, sym, true}
use Rattle.std.specs.Prelude.{IfSome}
use Rattle.std.specs.Str.{IsUtf8}
use Rattle.fluent_project.specs.declared.part.Wildcard.TheVariants.{Star}
use Rattle.fluent_project.specs.Locales.{tag_in}
use Rattle.fluent_project.specs.Patterns.{Matches, may_be}
use Rattle.fluent_project.specs.Views.{FindsLongest, FindsTaken}
use Rattle.fluent_project.proofs.Tags.{no_tag, slashless, tag_there}
use Rattle.fluent_project.proofs.locales.locale_in.Goals as goal

pub returns-in_default-get-clause-none : goal.returns-in_default-get-clause-none
returns-in_default-get-clause-none c = λ _.
    let pattern = c.args.pattern.now in
    let path = c.args.path.now in
    let found = subst (FindsTaken [] c.deref.result.now c.as_bytes.result.now) c.in-Some-2.is c.in_ok-texts.ensures.taken in
    let is : tag_in pattern path ≡ None =
    no_tag pattern c.deref.result.now path c.as_bytes.result.now c.in-Some-2.texts c.deref-2.result.now c.in-Some.before
    (c.deref.ensures.value ∙ c.in_ok-whole.ensures) c.as_bytes.ensures.value c.deref-2.ensures.value c.in-Some.ensures.count
    c.in_default-get.ensures.lookup.3 found in
    subst (λ o. IfSome o (λ tag. IsUtf8 tag → ¬ (Matches tag pattern path))) (sym is) tt

pub returns-then-is_match-clause-found : goal.returns-then-is_match-clause-found
returns-then-is_match-clause-found c =
    let pattern = c.args.pattern.now in
    let path = c.args.path.now in
    let found = subst (FindsLongest [] c.deref.result.now c.as_bytes.result.now) c.in-Some-2.is c.in_ok-texts.ensures.longest in
    record {
      match = search rules;
      slashless = subst (λ tag. may_be Star tag ≡ true) (sym c.in-Ok.ensures.cases.0)
          (slashless pattern c.deref.result.now path c.as_bytes.result.now c.in-Some-2.texts c.deref-2.result.now c.in-Some.before
          (c.deref.ensures.value ∙ c.in_ok-whole.ensures) c.as_bytes.ensures.value c.deref-2.ensures.value c.in-Some.ensures.count
          c.in-Some-get.text.now c.in-Some-get.ensures.lookup.3.0 c.in-Some-get.ensures.lookup.1 found);
    }

pub returns-in_default-from_utf8-clause-none : goal.returns-in_default-from_utf8-clause-none
returns-in_default-from_utf8-clause-none c = λ _.
    let pattern = c.args.pattern.now in
    let path = c.args.path.now in
    let found = subst (FindsTaken [] c.deref.result.now c.as_bytes.result.now) c.in-Some-2.is c.in_ok-texts.ensures.taken in
    let is : tag_in pattern path ≡ Some c.in-Some-get.text.now.now =
    tag_there pattern c.deref.result.now path c.as_bytes.result.now c.in-Some-2.texts c.deref-2.result.now c.in-Some.before
    (c.deref.ensures.value ∙ c.in_ok-whole.ensures) c.as_bytes.ensures.value c.deref-2.ensures.value c.in-Some.ensures.count
    c.in-Some-get.text.now c.in-Some-get.ensures.lookup.3.0 c.in-Some-get.ensures.lookup.1 found in
    subst (λ o. IfSome o (λ tag. IsUtf8 tag → ¬ (Matches tag pattern path))) (sym is) (λ utf8. absurd (c.in_default-from_utf8.ensures.cases.0 utf8))

pub returns-clause-none : goal.returns-clause-none
returns-clause-none c = λ _.
    let pattern = c.args.pattern.now in
    let path = c.args.path.now in
    let found = subst (FindsTaken [] c.deref.result.now c.as_bytes.result.now) c.in-Some-2.is c.in_ok-texts.ensures.taken in
    let is : tag_in pattern path ≡ Some c.in-Some-get.text.now.now =
    tag_there pattern c.deref.result.now path c.as_bytes.result.now c.in-Some-2.texts c.deref-2.result.now c.in-Some.before
    (c.deref.ensures.value ∙ c.in_ok-whole.ensures) c.as_bytes.ensures.value c.deref-2.ensures.value c.in-Some.ensures.count
    c.in-Some-get.text.now c.in-Some-get.ensures.lookup.3.0 c.in-Some-get.ensures.lookup.1 found in
    let tag : c.as_bytes-2.result.now ≡ c.in-Some-get.text.now.now = c.as_bytes-2.ensures.value ∙ c.in-Ok.ensures.cases.0 in
    let other : ¬ (Matches c.in-Some-get.text.now.now pattern path) =
    subst (λ p. ¬ (Matches c.in-Some-get.text.now.now pattern p)) c.as_bytes-3.ensures.value
    (subst (λ t. ¬ (Matches t pattern c.as_bytes-3.result.now)) tag (c.is_match.ensures.none c.if-is_match.false)) in
    subst (λ o. IfSome o (λ tag. IsUtf8 tag → ¬ (Matches tag pattern path))) (sym is) (λ utf8. other)
