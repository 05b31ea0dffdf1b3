use Rattle.std.proofs.Common.{arith, sym}
use Rattle.fluent_resolver.proofs.Asking.{tells-none}
use Rattle.fluent_bundle.proofs.LoneTexts.{lone-handed, lone-unreported}
use Rattle.fluent_bundle.specs.BundleView.{handout}
use Rattle.fluent_bundle.proofs.bundle.FluentBundle.format_pattern.Goals as goal

pub returns-in-Some-clause-text : goal.returns-in-Some-clause-text
returns-in-Some-clause-text g c = sym (lone-handed g.T.TextTransform.transformed c.args.self.now c.args.args c.args.pattern.now c.in-Some.text.now c.in-Some.ensures.text c.in-Some.ensures.as_is)

pub returns-in-Some-clause-told : goal.returns-in-Some-clause-told
returns-in-Some-clause-told g c =
    tells-none c.args.errors.now (handout g.T.TextTransform.transformed c.args.self.now c.args.args c.args.pattern.now)
    (lone-unreported g.T.TextTransform.transformed c.args.self.now c.args.args c.args.pattern.now c.in-Some.text.now c.in-Some.ensures.text)

pub returns-in-Some-clause-told_once : goal.returns-in-Some-clause-told_once
returns-in-Some-clause-told_once g c = omega arith
