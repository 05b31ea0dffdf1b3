use Rattle.fluent_value.proofs.Digits.{integer-text}
use Rattle.fluent_bundle.proofs.bundle.scope.FluentBundleValueScope.plain_below.Goals as goal

pub returns-in-Some : goal.returns-in-Some
returns-in-Some g c n small shown = rw c.in-Some.is (c.plain_below.ensures c.args.self.now.plurals n small shown)

pub returns-in-None : goal.returns-in-None
returns-in-None g c n small shown = rw c.in-None.is (integer-text n)
