use Rattle.fluent_bundle.proofs.bundle.scope.FluentBundleValueScope.keeps_texts.Goals as goal

pub returns-in-Some : goal.returns-in-Some
returns-in-Some g c kept text shown = rw c.in-Some.is (c.keeps_texts.ensures kept c.args.self.now.plurals text shown)
