use Rattle.std.proofs.Common.{◌∙◌, subst}
use Rattle.std.proofs.Math.Nat.{min-eq_left}
use Rattle.std.proofs.lemmas.Result.{on_ok_weaker}
use Rattle.fluent_ast.specs.Borrowed.{entry_of}
use Rattle.fluent_lint.specs.TakenView.{AddsDuplicate, CountsBy, DeclaresEntry}
use Rattle.fluent_lint.proofs.TakenSteps.{is_found, is_met, not_found, not_met}
use Rattle.fluent_lint.proofs.taken.Seen.add.Goals as goal

pub returns-then-not-counts-clause-met : goal.returns-then-not-counts-clause-met
returns-then-not-counts-clause-met c =
    not_met c.args.looked c.args.offset c.args.entry.now c.args.id.now c.args.self.now (record c.args.self.now { ids = c.add.new.self }) c.args.others.now
    c.in_ok-add.ensures (subst (CountsBy c.args.looked c.args.self.now (entry_of c.args.entry.now) c.args.id.now) c.if-not-counts.true c.counts-counts.ensures)

pub returns-then-not-counts-clause-found : goal.returns-then-not-counts-clause-found
returns-then-not-counts-clause-found c =
    not_found c.args.looked c.args.offset c.args.entry.now c.args.id.now c.args.self.now (record c.args.self.now { ids = c.add.new.self }) c.args.others.now
    c.args.findings.now (subst (CountsBy c.args.looked c.args.self.now (entry_of c.args.entry.now) c.args.id.now) c.if-not-counts.true c.counts-counts.ensures)

pub returns-clause-met : goal.returns-clause-met
returns-clause-met c =
    let looked = c.args.looked in
    let e = entry_of c.args.entry.now in
    let id = c.args.id.now in
    on_ok_weaker c.declare.result
    (λ declares.
    is_met looked c.args.offset c.args.entry.now id c.args.self.now (record { ids = c.add.new.self; place = c.moved_to-self.result }) c.args.others.now
    c.declare.new.others c.in_ok-add.ensures (subst (CountsBy looked c.args.self.now e id) c.if-not-counts.false c.counts-counts.ensures)
    (subst (λ at. DeclaresEntry looked e at id c.args.others.now c.declare.new.others) (c.moved_to-self.ensures.offset ∙ min-eq_left c.requires.within) declares))
    c.declare.ensures.declared

pub returns-clause-found : goal.returns-clause-found
returns-clause-found c =
    let looked = c.args.looked in
    let e = entry_of c.args.entry.now in
    let id = c.args.id.now in
    on_ok_weaker c.declare.result
    (λ adds.
    is_found looked c.args.offset c.args.entry.now id c.args.self.now (record { ids = c.add.new.self; place = c.moved_to-self.result }) c.args.others.now
    c.args.findings.now c.declare.new.findings (subst (CountsBy looked c.args.self.now e id) c.if-not-counts.false c.counts-counts.ensures)
    (subst (λ at. AddsDuplicate c.args.others.now e at id c.args.findings.now c.declare.new.findings) (c.moved_to-self.ensures.offset ∙ min-eq_left c.requires.within) adds))
    c.declare.ensures.added
