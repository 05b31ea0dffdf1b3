use Rattle.std.proofs.Common.{◌≡◌, ◌∙◌, [], arith, ap, map, subst}
use Rattle.std.specs.Prelude.{All}
use Rattle.std.proofs.lemmas.List.Sorted.{All-permutation, IsPermutation-sym}
use Rattle.std.proofs.lemmas.Result.{IfErr-weaker, IfOk-weaker, on_ok_weaker}
use Rattle.fluent_run.specs.Dated.{dated_view}
use Rattle.fluent_value.specs.Args.{all_set}
use Rattle.fluent_c.specs.Arguments.{AreRefusedFor, IsTaken}
use Rattle.fluent_kept.specs.Given.{pair_of}
use Rattle.fluent_c.proofs.Given.{before_the_first, refused_on, same_refused}
use Rattle.fluent_c.proofs.InOrder.{sets_sorted}
use Rattle.fluent_c.proofs.arguments.arguments_of.Goals as goal

pub returns-clause-set : goal.returns-clause-set
returns-clause-set c =
    let given = c.args.given.now in
    let sorted = c.in_ok-sorted.sorted.items in
    let same = ap (λ xs. all_set [] (map pair_of xs)) c.deref.ensures.value ∙ sets_sorted pair_of given sorted c.in_ok-sorted.ensures.stable [] in
    IfOk-weaker c.set_all-2.result (λ arguments. dated_view arguments ≡ all_set [] (map pair_of c.deref.result.now)) (λ arguments. dated_view arguments ≡ all_set [] (map pair_of given)) (λ arguments e. e ∙ same)
    c.set_all-2.ensures.set

pub returns-clause-taken : goal.returns-clause-taken
returns-clause-taken c =
    let given = c.args.given.now in
    let sorted = c.in_ok-sorted.sorted.items in
    on_ok_weaker c.set_all-2.result (λ taken. All-permutation IsTaken sorted given (IsPermutation-sym given sorted c.in_ok-sorted.ensures.same) (subst (All IsTaken) c.deref.ensures.value taken)) c.set_all-2.ensures.taken

pub returns-clause-refused : goal.returns-clause-refused
returns-clause-refused c =
    let given = c.args.given.now in
    let sorted = c.in_ok-sorted.sorted.items in
    IfErr-weaker c.set_all-2.result (AreRefusedFor c.deref.result.now) (AreRefusedFor given)
    (λ refusal of. same_refused given sorted refusal c.in_ok-sorted.ensures.same (subst (λ xs. AreRefusedFor xs refusal) c.deref.ensures.value of)) c.set_all-2.ensures.refused

pub returns-in_err-sorted-clause-refused : goal.returns-in_err-sorted-clause-refused
returns-in_err-sorted-clause-refused c =
    refused_on (AreRefusedFor c.args.given.now) c.from_residual.result c.from_residual.ensures.1 (before_the_first c.args.given.now (omega arith))
