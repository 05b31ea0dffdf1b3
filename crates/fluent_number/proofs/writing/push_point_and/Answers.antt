use Rattle.std.proofs.Common.{◌≡◌, ◌≢◌, ◌⊎◌, false, inl, inr, sym, rules}
use Rattle.std.specs.Prelude.{is_none}
use Rattle.std.proofs.lemmas.Result.{IfOk-equal}
use Rattle.std.proofs.lemmas.List.{append_assoc, append-nil}
use Rattle.fluent_number.proofs.EndZeros.{point_and_none, point_and_some}
use Rattle.fluent_number.proofs.writing.push_point_and.Goals as goal
use Rattle.fluent_number.proofs.writing.push_point_and.Goals.{else-count-eq0-via-then-count-eq0+else-is_none, else-count-eq0-via-else-count-eq0}

pub returns-then-is_none : goal.returns-then-is_none
returns-then-is_none c =
    rw (point_and_none c.args.least c.args.count c.args.digits (search (rules, c.if-is_none.ensures)) c.if-count-eq0.true) (sym (append-nil _))

pub returns : goal.returns
returns c =
    let due : (is_none c.args.least ≡ false) ⊎ (c.args.count ≢ 0) = elim c.else-count-eq0.branch [ else-count-eq0-via-then-count-eq0+else-is_none w ↦ inl (search rules) | else-count-eq0-via-else-count-eq0 w ↦ inr w.if-count-eq0.false ] in
    let all = point_and_some c.args.least c.args.count c.args.digits due in
    rw all (search (rules, IfOk-equal, append_assoc))
