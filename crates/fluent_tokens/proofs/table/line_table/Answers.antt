use Rattle.std.proofs.Common.{◌≡◌, ◌+◌, ◌-◌, ◌∙◌, ℕ, length, drop, ap, sym, subst, arith, Some, Option}
use Rattle.std.proofs.lemmas.List.{length-drop, drop-drop}
use Rattle.fluent_tokens.specs.Swept.{Tells, IsNext}
use Rattle.fluent_tokens.proofs.OneByOne.{last_row, next_row}
use Rattle.fluent_tokens.proofs.table.line_table.Goals as goal

pub returns-in_default : goal.returns-in_default
returns-in_default c =
    let u = c.from-line.result.now in
    let front = c.measure_line-front.result in
    let behind = subst (λ (o : Option ℕ). IsNext u front.len o front.told) c.in_default.is c.measure_line-front.ensures.next in
    last_row c.args.text.now u c.lines.rows.items c.push.new.self.items c.in_ok-row.row c.lines.start front.len c.lines.invariant.rows c.from-line.ensures c.measure_line-front.ensures.line c.measure_line-front.ensures.cuts.within c.in_ok-push.ensures.items c.in_ok-row.ensures behind

pub lines-preserved : goal.lines-preserved
lines-preserved c =
    let text = c.args.text.now in
    let start = c.lines.start in
    let u = c.from-line.result.now in
    let front = c.measure_line-front.result in
    let next = c.in-Some.next in
    let n = subst (λ (o : Option ℕ). IsNext u front.len o front.told) c.in-Some.is c.measure_line-front.ensures.next in
    let line_end = next - front.len in
    let whole : front.len + line_end ≡ next = omega (arith, n.1) in
    let behind = n.0 ∙ ap (λ (k : ℕ). Some (drop k u)) (sym whole) ∙ ap Some (sym (drop-drop line_end front.len u)) in
    let place : drop next u ≡ drop (start + next) text = ap (drop next) c.from-line.ensures ∙ drop-drop next start text in
    record {
      within = omega (arith, n.2, c.lines.invariant.within, ap length c.from-line.ensures, length-drop start text);
      told = subst (Tells front.told) place n.3;
      rows = next_row text u c.lines.rows.items c.push.new.self.items c.in_ok-row.row start front.len line_end (start + next) c.lines.invariant.rows c.from-line.ensures c.measure_line-front.ensures.line c.measure_line-front.ensures.cuts.within c.in_ok-push.ensures.items c.in_ok-row.ensures behind (omega (arith, whole, n.2)) (omega (arith, whole));
    }
