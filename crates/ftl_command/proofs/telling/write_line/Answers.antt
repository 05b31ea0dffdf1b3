use Rattle.std.proofs.Common.{◌≡◌, ◌++◌, ◌∷◌, [], subst, codes}
use Rattle.fluent_serve.specs.Text.{line_feed}
use Rattle.ftl_command.specs.Faults.{fault_text}
use Rattle.ftl_command.specs.Program.{WritesFront}
use Rattle.ftl_command.proofs.TellLemmas.{front_after, front_at_end, front_of_piece, line_of, on_err, on_err_map}
use Rattle.ftl_command.proofs.telling.write_line.Goals as goal

pub returns-in_err-write_all-clause-front : goal.returns-in_err-write_all-clause-front
returns-in_err-write_all-clause-front g c =
    on_err c.from_residual.result
    (front_of_piece _ _ (codes "ftl: ") (fault_text c.args.fault.now ++ line_feed ∷ []) c.in_err-write_all.ensures.err)

pub returns-in_err-write_all-2-clause-front : goal.returns-in_err-write_all-2-clause-front
returns-in_err-write_all-2-clause-front g c =
    let text = c.parts.result.1.now in
    let is : c.as_bytes.result.now ++ text ≡ fault_text c.args.fault.now = rw c.as_bytes.ensures.value c.parts.ensures in
    on_err c.from_residual-in_err-write_all-2.result
    (subst (WritesFront _ _) (line_of c.as_bytes.result.now text (fault_text c.args.fault.now) is)
    (front_after _ _ _ (codes "ftl: ") _ c.in_ok-write_all.ensures.ok
    (front_of_piece _ _ c.as_bytes.result.now (text ++ line_feed ∷ []) c.in_err-write_all-2.ensures.err)))

pub returns-in_err-write_all-3-clause-front : goal.returns-in_err-write_all-3-clause-front
returns-in_err-write_all-3-clause-front g c =
    let is : c.as_bytes.result.now ++ c.as_bytes-2.result.now ≡ fault_text c.args.fault.now =
    rw (c.as_bytes.ensures.value, c.as_bytes-2.ensures.value) c.parts.ensures in
    on_err c.from_residual-in_err-write_all-3.result
    (subst (WritesFront _ _) (line_of c.as_bytes.result.now c.as_bytes-2.result.now (fault_text c.args.fault.now) is)
    (front_after _ _ _ (codes "ftl: ") _ c.in_ok-write_all.ensures.ok
    (front_after _ _ _ c.as_bytes.result.now _ c.in_ok-write_all-2.ensures.ok
    (front_of_piece _ _ c.as_bytes-2.result.now (line_feed ∷ []) c.in_err-write_all-3.ensures.err))))

pub returns-clause-front : goal.returns-clause-front
returns-clause-front g c =
    let is : c.as_bytes.result.now ++ c.as_bytes-2.result.now ≡ fault_text c.args.fault.now =
    rw (c.as_bytes.ensures.value, c.as_bytes-2.ensures.value) c.parts.ensures in
    on_err_map c.write_all-4.result
    (λ p. subst (WritesFront _ _) (line_of c.as_bytes.result.now c.as_bytes-2.result.now (fault_text c.args.fault.now) is)
    (front_after _ _ _ (codes "ftl: ") _ c.in_ok-write_all.ensures.ok
    (front_after _ _ _ c.as_bytes.result.now _ c.in_ok-write_all-2.ensures.ok
    (front_after _ _ _ c.as_bytes-2.result.now _ c.in_ok-write_all-3.ensures.ok
    (front_at_end _ _ (line_feed ∷ []) p)))))
    c.write_all-4.ensures.err
