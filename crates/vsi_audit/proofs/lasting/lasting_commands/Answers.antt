use Rattle.std.proofs.Common.{◌≡◌, ◌+◌, length, arith, refl}
use Rattle.vsi_scope.specs.Language.{letvars}
use Rattle.vsi_audit.proofs.Structured.{commands_in_room, unread_if, passed_unread}
use Rattle.vsi_audit.proofs.lasting.lasting_commands.Goals as goal

pub returns-in_err-body-clause-unread : goal.returns-in_err-body-clause-unread
returns-in_err-body-clause-unread c =
    let im = c.args.image.now in
    let halt = c.in-Some.halt in
    let last : halt + 1 ≡ length im.code.items = omega arith in
    passed_unread im c.from_residual.result c.in_err-body.field-0.0 c.from_residual.ensures.1
    (unread_if im c.in_err-body.field-0.0 (λ h. c.in_err-body.ensures.found (letvars h.commands + 0)
    (commands_in_room im halt h c.deref-2.result.now _ _ _ last c.deref-2.ensures.value (omega arith) (omega arith) refl)))

pub returns-then-len-globals-clause-unread : goal.returns-then-len-globals-clause-unread
returns-then-len-globals-clause-unread c = λ h.
    let im = c.args.image.now in
    let halt = c.in-Some.halt in
    let last : halt + 1 ≡ length im.code.items = omega arith in
    let few = c.in_ok-body.ensures.few (letvars h.commands + 0)
    (commands_in_room im halt h c.deref-2.result.now _ _ _ last c.deref-2.ensures.value (omega arith) (omega arith) refl) in
    absurd (omega (arith, few, c.in_ok-body.ensures.count, h.few))
