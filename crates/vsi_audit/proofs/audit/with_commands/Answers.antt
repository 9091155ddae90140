use Rattle.std.proofs.Common.{rules, ◌≡◌, ◌+◌, ◌≤◌, length, ap, subst}
use Rattle.vsi_scope.specs.Language.{size}
use Rattle.vsi_scope.specs.View.{sequence}
use Rattle.vsi_audit.specs.Fitting.{Fits}
use Rattle.vsi_audit.proofs.Sequences.{fitting_resolved}
use Rattle.vsi_audit.proofs.audit.with_commands.Goals as goal

pub rebuilt-requires : goal.rebuilt-requires
rebuilt-requires c =
    let base = c.args.base.now in
    let ys = c.in_ok-entries.entries.items in
    let cs = c.args.commands.body.items in
    let count = ap length c.globals-count.ensures in
    let letvars : c.len.result ≡ length ys = search rules in
    let same = c.deref-2.ensures.value in
    let within = c.is_within.ensures in
    let is = c.if-not-is_within.false in
    fitting_resolved base ys cs c.len.result c.body-body.ensures.resolved
    (subst (λ k. Fits k 200 c.len.result (sequence cs)) count
    (subst (λ l. Fits (length c.globals-count.result.now) 200 c.len.result (sequence l)) same (within.fits is)))
    letvars (subst (λ n. length base.globals + n ≤ 1024) letvars
    (subst (λ k. k + c.len.result ≤ 1024) count (within.few is)))
    (subst (λ l. size (sequence l) ≤ 65534) same (within.small is))
