use Rattle.std.proofs.Common.{◌≡◌, append_assoc, rules, subst, arith}
use Rattle.std.specs.Prelude.{MatchResult}
use Rattle.vsi_answers.specs.Bounds.{IsBound, LacksBound}
use Rattle.vsi_conform.specs.Bounded.{excess_line}
use Rattle.vsi_conform.proofs.BoundLines.{excess_reported}
use Rattle.vsi_conform.proofs.conforming.report_within.Goals as goal

pub returns-in_ok-extend_from_slice-in-Ok : goal.returns-in_ok-extend_from_slice-in-Ok
returns-in_ok-extend_from_slice-in-Ok c =
    let image = c.args.verified.now in
    let line = c.extend_from_slice.new.self in
    let says : line.items ≡ excess_line c.in-Ok.most c.args.maximum =
    rw (c.in_ok-extend_from_slice-in-Ok.ensures.items, c.in_ok-put_counted-in-Ok-2.ensures)
    (rw (c.in_ok-put_counted-in-Ok.ensures, c.new-line.ensures.items) (simp append_assoc)) in
    excess_reported image c.args.maximum c.in-Ok.most line
    (subst (λ a. MatchResult a (IsBound image) (λ line. LacksBound image line.items)) c.in-Ok.is c.in_ok-most.ensures.budget)
    (omega (arith, c.if-most-maximum.false)) says
