use Rattle.std.proofs.Common.{◌≡◌, ◌<◌, ◌≤◌, ◌∙◌, ℕ, arith, subst, sym, length}
use Rattle.vsi_project.proofs.Parts.{walk_on, lead_to}
use Rattle.vsi_project.proofs.reader.stays.Goals as goal
use Rattle.vsi_project.proofs.reader.stays.Goals.{then-byte-eq47+in-Some, else-byte-eq47}

pub loop-i-preserved : goal.loop-i-preserved
loop-i-preserved c =
    elim c.if-byte-eq47.branch [
      | then-byte-eq47+in-Some w ↦ (
        omega arith,
        (λ k low high. absurd (omega arith)),
        rw w.depth-is (rw w.start-is
            (walk_on c.args.path.now c.loop-i.depth c.loop-i.start c.loop-i.i w.in-Some.next _ c.loop-i.invariant.0
            c.loop-i-test.true w.if-byte-eq47.true c.loop-i.invariant.1 w.in-Some.ensures c.loop-i.invariant.2)),
      )
      | else-byte-eq47 w ↦ (
        omega arith,
        (λ k low high. grind arith),
        rw w.depth-is (rw w.start-is c.loop-i.invariant.2),
      )
    ]

pub returns : goal.returns
returns c = λ some.
    let end : c.loop-i.i ≡ length c.args.path.now = omega arith in
    lead_to c.args.path.now c.loop-i.depth c.loop-i.start c.moved-2.result (omega arith)
    (λ k low high. c.loop-i.invariant.1 k low (omega arith)) c.moved-2.ensures c.loop-i.invariant.2
    (sym c.is_some.ensures ∙ some)
