use Rattle.std.proofs.Common.{subst, sym}
use Rattle.vsi_conform.specs.Bounded.{IsBoundedAs}
use Rattle.vsi_conform.proofs.BoundLines.{answer_bounded}
use Rattle.vsi_conform.proofs.conforming.bound_report.Goals as goal

pub returns-then-answer : goal.returns-then-answer
returns-then-answer c = record {
  report = subst (λ b. IsBoundedAs b c.args.verified.now) (sym c.in-Yes.is)
      (answer_bounded c.args.verified.now c.args.answer c.requires.answer c.if-answer.true);
}
