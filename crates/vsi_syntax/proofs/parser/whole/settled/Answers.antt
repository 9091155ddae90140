use Rattle.std.proofs.Common.{inl}
use Rattle.vsi_syntax.proofs.FaultPlaces.{stands}
use Rattle.vsi_syntax.proofs.parser.whole.settled.Goals as goal

pub returns-in-Some-clause-place : goal.returns-in-Some-clause-place
returns-in-Some-clause-place c = inl (stands c.args.tokens.now _ c.in-Some.span c.in-Some.ensures)

pub returns-in-Some-span_at-clause-place : goal.returns-in-Some-span_at-clause-place
returns-in-Some-span_at-clause-place c = stands c.args.tokens.now _ c.in-Some-span_at.span c.in-Some-span_at.ensures
