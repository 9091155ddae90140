use Rattle.std.proofs.Common.{rules}
use Rattle.std.specs.Prelude.{MatchResult}
use Rattle.vsi_lattice.specs.LatticeView.{class_named, order}
use Rattle.vsi_conform.specs.Conforms.{IsAcceptedAs, IsRefusedAs}
use Rattle.vsi_requests.proofs.Surveyed.{image_accepted}
use Rattle.vsi_requests.proofs.faults.Judged.source_verdict.Goals as goal

pub returns-in_ok-made-in-Ok-2 : goal.returns-in_ok-made-in-Ok-2
returns-in_ok-made-in-Ok-2 c = (
  c.in-Ok._verified,
  image_accepted c.args.source.now.lattice c.args.self.now.judgement c.args.source.now.text c.in_ok-_verified.field-0
      c.in-Ok._verified c.in-Ok.is c.in_ok-_verified.ensures,
)
