use Rattle.std.proofs.Common.{inl}
use Rattle.vsi_steps.specs.Labels.{labelling}
use Rattle.vsi_steps.proofs.Marks.{labels_lattice, joined}
use Rattle.vsi_steps.proofs.labels.Rule.judge.Goals as goal

pub returns-then-may_replace : goal.returns-then-may_replace
returns-then-may_replace g c =
    let L = labelling c.args.self (g.C.Classes.lattice c.args.lattice.now) in
    inl (
      c.may_replace.ensures.0 c.if-may_replace.true,
      joined L (labels_lattice c.args.self _ (g.met.C.Classes.laws c.args.lattice.now)) c.args.read c.args.counter
          c.args.class c.join-seen.result c.join.result c.requires.read c.requires.counter c.join-seen.ensures
          c.join.ensures,
    )
