use Rattle.vsi_lattice.specs.LatticeView.{class_named, order}
use Rattle.vsi_answers.proofs.Told.{steadily_told, unread_steady}
use Rattle.vsi_answers.proofs.texts.refused_unread.Goals as goal

pub returns-in-Ok : goal.returns-in-Ok
returns-in-Ok c = λ other h.
    let l = c.args.lattice.now in
    let source = c.args.source.now in (
      λ m. absurd cc,
      steadily_told (class_named l) (order l) source c.args.error other h,
      unread_steady l source c.args.error c.in-Ok.text.items other h c.in-Ok.ensures.text,
    )
