use Rattle.vsi_conform.proofs.ImageFitting.{conforms_so, fitting_so}
use Rattle.vsi_conform.proofs.images.conform_image.Goals as goal

pub returns-clause-conforms : goal.returns-clause-conforms
returns-clause-conforms c = λ h.
    conforms_so c.args.lattice.now c.args.verified.now c.args.interface.now c.in_ok-refusal.refusal
    c.in_ok-points.points.items c.in_ok-unbounded.unbounded c.in_ok-refusal.ensures.judged
    c.in_ok-points.ensures.points c.in_ok-unbounded.ensures h

pub returns-clause-exact : goal.returns-clause-exact
returns-clause-exact c = λ fits accepted bounded.
    fitting_so c.args.verified.now c.args.interface.now c.in_ok-refusal.refusal c.in_ok-points.points.items
    c.in_ok-unbounded.unbounded c.in_ok-points.ensures.points fits accepted bounded

pub returns-clause-told : goal.returns-clause-told
returns-clause-told c =
    record {
      judged = c.in_ok-refusal.ensures.judged;
      points = c.in_ok-points.ensures.points;
      bound = c.in_ok-unbounded.ensures;
    }
