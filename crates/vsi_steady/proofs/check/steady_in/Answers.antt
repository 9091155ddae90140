use Rattle.std.proofs.Common.{sym, subst}
use Rattle.std.proofs.lemmas.Result.{err_from_is_err_and}
use Rattle.vsi_lattice.specs.LatticeView.{class_named, order}
use Rattle.vsi_lattice.specs.Laws.{lawful_is_lattice}
use Rattle.vsi_steady.specs.Steady.{IsSteady}
use Rattle.vsi_steady.proofs.First.{only_memory}
use Rattle.vsi_steady.proofs.Seen.{both_alike}
use Rattle.vsi_steady.proofs.check.steady_in.Goals as goal

pub returns-in-None-clause-alike : goal.returns-in-None-clause-alike
returns-in-None-clause-alike c =
    let l = c.args.lattice.now in
    (both_alike (class_named l) (order l) _ _ c.image-image.ensures.same (lawful_is_lattice (order l) l.order.lawful)
    c.image-image.ensures.valid (record {
      slots = c.settle.new.classes;
      have = c.settle.ensures.classes;
      code = c.settle.ensures.through c.in-None.is;
    })).0

pub returns-in-None-clause-views : goal.returns-in-None-clause-views
returns-in-None-clause-views c =
    let l = c.args.lattice.now in
    (both_alike (class_named l) (order l) _ _ c.image-image.ensures.same (lawful_is_lattice (order l) l.order.lawful)
    c.image-image.ensures.valid (record {
      slots = c.settle.new.classes;
      have = c.settle.ensures.classes;
      code = c.settle.ensures.through c.in-None.is;
    })).1

pub returns-in_err-classes-clause-exact : goal.returns-in_err-classes-clause-exact
returns-in_err-classes-clause-exact c = λ steady.
    let l = c.args.lattice.now in
    let p = err_from_is_err_and c.from_residual.result c.from_residual.ensures.1 in
    rw (p.1, p.2)
    (only_memory (class_named l) (order l) c.image-image.result.now c.in_err-classes.field-0.0
    c.in_err-classes.ensures.refused
    (subst (λ im. IsSteady (class_named l) (order l) im) (sym c.image-image.ensures.same) steady))
