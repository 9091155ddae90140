use Rattle.std.proofs.Common.{sym, subst}
use Rattle.vsi_lattice.specs.LatticeView.{class_named, order}
use Rattle.vsi_lattice.specs.declared.lattice.Lattice.{Lattice}
use Rattle.vsi_compiler.specs.Acceptance.{IsAccepted}
use Rattle.vsi_compiler.proofs.Held.{has_program}
use Rattle.vsi_compiler.proofs.compiler.unjudged_image.Goals as goal

pub returns-clause-found : goal.returns-clause-found
returns-clause-found c =
    let s = c.in_ok-source.ensures in
    rw (← s.lattice, ← s.text) (has_program c.in_ok-source.source s.kept)

pub returns-clause-globals : goal.returns-clause-globals
returns-clause-globals c = let s = c.in_ok-source.ensures in rw (← s.text) c.in_ok-verified.ensures.globals

pub returns-clause-meaning : goal.returns-clause-meaning
returns-clause-meaning c =
    let s = c.in_ok-source.ensures in
    rw (← s.lattice, ← s.text) c.in_ok-verified.ensures.meaning

pub returns-clause-image : goal.returns-clause-image
returns-clause-image c =
    let s = c.in_ok-source.ensures in
    rw (← s.lattice, ← s.text) c.in_ok-verified.ensures.image

pub returns-clause-accepted : goal.returns-clause-accepted
returns-clause-accepted c = λ P a.
    let s = c.in_ok-source.ensures in
    let source = c.in_ok-source.source in
    let here = subst (λ (x : Lattice). IsAccepted (class_named x) (order x) P source.text) (sym s.lattice)
    (subst (λ t. IsAccepted (class_named c.args.lattice.now) (order c.args.lattice.now) P t) (sym s.text) a) in
    rw (← s.lattice) (c.in_ok-verified.ensures.noninterference P here)
