use Rattle.std.proofs.Common.{subst}
use Rattle.vsi_lattice.specs.LatticeView.{class_named, order}
use Rattle.vsi_compiler.specs.Acceptance.{IsAccepted}
use Rattle.vsi_compiler.proofs.compiler.compile_source.Goals as goal

pub returns-clause-noninterference : goal.returns-clause-noninterference
returns-clause-noninterference c =
    c.in_ok-verified.ensures.noninterference c.args.profile c.in_ok-_classes.ensures.accepted

pub returns-clause-endings : goal.returns-clause-endings
returns-clause-endings c = λ strict.
    let source = c.args.source.now in
    c.in_ok-verified.ensures.endings
    (subst (λ P. IsAccepted (class_named source.lattice) (order source.lattice) P source.text) strict
    c.in_ok-_classes.ensures.accepted)
