use Rattle.std.proofs.Common.{length, subst}
use Rattle.vsi_lattice.specs.LatticeView.{class_named, order}
use Rattle.vsi_scope.specs.View.{sequence}
use Rattle.vsi_types.specs.Security.{program, IsTypable}
use Rattle.vsi_code.specs.Behaves.{Behaves}
use Rattle.vsi_compiler.proofs.Compiled.{known_below, lawful, globals_of, declared_of}
use Rattle.vsi_compiler.proofs.Programs.{typing_ready}
use Rattle.vsi_compiler.proofs.Security.{noninterfering, ends_alike}
use Rattle.vsi_audit.specs.Standing.{StandsFor}
use Rattle.vsi_audit.proofs.Standing.{names_stand, known_classes}
use Rattle.vsi_audit.proofs.audit.audit_in.Goals as goal

pub infer_in-requires-clause-globals : goal.infer_in-requires-clause-globals
infer_in-requires-clause-globals c =
    globals_of c.args.lattice.now c.in_ok-program.program c.in_ok-program.ensures.classes

pub infer_in-requires-clause-declared : goal.infer_in-requires-clause-declared
infer_in-requires-clause-declared c =
    declared_of c.args.lattice.now c.in_ok-program.program c.in_ok-program.ensures.classes

pub returns-in-Ok-clause-classes : goal.returns-in-Ok-clause-classes
returns-in-Ok-clause-classes c =
    let l = c.args.lattice.now in
    let r = c.in_ok-program.program in
    known_classes (class_named l) r c.args.image.now c.in_ok-program.ensures.named
    (subst (StandsFor r) c.image-image.ensures.same c.in_ok-program.ensures.stands)

pub returns-in-Ok-clause-noninterference : goal.returns-in-Ok-clause-noninterference
returns-in-Ok-clause-noninterference c =
    let l = c.args.lattice.now in
    let r = c.in_ok-program.program in
    let p = c.in_ok-program.ensures in
    let same = c.image-image.ensures.same in
    noninterfering (class_named l) (order l) (lawful l) c.args.profile r c.in-Ok.field-0.items c.args.image.now
    (typing_ready (order l) r p.kept (p.classes _ (known_below l))) c.in-Ok.ensures.ok.0 p.named
    (names_stand r c.args.image.now (subst (StandsFor r) same p.stands))
    (subst (Behaves (length r.globals) (sequence r.body)) same p.behaves)

pub returns-in-Ok-clause-endings : goal.returns-in-Ok-clause-endings
returns-in-Ok-clause-endings c = λ strict.
    let l = c.args.lattice.now in
    let r = c.in_ok-program.program in
    let p = c.in_ok-program.ensures in
    let same = c.image-image.ensures.same in
    ends_alike (class_named l) (order l) (lawful l) r c.in-Ok.field-0.items c.args.image.now
    (typing_ready (order l) r p.kept (p.classes _ (known_below l)))
    (subst (λ P. IsTypable (order l) P (program r) c.in-Ok.field-0.items) strict c.in-Ok.ensures.ok.0) p.named
    (names_stand r c.args.image.now (subst (StandsFor r) same p.stands))
    (subst (Behaves (length r.globals) (sequence r.body)) same p.behaves)
