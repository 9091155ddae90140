use Rattle.std.proofs.Common.{ap, sym, subst, ◌∙◌}
use Rattle.std.proofs.lemmas.Result.{err_from_is_err_and}
use Rattle.vsi_image.specs.declared.instr.Image.{Image}
use Rattle.vsi_image.specs.Fields.{IsAllowed, bytes_of, fields}
use Rattle.vsi_lattice.specs.LatticeView.{class_named, order}
use Rattle.vsi_compiler.proofs.Held.{compiled_at}
use Rattle.vsi_drive.proofs.Builds.{never_past}
use Rattle.vsi_drive.proofs.Refusals.{text_refused}
use Rattle.vsi_drive.proofs.engine.image_bytes_of.Goals as goal

pub returns-in_err-_classes-clause-refused : goal.returns-in_err-_classes-clause-refused
returns-in_err-_classes-clause-refused c =
    let s = c.args.source.now in
    let p = err_from_is_err_and c.from_residual.result c.from_residual.ensures.1 in
    rw (p.1, p.2) (text_refused (class_named s.lattice) (order s.lattice) c.args.profile s.text
    c.in_err-_classes.field-0.0 c.in_err-_classes.ensures.refused c.in_err-_classes.ensures.exact)

pub returns-in-Ok-clause-built : goal.returns-in-Ok-clause-built
returns-in-Ok-clause-built c =
    let s = c.args.source.now in
    let v = c.in_ok-verified.ensures in
    record {
      image = c.in_ok-verified.verified;
      compiled = compiled_at (class_named s.lattice) (order s.lattice) c.args.profile s.text c.in_ok-verified.verified
          c.in_ok-_classes.ensures.accepted v.globals v.meaning v.noninterference v.endings v.coded v.image v.size;
      spelled = c.in-Ok.ensures.bytes ∙ ap (λ i. bytes_of 2 (fields i)) c.image.ensures.same;
    }

pub unreachable-requires : goal.unreachable-requires
unreachable-requires c =
    never_past (fields c.image.result.now) c.in-Err-Unencodable.field-0-0
    (subst (λ (i : Image). IsAllowed (fields i)) (sym c.image.ensures.same) c.image.ensures.valid.allowed)
    (rw c.in-Err-Unencodable.field-0-is at c.in-Err-Unencodable.ensures.first)
