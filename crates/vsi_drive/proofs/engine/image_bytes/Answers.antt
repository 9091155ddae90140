use Rattle.std.proofs.lemmas.Result.{err_from_is_err_and}
use Rattle.vsi_lattice.specs.LatticeView.{class_named, order}
use Rattle.vsi_compiler.proofs.Held.{program_refused}
use Rattle.vsi_drive.proofs.Refusals.{text_refused}
use Rattle.vsi_drive.proofs.engine.image_bytes.Goals as goal

pub returns-in_err-source-clause-refused : goal.returns-in_err-source-clause-refused
returns-in_err-source-clause-refused c =
    let l = c.args.lattice.now in
    let e = c.in_err-source.field-0.0 in
    let p = err_from_is_err_and c.from_residual.result c.from_residual.ensures.1 in
    rw (p.1, p.2) (text_refused (class_named l) (order l) c.args.profile c.args.text.now e
    (program_refused (class_named l) (order l) c.args.profile c.args.text.now e c.in_err-source.ensures.refused)
    (λ a. c.in_err-source.ensures.exact a.tree a.commands a.reads a.resolution))

pub returns-clause-built : goal.returns-clause-built
returns-clause-built c =
    let s = c.in_ok-source.ensures in
    rw (← s.lattice, ← s.text) c.image_bytes_of.ensures.built

pub returns-clause-refused : goal.returns-clause-refused
returns-clause-refused c =
    let s = c.in_ok-source.ensures in
    rw (← s.lattice, ← s.text) c.image_bytes_of.ensures.refused
