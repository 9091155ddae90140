use Rattle.std.proofs.Common.{◌∙◌, subst}
use Rattle.vsi_lattice.specs.LatticeView.{class_named}
use Rattle.vsi_compiler.specs.Stands.{Stands}
use Rattle.vsi_client.proofs.Keeping.{kept_program}
use Rattle.vsi_client.proofs.renaming.keeps_program.Goals as goal

pub returns-in-Ok : goal.returns-in-Ok
returns-in-Ok c =
    let s = c.in-Ok.ensures in
    let old = c.args.old.now in
    let new = c.in-Ok.new in
    let again =
    subst (λ l. Stands (class_named l) c.args.text.now new.resolved) (s.lattice ∙ c.lattice.ensures)
    (subst (λ t. Stands (class_named new.lattice) t new.resolved) s.text s.kept.stands) in
    record {
      kept = kept_program c.is_kept.result (class_named old.lattice) c.args.variable c.args.name.now old.text
          c.args.text.now old.resolved new.resolved c.resolved-program.ensures.kept.stands again c.is_kept.ensures;
    }
