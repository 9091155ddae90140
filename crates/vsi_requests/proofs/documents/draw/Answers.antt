use Rattle.std.proofs.Common.{Some, sym, subst}
use Rattle.vsi_subject.specs.Holding.{IsReadAt}
use Rattle.vsi_subject.specs.Refusals.{NoOther, RefusesLattice, RefusesProgramAt}
use Rattle.vsi_subject.specs.Reasons.{WhyDraw}
use Rattle.vsi_subject.proofs.Reasons.{failed_by, fails_by}
use Rattle.vsi_subject.proofs.RefusalLemmas.{draw_lattice, draw_source, refuses_program}
use Rattle.vsi_requests.proofs.documents.draw.Goals as goal

pub returns-in_default-clause-told : goal.returns-in_default-clause-told
returns-in_default-clause-told g c =
    record {
      lattice = c.in_ok-classes.classes;
      declared = c.in_ok-classes.ensures.read;
      graph = rw c.in_default.is c.in_ok-lattice_dot.ensures.graph;
    }

pub returns-in-Ok-clause-told : goal.returns-in-Ok-clause-told
returns-in-Ok-clause-told g c =
    record {
      lattice = c.in_ok-classes.classes;
      declared = c.in_ok-classes.ensures.read;
      graph = rw c.in-Some.is (
        c.as_slice-text.result.now,
        subst (IsReadAt (g.F.Files.holds c.args.subject.now.files.now) c.in-Some.source.now)
            (sym c.as_slice-text.ensures.value) c.in_ok-text.ensures.read,
        c.in-Ok.ensures.graph,
      );
    }

pub returns-in_err-classes-clause-failed : goal.returns-in_err-classes-clause-failed
returns-in_err-classes-clause-failed g c =
    let holds = g.F.Files.holds c.args.subject.now.files.now in
    failed_by (RefusesLattice holds c.args.drawing.lattice.now)
    (WhyDraw holds c.args.drawing.lattice.now c.args.drawing.source) NoOther
    (draw_lattice holds c.args.drawing.lattice.now c.args.drawing.source) c.from_residual.result
    c.in_err-classes.field-0.0 c.from_residual.ensures.1 c.in_err-classes.ensures.failed

pub returns-clause-failed : goal.returns-clause-failed
returns-clause-failed g c = rw c.in-Some.is
    (let holds = g.F.Files.holds c.args.subject.now.files.now in
    let l = c.in_ok-classes.classes in
    fails_by (RefusesProgramAt holds l c.in-Some.source.now)
    (WhyDraw holds c.args.drawing.lattice.now (Some c.in-Some.source)) NoOther
    (λ reason why. draw_source holds c.args.drawing.lattice.now (Some c.in-Some.source) l reason
    c.in_ok-classes.ensures.read why)
    c.refused.result
    (refuses_program holds l c.in-Some.source.now c.in_ok-text.text.items c.as_slice-text.result.now
    c.as_slice-text.result.now c.in-Err.error c.refused.result c.in_ok-text.ensures.read c.as_slice-text.ensures.value
    c.as_slice-text.ensures.value c.in-Err.ensures.refused
    (λ program. c.in-Err.ensures.exact program.tree program.commands program.reads program.resolution)
    c.refused.ensures))
