use Rattle.std.proofs.Common.{subst}
use Rattle.vsi_subject.specs.Refusals.{FailsBy}
use Rattle.vsi_subject.specs.Reasons.{LacksSought, RefusesSearch}
use Rattle.vsi_documents.specs.Leaks.{TellsSearch}
use Rattle.vsi_subject.proofs.Reasons.{handed}
use Rattle.vsi_requests.proofs.Sought.{sought_program}
use Rattle.vsi_requests.proofs.documents.leak_line.Goals as goal

pub returns-in-Ok-clause-told : goal.returns-in-Ok-clause-told
returns-in-Ok-clause-told g c =
    let read = c.in_ok-lattice.ensures.told in
    record {
      lattice = c.in_ok-lattice.lattice;
      declared = read.declared;
      source = c.in_ok-lattice.text.items;
      read = read.read;
      viewer = read.viewer;
      looks = read.looks;
      is = subst (λ w. TellsSearch c.in_ok-lattice.lattice c.in_ok-lattice.text.items w c.in-Ok.told.is_good c.in-Ok.told.text.items)
          read.is
          (subst (λ t. TellsSearch c.in_ok-lattice.lattice t c.in_ok-lattice.wanted c.in-Ok.told.is_good c.in-Ok.told.text.items)
          c.as_slice-text.ensures.value c.in-Ok.ensures.answer);
    }

pub returns-in_err-lattice-clause-failed : goal.returns-in_err-lattice-clause-failed
returns-in_err-lattice-clause-failed g c =
    let holds = g.F.Files.holds c.args.subject.now.files.now in
    handed (FailsBy (RefusesSearch holds c.args.search) (LacksSought holds c.args.search)) c.in_err-lattice.field-0.0
    c.from_residual.result c.from_residual.ensures.1 c.in_err-lattice.ensures.failed

pub returns-clause-failed : goal.returns-clause-failed
returns-clause-failed g c =
    let holds = g.F.Files.holds c.args.subject.now.files.now in
    let read = c.in_ok-lattice.ensures.told in
    sought_program holds c.args.search (LacksSought holds c.args.search) c.in_ok-lattice.lattice
    c.in_ok-lattice.text.items c.as_slice-text.result.now c.as_slice-text.result.now c.in-Err.error
    c.refused.result read.declared read.read c.as_slice-text.ensures.value c.as_slice-text.ensures.value
    c.in-Err.ensures.refused c.in-Err.ensures.exact c.refused.ensures
