use Rattle.std.proofs.Common.{ap, inl, inr, rules, subst, append_assoc}
use Rattle.vsi_compiler.specs.Headline.{IsImageOf}
use Rattle.vsi_compiler.specs.Readable.{HasProgram}
use Rattle.vsi_image.specs.Fields.{globals}
use Rattle.vsi_lattice.specs.LatticeView.{class_named, order}
use Rattle.vsi_leak.specs.Leaks.{IsFinding, IsWanted, TellsAtMost, most_pairs}
use Rattle.vsi_leak.specs.declared.check.Finding.{Finding}
use Rattle.vsi_leak.specs.declared.check.Finding.TheVariants as finding
use Rattle.vsi_leak.specs.declared.whole.Wanted.{Wanted}
use Rattle.vsi_leak.specs.Texts.{IsLeakText}
use Rattle.vsi_subject.specs.Reasons.{LacksSought, OtherLeak, RefusesSearch}
use Rattle.vsi_subject.proofs.Reasons.{FailsBy-weaker, handed}
use Rattle.vsi_requests.proofs.Sought.{sought_program}
use Rattle.vsi_subject.specs.Refusals.{FailsBy}
use Rattle.vsi_requests.proofs.documents.leak.Goals as goal

pub returns-clause-told : goal.returns-clause-told
returns-clause-told g c =
    let read = c.in_ok-lattice.ensures.told in
    record {
      lattice = c.in_ok-lattice.lattice;
      declared = read.declared;
      source = c.in_ok-lattice.text.items;
      read = read.read;
      program = subst (HasProgram (class_named c.in_ok-lattice.lattice)) c.as_slice-text.ensures.value c.in-Ok.ensures.found;
      viewer = read.viewer;
      looks = read.looks;
      pairs = c.in-Nothing.pairs;
      tried = subst (λ w. TellsAtMost (most_pairs (order c.in_ok-lattice.lattice) w) (finding.Nothing c.in-Nothing.pairs)) read.is
          (subst (λ (f : Finding). TellsAtMost (most_pairs (order c.in_ok-lattice.lattice) c.in_ok-lattice.wanted) f) c.in-Nothing.is
          c.in-Ok.ensures.tried);
      line = rw c.into_bytes.ensures.value (search (rules, append_assoc));
    }

pub returns-in_err-lattice-clause-failed : goal.returns-in_err-lattice-clause-failed
returns-in_err-lattice-clause-failed g c =
    let holds = g.F.Files.holds c.args.subject.now.files.now in
    let why = RefusesSearch holds c.args.search in
    handed (FailsBy why (OtherLeak holds c.args.search)) c.in_err-lattice.field-0.0 c.from_residual.result
    c.from_residual.ensures.1
    (FailsBy-weaker why why (LacksSought holds c.args.search) (OtherLeak holds c.args.search) (λ reason is. is)
    (λ failure lacks. inl lacks) c.in_err-lattice.field-0.0 c.in_err-lattice.ensures.failed)

pub returns-in-Err-clause-failed : goal.returns-in-Err-clause-failed
returns-in-Err-clause-failed g c =
    let holds = g.F.Files.holds c.args.subject.now.files.now in
    let read = c.in_ok-lattice.ensures.told in
    sought_program holds c.args.search (OtherLeak holds c.args.search) c.in_ok-lattice.lattice
    c.in_ok-lattice.text.items c.as_slice-text.result.now c.as_slice-text.result.now c.in-Err.error
    c.refused.result read.declared read.read c.as_slice-text.ensures.value c.as_slice-text.ensures.value
    c.in-Err.ensures.refused c.in-Err.ensures.exact c.refused.ensures

pub returns-in-Leak-clause-failed : goal.returns-in-Leak-clause-failed
returns-in-Leak-clause-failed g c =
    let read = c.in_ok-lattice.ensures.told in
    inr (record {
      lattice = c.in_ok-lattice.lattice;
      declared = read.declared;
      source = c.in_ok-lattice.text.items;
      read = read.read;
      image = c.in-Ok.found.0;
      program = subst (HasProgram (class_named c.in_ok-lattice.lattice)) c.as_slice-text.ensures.value c.in-Ok.ensures.found;
      of_source = subst (λ t. IsImageOf (class_named c.in_ok-lattice.lattice) t c.in-Ok.found.0) c.as_slice-text.ensures.value
          c.in-Ok.ensures.image;
      leak = c.in-Leak.leak;
      leaks = subst
          (λ f. IsFinding (class_named c.in_ok-lattice.lattice) (order c.in_ok-lattice.lattice) c.in-Ok.found.0 c.args.search.budget f)
          c.in-Leak.is
          (subst
          (λ b. IsFinding (class_named c.in_ok-lattice.lattice) (order c.in_ok-lattice.lattice) c.in-Ok.found.0 b c.in-Ok.found.1)
          (ap (λ (w : Wanted). w.effort.budget) read.is) c.in-Ok.ensures.leak);
      viewer = read.viewer;
      looks = read.looks;
      wanted = subst (λ w. IsWanted w (finding.Leak c.in-Leak.leak)) read.is
          (subst (λ (f : Finding). IsWanted c.in_ok-lattice.wanted f) c.in-Leak.is c.in-Ok.ensures.asked);
      told = subst
          (λ im. IsLeakText c.in_ok-lattice.lattice (globals im.globals.items) c.in-Leak.leak
          c.in_ok-shown-in-Leak.shown.items)
          c.image.ensures.same c.in_ok-shown-in-Leak.ensures;
    })
