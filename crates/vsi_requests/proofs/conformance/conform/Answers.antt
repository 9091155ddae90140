use Rattle.std.proofs.Common.{◌≡◌, ◌++◌, inl, inr, map, sym, subst}
use Rattle.vsi_conform.specs.Conformity.{said as said_of}
use Rattle.vsi_conform.specs.Reaching.{released}
use Rattle.vsi_conform.specs.Rows.{row}
use Rattle.vsi_subject.specs.Filed.{Follows}
use Rattle.vsi_subject.specs.Holding.{IsReadAt}
use Rattle.vsi_subject.specs.Performed.{IsConformity, JudgesBytes, judged_files}
use Rattle.vsi_subject.specs.Reached.{AreReleasedIn, written_as}
use Rattle.vsi_subject.specs.Supplied.{begins_image}
use Rattle.vsi_subject.specs.Refusals.{FailsBy}
use Rattle.vsi_subject.specs.Reasons.{RefusesBytes, RefusesConform}
use Rattle.vsi_subject.specs.Undriven.{IsUnusable, RefusesAsked}
use Rattle.vsi_subject.proofs.Conforming.{policy_at, policy_bytes_at}
use Rattle.vsi_subject.proofs.Reasons.{FailsBy-weaker, handed, late_fails, fails_by}
use Rattle.vsi_subject.proofs.Unrun.{unusable_fails}
use Rattle.vsi_requests.proofs.conformance.conform.Goals as goal

pub returns-clause-told : goal.returns-clause-told
returns-clause-told g c =
    let holds = g.F.Files.holds c.args.subject.now.files.now in
    let request = c.args.asked in
    let known = c.in_ok-read.read in
    let source = c.in_ok-bytes.bytes.items in
    let slice = c.as_slice-bytes.result.now in
    let text = c.extend_from_slice.new.self.items in
    let fits = c.in_ok-fits.fits in
    let rows = map row c.in_ok-fits.rows.items in
    let found = map released c.in_ok-reaches.reaches.items in
    let said = said_of (record {
      fits = fits;
      rows = c.in_ok-fits.rows;
      reaches = c.in_ok-reaches.reaches;
      tried = c.in_ok-tried.tried;
    }) in
    let is_good = c.conforms-is_good.result in
    record {
      asked = known.found;
      lattice = known.lattice;
      source = source;
      files = record {
        interface = record {
          bytes = known.bytes.items;
          read = c.in_ok-read.ensures.read;
          is = c.in_ok-read.ensures.is;
          inside = c.in_ok-read.ensures.inside;
        };
        lattice = policy_at holds request.interface.now known.found.policy known.lattice known.policy.items
            c.in_ok-read.ensures.policy c.in_ok-read.ensures.declared;
        read = c.in_ok-bytes.ensures.read;
      };
      within = c.in_ok-read.ensures.within;
      said = said;
      judges = subst (λ b. JudgesBytes (begins_image b) known.lattice b known.found.interface fits rows)
          c.as_slice-bytes.ensures.value
          (subst (λ i. JudgesBytes i known.lattice slice known.found.interface fits rows)
          c.begins_image-is_image.ensures c.in_ok-fits.ensures.told);
      released = subst (λ b. AreReleasedIn (begins_image b) known.lattice b known.found found)
          c.as_slice-bytes.ensures.value
          (subst (λ i. AreReleasedIn i known.lattice slice known.found found) c.begins_image-is_image.ensures
          c.in_ok-reaches.ensures.reaches);
      tried = c.in_ok-tried.ensures.tried;
      verdict = c.conforms-is_good.ensures.verdict;
      followed = record {
        evidence = c.in_ok-lines.lines.items;
        follows = subst
            (λ p. Follows request.has_evidence is_good
            (IsConformity known.found known.lattice source
            (judged_files request known.found known.bytes.items p source)) c.in_ok-lines.lines.items)
            (sym (policy_bytes_at holds request.interface.now known.found.policy known.lattice known.policy.items
            c.in_ok-read.ensures.policy c.in_ok-read.ensures.declared))
            (subst
            (λ b. Follows request.has_evidence is_good
            (IsConformity known.found known.lattice b
            (judged_files request known.found known.bytes.items known.policy.items b)) c.in_ok-lines.lines.items)
            c.as_slice-bytes.ensures.value c.in_ok-lines.ensures);
        is = subst (λ b. text ≡ written_as request.form request.source.now said ++ b) c.deref.ensures.value
            (subst (λ w. text ≡ w ++ c.deref.result.now) c.in_ok-text.ensures c.in_ok-extend_from_slice.ensures.items);
      };
    }

pub returns-in_err-tried-clause-failed : goal.returns-in_err-tried-clause-failed
returns-in_err-tried-clause-failed g c =
    let why = RefusesConform (g.F.Files.holds c.args.subject.now.files.now) c.args.asked in
    handed (FailsBy why IsUnusable) c.in_err-tried.field-0.0 c.from_residual-in_err-tried.result
    c.from_residual-in_err-tried.ensures.1
    (unusable_fails why IsUnusable (λ failure is. is) c.in_err-tried.field-0.0 c.in_err-tried.ensures.failed)

pub returns-in_err-fits-clause-failed : goal.returns-in_err-fits-clause-failed
returns-in_err-fits-clause-failed g c =
    let holds = g.F.Files.holds c.args.subject.now.files.now in
    let why = RefusesConform holds c.args.asked in
    handed (FailsBy why IsUnusable) c.in_err-fits.field-0.0 c.from_residual-in_err-fits.result
    c.from_residual-in_err-fits.ensures.1
    (fails_by (RefusesBytes c.as_slice-bytes.result.now) why IsUnusable
    (λ reason is. inr (record {
      bytes = c.as_slice-bytes.result.now;
      read = (subst (IsReadAt (g.F.Files.holds c.args.subject.now.files.now) c.args.asked.source.now)
          (sym c.as_slice-bytes.ensures.value) c.in_ok-bytes.ensures.read);
      is = is;
    }))
    c.in_err-fits.field-0.0 c.in_err-fits.ensures.failed)

pub returns-in_err-read-clause-failed : goal.returns-in_err-read-clause-failed
returns-in_err-read-clause-failed g c =
    let holds = g.F.Files.holds c.args.subject.now.files.now in
    let why = RefusesConform holds c.args.asked in
    handed (FailsBy why IsUnusable) c.in_err-read.field-0.0 c.from_residual.result c.from_residual.ensures.1
    (FailsBy-weaker (RefusesAsked holds c.args.asked.interface.now) why IsUnusable IsUnusable (λ reason is. inl is)
    (λ failure is. is) c.in_err-read.field-0.0 c.in_err-read.ensures.failed)

pub returns-in_err-bytes-clause-failed : goal.returns-in_err-bytes-clause-failed
returns-in_err-bytes-clause-failed g c =
    let why = RefusesConform (g.F.Files.holds c.args.subject.now.files.now) c.args.asked in
    handed (FailsBy why IsUnusable) c.in_err-bytes.field-0.0 c.from_residual-in_err-bytes.result
    c.from_residual-in_err-bytes.ensures.1
    (late_fails why IsUnusable c.in_err-bytes.field-0.0 c.in_err-bytes.ensures.failed)
