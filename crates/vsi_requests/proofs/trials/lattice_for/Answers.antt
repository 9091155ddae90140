use Rattle.std.proofs.Common.{◌≡◌, Some, None, subst}
use Rattle.std.specs.Prelude.{IfErr, IfOk}
use Rattle.std.proofs.lemmas.Result.{IfErr-weaker, IfOk-weaker}
use Rattle.vsi_answers.specs.Judged.{Declares}
use Rattle.vsi_subject.specs.Holding.{IsLatticeAt}
use Rattle.vsi_subject.specs.Refusals.{NoOther, FailsBy}
use Rattle.vsi_subject.specs.Reasons.{RefusesNamed, RefusesUnder}
use Rattle.vsi_subject.specs.Tried.{IsNamedLattice, policy_path}
use Rattle.vsi_subject.specs.declared.failure.Failure.TheVariants as fails
use Rattle.vsi_documents.specs.Named.{named_policy}
use Rattle.vsi_subject.proofs.Reasons.{late_failed}
use Rattle.vsi_subject.proofs.RefusalLemmas.{refuses_declared}
use Rattle.vsi_subject.proofs.Unrun.{memory_fails}
use Rattle.vsi_requests.proofs.trials.lattice_for.Goals as goal

pub returns-in-Some-default-clause-declared : goal.returns-in-Some-default-clause-declared
returns-in-Some-default-clause-declared g c = rw c.in-Some-default.is-0 c.lattice_in.ensures.read

pub returns-in-Some-default-clause-failed : goal.returns-in-Some-default-clause-failed
returns-in-Some-default-clause-failed g c = rw c.in-Some-default.is-0 c.lattice_in.ensures.failed

pub returns-in_ok-bytes-in-None-Some-clause-declared : goal.returns-in_ok-bytes-in-None-Some-clause-declared
returns-in_ok-bytes-in-None-Some-clause-declared g c =
    let holds = g.F.Files.holds c.args.subject.now.files.now in
    let source = c.args.source.now in
    let named : Some c.in-None-Some.path.now ≡ named_policy c.args.text.now =
    rw c.in-None-Some.is-1 at c.named_policy.ensures in
    let read : IfOk c.declared_lattice.result (IsLatticeAt holds (policy_path source c.in-None-Some.path.now)) =
    IfOk-weaker c.declared_lattice.result (Declares c.as_slice.result.now)
    (IsLatticeAt holds (policy_path source c.in-None-Some.path.now))
    (λ l declares. record {
      policy = c.in_ok-bytes-in-None-Some.bytes.items;
      read = c.in_ok-bytes-in-None-Some.ensures.read;
      declared = subst (λ text. Declares text l) c.as_slice.ensures.value declares;
    })
    c.declared_lattice.ensures.declared in
    rw c.in-None-Some.is-0 (subst (λ path. IfOk c.declared_lattice.result (IsNamedLattice holds source path)) named read)

pub returns-in_ok-bytes-in-None-Some-clause-failed : goal.returns-in_ok-bytes-in-None-Some-clause-failed
returns-in_ok-bytes-in-None-Some-clause-failed g c =
    let holds = g.F.Files.holds c.args.subject.now.files.now in
    let source = c.args.source.now in
    let named : Some c.in-None-Some.path.now ≡ named_policy c.args.text.now =
    rw c.in-None-Some.is-1 at c.named_policy.ensures in
    rw c.in-None-Some.is-0
    (subst (λ path. IfErr c.declared_lattice.result (FailsBy (RefusesNamed holds source path) NoOther)) named
    (refuses_declared holds (policy_path source c.in-None-Some.path.now) c.in_ok-bytes-in-None-Some.bytes.items
    c.as_slice.result.now c.declared_lattice.result c.in_ok-bytes-in-None-Some.ensures.read c.as_slice.ensures.value
    c.declared_lattice.ensures.failed))

pub returns-in_err-bytes-in-None-Some-clause-failed : goal.returns-in_err-bytes-in-None-Some-clause-failed
returns-in_err-bytes-in-None-Some-clause-failed g c =
    late_failed
    (RefusesUnder (g.F.Files.holds c.args.subject.now.files.now) c.args.lattice c.args.source.now c.args.text.now)
    NoOther c.from_residual.result c.in_err-bytes-in-None-Some.field-0.0 c.from_residual.ensures.1
    c.in_err-bytes-in-None-Some.ensures.failed

pub returns-in-None-None-clause-declared : goal.returns-in-None-None-clause-declared
returns-in-None-None-clause-declared g c =
    let named : None ≡ named_policy c.args.text.now = rw c.in-None-None.is-1 at c.named_policy.ensures in
    rw c.in-None-None.is-0
    (subst
    (λ path. IfOk c.two_classes.result
    (IsNamedLattice (g.F.Files.holds c.args.subject.now.files.now) c.args.source.now path))
    named c.two_classes.ensures.declared)

pub returns-in-None-None-clause-failed : goal.returns-in-None-None-clause-failed
returns-in-None-None-clause-failed g c =
    let why = RefusesUnder (g.F.Files.holds c.args.subject.now.files.now) c.args.lattice c.args.source.now
    c.args.text.now in
    IfErr-weaker c.two_classes.result (λ failure. failure ≡ fails.Memory) (FailsBy why NoOther) (memory_fails why NoOther)
    c.two_classes.ensures.memory
