-- Why a search has no document.
use Rattle.std.proofs.Common.{◌≡◌, ℕ, List, Result, inl, inr}
use Rattle.std.specs.Prelude.{IfErr, IsErrAnd, IsSomeAnd}
use Rattle.vsi_lattice.specs.LatticeView.{class_named}
use Rattle.vsi_lattice.specs.declared.lattice.Lattice.{Lattice}
use Rattle.vsi_compiler.specs.Readable.{HasProgram}
use Rattle.vsi_compiler.specs.Refusal.{RefusesProgram}
use Rattle.vsi_compiler.specs.declared.source.CompileError.{CompileError}
use Rattle.vsi_compiler.specs.declared.source.CompileError.TheVariants as compiler
use Rattle.vsi_answers.specs.Answers.{Because}
use Rattle.vsi_answers.specs.Judged.{TellsSource}
use Rattle.vsi_arguments.specs.declared.request.Search.{Search}
use Rattle.vsi_subject.specs.declared.failure.Failure.{Failure}
use Rattle.vsi_subject.specs.Holding.{Holding, IsLatticeAt, IsReadAt}
use Rattle.vsi_subject.specs.Refusals.{LacksClass, NoOther, RefusesLattice, RefusesProgramAt, FailsBy}
use Rattle.vsi_subject.specs.Reasons.{LacksSought, RefusesSearch}
use Rattle.vsi_subject.proofs.Reasons.{FailsBy-weaker, handed, failed_by, fails_by}
use Rattle.vsi_subject.proofs.RefusalLemmas.{lacks_named, refuses_program}

-- A lattice file that is refused is why nothing is searched.
pub sought_lattice : {T : Type 0} (holds : Holding) (s : Search) (result : Result T Failure) (failure : Failure) →
    IsErrAnd result (λ e. e ≡ failure) → FailsBy (RefusesLattice holds s.lattice.now) NoOther failure →
    IfErr result (FailsBy (RefusesSearch holds s) (LacksSought holds s))
sought_lattice holds s result failure is told =
    failed_by (RefusesLattice holds s.lattice.now) (RefusesSearch holds s) (LacksSought holds s) (λ reason why. inl why)
    result failure is told

-- A class that the lattice lacks is passed on.
pub sought_lacking : {T : Type 0} (holds : Holding) (s : Search) (l : Lattice) (result : Result T Failure)
    (failure : Failure) → IsErrAnd result (λ e. e ≡ failure) → IsLatticeAt holds s.lattice.now l →
    FailsBy (λ reason. ⊥) (λ e. IsSomeAnd s.class (λ name. LacksClass l name.now e)) failure →
    IfErr result (FailsBy (RefusesSearch holds s) (LacksSought holds s))
sought_lacking holds s l result failure is at told =
    handed (FailsBy (RefusesSearch holds s) (LacksSought holds s)) failure result is
    (FailsBy-weaker (λ reason. ⊥) (RefusesSearch holds s) (λ e. IsSomeAnd s.class (λ name. LacksClass l name.now e))
    (LacksSought holds s) (λ reason none. absurd none) (λ e lacks. lacks_named holds s.lattice.now l s.class e at lacks)
    failure told)

-- So is a source text without a program.
pub sought_program : (holds : Holding) (s : Search) (other : Failure → Type 0) (l : Lattice) (text judged told : List ℕ) (error : CompileError)
    (failure : Failure) → IsLatticeAt holds s.lattice.now l → IsReadAt holds s.source.now text → judged ≡ text →
    told ≡ text → RefusesProgram (class_named l) judged error →
    (HasProgram (class_named l) judged → error ≡ compiler.Memory) →
    FailsBy (Because (TellsSource (λ e. e ≡ error) l told) ⊥) NoOther failure →
    FailsBy (RefusesSearch holds s) other failure
sought_program holds s other l text judged told error failure declared read of_judged of_told refused exact is =
    fails_by (RefusesProgramAt holds l s.source.now) (RefusesSearch holds s) other
    (λ reason why. inr (record { classes = l; declared = declared; refused = why }))
    failure
    (refuses_program holds l s.source.now text judged told error failure read of_judged of_told refused exact is)
