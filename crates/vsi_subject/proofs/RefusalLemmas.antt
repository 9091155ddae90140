-- The reason of a failed step is the reason of the whole, and the claims about a refusal.
use Rattle.std.proofs.Common.{◌≡◌, ℕ, Bool, true, false, List, Result, Ok, Err, subst, inl, inr}
use Rattle.std.specs.Borrow.{Bor}
use Rattle.std.specs.Prelude.{IfErr, IsErrAnd, IsSomeAnd, MatchResult, Option, Some, None}
use Rattle.std.specs.Global.{Vec}
use Rattle.std.proofs.lemmas.Result.{IfErr-weaker}
use Rattle.vsi_lattice.specs.LatticeView.{class_named}
use Rattle.vsi_lattice.specs.declared.lattice.Lattice.{Lattice}
use Rattle.vsi_types.specs.declared.rules.Profile.{Profile}
use Rattle.vsi_compiler.specs.Readable.{HasProgram}
use Rattle.vsi_compiler.specs.Refusal.{RefusesProgram}
use Rattle.vsi_compiler.specs.declared.source.CompileError.{CompileError}
use Rattle.vsi_compiler.specs.declared.source.CompileError.TheVariants as compiler
use Rattle.vsi_answers.specs.Answers.{Because}
use Rattle.vsi_answers.specs.Judged.{Declares, IsProgramFault, TellsSource}
use Rattle.vsi_answers.specs.Requests.{Answer, FormatsTo, ReadsLattice}
use Rattle.vsi_answers.specs.declared.unanswered.Unanswered.{Unanswered}
use Rattle.vsi_arguments.specs.declared.request.Compilation.{Compilation}
use Rattle.vsi_subject.specs.declared.failure.Failure.{Failure}
use Rattle.vsi_subject.specs.Holding.{Holding, IsLatticeAt, IsReadAt}
use Rattle.vsi_subject.specs.Input.{two_classes}
use Rattle.vsi_subject.specs.Files.{AreFiles}
use Rattle.vsi_subject.specs.Performed.{profile_of}
use Rattle.vsi_subject.specs.Refusals.{AsksCanonical, LacksClass, LacksClassAt, NoOther, RefusesFile, RefusesFiles, RefusesLattice, RefusesProgramAt, FailsBy}
use Rattle.vsi_subject.specs.Reasons.{RefusesJudged, WhyDraw}
use Rattle.vsi_subject.specs.Failures.{failure_of}
use Rattle.vsi_answers.proofs.Told.{source_told}
use Rattle.vsi_subject.proofs.Reasons.{answered_fails, handed, failed_by, fails_by}

-- ---- which file is refused.

-- A lattice file that is refused is why a compilation has no answer.
pub refuses_lattice : {T : Type 0} (holds : Holding) (c : Compilation) (Ask : Lattice → List ℕ → Answer → Type 0)
    (result : Result T Failure) (failure : Failure) → IsErrAnd result (λ s. s ≡ failure) →
    FailsBy (RefusesLattice holds c.lattice.now) NoOther failure →
    IfErr result (FailsBy (RefusesFiles holds c Ask) NoOther)
refuses_lattice holds c Ask result failure is told =
    failed_by (RefusesLattice holds c.lattice.now) (RefusesFiles holds c Ask) NoOther (λ reason why. inl why)
    result failure is told

-- The same, where only the lattice can be refused with `--json`.
pub judged_lattice : {T : Type 0} (holds : Holding) (c : Compilation) (Ask : Lattice → List ℕ → Answer → Type 0)
    (is_json : Bool) (result : Result T Failure) (failure : Failure) → IsErrAnd result (λ s. s ≡ failure) →
    FailsBy (RefusesLattice holds c.lattice.now) NoOther failure →
    IfErr result (FailsBy (RefusesJudged is_json holds c Ask) NoOther)
judged_lattice holds c Ask true result failure is told =
    handed (FailsBy (RefusesLattice holds c.lattice.now) NoOther) failure result is told
judged_lattice holds c Ask false result failure is told = refuses_lattice holds c Ask result failure is told

-- Why a lattice and a source text have no answer is why the files that hold them have none.
pub refuses_files : (holds : Holding) (c : Compilation) (Ask : Lattice → List ℕ → Answer → Type 0) (l : Lattice)
    (text source : List ℕ) (answer : Answer) (result : Result (Vec ℕ) Failure) → AreFiles holds c l text →
    source ≡ text →
    MatchResult answer (λ t. result ≡ Ok t) (λ reason. result ≡ Err (failure_of reason)) → Ask l source answer →
    IfErr result (FailsBy (RefusesFiles holds c Ask) NoOther)
refuses_files holds c Ask l text source answer result files same is told =
    IfErr-weaker result (FailsBy (λ reason. Ask l text (Err reason)) NoOther)
    (FailsBy (RefusesFiles holds c Ask) NoOther)
    (fails_by (λ reason. Ask l text (Err reason)) (RefusesFiles holds c Ask) NoOther
    (λ reason why. inr (record { lattice = l; source = text; files = files; is = why })))
    (answered_fails (Ask l text) answer result is (subst (λ s. Ask l s answer) same told))

-- The same, under the profile of a compilation.
pub refuses_by : (holds : Holding) (c : Compilation) (Ask : Lattice → Profile → List ℕ → Answer → Type 0)
    (l : Lattice) (text source : List ℕ) (P : Profile) (answer : Answer) (result : Result (Vec ℕ) Failure) →
    AreFiles holds c l text → source ≡ text → P ≡ profile_of c.is_strict →
    MatchResult answer (λ t. result ≡ Ok t) (λ reason. result ≡ Err (failure_of reason)) → Ask l P source answer →
    IfErr result (FailsBy (RefusesFiles holds c (λ m s a. Ask m (profile_of c.is_strict) s a)) NoOther)
refuses_by holds c Ask l text source P answer result files same by is told =
    refuses_files holds c (λ m s a. Ask m (profile_of c.is_strict) s a) l text source answer result files same is
    (subst (λ Q. Ask l Q source answer) by told)

-- Bytes of a file that are refused as a lattice file.
pub refuses_declared : {T : Type 0} (holds : Holding) (path bytes text : List ℕ) (result : Result T Failure) →
    IsReadAt holds path bytes → text ≡ bytes →
    IfErr result (FailsBy (λ reason. ReadsLattice text (Err reason)) NoOther) →
    IfErr result (FailsBy (RefusesLattice holds path) NoOther)
refuses_declared holds path bytes text result read same told =
    IfErr-weaker result (FailsBy (λ reason. ReadsLattice text (Err reason)) NoOther)
    (FailsBy (RefusesLattice holds path) NoOther)
    (fails_by (λ reason. ReadsLattice text (Err reason)) (RefusesLattice holds path) NoOther
    (λ reason why. record {
      bytes = bytes;
      read = read;
      is = subst (λ b. ReadsLattice b (Err reason)) same why;
    }))
    told

-- Bytes of a file that have no tree.
pub refuses_tree : (holds : Holding) (path bytes text : List ℕ) (l : Lattice) (answer : Answer)
    (result : Result (Vec ℕ) Failure) → IsReadAt holds path bytes → text ≡ bytes → Declares two_classes l →
    MatchResult answer (λ t. result ≡ Ok t) (λ reason. result ≡ Err (failure_of reason)) → FormatsTo l text answer →
    IfErr result (FailsBy (RefusesFile holds path AsksCanonical) NoOther)
refuses_tree holds path bytes text l answer result read same declared is told =
    IfErr-weaker result (FailsBy (λ reason. FormatsTo l bytes (Err reason)) NoOther)
    (FailsBy (RefusesFile holds path AsksCanonical) NoOther)
    (fails_by (λ reason. FormatsTo l bytes (Err reason)) (RefusesFile holds path AsksCanonical) NoOther
    (λ reason why. record { bytes = bytes; read = read; is = (l, declared, why) }))
    (answered_fails (FormatsTo l bytes) answer result is (subst (λ s. FormatsTo l s answer) same told))

-- ---- texts without a program.

-- A refusal that reports an error which no program has says that there is no program.
pub tells_program : (l : Lattice) (text : List ℕ) (error : CompileError) → RefusesProgram (class_named l) text error →
    (HasProgram (class_named l) text → error ≡ compiler.Memory) → (reason : Unanswered) →
    Because (TellsSource (λ e. e ≡ error) l text) ⊥ reason →
    Because (TellsSource (IsProgramFault l text) l text) ⊥ reason
tells_program l text error refused exact =
    source_told (IsProgramFault l text) l text error (λ other. (refused, λ program. other (exact program)))

-- The failure for a file's source text without a program claims that there is none.
pub refuses_program : (holds : Holding) (l : Lattice) (path text judged told : List ℕ) (error : CompileError)
    (failure : Failure) → IsReadAt holds path text → judged ≡ text → told ≡ text →
    RefusesProgram (class_named l) judged error → (HasProgram (class_named l) judged → error ≡ compiler.Memory) →
    FailsBy (Because (TellsSource (λ e. e ≡ error) l told) ⊥) NoOther failure →
    FailsBy (RefusesProgramAt holds l path) NoOther failure
refuses_program holds l path text judged told error failure read of_judged of_told refused exact is =
    fails_by (Because (TellsSource (λ e. e ≡ error) l text) ⊥) (RefusesProgramAt holds l path) NoOther
    (λ reason why. record {
      text = text;
      read = read;
      is = tells_program l text error (subst (λ t. RefusesProgram (class_named l) t error) of_judged refused)
          (subst (λ t. HasProgram (class_named l) t → error ≡ compiler.Memory) of_judged exact) reason why;
    })
    failure (subst (λ t. FailsBy (Because (TellsSource (λ e. e ≡ error) l t) ⊥) NoOther failure) of_told is)

-- ---- graphs.

-- A lattice file that is refused is why no graph is drawn.
pub draw_lattice : (holds : Holding) (lattice : List ℕ) (source : Option (Bor (List ℕ))) (reason : Unanswered) →
    RefusesLattice holds lattice reason → WhyDraw holds lattice source reason
draw_lattice holds lattice None reason is = is
draw_lattice holds lattice (Some path) reason is = inl is

-- A source text without a program is a reason too.
pub draw_source : (holds : Holding) (lattice : List ℕ) (source : Option (Bor (List ℕ))) (l : Lattice)
    (reason : Unanswered) → IsLatticeAt holds lattice l →
    IsSomeAnd source (λ path. RefusesProgramAt holds l path.now reason) → WhyDraw holds lattice source reason
draw_source holds lattice None l reason declared is = absurd is
draw_source holds lattice (Some path) l reason declared is =
    inr (record { classes = l; declared = declared; refused = is })

-- ---- classes.

-- A class that the lattice lacks is missing in that of the file.
pub lacks_named : (holds : Holding) (path : List ℕ) (l : Lattice) (name : Option (Bor (List ℕ))) (failure : Failure) →
    IsLatticeAt holds path l → IsSomeAnd name (λ n. LacksClass l n.now failure) →
    IsSomeAnd name (λ n. LacksClassAt holds path n.now failure)
lacks_named holds path l None failure at lacks = lacks
lacks_named holds path l (Some n) failure at lacks = (l, at, lacks)
