-- A refusal for one error is a refusal for each kind to which the error belongs.
use Rattle.std.proofs.Common.{◌≡◌, ◌≢◌, ◌⊎◌, ℕ, List, Ok, Err, inl, inr, refl, sym, subst, ◌∙◌}
use Rattle.vsi_lattice.specs.declared.lattice.Lattice.{Lattice}
use Rattle.vsi_compiler.specs.declared.source.CompileError.{CompileError}
use Rattle.vsi_compiler.specs.declared.source.CompileError.TheVariants as compiler
use Rattle.vsi_answers.specs.declared.diagnostic.Fault.{Fault}
use Rattle.vsi_drive.specs.declared.boundary.StartFault.{StartFault}
use Rattle.vsi_answers.specs.declared.unanswered.Unanswered.{Unanswered}
use Rattle.vsi_answers.specs.declared.unanswered.Unanswered.TheVariants.{Refused, OutOfBudget, Memory}
use Rattle.vsi_answers.specs.declared.unanswered.Cause.TheVariants.{Source, File, Start, Steady, Raised}
use Rattle.vsi_answers.specs.Answers.{Because, Telling}
use Rattle.vsi_lattice.specs.Known.{Known}
use Rattle.vsi_lattice.specs.LatticeView.{class_named, order}
use Rattle.vsi_lattice.specs.Order as lattices
use Rattle.vsi_syntax.specs.Tree.{Whole}
use Rattle.vsi_scope.specs.Language.{Command}
use Rattle.vsi_scope.specs.Resolving.{IsResolution}
use Rattle.vsi_types.specs.declared.rules.Profile.{Profile}
use Rattle.vsi_types.specs.declared.rules.Profile.TheVariants.{Base}
use Rattle.vsi_image.specs.declared.instr.Image.{Image}
use Rattle.vsi_compiler.specs.Headline.{IsCompiled}
use Rattle.vsi_compiler.specs.Refusal.{RefusesProgram}
use Rattle.vsi_compiler.specs.Source.{Reads}
use Rattle.vsi_compiler.proofs.Held.{program_refused}
use Rattle.vsi_steady.specs.Source.{RefusesSteady}
use Rattle.vsi_steady.specs.declared.source.UnsteadyError.TheVariants as unsteady
use Rattle.vsi_answers.specs.Texts.{IsRefusalText}
use Rattle.vsi_answers.specs.Judged.{IsCompileFault, IsSteadyText, TellsFault, TellsRaised, TellsSource}
use Rattle.vsi_answers.specs.Requests.{Answer, RunsSourceTo, RunsTo, zeros}

-- The refusal of a source text for an error is a refusal for each kind to which the error belongs.
pub source_told : (Kind : CompileError → Type 0) (l : Lattice) (source : List ℕ) (error : CompileError) →
    (error ≢ compiler.Memory → Kind error) → (u : Unanswered) →
    Because (TellsSource (λ e. e ≡ error) l source) ⊥ u → Because (TellsSource Kind l source) ⊥ u
source_told Kind l source error kind (Refused text (Source e)) told =
    (told.0, subst Kind (sym told.1) (kind (λ m. told.0 (told.1 ∙ m))), told.2)
source_told Kind l source error kind (Refused text (File f)) told = absurd told
source_told Kind l source error kind (Refused text (Start f)) told = absurd told
source_told Kind l source error kind (Refused text (Steady e)) told = absurd told
source_told Kind l source error kind (Refused text (Raised e)) told = absurd told
source_told Kind l source error kind OutOfBudget told = absurd told
source_told Kind l source error kind Memory told = tt

-- A text that has no program is refused under each profile.
pub unread_told : (l : Lattice) (P : Profile) (source : List ℕ) (error : CompileError) →
    RefusesProgram (class_named l) source error →
    ((tree : Whole) (commands : List Command) → Reads source tree → IsResolution (class_named l) tree commands →
    error ≡ compiler.Memory) → (u : Unanswered) →
    Because (TellsSource (λ e. e ≡ error) l source) ⊥ u → Because (TellsSource (IsCompileFault l P source) l source) ⊥ u
unread_told l P source error refused exact u told =
    source_told (IsCompileFault l P source) l source error
    (λ other.
    record {
      other = other;
      told = program_refused (class_named l) (order l) P source error refused;
      unaccepted = λ a. other (exact a.tree a.commands a.reads a.resolution);
    }) u told

-- A refusal of the program is one of the steady judgement.
pub steadily_told : (known : Known) (L : lattices.Lattice) (text : List ℕ) (e : CompileError) → e ≢ compiler.Memory →
    RefusesProgram known text e → RefusesSteady known L text (unsteady.Compile e)
steadily_told known L text compiler.Memory other h = absurd (other refl)
steadily_told known L text (compiler.Lex e) other h = h
steadily_told known L text (compiler.Parse e) other h = h
steadily_told known L text (compiler.Scope e) other h = h
steadily_told known L text (compiler.Flow walk) other h = absurd h

-- The refusal of the program is the text of the steady judgement.
pub unread_steady : (l : Lattice) (source : List ℕ) (e : CompileError) (text : List ℕ) → e ≢ compiler.Memory →
    RefusesProgram (class_named l) source e → IsRefusalText l source e text →
    IsSteadyText l source (unsteady.Compile e) text
unread_steady l source compiler.Memory text other h is = absurd (other refl)
unread_steady l source (compiler.Lex e) text other h is = is
unread_steady l source (compiler.Parse e) text other h is = is
unread_steady l source (compiler.Scope e) text other h is = is
unread_steady l source (compiler.Flow walk) text other h is = absurd h

-- The refusal of a file for a fault is a refusal for each kind to which the fault belongs.
pub fault_told : (Kind : Fault → Type 0) (fault : Fault) → Kind fault → (spent : Type 0) → (u : Unanswered) →
    Because (TellsFault (λ f. f ≡ fault)) ⊥ u → Because (TellsFault Kind) spent u
fault_told Kind fault kind spent (Refused text (Source e)) told = absurd told
fault_told Kind fault kind spent (Refused text (File f)) told = (subst Kind (sym told.0) kind, told.1)
fault_told Kind fault kind spent (Refused text (Start f)) told = absurd told
fault_told Kind fault kind spent (Refused text (Steady e)) told = absurd told
fault_told Kind fault kind spent (Refused text (Raised e)) told = absurd told
fault_told Kind fault kind spent OutOfBudget told = absurd told
fault_told Kind fault kind spent Memory told = tt

-- The answer of the run of a compiled image is the answer of the run of its source.
pub run_told : (l : Lattice) (source : List ℕ) (im : Image) (budget : ℕ) →
    IsCompiled (class_named l) (order l) Base source im → (answer : Answer) → RunsTo im (zeros im) budget answer →
    RunsSourceTo l source budget answer
run_told l source im budget compiled (Ok text) ran = (im, compiled, ran)
run_told l source im budget compiled (Err (Refused text cause)) ran = absurd ran
run_told l source im budget compiled (Err OutOfBudget) ran = (im, compiled, ran)
run_told l source im budget compiled (Err Memory) ran = tt

-- A refusal of the first of two kinds is of either kind.
pub told_first : (A B : Telling) (u : Unanswered) → Because A ⊥ u → Because (λ text cause. A text cause ⊎ B text cause) ⊥ u
told_first A B (Refused text cause) told = inl told
told_first A B OutOfBudget told = absurd told
told_first A B Memory told = tt

-- A refusal of the second of two kinds is of either kind.
pub told_second : (A B : Telling) (u : Unanswered) → Because B ⊥ u → Because (λ text cause. A text cause ⊎ B text cause) ⊥ u
told_second A B (Refused text cause) told = inr told
told_second A B OutOfBudget told = absurd told
told_second A B Memory told = tt

-- The refusal of a text with raised classes for one error is a refusal for an error of its kind.
pub raised_told : (Kind : List ℕ → CompileError → Type 0) (l : Lattice) (raised : List ℕ) (error : CompileError) →
    Kind raised error → (u : Unanswered) → Because (TellsRaised (λ t e. (t ≡ raised) × (e ≡ error)) l) ⊥ u →
    Because (TellsRaised Kind l) ⊥ u
raised_told Kind l raised error kind (Refused text (Source e)) told = absurd told
raised_told Kind l raised error kind (Refused text (File f)) told = absurd told
raised_told Kind l raised error kind (Refused text (Start f)) told = absurd told
raised_told Kind l raised error kind (Refused text (Steady e)) told = absurd told
raised_told Kind l raised error kind (Refused text (Raised e)) told =
    (told.0, subst (λ t. Kind t e) (sym told.1.0) (subst (Kind raised) (sym told.1.1) kind), told.2)
raised_told Kind l raised error kind OutOfBudget told = absurd told
raised_told Kind l raised error kind Memory told = tt
