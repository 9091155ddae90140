-- The answer of a compiled text's run.
use Rattle.std.proofs.Common.{◌≡◌, ◌≢◌, ℕ, ℤ, List, length, ap, Result, Ok, Err, inl, inr}
use Rattle.std.proofs.lemmas.Bool.{cases_eq}
use Rattle.vsi_lattice.specs.Order.{Lattice}
use Rattle.vsi_lattice.specs.Known.{Known}
use Rattle.vsi_types.specs.declared.rules.Profile.{Profile}
use Rattle.vsi_types.specs.declared.rules.Profile.TheVariants.{Base, Strict}
use Rattle.vsi_image.specs.declared.instr.Image.{Image}
use Rattle.vsi_machine.specs.declared.interpreter.StartError.{StartError}
use Rattle.vsi_machine.specs.declared.interpreter.StartError.TheVariants as start
use Rattle.vsi_compiler.specs.Acceptance.{IsAccepted}
use Rattle.vsi_compiler.specs.Headline.{HasGlobals, KeepsMeaning, IsCoded, IsImageOf, IsNoLarger, IsCompiled}
use Rattle.vsi_compiler.specs.Observation.{IsNoninterfering, IsStoreOf}
use Rattle.vsi_compiler.specs.Refusal.{Refuses, IsRefused}
use Rattle.vsi_compiler.specs.Run.{compiling, starting, RefusesRun}
use Rattle.vsi_compiler.specs.declared.source.CompileError.{CompileError}
use Rattle.vsi_compiler.specs.declared.source.CompileError.TheVariants as compiler

-- The profiles differ.
base_is_not_strict : ◌≡◌ {A = Profile} Base Strict → ⊥
base_is_not_strict h = cc

-- The compiler's promises about an image, in one record.
pub compiled_of : (known : Known) (L : Lattice) (text : List ℕ) (im : Image) → IsAccepted known L Base text →
    HasGlobals text im → KeepsMeaning known text im → IsNoninterfering known L im → IsCoded im →
    IsImageOf known text im → IsNoLarger known text im → IsCompiled known L Base text im
compiled_of known L text im accepted globals meaning noninterference coded image small =
    record {
      accepted = accepted;
      globals = globals;
      meaning = meaning;
      noninterference = noninterference;
      endings = λ h. absurd (base_is_not_strict h);
      coded = coded;
      image = image;
      size = small;
    }

-- A wrong store isn't a lack of memory.
wrong_is_not_memory : (n : ℕ) → ◌≡◌ {A = StartError} (start.WrongStore n) start.Memory → ⊥
wrong_is_not_memory n h = cc

-- The number of words that an error reports.
abbrev words_told : StartError → ℕ
words_told start.Memory = 0
words_told (start.WrongStore n) = n

-- The error of an answer, or a default error.
abbrev error_of : {X : Type 0} → StartError → Result X StartError → StartError
error_of d (Ok x) = d
error_of d (Err e) = e

-- A machine that couldn't be started is a refusal of the run.
pub start_refused : {X : Type 0} (known : Known) (L : Lattice) (text : List ℕ) (store : List ℤ) (im : Image) →
    IsCompiled known L Base text im → (e : StartError) →
    (length store ≢ length im.globals.items → ◌≡◌ {A = Result X StartError} (Err e)
    (Err (start.WrongStore (length store)))) →
    (length store ≡ length im.globals.items → e ≡ start.Memory) → RefusesRun known L text store (starting e)
start_refused known L text store im compiled start.Memory wrong memory = tt
start_refused {X} known L text store im compiled (start.WrongStore n) wrong memory =
    let differs : length store ≢ length im.globals.items = λ h. wrong_is_not_memory n (memory h) in
    record {
      image = im;
      compiled = compiled;
      wrong = differs;
      told = told (wrong differs);
    }
  where
    told : ◌≡◌ {A = Result X StartError} (Err (start.WrongStore n)) (Err (start.WrongStore (length store))) →
        n ≡ length store
    told h = ap words_told (ap (error_of start.Memory) h)

-- An answer isn't an error.
ok_is_no_error : {X : Type 0} (x : X) (e : StartError) → ◌≡◌ {A = Result X StartError} (Ok x) (Err e) → ⊥
ok_is_no_error x e h = cc

-- A machine is started only from a store of the image.
pub started_fits : {X : Type 0} (store : List ℤ) (im : Image) (x : X) →
    (length store ≢ length im.globals.items → ◌≡◌ {A = Result X StartError} (Ok x)
    (Err (start.WrongStore (length store)))) → IsStoreOf im store
started_fits store im x wrong = elim (cases_eq (length store) (length im.globals.items)) [
  | inl same ↦ same
  | inr differs ↦ absurd (ok_is_no_error x (start.WrongStore (length store)) (wrong differs))
]

-- A text refused for another reason than lack of memory isn't accepted.
pub is_refused : (known : Known) (L : Lattice) (P : Profile) (text : List ℕ) (e : CompileError) →
    e ≢ compiler.Memory → Refuses known L P text e → (IsAccepted known L P text → e ≡ compiler.Memory) →
    IsRefused known L P text e
is_refused known L P text e other told exact =
    record { other = other; told = told; unaccepted = λ a. other (exact a) }

-- A refusal of the compiler is one of the run.
pub compile_refused : (known : Known) (L : Lattice) (text : List ℕ) (store : List ℤ) (e : CompileError) →
    Refuses known L Base text e → (IsAccepted known L Base text → e ≡ compiler.Memory) →
    RefusesRun known L text store (compiling e)
compile_refused known L text store compiler.Memory told exact = tt
compile_refused known L text store (compiler.Lex e) told exact =
    is_refused known L Base text (compiler.Lex e) (λ q. cc) told exact
compile_refused known L text store (compiler.Parse e) told exact =
    is_refused known L Base text (compiler.Parse e) (λ q. cc) told exact
compile_refused known L text store (compiler.Scope e) told exact =
    is_refused known L Base text (compiler.Scope e) (λ q. cc) told exact
compile_refused known L text store (compiler.Flow walk) told exact =
    is_refused known L Base text (compiler.Flow walk) (λ q. cc) told exact
