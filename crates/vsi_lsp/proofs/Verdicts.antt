-- The verdict on a text, and the objects that are shown for it.
use Rattle.std.proofs.Common.{ℕ, List}
use Rattle.std.specs.Prelude.{Result, Ok, Err, IfOk}
use Rattle.serde_json.specs.declared.value.Value.{Value}
use Rattle.vsi_lattice.specs.LatticeView.{class_named}
use Rattle.vsi_lattice.specs.declared.lattice.Lattice.{Lattice}
use Rattle.vsi_types.specs.declared.rules.Profile.{Profile}
use Rattle.vsi_compiler.specs.Readable.{HasProgram}
use Rattle.vsi_lsp.specs.Verdict.{BeginsWithErrors, ShowsVerdict}

-- Objects that begin with errors show the verdict on a text that has no program.
pub refused_shown : {V E : Type 0} (l : Lattice) (P : Profile) (text : List ℕ) (N : Type 0) (f : V → List Value)
    (o : Result V E) → IfOk o (λ v. BeginsWithErrors (f v)) → IfOk o (λ v. N) →
    (N → HasProgram (class_named l) text → ⊥) → IfOk o (λ v. ShowsVerdict l P text (f v))
refused_shown l P text N f (Ok v) begins judged never =
    record {
      errors = begins.errors;
      others = begins.others;
      listed = begins.listed;
      exact = (
        (λ e. absurd (begins.some e)),
        (λ a. absurd (never judged
            (record { tree = a.tree; commands = a.commands; reads = a.reads; resolution = a.resolution }))),
      );
      severe = begins.severe;
      warned = λ p. absurd (never judged p);
    }
refused_shown l P text N f (Err e) begins judged never = tt
