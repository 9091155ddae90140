-- Texts that no raises serve.
use Rattle.std.proofs.Common.{◌≢◌, ℕ, List}
use Rattle.vsi_lattice.specs.LatticeView.{class_named}
use Rattle.vsi_lattice.specs.declared.lattice.Lattice.{Lattice}
use Rattle.vsi_types.specs.declared.rules.Profile.{Profile}
use Rattle.vsi_infer.specs.declared.walk.Walk.{Walk}
use Rattle.vsi_compiler.specs.declared.source.CompileError.{CompileError}
use Rattle.vsi_compiler.specs.declared.source.CompileError.TheVariants.{Flow, Memory}
use Rattle.vsi_compiler.specs.Refusal.{RefusesProgram}
use Rattle.vsi_steady.specs.declared.source.UnsteadyError.TheVariants as unsteady
use Rattle.vsi_flows.proofs.AnswerLemmas.{OnlyMemory, read_refused}
use Rattle.vsi_conform.specs.Checking.{judgement_by, WritesRefusal}
use Rattle.vsi_conform.proofs.Profiles.{tells_refused, unread_refused}
use Rattle.vsi_documents.specs.Answers.{TellsUnserved}

-- A refused flow isn't lack of memory.
pub walk_apart : (walk : Walk) → Flow walk ≢ Memory
walk_apart walk q = absurd cc

-- A text that has no program is refused, and no raises serve it.
pub unread_tells : (l : Lattice) (P : Profile) (text : List ℕ) (e : CompileError) (out : List ℕ) → e ≢ Memory →
    RefusesProgram (class_named l) text e → OnlyMemory l text e →
    WritesRefusal l (judgement_by P) text (unsteady.Compile e) out → TellsUnserved l P text out
unread_tells l P text e out other refused only written =
    record {
      none = record { error = e; other = other; refused = read_refused l P text e refused only };
      refused = tells_refused l (judgement_by P) text (unsteady.Compile e) out
          (unread_refused l (judgement_by P) text e other refused only) written;
    }
