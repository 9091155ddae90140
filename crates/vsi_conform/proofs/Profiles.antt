-- The answers of a check.
use Rattle.std.proofs.Common.{◌≡◌, ℕ, List, refl, ◌∙◌}
use Rattle.std.specs.Prelude.{◌≢◌}
use Rattle.vsi_lattice.specs.Known.{Known}
use Rattle.vsi_lattice.specs.Order.{Lattice}
use Rattle.vsi_lattice.specs.LatticeView.{class_named, order}
use Rattle.vsi_lattice.specs.declared.lattice.Lattice as named
use Rattle.vsi_types.specs.declared.rules.Profile.{Profile}
use Rattle.vsi_types.specs.declared.rules.Profile.TheVariants as profile
use Rattle.vsi_scope.specs.Language.{Command}
use Rattle.vsi_scope.specs.Resolving.{IsResolution}
use Rattle.vsi_syntax.specs.Tree.{Whole}
use Rattle.vsi_compiler.specs.declared.source.CompileError.{CompileError}
use Rattle.vsi_compiler.specs.declared.source.CompileError.TheVariants as compiler
use Rattle.vsi_compiler.specs.Refusal.{RefusesProgram}
use Rattle.vsi_compiler.specs.Source.{Reads}
use Rattle.vsi_compiler.proofs.Held.{program_refused}
use Rattle.vsi_steady.specs.declared.source.UnsteadyError.{UnsteadyError}
use Rattle.vsi_steady.specs.declared.source.UnsteadyError.TheVariants as unsteady
use Rattle.vsi_answers.proofs.Begins.{begins}
use Rattle.vsi_answers.proofs.Told.{steadily_told}
use Rattle.vsi_conform.specs.declared.interface.Judgement.{Judgement}
use Rattle.vsi_conform.specs.declared.interface.Judgement.TheVariants as judgement
use Rattle.vsi_conform.specs.Checking.{TellsRefused, WritesRefusal}
use Rattle.vsi_conform.specs.Conforms.{IsRefused, IsRefusedAs}

-- The error is lack of memory if the text has a program.
abbrev pub OnlyMemory : Known → List ℕ → CompileError → Type 0
OnlyMemory known text e =
    (tree : Whole) (commands : List Command) → Reads text tree → IsResolution known tree commands → e ≡ compiler.Memory

-- A refusal by the compiler isn't lack of memory in the steady judgement.
compile_apart : (e : CompileError) → unsteady.Compile e ≢ unsteady.Memory
compile_apart e q = absurd cc

-- A text that has no program is refused under a profile.
unread_by : (known : Known) (L : Lattice) (P : Profile) (text : List ℕ) (e : CompileError) → e ≢ compiler.Memory →
    RefusesProgram known text e → OnlyMemory known text e → IsRefused known L P text (unsteady.Compile e)
unread_by known L P text e other h only =
    record {
      other = other;
      told = program_refused known L P text e h;
      unaccepted = λ a. other (only a.tree a.commands a.reads a.resolution);
    }

-- A text that has no program is refused by each judgement.
pub unread_refused : (l : named.Lattice) (j : Judgement) (text : List ℕ) (e : CompileError) → e ≢ compiler.Memory →
    RefusesProgram (class_named l) text e → OnlyMemory (class_named l) text e →
    IsRefusedAs (class_named l) (order l) j text (unsteady.Compile e)
unread_refused l judgement.Base text e other h only =
    unread_by (class_named l) (order l) profile.Base text e other h only
unread_refused l judgement.Strict text e other h only =
    unread_by (class_named l) (order l) profile.Strict text e other h only
unread_refused l judgement.Steady text e other h only =
    record {
      other = compile_apart e;
      told = steadily_told (class_named l) (order l) text e other h;
      unaccepted = λ a. other (only a.flows.tree a.flows.commands a.flows.reads a.flows.resolution);
    }

-- The line of a refusal has the fixed beginning.
pub tells_refused : (l : named.Lattice) (j : Judgement) (text : List ℕ) (e : UnsteadyError) (out : List ℕ) →
    IsRefusedAs (class_named l) (order l) j text e → WritesRefusal l j text e out → TellsRefused l j text out
tells_refused l j text e out refused w =
    let b = begins w.diagnostic w.json.steps w.lines in
    record { error = e; refused = refused; writes = w; rest = b.0; line = w.json.line ∙ b.1 }
