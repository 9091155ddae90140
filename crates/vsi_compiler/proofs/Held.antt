-- The invariants of a source, for its parts under any names.
use Rattle.std.proofs.Common.{All, ◌≡◌, ℕ, List, map, refl, sym, subst}
use Rattle.vsi_lattice.specs.Order.{IsClass}
use Rattle.vsi_lattice.specs.Known.{Known}
use Rattle.vsi_lattice.specs.LatticeView.{class_named, order}
use Rattle.vsi_lattice.specs.declared.lattice.Lattice.{Lattice}
use Rattle.vsi_scope.specs.Program.{Resolved}
use Rattle.vsi_scope.specs.View.{command}
use Rattle.vsi_lattice.specs.Order as orders
use Rattle.vsi_types.specs.Security.{Program, program, IsWellFormed}
use Rattle.vsi_types.specs.declared.rules.Profile.{Profile}
use Rattle.vsi_types.specs.declared.rules.Profile.TheVariants.{Strict}
use Rattle.vsi_image.specs.declared.instr.Image.{Image}
use Rattle.vsi_infer.specs.Inference.{AreClasses}
use Rattle.vsi_infer.specs.Inference as inference
use Rattle.vsi_infer.specs.declared.inference.InferError.{InferError}
use Rattle.vsi_infer.specs.declared.inference.InferError.TheVariants as infer
use Rattle.vsi_compiler.specs.Acceptance.{IsAccepted}
use Rattle.vsi_compiler.specs.declared.source.CompileError.{CompileError}
use Rattle.vsi_compiler.specs.declared.source.CompileError.TheVariants as compiler
use Rattle.vsi_compiler.specs.Errors.{flowing}
use Rattle.vsi_compiler.specs.Headline.{HasGlobals, KeepsMeaning, IsCoded, IsImageOf, IsNoLarger, IsCompiled}
use Rattle.vsi_compiler.specs.Observation.{IsNoninterfering, EndsAlike}
use Rattle.vsi_compiler.specs.Refusal.{Refuses, RefusesFlow, RefusesProgram}
use Rattle.vsi_compiler.specs.Readable.{HasProgram}
use Rattle.vsi_compiler.specs.SourceView.{Source, source_of, IsSource}
use Rattle.vsi_compiler.proofs.Programs.{typing_ready, global_classes, declared_classes}

-- A source with equal parts has the same invariants.
pub of_parts : (s : Source) → IsSource s → (l : Lattice) (text : List ℕ) (r : Resolved) → l ≡ s.lattice → text ≡ s.text →
    r ≡ s.resolved → IsSource (source_of l text r)
of_parts s is l text r here there body =
    subst (λ x. IsSource (source_of x text r)) (sym here)
    (subst (λ x. IsSource (source_of s.lattice x r)) (sym there)
    (subst (λ x. IsSource (source_of s.lattice s.text x)) (sym body) is))

-- The classes of its globals are classes of the lattice.
pub globals_at : (s : Source) → IsSource s → (l : Lattice) (r : Resolved) → l ≡ s.lattice → r ≡ s.resolved →
    All (IsClass (order l)) (program r).globals
globals_at s is l r here body = global_classes (order l) r (of_parts s is l s.text r here refl body).classes

-- The declared classes of its letvars are classes of the lattice too.
pub declared_at : (s : Source) → IsSource s → (l : Lattice) (r : Resolved) → l ≡ s.lattice → r ≡ s.resolved →
    AreClasses (order l) (program r).declared
declared_at s is l r here body = declared_classes (order l) r (of_parts s is l s.text r here refl body).classes

-- The requirements of typing hold for a source's program.
pub ready : (s : Source) → IsSource s → IsWellFormed (order s.lattice) (program s.resolved)
ready s is = typing_ready (order s.lattice) s.resolved is.kept is.classes

-- The text of a source has a program.
pub has_program : (s : Source) → IsSource s → HasProgram (class_named s.lattice) s.text
has_program s is =
    record {
      tree = is.stands.tree;
      commands = map command s.resolved.body;
      reads = is.stands.reads;
      resolution = is.stands.resolves.resolution;
    }

-- A refusal of the inference reports a flow or that memory ran out.
pub flow_alone : (L : orders.Lattice) (P : Profile) (p : Program) (e : InferError) → inference.Refuses L P p e →
    RefusesFlow L P p (flowing e)
flow_alone L P p infer.Memory h = tt
flow_alone L P p (infer.Refused walk) h = h

-- The image that `image_of` returns for an accepted text is compiled from it.
pub compiled_at : (known : Known) (L : orders.Lattice) (P : Profile) (text : List ℕ) (im : Image) →
    IsAccepted known L P text → HasGlobals text im → KeepsMeaning known text im →
    ((Q : Profile) → IsAccepted known L Q text → IsNoninterfering known L im) →
    (IsAccepted known L Strict text → EndsAlike known L im) → IsCoded im → IsImageOf known text im →
    IsNoLarger known text im → IsCompiled known L P text im
compiled_at known L P text im accepted globals meaning secure endings coded image small =
    record {
      accepted = accepted;
      globals = globals;
      meaning = meaning;
      noninterference = secure P accepted;
      endings = λ strict. endings (subst (λ Q. IsAccepted known L Q text) strict accepted);
      coded = coded;
      image = image;
      size = small;
    }

-- A refusal of the program is one of the compiler.
pub program_refused : (known : Known) (L : orders.Lattice) (P : Profile) (text : List ℕ) (e : CompileError) →
    RefusesProgram known text e → Refuses known L P text e
program_refused known L P text compiler.Memory h = tt
program_refused known L P text (compiler.Lex e) h = h
program_refused known L P text (compiler.Parse e) h = h
program_refused known L P text (compiler.Scope e) h = h
program_refused known L P text (compiler.Flow walk) h = absurd h
