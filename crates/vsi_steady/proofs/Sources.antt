-- The promises of all layers about a text, combined.
use Rattle.std.proofs.Common.{◌≡◌, ℕ, List, [], map, length, refl, sym, ap, subst, ◌∙◌}
use Rattle.std.specs.Prelude.{slice_get}
use Rattle.std.specs.List.{All}
use Rattle.vsi_lattice.specs.Order.{Lattice, IsLattice, IsClass}
use Rattle.vsi_scope.specs.declared.resolved.Global.{Global}
use Rattle.vsi_scope.specs.declared.resolved.Entry.{Entry}
use Rattle.vsi_lattice.specs.Known.{Known}
use Rattle.vsi_scope.specs.Language.{Command}
use Rattle.vsi_scope.specs.Program.{Resolved, IsResolved}
use Rattle.vsi_scope.specs.Resolving.{HasClassesBelow, IsResolution}
use Rattle.vsi_scope.specs.View.{command, sequence}
use Rattle.vsi_scope.proofs.Complete.{does_all_one}
use Rattle.vsi_types.specs.declared.rules.Profile.TheVariants.{Strict}
use Rattle.vsi_types.specs.Security.{Program, program, name_place, IsTypable, IsWellFormed}
use Rattle.vsi_types.proofs.Walking.{bad_walks_refute}
use Rattle.vsi_infer.specs.declared.inference.InferError.{InferError}
use Rattle.vsi_infer.specs.declared.inference.InferError.TheVariants as infer
use Rattle.vsi_infer.specs.Inference.{IsShortest, AreClasses}
use Rattle.vsi_infer.specs.Inference as inference
use Rattle.vsi_image.specs.declared.instr.Image.{Image}
use Rattle.vsi_image.specs.Fields.{Fields, fields}
use Rattle.vsi_compiler.specs.declared.source.CompileError.{CompileError}
use Rattle.vsi_compiler.specs.declared.source.CompileError.TheVariants as compiler
use Rattle.vsi_compiler.specs.Acceptance.{IsAccepted, program_of}
use Rattle.vsi_compiler.specs.Headline.{HasGlobals, KeepsMeaning, IsCoded, IsImageOf, IsNoLarger, IsCompiled}
use Rattle.vsi_compiler.specs.Observation.{IsNoninterfering, EndsAlike}
use Rattle.vsi_compiler.specs.Refusal.{RefusesProgram}
use Rattle.vsi_compiler.specs.Stands.{Stands}
use Rattle.vsi_compiler.proofs.Compiled.{accepted, one_program}
use Rattle.vsi_compiler.proofs.Programs.{program_is, typing_ready, global_classes, declared_classes}
use Rattle.vsi_steady.specs.declared.check.SteadyError.{SteadyError}
use Rattle.vsi_steady.specs.declared.check.SteadyError.TheVariants as steady
use Rattle.vsi_steady.specs.Refusal.{Refuses}
use Rattle.vsi_steady.specs.Source.{HasSteadyFlows, IsSteadilyAccepted, RefusesSteady, compiling, flowing, judging}
use Rattle.vsi_steady.specs.Steady.{IsSteady, GoesThrough}
use Rattle.vsi_steady.specs.Looped.{looped_program, IsLooped}
use Rattle.vsi_steady.specs.declared.source.UnsteadyError.TheVariants as unsteady
use Rattle.vsi_steady.proofs.Guards.{unlooped_typable, looped_formed}

-- The program made of these parts.
parts : List Global → List Entry → Command → Program
parts gs ls c =
    record {
      globals = map (λ (g : Global). g.class) gs;
      declared = map (λ (e : Entry). e.class) ls;
      names = name_place ls (length gs);
      body = c;
    }

-- The resolved program with loops gives the program with loops.
pub program_looped : (p r : Resolved) → IsLooped p r → program r ≡ looped_program (program p)
unfolding parts
program_looped p r w =
    ap (λ gs. parts gs r.letvars (sequence r.body)) w.globals
    ∙ ap (λ ls. parts p.globals ls (sequence r.body)) w.letvars
    ∙ ap (parts p.globals p.letvars) w.body

-- The classes of its globals are classes of the lattice.
pub looped_globals : (L : Lattice) (p r : Resolved) → IsLooped p r → HasClassesBelow L.count p →
    All (IsClass L) (program r).globals
looped_globals L p r w below =
    subst (λ q. All (IsClass L) q.globals) (sym (program_looped p r w)) (global_classes L p below)

-- The declared classes of its letvars are classes of the lattice.
pub looped_declared : (L : Lattice) (p r : Resolved) → IsLooped p r → HasClassesBelow L.count p →
    AreClasses L (program r).declared
looped_declared L p r w below =
    subst (λ q. AreClasses L q.declared) (sym (program_looped p r w)) (declared_classes L p below)

-- A refusal of a text for anything but a flow is passed on unchanged.
pub text_refused : (known : Known) (L : Lattice) (text : List ℕ) (e : CompileError) → RefusesProgram known text e →
    RefusesSteady known L text (compiling e)
text_refused known L text compiler.Memory h = tt
text_refused known L text (compiler.Lex e) h = h
text_refused known L text (compiler.Parse e) h = h
text_refused known L text (compiler.Scope e) h = h
text_refused known L text (compiler.Flow walk) h = absurd h

-- The promise of the compiler about an image under the strict profile.
pub strictly_compiled : (known : Known) (L : Lattice) (text : List ℕ) (im : Image) → IsAccepted known L Strict text →
    HasGlobals text im → KeepsMeaning known text im → IsNoninterfering known L im →
    (Strict ≡ Strict → EndsAlike known L im) → IsCoded im → IsImageOf known text im → IsNoLarger known text im →
    IsCompiled known L Strict text im
strictly_compiled known L text im accepted globals meaning noninterference endings coded image small =
    record {
      accepted = accepted;
      globals = globals;
      meaning = meaning;
      noninterference = noninterference;
      endings = endings;
      coded = coded;
      image = image;
      size = small;
    }

-- Lack of memory is reported as such.
pub memory_refused : (known : Known) (L : Lattice) (text : List ℕ) (e : CompileError) → e ≡ compiler.Memory →
    RefusesSteady known L text (compiling e)
memory_refused known L text e is = subst (λ x. RefusesSteady known L text (compiling x)) (sym is) tt

-- A refusal of the image of a text whose flows are steady.
pub image_refused : (known : Known) (L : Lattice) (text : List ℕ) (im : Image) → HasSteadyFlows known L text →
    IsCompiled known L Strict text im → (e : SteadyError) → Refuses known L im e →
    RefusesSteady known L text (judging e)
image_refused known L text im flows compiled steady.Memory h = tt
image_refused known L text im flows compiled (steady.UnknownClass i) h =
    record { flows = flows; image = im; compiled = compiled; told = h }
image_refused known L text im flows compiled (steady.Flow place) h =
    record { flows = flows; image = im; compiled = compiled; told = h }

module _ (known : Known) (text : List ℕ) (p : Resolved) (stands : Stands known text p) (r : Resolved)
    (w : IsLooped p r) where
  -- The program with loops is that of the tree.
  looped_tree : program r ≡ looped_program (program_of known stands.tree (map command p.body))
  looped_tree = program_looped p r w ∙ ap looped_program (program_is known stands.tree p stands.resolves)

  -- A text has steady flows if its program with loops is typable.
  pub steady_flows : (L : Lattice) (s : List ℕ) → IsTypable L Strict (program r) s → HasSteadyFlows known L text
  steady_flows L s typed =
      record {
        tree = stands.tree;
        commands = map command p.body;
        reads = stands.reads;
        resolution = stands.resolves.resolution;
        choice = s;
        typable = subst (λ q. IsTypable L Strict q s) looped_tree typed;
      }

  -- Such a text is accepted under the strict profile.
  pub steady_accepted : (L : Lattice) (s : List ℕ) → IsLattice L → IsResolved p → HasClassesBelow L.count p →
      IsTypable L Strict (program r) s → IsAccepted known L Strict text
  steady_accepted L s laws kept below typed =
      accepted known text p stands L Strict s
      (unlooped_typable L (program p) s laws (typing_ready L p kept below)
      (subst (λ q. IsTypable L Strict q s) (program_looped p r w) typed))

  -- A refusal of the inference is a refusal of the text.
  pub flow_refused : (L : Lattice) (e : InferError) → inference.Refuses L Strict (program r) e →
      RefusesSteady known L text (flowing e)
  flow_refused L infer.Memory h = tt
  flow_refused L (infer.Refused walk) h =
      record {
        tree = stands.tree;
        commands = map command p.body;
        reads = stands.reads;
        resolution = stands.resolves.resolution;
        shortest = subst (λ q. IsShortest L Strict q walk.steps.items) looped_tree h;
      }

  -- The program with loops of a text with steady flows is typable.
  steady_typed : (L : Lattice) (h : HasSteadyFlows known L text) → IsTypable L Strict (program r) h.choice
  steady_typed L h =
      let tree = stands.only h.tree h.reads in
      let commands = does_all_one _ _ h.commands
      (subst (λ t. IsResolution known t h.commands) (sym tree) h.resolution).body
      ∙ sym (does_all_one _ _ (map command p.body) stands.resolves.resolution.body) in
      let here : IsTypable L Strict (looped_program (program_of known stands.tree (map command p.body))) h.choice =
      subst (λ t. IsTypable L Strict (looped_program (program_of known t (map command p.body))) h.choice) (sym tree)
      (subst (λ cs. IsTypable L Strict (looped_program (program_of known h.tree cs)) h.choice) commands h.typable) in
      subst (λ q. IsTypable L Strict q h.choice) (sym looped_tree) here

  -- Therefore the inference refuses it only for lack of memory.
  pub flow_memory : (L : Lattice) → IsLattice L → IsResolved p → HasClassesBelow L.count p → (e : InferError) →
      inference.Refuses L Strict (program r) e → HasSteadyFlows known L text → flowing e ≡ unsteady.Memory
  flow_memory L laws kept below infer.Memory h s = refl
  flow_memory L laws kept below (infer.Refused walk) h s =
      let formed = subst (λ q. IsWellFormed L q) (sym (program_looped p r w))
      (looped_formed L (program p) (typing_ready L p kept below)) in
      absurd (bad_walks_refute L Strict (program r) walk.steps.items s.choice laws formed h.0 (steady_typed L s))

-- Images with the same fields are steady alike.
steady_fields : (known : Known) (L : Lattice) (a b : Image) → fields a ≡ fields b → IsSteady known L a →
    IsSteady known L b
steady_fields known L a b same s =
    record {
      slots = s.slots;
      have = record {
        count = s.have.count ∙ ap (λ f. f.slots) same;
        classes = s.have.classes;
        globals = λ i g at. s.have.globals i g (ap (λ (f : Fields). slice_get f.globals i) same ∙ at);
      };
      code = subst (λ c. GoesThrough L s.slots c []) (ap (λ (f : Fields). f.code) same) s.code;
    }

-- If one image of a text is steady, every image of the text is.
pub image_steady : (known : Known) (L : Lattice) (text : List ℕ) (im : Image) → IsImageOf known text im →
    IsSteadilyAccepted known L text → IsSteady known L im
image_steady known L text im code h =
    let is = h.compiled.accepted in
    steady_fields known L h.image im
    (h.compiled.image is.tree is.commands is.reads is.resolution
    ∙ sym (code is.tree is.commands is.reads is.resolution)) h.steady

-- Two resolved programs with loops of one text are equal for typing.
pub one_looped : (known : Known) (text : List ℕ) (p q r s : Resolved) → Stands known text p → Stands known text q →
    IsLooped p r → IsLooped q s → program s ≡ program r
one_looped known text p q r s stands others w v =
    program_looped q s v
    ∙ ap looped_program (one_program known text p q stands others)
    ∙ sym (program_looped p r w)
