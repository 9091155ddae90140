-- The promises that the layers make together about a text.
use Rattle.std.proofs.Common.{◌≡◌, ℕ, ◌+◌, ◌<◌, ◌≤◌, List, map, length, refl, sym, ap, subst, ◌∙◌, Option, Some, None, IfSome, arith}
use Rattle.std.specs.List.{All}
use Rattle.vsi_syntax.specs.Tree.{Whole}
use Rattle.vsi_lattice.specs.Order.{Lattice as Order, IsClass, IsLattice}
use Rattle.vsi_lattice.specs.declared.lattice.Lattice.{Lattice}
use Rattle.vsi_lattice.specs.LatticeView.{class_named, order, names}
use Rattle.vsi_lattice.specs.Laws.{lawful_is_lattice}
use Rattle.vsi_lattice.proofs.NameLemmas.{found}
use Rattle.vsi_lattice.specs.Known.{Known}
use Rattle.vsi_scope.specs.Language.{Command, size}
use Rattle.vsi_scope.specs.Program.{Resolved}
use Rattle.vsi_scope.specs.Resolving.{IsResolution, AreBelow, HasClassesBelow}
use Rattle.vsi_scope.specs.Scopes.{in_sequence}
use Rattle.vsi_scope.specs.View.{command, sequence}
use Rattle.vsi_scope.proofs.Complete.{does_all_one}
use Rattle.vsi_types.specs.declared.rules.Profile.{Profile}
use Rattle.vsi_types.specs.declared.rules.Step.{Step}
use Rattle.vsi_types.specs.Security.{program, IsTypable, IsWellFormed}
use Rattle.vsi_types.proofs.Walking.{bad_walks_refute}
use Rattle.vsi_infer.specs.Inference.{AreClasses, IsShortest, IsLeast}
use Rattle.vsi_image.specs.declared.instr.Image.{Image}
use Rattle.vsi_image.specs.Fields as image
use Rattle.vsi_code.specs.Behaves.{Behaves}
use Rattle.vsi_opt.specs.Optimised.{optimised}
use Rattle.vsi_code.specs.Generated.{image_of}
use Rattle.vsi_code.specs.Names.{all_named}
use Rattle.vsi_code.proofs.Made.{IsMade, made_fields}
use Rattle.vsi_compiler.specs.Source.{Reads}
use Rattle.vsi_compiler.specs.Stands.{Stands}
use Rattle.vsi_compiler.specs.Acceptance.{IsAccepted, program_of}
use Rattle.vsi_compiler.specs.Headline.{HasGlobals, KeepsMeaning, IsImageOf, IsNoLarger, declared_global}
use Rattle.vsi_compiler.specs.Refusal.{HasShortestBadWalk, Refuses}
use Rattle.vsi_compiler.specs.Errors.{flowing}
use Rattle.vsi_compiler.specs.declared.source.CompileError.TheVariants.{Memory}
use Rattle.vsi_infer.specs.declared.inference.InferError.{InferError}
use Rattle.vsi_infer.specs.declared.inference.InferError.TheVariants as infer
use Rattle.vsi_infer.specs.Inference as inference
use Rattle.vsi_compiler.proofs.Programs.{program_is, names_are, count_is, body_is, global_classes, declared_classes}

-- Every class that a name denotes is a class of the lattice.
pub known_below : (l : Lattice) → AreBelow (order l).count (class_named l)
known_below l x = below (class_named l x) refl
  where
    below : (o : Option ℕ) → class_named l x ≡ o → IfSome o (λ c. c < (order l).count)
    below None e = tt
    below (Some c) e = omega (arith, (found (names l) x c e).0, l.named.one_each)

-- The globals of a program whose classes the lattice knows have classes of it.
pub globals_of : (l : Lattice) (r : Resolved) → ((n : ℕ) → AreBelow n (class_named l) → HasClassesBelow n r)
    → All (IsClass (order l)) (program r).globals
globals_of l r known = global_classes (order l) r (known (order l).count (known_below l))

-- The classes of its other declarations, where they have any, are classes of the lattice too.
pub declared_of : (l : Lattice) (r : Resolved) → ((n : ℕ) → AreBelow n (class_named l) → HasClassesBelow n r)
    → AreClasses (order l) (program r).declared
declared_of l r known = declared_classes (order l) r (known (order l).count (known_below l))

-- The order of a lattice with names has the laws.
pub lawful : (l : Lattice) → IsLattice (order l)
lawful l = lawful_is_lattice (order l) l.order.lawful

module _ (known : Known) (text : List ℕ) (r : Resolved) (stands : Stands known text r) where
  -- A text has one tree, and the tree one resolution.
  one_resolution : (tree : Whole) (commands : List Command) → Reads text tree → IsResolution known tree commands →
      (stands.tree ≡ tree) × (commands ≡ map command r.body)
  one_resolution tree commands reads resolution =
      let same = stands.only tree reads in
      let here = subst (λ t. IsResolution known t commands) (sym same) resolution in (
        same,
        does_all_one _ _ commands here.body
            ∙ sym (does_all_one _ _ (map command r.body) stands.resolves.resolution.body),
      )

  -- A choice that types the resolved program types the tree's program.
  pub typed_tree : (L : Order) (P : Profile) (s : List ℕ) → IsTypable L P (program r) s →
      IsTypable L P (program_of known stands.tree (map command r.body)) s
  typed_tree L P s = subst (λ p. IsTypable L P p s) (program_is known stands.tree r stands.resolves)

  -- A text whose program is typable is accepted.
  pub accepted : (L : Order) (P : Profile) (s : List ℕ) → IsTypable L P (program r) s → IsAccepted known L P text
  accepted L P s typable =
      record {
        tree = stands.tree;
        commands = map command r.body;
        reads = stands.reads;
        resolution = stands.resolves.resolution;
        choice = s;
        typable = typed_tree L P s typable;
      }

  -- A shortest bad walk of the resolved program is one of the tree's.
  pub walk_refused : (L : Order) (P : Profile) (steps : List Step) → IsShortest L P (program r) steps →
      HasShortestBadWalk known L P text steps
  walk_refused L P steps shortest =
      record {
        tree = stands.tree;
        commands = map command r.body;
        reads = stands.reads;
        resolution = stands.resolves.resolution;
        shortest = subst (λ p. IsShortest L P p steps) (program_is known stands.tree r stands.resolves) shortest;
      }

  -- A text whose program is not typable is not accepted.
  pub not_accepted : (L : Order) (P : Profile) → ((s : List ℕ) → ¬ (IsTypable L P (program r) s)) →
      IsAccepted known L P text → ⊥
  not_accepted L P none a =
      let one = one_resolution a.tree a.commands a.reads a.resolution in
      let here : IsTypable L P (program_of known stands.tree (map command r.body)) a.choice =
      subst (λ t. IsTypable L P (program_of known t (map command r.body)) a.choice) (sym one.0)
      (subst (λ cs. IsTypable L P (program_of known a.tree cs) a.choice) one.1 a.typable) in
      none a.choice
      (subst (λ p. IsTypable L P p a.choice) (sym (program_is known stands.tree r stands.resolves)) here)

  -- The image's globals are the text's.
  pub globals_kept : (im : Image) → image.globals im.globals.items ≡ all_named r.globals → HasGlobals text im
  globals_kept im e tree reads =
      e ∙ names_are known stands.tree r stands.resolves ∙ ap (λ (t : Whole). map declared_global t.globals)
      (stands.only tree reads)

  -- There are as many globals as the tree declares.
  count_kept : (tree : Whole) → Reads text tree → length r.globals ≡ length tree.globals
  count_kept tree reads =
      count_is known stands.tree r stands.resolves ∙ ap (λ (t : Whole). length t.globals) (stands.only tree reads)

  -- The body is that of the resolution.
  body_kept : (tree : Whole) (commands : List Command) → Reads text tree → IsResolution known tree commands →
      sequence r.body ≡ in_sequence commands
  body_kept tree commands reads resolution =
      body_is known stands.tree r stands.resolves
      ∙ ap in_sequence (sym (one_resolution tree commands reads resolution).1)

  -- An image that behaves like the resolved body behaves like the text's body.
  pub meaning_kept : (im : Image) → Behaves (length r.globals) (sequence r.body) im → KeepsMeaning known text im
  meaning_kept im behaves tree commands reads resolution =
      subst (λ n. Behaves n (in_sequence commands) im) (count_kept tree reads)
      (subst (λ c. Behaves (length r.globals) c im) (body_kept tree commands reads resolution) behaves)

  -- The image that holds the optimised program is the text's.
  pub image_kept : (o : Resolved) (im : Image) → IsMade o im → o.globals ≡ r.globals →
      sequence o.body ≡ optimised (length o.globals) (sequence r.body) → IsImageOf known text im
  image_kept o im holds globals body tree commands reads resolution =
      let names : all_named o.globals ≡ map declared_global tree.globals =
      ap all_named globals ∙ names_are known stands.tree r stands.resolves
      ∙ ap (λ (t : Whole). map declared_global t.globals) (stands.only tree reads) in
      let count : length o.globals ≡ length tree.globals = ap length globals ∙ count_kept tree reads in
      made_fields o im holds
      ∙ ap (λ gs. image_of gs (sequence o.body)) names
      ∙ ap (image_of (map declared_global tree.globals))
      (body ∙ ap (λ n. optimised n (sequence r.body)) count
      ∙ ap (optimised (length tree.globals)) (body_kept tree commands reads resolution))

  -- If a body is no larger than the text's, an image with one instruction more than its size has no more than the text
  -- needs.
  pub size_kept : (o : Resolved) (im : Image) → length im.code.items ≡ size (sequence o.body) + 1 →
      size (sequence o.body) ≤ size (sequence r.body) → IsNoLarger known text im
  size_kept o im count smaller tree commands reads resolution =
      omega (arith, count, smaller, ap size (body_kept tree commands reads resolution))

  -- The least choice for the resolved program is that for the tree's.
  pub least_tree : (L : Order) (P : Profile) (s : List ℕ) → IsLeast L P (program r) s →
      IsLeast L P (program_of known stands.tree (map command r.body)) s
  least_tree L P s = subst (λ p. IsLeast L P p s) (program_is known stands.tree r stands.resolves)

  -- A refusal of the inference is one of the text.
  pub flow_refused : (L : Order) (P : Profile) (e : InferError) → inference.Refuses L P (program r) e →
      Refuses known L P text (flowing e)
  flow_refused L P infer.Memory h = tt
  flow_refused L P (infer.Refused walk) h = walk_refused L P walk.steps.items h

  -- For an accepted text, the inference can only report that memory ran out.
  pub flow_memory : (L : Order) (P : Profile) → IsLattice L → IsWellFormed L (program r) → (e : InferError) →
      inference.Refuses L P (program r) e → IsAccepted known L P text → flowing e ≡ Memory
  flow_memory L P laws ready infer.Memory h a = refl
  flow_memory L P laws ready (infer.Refused walk) h a =
      absurd (not_accepted L P (λ s. bad_walks_refute L P (program r) walk.steps.items s laws ready h.0) a)

-- Two resolved programs of a text are the same program for typing.
pub one_program : (known : Known) (text : List ℕ) (r other : Resolved) → Stands known text r → Stands known text other →
    program other ≡ program r
one_program known text r other stands others =
    let tree = stands.only others.tree others.reads in
    let commands = does_all_one _ _ (map command other.body) others.resolves.resolution.body
    ∙ sym (does_all_one _ _ (map command r.body)
    (subst (λ (t : Whole). IsResolution known t (map command r.body)) tree stands.resolves.resolution).body) in
    program_is known others.tree other others.resolves
    ∙ ap (λ (t : Whole). program_of known t (map command other.body)) (sym tree)
    ∙ ap (λ cs. program_of known stands.tree cs) commands
    ∙ sym (program_is known stands.tree r stands.resolves)
