-- The table as text.
use Rattle.std.specs.Prelude.{◌≡◌, ℕ, ◌<◌, ◌↔◌, Bool, true, false, List, [], ◌∷◌, ◌++◌, map, length, slice_index_or, pos, codes, decimal, Some}
use Rattle.std.specs.List.{All, flat_map, slice_get}
use Rattle.vsi_lattice.specs.declared.lattice.Lattice.{Lattice}
use Rattle.vsi_lattice.specs.LatticeView.{class_named, order}
use Rattle.vsi_image.specs.declared.instr.Image.{Image}
use Rattle.vsi_scope.specs.Meaning.{Store}
use Rattle.vsi_scope.specs.Program.{Resolved}
use Rattle.vsi_types.specs.declared.rules.Profile.{Profile}
use Rattle.vsi_types.specs.declared.rules.Step.{Step}
use Rattle.vsi_types.specs.Security.{program, steps_of}
use Rattle.vsi_infer.specs.Explanation.{variable_text, step_line}
use Rattle.vsi_infer.specs.Paths.{IsPath}
use Rattle.vsi_code.specs.Behaves.{Halts}
use Rattle.vsi_compiler.specs.Acceptance.{IsAccepted}
use Rattle.vsi_compiler.specs.Headline.{KeepsMeaning}
use Rattle.vsi_compiler.specs.Stands.{Stands}
use Rattle.vsi_flows.specs.declared.table.Pair.{Pair}
use Rattle.vsi_flows.specs.Independence.{AgreeOutside}
use Rattle.vsi_flows.specs.Table.{AreAllowed, HasPair, IsTable}

-- The word of a verdict.
abbrev pub verdict_text : Bool → List ℕ
verdict_text true = codes " allowed "
verdict_text false = codes " refused "

-- The line of a pair: both variables with their declared classes, the verdict and the fewest steps.
abbrev pub pair_line : Lattice → Resolved → Pair → List ℕ
pair_line l r pair =
    variable_text l r pair.source ++ codes " flows to " ++ variable_text l r pair.target
    ++ verdict_text pair.allowed ++ decimal pair.steps ++ codes "\n"

-- The lines of the pairs.
abbrev pub table_text : Lattice → Resolved → List Pair → List ℕ
table_text l r pairs = flat_map (pair_line l r) pairs

-- No pair is refused exactly where the text is accepted.
abbrev pub DecideAcceptance : Lattice → Profile → List ℕ → List Pair → Type 0
DecideAcceptance l P text pairs = AreAllowed pairs ↔ IsAccepted (class_named l) (order l) P text

-- If no pair leads from global a to global b, then changing a changes nothing in b: two runs of an image of the text,
-- from stores that differ in a alone, end with the same word in b whenever both halt.
abbrev pub ShowDependence : Lattice → List ℕ → Resolved → List Pair → Type 0
ShowDependence l text r pairs =
    (a b : ℕ) → a < length r.globals → b < length r.globals → (a ≡ b → ⊥) → (HasPair pairs a b → ⊥) →
    (im : Image) → KeepsMeaning (class_named l) text im →
    (m₁ m₂ m₁' m₂' : Store) (b₁ b₂ : ℕ) → length m₁ ≡ length r.globals → length m₂ ≡ length r.globals →
    AgreeOutside (a ∷ []) m₁ m₂ → Halts im (length r.globals) m₁ b₁ m₁' → Halts im (length r.globals) m₂ b₂ m₂' →
    slice_index_or m₁' b (pos 0) ≡ slice_index_or m₂' b (pos 0)

-- The lines are those of the table of the text's program, whose pairs decide acceptance and show each dependence.
pub record IsTableText (l : Lattice) (P : Profile) (text out : List ℕ) : Type 0 where
  pub resolved : Resolved
  pub stands : Stands (class_named l) text resolved
  pub pairs : List Pair
  pub table : IsTable (order l) P (program resolved) pairs
  pub lines : out ≡ table_text l resolved pairs
  pub verdict : DecideAcceptance l P text pairs
  pub dependence : ShowDependence l text resolved pairs

-- A pair and the steps of a walk.
pub record Walked : Type 0 where
  pub pair : Pair
  pub walk : List Step

-- The steps lead from the pair's source to its target, and the pair gives their number.
pub record IsWalkOf (ss : List Step) (pair : Pair) (walk : List Step) : Type 0 where
  pub path : IsPath ss pair.source walk pair.target
  pub count : length walk ≡ pair.steps

-- The line of a pair and, below it, the lines of its walk's steps.
abbrev pub walked_lines : Lattice → List ℕ → Resolved → Walked → List ℕ
walked_lines l source r w = pair_line l r w.pair ++ flat_map (step_line source r) w.walk

-- The lines of the pair with this number have been added: its own line and, below it, those of a walk of its fewest steps.
pub record AddsLines (l : Lattice) (ss : List Step) (source : List ℕ) (r : Resolved) (pairs : List Pair) (number : ℕ)
    (old new : List ℕ) : Type 0 where
  pub walked : Walked
  pub there : slice_get pairs number ≡ Some walked.pair
  pub walk : IsWalkOf ss walked.pair walked.walk
  pub lines : new ≡ old ++ walked_lines l source r walked

-- The lines are those of the table of the text's program, whose pairs decide acceptance and show each dependence, and
-- each pair has a walk of its fewest steps.
pub record IsWalksText (l : Lattice) (P : Profile) (text out : List ℕ) : Type 0 where
  pub resolved : Resolved
  pub stands : Stands (class_named l) text resolved
  pub walked : List Walked
  pub table : IsTable (order l) P (program resolved) (map (λ w. w.pair) walked)
  pub walks : All (λ w. IsWalkOf (steps_of P (program resolved)) w.pair w.walk) walked
  pub lines : out ≡ flat_map (walked_lines l text resolved) walked
  pub verdict : DecideAcceptance l P text (map (λ w. w.pair) walked)
  pub dependence : ShowDependence l text resolved (map (λ w. w.pair) walked)
