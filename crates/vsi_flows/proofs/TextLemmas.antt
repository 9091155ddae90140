-- The pairs of a text's table decide acceptance and show each dependence.
use Rattle.std.proofs.Common.{◌≡◌, ◌∙◌, ℕ, ◌<◌, List, [], ◌∷◌, length, map, sym, subst, arith, inl, inr}
use Rattle.std.specs.Prelude.{◌↔◌}
use Rattle.std.specs.List.{Contains}
use Rattle.std.proofs.lemmas.List.{length-map}
use Rattle.std.proofs.lemmas.List.Elements.{Contains-push_cases}
use Rattle.vsi_lattice.specs.Order as orders
use Rattle.vsi_lattice.specs.Known.{Known}
use Rattle.vsi_lattice.specs.LatticeView.{class_named, order}
use Rattle.vsi_lattice.specs.declared.lattice.Lattice.{Lattice}
use Rattle.vsi_scope.specs.Program.{Resolved}
use Rattle.vsi_scope.specs.Resolving.{IsResolution}
use Rattle.vsi_scope.specs.View.{command}
use Rattle.vsi_scope.proofs.Complete.{does_all_one}
use Rattle.vsi_types.specs.declared.rules.Profile.{Profile}
use Rattle.vsi_types.specs.Security.{program, IsTypable}
use Rattle.vsi_compiler.specs.Acceptance.{IsAccepted, program_of}
use Rattle.vsi_compiler.specs.SourceView.{source_of, IsSource}
use Rattle.vsi_compiler.specs.Stands.{Stands}
use Rattle.vsi_compiler.proofs.Compiled.{accepted}
use Rattle.vsi_compiler.proofs.Held.{ready}
use Rattle.vsi_compiler.proofs.Programs.{program_is}
use Rattle.vsi_flows.specs.declared.table.Pair.{Pair}
use Rattle.vsi_flows.specs.Table.{AreAllowed, HasChoice, HasPair, IsTable}
use Rattle.vsi_flows.specs.Text.{DecideAcceptance, ShowDependence}
use Rattle.vsi_flows.proofs.ImageLemmas.{image_independence}
use Rattle.vsi_flows.proofs.IndependenceLemmas.{unlisted_is_unreached}

-- Some choice of classes types the program of an accepted text.
has_choice : (known : Known) (text : List ℕ) (r : Resolved) → Stands known text r → (L : orders.Lattice) (P : Profile) →
    IsAccepted known L P text → HasChoice L P (program r)
has_choice known text r stands L P a =
    let same = stands.only a.tree a.reads in
    let here = subst (λ t. IsResolution known t a.commands) (sym same) a.resolution in
    let one : a.commands ≡ map command r.body =
    does_all_one _ _ a.commands here.body
    ∙ sym (does_all_one _ _ (map command r.body) stands.resolves.resolution.body) in
    let typed : IsTypable L P (program_of known stands.tree (map command r.body)) a.choice =
    subst (λ t. IsTypable L P (program_of known t (map command r.body)) a.choice) (sym same)
    (subst (λ cs. IsTypable L P (program_of known a.tree cs) a.choice) one a.typable) in (
      a.choice,
      subst (λ p. IsTypable L P p a.choice) (sym (program_is known stands.tree r stands.resolves)) typed,
    )

-- A text is accepted exactly where some choice of classes types its program.
pub decides : (l : Lattice) (P : Profile) (text : List ℕ) (r : Resolved) → Stands (class_named l) text r →
    (pairs : List Pair) → (AreAllowed pairs ↔ HasChoice (order l) P (program r)) → DecideAcceptance l P text pairs
decides l P text r stands pairs verdict = (
  λ allowed. let h = verdict.0 allowed in accepted (class_named l) text r stands (order l) P h.0 h.1,
  λ a. verdict.1 (has_choice (class_named l) text r stands (order l) P a),
)

-- The one element of a list.
contained_is : (a x : ℕ) → Contains (a ∷ []) x → a ≡ x
contained_is a x there = elim (Contains-push_cases [] a x there) [
  | inl none ↦ absurd (omega (arith, none.1))
  | inr e ↦ e
]

-- The one global of a list from which no pair leads to another global.
only_source : (n : ℕ) (pairs : List Pair) (a b : ℕ) → a < n → (a ≡ b → ⊥) → (HasPair pairs a b → ⊥) → (x : ℕ) →
    Contains (a ∷ []) x → (x < n) × (x ≡ b → ⊥) × (HasPair pairs x b → ⊥)
only_source n pairs a b lt apart none x there =
    subst (λ (y : ℕ). (y < n) × (y ≡ b → ⊥) × (HasPair pairs y b → ⊥)) (contained_is a x there) (lt, apart, none)

-- Two globals that no pair of the table joins are independent.
pub shows_dependence : (l : Lattice) (P : Profile) (text : List ℕ) (r : Resolved) → IsSource (source_of l text r) →
    (pairs : List Pair) → IsTable (order l) P (program r) pairs → ShowDependence l text r pairs
shows_dependence l P text r is pairs table a b la lb apart none im keeps m₁ m₂ m₁' m₂' b₁ b₂ l₁ l₂ out h₁ h₂ =
    let n : length (program r).globals ≡ length r.globals = length-map r.globals (λ g. g.class) in
    image_independence (class_named l) text im r (a ∷ []) b is.kept is.stands keeps lb
    (unlisted_is_unreached (order l) P (program r) pairs (a ∷ []) b (ready (source_of l text r) is) table
    (omega (arith, lb, n)) (only_source (length (program r).globals) pairs a b (omega (arith, la, n)) apart none))
    m₁ m₂ m₁' m₂' b₁ b₂ l₁ l₂ out h₁ h₂
