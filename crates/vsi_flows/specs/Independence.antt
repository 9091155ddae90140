-- Independence: a variable that isn't reached from another doesn't depend on it, whatever the classes are.
use Rattle.std.specs.Prelude.{◌≡◌, ℕ, ◌<◌, List, length, slice_index_or, pos}
use Rattle.std.specs.List.{Contains}
use Rattle.vsi_lattice.specs.Order.{Lattice}
use Rattle.vsi_image.specs.declared.instr.Image.{Image}
use Rattle.vsi_lattice.specs.Known.{Known}
use Rattle.vsi_scope.specs.Meaning.{Store, Evaluates}
use Rattle.vsi_scope.specs.Program.{Resolved, IsResolved}
use Rattle.vsi_types.specs.declared.rules.Profile.{Profile}
use Rattle.vsi_types.specs.declared.rules.Profile.TheVariants.{Base}
use Rattle.vsi_types.specs.declared.rules.Step.{Step}
use Rattle.vsi_types.specs.Security.{Program, IsWellFormed, program, steps_of}
use Rattle.vsi_infer.specs.Paths.{IsPath}
use Rattle.vsi_code.specs.Behaves.{Halts}
use Rattle.vsi_compiler.specs.Headline.{KeepsMeaning}
use Rattle.vsi_compiler.specs.Stands.{Stands}
use Rattle.vsi_flows.specs.declared.table.Pair.{Pair}
use Rattle.vsi_flows.specs.Table.{IsTable, HasPair}

-- No walk leads from a variable of the list to b. A walk of no steps leads from b to itself.
abbrev pub IsUnreached : Program → List ℕ → ℕ → Type 0
IsUnreached p from b = (a : ℕ) (w : List Step) → Contains from a → IsPath (steps_of Base p) a w b → ⊥

-- Two stores have equal words in every location outside the list.
abbrev pub AgreeOutside : List ℕ → Store → Store → Type 0
AgreeOutside from m m' =
    (l : ℕ) → (Contains from l → ⊥) → slice_index_or m l (pos 0) ≡ slice_index_or m' l (pos 0)

-- Two stores that differ only in some globals evaluate to equal words in a global that isn't reached from these.
abbrev pub Independence : Type 0
Independence =
    (L : Lattice) (p : Program) (from : List ℕ) (b : ℕ) → IsWellFormed L p → b < length p.globals →
    IsUnreached p from b → (m₁ m₂ m₁' m₂' : Store) → length m₁ ≡ length p.globals → length m₂ ≡ length p.globals →
    AgreeOutside from m₁ m₂ → Evaluates p.body m₁ m₁' → Evaluates p.body m₂ m₂' →
    slice_index_or m₁' b (pos 0) ≡ slice_index_or m₂' b (pos 0)

-- The same for two runs of a text's image, whenever both halt.
abbrev pub ImageIndependence : Type 0
ImageIndependence =
    (known : Known) (text : List ℕ) (im : Image) (r : Resolved) (from : List ℕ) (b : ℕ) → IsResolved r →
    Stands known text r → KeepsMeaning known text im → b < length r.globals → IsUnreached (program r) from b →
    (m₁ m₂ m₁' m₂' : Store) (b₁ b₂ : ℕ) → length m₁ ≡ length r.globals → length m₂ ≡ length r.globals →
    AgreeOutside from m₁ m₂ → Halts im (length r.globals) m₁ b₁ m₁' → Halts im (length r.globals) m₂ b₂ m₂' →
    slice_index_or m₁' b (pos 0) ≡ slice_index_or m₂' b (pos 0)

-- If a profile's table has no pair for two variables, the second isn't reached from the first.
abbrev pub UnlistedIsUnreached : Type 0
UnlistedIsUnreached =
    (L : Lattice) (P : Profile) (p : Program) (pairs : List Pair) (from : List ℕ) (b : ℕ) →
    IsWellFormed L p → IsTable L P p pairs → b < length p.globals →
    ((a : ℕ) → Contains from a → (a < length p.globals) × (a ≡ b → ⊥) × (HasPair pairs a b → ⊥)) →
    IsUnreached p from b
