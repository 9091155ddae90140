-- The globals that the released outputs of an interface can depend on.
use Rattle.std.specs.Prelude.{◌≡◌, ◌⊎◌, ℕ, ◌+◌, ◌==◌, Bool, true, false, not, ◌&&◌, ◌||◌, if◌then◌else◌, List, [], ◌∷◌, ◌++◌, map, bytes_eq, Option, Some, None, option_map}
use Rattle.vsi_lattice.specs.LatticeView.{class_named, order}
use Rattle.vsi_lattice.specs.declared.lattice.Lattice.{Lattice}
use Rattle.vsi_scope.specs.Program.{Resolved}
use Rattle.vsi_types.specs.declared.rules.Profile.{Profile}
use Rattle.vsi_types.specs.declared.rules.Profile.TheVariants as profile
use Rattle.vsi_types.specs.Security.{program}
use Rattle.vsi_compiler.specs.Readable.{HasProgram}
use Rattle.vsi_compiler.specs.Stands.{Stands}
use Rattle.vsi_flows.specs.Table.{IsTable}
use Rattle.vsi_flows.specs.declared.table.Pair.{Pair}
use Rattle.vsi_conform.specs.declared.interface.Judgement.{Judgement}
use Rattle.vsi_conform.specs.declared.interface.Judgement.TheVariants.{Base, Strict, Steady}
use Rattle.vsi_conform.specs.declared.reaching.GlobalFlows.{GlobalFlows}
use Rattle.vsi_conform.specs.declared.reaching.Reach.{Reach}
use Rattle.vsi_conform.specs.Reading.{ClassBoundary, bytes_of, is_among}

-- The profile whose flows count.
abbrev pub profile_of : Judgement → Profile
profile_of Base = profile.Base
profile_of Strict = profile.Strict
profile_of Steady = profile.Strict

-- ---- the flows of a program between its globals.

-- A pair of a table leads from global a to global b.
abbrev pub has_pair : List Pair → ℕ → ℕ → Bool
has_pair [] a b = false
has_pair (r ∷ rest) a b = (r.source == a && r.target == b) || has_pair rest a b

-- The names of a program's globals, and its table of flows if there is one.
pub record Flowing : Type 0 where
  pub names : List (List ℕ)
  pub table : Option (List Pair)

-- The flows of the code.
abbrev pub flowing : GlobalFlows → Flowing
flowing f = record { names = bytes_of f.names.items; table = option_map (λ pairs. pairs.items) f.table }

-- Global a reaches global b: the table has a pair for them. Without a table each global reaches every other one.
abbrev pub reaches : Option (List Pair) → ℕ → ℕ → Bool
reaches None a b = not (a == b)
reaches (Some pairs) a b = has_pair pairs a b

-- The number of the first of these names that is this one, or how many there are.
abbrev pub number_of : List (List ℕ) → List ℕ → ℕ
number_of [] name = 0
number_of (known ∷ rest) name = if bytes_eq known name then 0 else 1 + number_of rest name

-- The name, if it counts.
abbrev pub name_if : Bool → List ℕ → List (List ℕ)
name_if counts name = if counts then name ∷ [] else []

-- The names of the globals that reach b, where these names have numbers from n on.
abbrev pub sources_of : Option (List Pair) → ℕ → List (List ℕ) → ℕ → List (List ℕ)
sources_of table b [] n = []
sources_of table b (name ∷ rest) n = name_if (reaches table n b) name ++ sources_of table b rest (n + 1)

-- The names that aren't in a list.
abbrev pub unlisted : List (List ℕ) → List (List ℕ) → List (List ℕ)
unlisted listed [] = []
unlisted listed (name ∷ rest) = name_if (not (is_among listed name)) name ++ unlisted listed rest

-- The names that aren't in a list; without a list there are none.
abbrev pub beyond_of : Option (List (List ℕ)) → List (List ℕ) → List (List ℕ)
beyond_of None names = []
beyond_of (Some listed) names = unlisted listed names

-- ---- released outputs.

-- A released output of a class's boundary: its name, the names of the other globals that reach it, and those of them that
-- the boundary doesn't allow.
pub record Released : Type 0 where
  pub class : List ℕ
  pub output : List ℕ
  pub sources : List (List ℕ)
  pub beyond : List (List ℕ)

-- A released output of the code.
abbrev pub released : Reach → Released
released r =
    record {
      class = r.class.items;
      output = r.output.items;
      sources = bytes_of r.sources.items;
      beyond = bytes_of r.beyond.items;
    }

-- The globals of a program that reach an output.
abbrev pub sources_in : Flowing → List ℕ → List (List ℕ)
sources_in f output = sources_of f.table (number_of f.names output) f.names 0

-- A released output of a boundary, for a program with these flows.
abbrev pub released_at : Flowing → ClassBoundary → List ℕ → Released
released_at f b output =
    record {
      class = b.class;
      output = output;
      sources = sources_in f output;
      beyond = beyond_of b.from (sources_in f output);
    }

-- The released outputs of a boundary, in their order.
abbrev pub released_by : Flowing → ClassBoundary → List Released
released_by f b = map (released_at f b) b.released

-- The released outputs of boundaries, in their order.
abbrev pub all_released : Flowing → List ClassBoundary → List Released
all_released f [] = []
all_released f (b ∷ rest) = released_by f b ++ all_released f rest

-- The list has no name.
abbrev pub is_none : List (List ℕ) → Bool
is_none [] = true
is_none (name ∷ rest) = false

-- One of the boundaries releases an output.
abbrev pub releases : List ClassBoundary → Bool
releases [] = false
releases (b ∷ rest) = not (is_none b.released) || releases rest

-- No released output is reached by a global that isn't allowed.
abbrev pub are_within : List Released → Bool
are_within [] = true
are_within (r ∷ rest) = is_none r.beyond && are_within rest

-- ---- those of a text.

-- The flows are those of the text's program under a profile: the names of its globals and its table.
pub record AreFlowsOf (l : Lattice) (P : Profile) (text : List ℕ) (f : Flowing) : Type 0 where
  pub resolved : Resolved
  pub stands : Stands (class_named l) text resolved
  pub names : f.names ≡ map (λ g. g.name.now) resolved.globals
  pub pairs : List Pair
  pub table : IsTable (order l) P (program resolved) pairs
  pub is : f.table ≡ Some pairs

-- The released outputs of boundaries, by flows of this kind.
pub record AreReleased (AreFlows : Flowing → Type 0) (bs : List ClassBoundary) (found : List Released) : Type 0 where
  pub flows : Flowing
  pub are : AreFlows flows
  pub all : found ≡ all_released flows bs

-- No released output is found, because there is none or because the program isn't there.
pub record AreUnreleased (HasFlows : Type 0) (bs : List ClassBoundary) (found : List Released) : Type 0 where
  pub none : releases bs ≡ true → HasFlows → ⊥
  pub is : found ≡ []

-- The released outputs of boundaries, by the flows of a text's program under the profile of an interface. A text without
-- a program has none.
abbrev pub AreTextReleased : Lattice → Judgement → List ℕ → List ClassBoundary → List Released → Type 0
AreTextReleased l j text bs found =
    AreUnreleased (HasProgram (class_named l) text) bs found
    ⊎ AreReleased (AreFlowsOf l (profile_of j) text) bs found
