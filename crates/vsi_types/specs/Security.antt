-- Typable programs, and the promises about them.
use Rattle.std.specs.Prelude.{◌≡◌, ◌↔◌, ◌⊎◌, ℕ, zero, suc, ◌+◌, ◌-◌, ◌<◌, ◌≤◌, ◌==◌, cond, map, Option, IfSome, List, [], ◌∷◌, ◌++◌, length, slice_index, slice_index_or, pos}
use Rattle.std.specs.List.{All, AllZip}
use Rattle.vsi_lattice.specs.Order.{Lattice, IsLattice, IsClass, Below}
use Rattle.vsi_syntax.specs.declared.token.Span.{Span}
use Rattle.vsi_scope.specs.declared.resolved.Entry.{Entry}
use Rattle.vsi_scope.specs.Program.{Resolved}
use Rattle.vsi_scope.specs.View.{sequence}
use Rattle.vsi_scope.specs.Language.{Expression, Number, Location, Operator, Command, letvars, HasPlaces}
use Rattle.vsi_scope.specs.Meaning.{Store, value, Evaluates}
use Rattle.vsi_types.specs.declared.rules.Profile.{Profile}
use Rattle.vsi_types.specs.declared.rules.Profile.TheVariants.{Strict}
use Rattle.vsi_types.specs.declared.rules.Step.{Step}
use Rattle.vsi_types.specs.Typing.{Locations, HasData, HasCmd}
use Rattle.vsi_types.specs.Steps.{sink, steps, AreInOrder}
use Rattle.vsi_scope.specs.Limits.{max_declarations}

-- The class of each declaration, globals first; the sink has the bottom class.
abbrev pub class_of : Lattice → List ℕ → ℕ → ℕ
class_of L classes v = cond (v == sink) L.bottom (slice_index classes v)

-- The k numbers from n on.
abbrev pub count_from : ℕ → ℕ → List ℕ
count_from n zero = []
count_from n (suc k) = n ∷ count_from (suc n) k

-- A program: the classes of its globals, the declared classes of its letvars, the span of each letvar's name, and its
-- body.
pub record Program : Type 0 where
  pub globals : List ℕ
  pub declared : List (Option ℕ)
  pub names : ℕ → Span
  pub body : Command

-- The span of the name of declaration v, the first letvar being declaration g.
abbrev pub name_place : List Entry → ℕ → ℕ → Span
name_place ls g v = slice_index_or (map (λ e. e.span) ls) (v - g) (record { start = 0; stop = 0 })

-- The program of a resolved program.
abbrev pub program : Resolved → Program
program r =
    record {
      globals = map (λ g. g.class) r.globals;
      declared = map (λ e. e.class) r.letvars;
      names = name_place r.letvars (length r.globals);
      body = sequence r.body;
    }

-- The class is the declared one, if one is declared.
abbrev pub Keeps : Option ℕ → ℕ → Type 0
Keeps d t = IfSome d (λ c. t ≡ c)

-- A choice has one class for each letvar, and keeps the declared ones.
abbrev pub IsChoice : Program → List ℕ → Type 0
IsChoice p s = AllZip Keeps p.declared s

-- A program is typable with a choice of classes of the lattice if its body has a derivation of some type t cmd.
abbrev pub IsTypable : Lattice → Profile → Program → List ℕ → Type 0
IsTypable L P p s =
    IsChoice p s × All (IsClass L) s
    × ((t : ℕ) × HasCmd L P (class_of L (p.globals ++ s)) p.globals (length p.globals) p.body t)

-- The flow steps of a program in order.
abbrev pub steps_of : Profile → Program → List Step
steps_of P p = steps P p.names [] (count_from 0 (length p.globals)) (length p.globals) p.body

-- The invariant of a resolved program: its globals have classes, its locations exist, and it is within the limit.
pub record IsWellFormed (L : Lattice) (p : Program) : Type 0 where
  pub classes : All (IsClass L) p.globals
  pub entries : length p.declared ≡ letvars p.body
  pub places : HasPlaces (length p.globals) p.body
  pub limit : length p.globals + letvars p.body ≤ max_declarations

-- A program is typable exactly if the choice is valid and all flow steps are in order.
abbrev pub StepsDecide : Type 0
StepsDecide =
    (L : Lattice) (P : Profile) (p : Program) (s : List ℕ) → IsLattice L → IsWellFormed L p → All (IsClass L) s →
    IsTypable L P p s ↔ (IsChoice p s × AreInOrder L (class_of L (p.globals ++ s)) (steps_of P p))

-- Two stores agree at a if they have equal words in every location of a class at or below a.
abbrev pub Agree : Lattice → Locations → ℕ → Store → Store → Type 0
Agree L q a m m' =
    (l : ℕ) → l < length q → Below L (slice_index q l) a → slice_index_or m l (pos 0) ≡ slice_index_or m' l (pos 0)

-- The expression reads location l.
abbrev pub IsReadIn : Expression → ℕ → Type 0
IsReadIn (Number z) l = ⊥
IsReadIn (Location k s) l = l ≡ k
IsReadIn (Operator o a b) l = IsReadIn a l ⊎ IsReadIn b l

-- Simple security: an expression of type t reads only locations of classes at or below t, and its value depends on no
-- others.
abbrev pub SimpleSecurity : Type 0
SimpleSecurity =
    (L : Lattice) (q : Locations) (e : Expression) (t : ℕ) → IsLattice L → All (IsClass L) q → HasData L q e t →
    ((l : ℕ) → IsReadIn e l → Below L (slice_index q l) t)
    × ((m m' : Store) → Agree L q t m m' → value e m ≡ value e m')

-- Each declaration of the command, which has n declarations before it, has a class of the lattice.
abbrev pub HaveClasses : Lattice → (ℕ → ℕ) → ℕ → Command → Type 0
HaveClasses L classes n c = (v : ℕ) → n ≤ v → v < n + letvars c → IsClass L (classes v)

-- Confinement: a command of type t cmd changes only locations of classes at or above t, and those that it allocates.
abbrev pub Confinement : Type 0
Confinement =
    (L : Lattice) (P : Profile) (classes : ℕ → ℕ) (q : Locations) (n : ℕ) (c : Command) (t : ℕ) →
    IsLattice L → All (IsClass L) q → HaveClasses L classes n c → HasCmd L P classes q n c t →
    (m m' : Store) → length m ≡ length q → Evaluates c m m' →
    (l : ℕ) → l < length q → (Below L t (slice_index q l) → ⊥) →
    slice_index_or m' l (pos 0) ≡ slice_index_or m l (pos 0)

-- Noninterference: stores that agree at a class evaluate to stores that agree there.
abbrev pub Noninterference : Type 0
Noninterference =
    (L : Lattice) (P : Profile) (p : Program) (s : List ℕ) → IsLattice L → IsWellFormed L p → IsTypable L P p s →
    (a : ℕ) → IsClass L a → (m₁ m₂ m₁' m₂' : Store) → length m₁ ≡ length p.globals → length m₂ ≡ length p.globals →
    Agree L p.globals a m₁ m₂ → Evaluates p.body m₁ m₁' → Evaluates p.body m₂ m₂' → Agree L p.globals a m₁' m₂'

-- A command terminates from a store if it evaluates it to some store.
abbrev pub Terminates : Command → Store → Type 0
Terminates c m = (m' : Store) × Evaluates c m m'

-- Under the strict profile a typable program ends from both of two stores that agree on the bottom class, or from
-- neither.
abbrev pub SameEnding : Type 0
SameEnding =
    (L : Lattice) (p : Program) (s : List ℕ) → IsLattice L → IsWellFormed L p → IsTypable L Strict p s →
    (m₁ m₂ : Store) → length m₁ ≡ length p.globals → length m₂ ≡ length p.globals →
    Agree L p.globals L.bottom m₁ m₂ → Terminates p.body m₁ ↔ Terminates p.body m₂
