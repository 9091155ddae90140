-- The acceptance of a lattice file, and the first fault of one that is not accepted.
use Rattle.std.specs.Prelude.{◌≡◌, ℕ, ◌<◌, ◌≤◌, List, length, map, None}
use Rattle.toml.specs.Data.{Members}
use Rattle.vsi_lattice.specs.Order.{Lattice}
use Rattle.vsi_lattice.specs.Pairs.{Leq, MakesLattice, IsDeclared}
use Rattle.vsi_lattice.specs.NamePlaces.{IsLeast, Never, IsBadName, StandsEarlier, IsUnknownAt, number_of}
use Rattle.vsi_lattice.specs.Shape.{File, IsToml, file_of, IsFile}
use Rattle.vsi_lattice.specs.OrderFaults.{NamesFault}
use Rattle.vsi_lattice.specs.declared.order.OrderError.{OrderError}
use Rattle.vsi_lattice.specs.declared.order.OrderError.TheVariants as order
use Rattle.vsi_lattice.specs.declared.reader.LatticeError.{LatticeError}
use Rattle.vsi_lattice.specs.declared.reader.LatticeError.TheVariants.{Memory, NotToml, BadShape, NoClass, TooManyClasses, BadName, DuplicateName, UnknownName, Cycle, NoJoin, NoMeet}

-- The pairs by the positions of their classes.
abbrev pub numbers : File → List (ℕ × ℕ)
numbers f = map (number_of f.names) f.pairs

-- The file has 1 to 64 classes.
pub record IsCounted (f : File) : Type 0 where
  pub some : 0 < length f.names
  pub few : length f.names ≤ 64

-- The file has 1 to 64 classes with distinct valid names.
pub record HasNames (f : File) : Type 0 where
  pub counted : IsCounted f
  pub named : Never (IsBadName f.names)
  pub distinct : Never (StandsEarlier f.names)

-- In addition, the pairs name only these classes.
pub record HasPairs (f : File) : Type 0 where
  pub names : HasNames f
  pub known : Never (IsUnknownAt f.names f.pairs)

-- In addition, the pairs declare a lattice.
pub record IsAccepted (f : File) : Type 0 where
  pub pairs : HasPairs f
  pub lattice : MakesLattice (length f.names) (Leq (numbers f))

-- The error is a fault of the file, and the file has no fault that is checked before it.
abbrev pub IsFault : File → LatticeError → Type 0
IsFault f Memory = Unit {0}
IsFault f NotToml = ⊥
IsFault f BadShape = ⊥
IsFault f NoClass = length f.names ≡ 0
IsFault f TooManyClasses = 64 < length f.names
IsFault f (BadName i) = IsCounted f × IsLeast (IsBadName f.names) i
IsFault f (DuplicateName i) = IsCounted f × Never (IsBadName f.names) × IsLeast (StandsEarlier f.names) i
IsFault f (UnknownName i) = HasNames f × IsLeast (IsUnknownAt f.names f.pairs) i
IsFault f (Cycle a b) = HasPairs f × NamesFault (length f.names) (numbers f) (order.Cycle a b)
IsFault f (NoJoin a b) = HasPairs f × NamesFault (length f.names) (numbers f) (order.NoJoin a b)
IsFault f (NoMeet a b) = HasPairs f × NamesFault (length f.names) (numbers f) (order.NoMeet a b)

-- The error is the first name that appears earlier, unless memory ran out.
abbrev pub TellsDuplicate : List (List ℕ) → LatticeError → Type 0
TellsDuplicate names Memory = Unit {0}
TellsDuplicate names (DuplicateName i) = IsLeast (StandsEarlier names) i
TellsDuplicate names _ = ⊥

-- The error is the first pair with an unknown name, unless memory ran out.
abbrev pub TellsUnknown : List (List ℕ) → List (List ℕ × List ℕ) → LatticeError → Type 0
TellsUnknown names pairs Memory = Unit {0}
TellsUnknown names pairs (UnknownName i) = IsLeast (IsUnknownAt names pairs) i
TellsUnknown names pairs _ = ⊥

-- The text is a lattice file with that fault.
abbrev pub HasFault : List ℕ → LatticeError → Type 0
HasFault text e = (f : File) × IsFile text f × IsFault f e

-- The error is the first fault of the text.
abbrev pub ExplainsLattice : List ℕ → LatticeError → Type 0
ExplainsLattice text Memory = Unit {0}
ExplainsLattice text NotToml = (ms : Members) → ¬ (IsToml text ms)
ExplainsLattice text BadShape = (ms : Members) × IsToml text ms × (file_of ms ≡ None)
ExplainsLattice text e = HasFault text e

-- The file is accepted and has these names, and its pairs declare this order.
pub record IsOf (f : File) (names : List (List ℕ)) (L : Lattice) : Type 0 where
  pub accepted : IsAccepted f
  pub names_are : names ≡ f.names
  pub order_is : IsDeclared (length f.names) (numbers f) L

-- The text is a lattice file with these names and this order.
abbrev pub IsRead : List ℕ → List (List ℕ) → Lattice → Type 0
IsRead text names L = (f : File) × IsFile text f × IsOf f names L

-- The error of a file for an error of its order.
abbrev pub of_order : OrderError → LatticeError
of_order order.Memory = Memory
of_order (order.Cycle a b) = Cycle a b
of_order (order.NoJoin a b) = NoJoin a b
of_order (order.NoMeet a b) = NoMeet a b
