-- Lattices of usual shapes, for given names.
use Rattle.std.specs.Prelude.{◌≡◌, ℕ, zero, suc, ◌/◌, ◌%◌, ◌^◌, ◌==◌, ◌++◌, Bool, true, ◌&&◌, ◌||◌, nat_le, List, [], ◌∷◌, length, get_or, Option, Some, None, codes, if◌then◌else◌}
use Rattle.vsi_lattice.specs.FileFaults.{IsRead}
use Rattle.vsi_lattice.specs.LatticeView.{class_named, names, order}
use Rattle.vsi_lattice.specs.Order.{Lattice as Order, IsClass}
use Rattle.vsi_lattice.specs.declared.lattice.Lattice.{Lattice}
use Rattle.vsi_documents.specs.declared.shape.Shape.{Shape}
use Rattle.vsi_documents.specs.declared.shape.Shape.TheVariants.{Two, Levels, Diamond, Powerset}

-- The name of a shape.
abbrev pub shape_name : Shape → List ℕ
shape_name Two = codes "two"
shape_name Levels = codes "levels"
shape_name Diamond = codes "diamond"
shape_name Powerset = codes "powerset"

-- ---- the number of classes.

-- The count if the condition holds.
abbrev pub only : Bool → ℕ → Option ℕ
only holds count = if holds then Some count else None

-- The number of sets of 1 to 6 names.
abbrev pub set_count : ℕ → Option ℕ
set_count names = only (nat_le 1 names && nat_le names 6) (2 ^ names)

-- The number of classes of a shape with this many names, if the shape allows that many.
abbrev pub count_of : Shape → ℕ → Option ℕ
count_of Two names = only (names == 0) 2
count_of Levels names = only (nat_le 1 names && nat_le names 64) names
count_of Diamond names = only (names == 4) 4
count_of Powerset names = set_count names

-- ---- the names of classes. A class is a number below the count.

-- The name at a position.
abbrev pub given_name : List (List ℕ) → ℕ → List ℕ
given_name given class = get_or given class []

-- A name after others, with `_` between.
abbrev pub joined : List ℕ → List ℕ → List ℕ
joined [] name = name
joined (byte ∷ front) name = (byte ∷ front) ++ 95 ∷ name

-- The names that belong to a set, joined after those before them. The first name belongs to it if the lowest binary
-- digit of the set's number is 1, the second by the next digit, and so on.
abbrev pub members : List ℕ → List (List ℕ) → ℕ → List ℕ
members front [] set = front
members front (name ∷ rest) set = members (if set % 2 == 1 then joined front name else front) rest (set / 2)

-- `none` in place of an empty name.
abbrev pub or_none : List ℕ → List ℕ
or_none [] = codes "none"
or_none (byte ∷ name) = byte ∷ name

-- The name of a set of names.
abbrev pub set_name : List (List ℕ) → ℕ → List ℕ
set_name given set = or_none (members [] given set)

-- The name of a class of a shape with these names.
abbrev pub class_name : Shape → List (List ℕ) → ℕ → List ℕ
class_name Two given class = given_name (codes "L" ∷ codes "H" ∷ []) class
class_name Levels given class = given_name given class
class_name Diamond given class = given_name given class
class_name Powerset given class = set_name given class

-- ---- the order of classes.

-- Each of the lowest binary digits that is 1 in the first number is 1 in the second too.
abbrev pub is_within : ℕ → ℕ → ℕ → Bool
is_within zero low high = true
is_within (suc digits) low high = nat_le (low % 2) (high % 2) && is_within digits (low / 2) (high / 2)

-- A class of a shape with this many names is at or below another: for levels a lower one, for a diamond the first or
-- any below the last, and for sets one whose names all belong to the other.
abbrev pub is_below : Shape → ℕ → ℕ → ℕ → Bool
is_below Two names low high = nat_le low high
is_below Levels names low high = nat_le low high
is_below Diamond names low high = low == high || low == 0 || high == 3
is_below Powerset names low high = is_within names low high

-- The classes at or above this one are the same as in the shape.
abbrev pub AgreesAbove : Shape → ℕ → Order → ℕ → Type 0
AgreesAbove shape count order low =
    (high : ℕ) → IsClass order high → order.leq low high ≡ is_below shape count low high

-- The order is the order of the shape.
abbrev pub HasOrder : Shape → ℕ → Order → Type 0
HasOrder shape count order = (low : ℕ) → IsClass order low → AgreesAbove shape count order low

-- The classes have the shape's names, in order.
abbrev pub HasClasses : Shape → List (List ℕ) → Lattice → Type 0
HasClasses shape given l =
    (class : ℕ) → IsClass (order l) class → class_named l (class_name shape given class) ≡ Some class

-- The lattice has exactly the classes of a shape with these names, and its order.
pub record IsShaped (shape : Shape) (given : List (List ℕ)) (l : Lattice) : Type 0 where
  pub count : count_of shape (length given) ≡ Some (order l).count
  pub classes : HasClasses shape given l
  pub ordered : HasOrder shape (length given) (order l)

-- The text is a lattice file of the shape that the first argument names, with the other arguments as names.
pub record IsShapedText (arguments : List (List ℕ)) (text : List ℕ) : Type 0 where
  pub shape : Shape
  pub given : List (List ℕ)
  pub named : arguments ≡ shape_name shape ∷ given
  pub lattice : Lattice
  pub read : IsRead text (names lattice) (order lattice)
  pub shaped : IsShaped shape given lattice
