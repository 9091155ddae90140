-- Two classes in order.
use Rattle.std.proofs.Common.{◌≡◌, ℕ, zero, suc, ◌<◌, Bool, true, false, refl, sym, arith}
use Rattle.std.proofs.lemmas.Bool.{false≢true}
use Rattle.vsi_lattice.specs.Order.{Lattice, IsLattice, HasJoin, HasMeet, Below}

-- The first class is at or below each class, and the second is at or below itself.
abbrev pub two_leq : ℕ → ℕ → Bool
two_leq zero b = true
two_leq (suc a) zero = false
two_leq (suc a) (suc b) = true

-- The order of the two classes.
abbrev pub two : Lattice
two = record { count = 2; leq = two_leq; bottom = 0; top = 1 }

-- A class is at or below itself.
itself : (a : ℕ) → two_leq a a ≡ true
itself zero = refl
itself (suc a) = refl

-- Every class is at or below one that isn't the lowest.
over : (a b : ℕ) → two_leq b (suc a) ≡ true
over a zero = refl
over a (suc b) = refl

-- Two classes that are at or below each other are equal.
one_way : (a b : ℕ) → a < 2 → b < 2 → two_leq a b ≡ true → two_leq b a ≡ true → a ≡ b
one_way zero zero la lb x y = refl
one_way zero (suc b) la lb x y = absurd (false≢true y)
one_way (suc a) zero la lb x y = absurd (false≢true x)
one_way (suc a) (suc b) la lb x y = omega (arith, la, lb)

-- The order is transitive.
on : (a b c : ℕ) → two_leq a b ≡ true → two_leq b c ≡ true → two_leq a c ≡ true
on zero b c x y = refl
on (suc a) zero c x y = absurd (false≢true x)
on (suc a) (suc b) zero x y = absurd (false≢true y)
on (suc a) (suc b) (suc c) x y = refl

-- Two classes have a join.
join : (a b : ℕ) → a < 2 → b < 2 → HasJoin 2 (Below two) a b
join zero b la lb = (
  b,
  record { within = lb; left = refl; right = itself b; least = λ d ld x y. y },
)
join (suc a) b la lb = (
  suc a,
  record { within = la; left = refl; right = over a b; least = λ d ld x y. x },
)

-- Two classes have a meet.
meet : (a b : ℕ) → a < 2 → b < 2 → HasMeet 2 (Below two) a b
meet zero b la lb = (
  0,
  record { within = la; left = refl; right = refl; greatest = λ d ld x y. x },
)
meet (suc a) b la lb = (
  b,
  record { within = lb; left = over a b; right = itself b; greatest = λ d ld x y. y },
)

-- All classes are at or below the upper one.
highest : (a : ℕ) → two_leq a 1 ≡ true
highest zero = refl
highest (suc a) = refl

-- The two classes are a lattice.
pub two_laws : IsLattice two
two_laws = record {
  reflexive = λ a la. itself a;
  antisymmetric = one_way;
  transitive = λ a b c la lb lc. on a b c;
  joins = join;
  meets = meet;
  bottom_within = omega arith;
  bottom_least = λ a la. refl;
  top_within = omega arith;
  top_greatest = λ a la. highest a;
}
