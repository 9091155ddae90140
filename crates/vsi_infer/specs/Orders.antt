-- The laws of a lattice that the search for classes needs.
use Rattle.std.specs.Prelude.{◌≡◌, ℕ, ◌<◌, Bool, true}

-- A partial order with a least and a greatest class.
pub record OrderLaws (size : ℕ) (leq : ℕ → ℕ → Bool) (bottom top : ℕ) : Type 0 where
  pub reflexive : (a : ℕ) → a < size → leq a a ≡ true
  pub transitive : (a b c : ℕ) → a < size → b < size → c < size → leq a b ≡ true → leq b c ≡ true → leq a c ≡ true
  pub antisymmetric : (a b : ℕ) → a < size → b < size → leq a b ≡ true → leq b a ≡ true → a ≡ b
  pub bottom_within : bottom < size
  pub bottom_least : (a : ℕ) → a < size → leq bottom a ≡ true
  pub top_within : top < size
  pub top_greatest : (a : ℕ) → a < size → leq a top ≡ true
