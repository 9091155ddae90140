-- Levels of a growing set: the places that have a number, and those that come next.
use Rattle.std.specs.Prelude.{◌≡◌, ℕ, ◌+◌, ◌<◌, ◌≤◌, Bool, true, false, cond, List, length, slice_index}
use Rattle.vsi_infer.specs.Distances.{Leads, none, unreached}

-- The places of a set have the number, and the others are unchanged.
pub record IsNumbered (has : ℕ → Bool) (level : ℕ) (old new : List ℕ) : Type 0 where
  pub len : length new ≡ length old
  pub inside : (v : ℕ) → has v ≡ true → slice_index new v ≡ level
  pub outside : (v : ℕ) → has v ≡ false → slice_index new v ≡ slice_index old v

-- A set has exactly the places that flow to a place of another set.
pub record IsCollected (flows : ℕ → ℕ → Bool) (front next : ℕ → Bool) : Type 0 where
  pub whole : (a b : ℕ) → front b ≡ true → flows a b ≡ true → next a ≡ true
  pub sound : (a : ℕ) → next a ≡ true → (b : ℕ) × (front b ≡ true) × (flows a b ≡ true)

-- The places of a set below v have the number, and the places that flow to them are collected.
pub record IsSpread (flows : ℕ → ℕ → Bool) (front : ℕ → Bool) (level v : ℕ) (old far : List ℕ) (next : ℕ → Bool)
    (more : Bool) : Type 0 where
  pub len : length far ≡ length old
  pub inside : (u : ℕ) → u < v → front u ≡ true → slice_index far u ≡ level
  pub outside : (u : ℕ) → front u ≡ false → slice_index far u ≡ slice_index old u
  pub ahead : (u : ℕ) → v ≤ u → slice_index far u ≡ slice_index old u
  pub whole : (a b : ℕ) → b < v → front b ≡ true → flows a b ≡ true → next a ≡ true
  pub sound : (a : ℕ) → next a ≡ true → (b : ℕ) × (front b ≡ true) × (flows a b ≡ true)
  pub fewer : unreached far + cond more 1 0 ≤ unreached old
  pub quiet : more ≡ false → (u : ℕ) → u < v → front u ≡ false

-- Places that are fewer flows than the level from place b have numbers; `front` has those that flow to the last ones.
pub record IsLevel (flows : ℕ → ℕ → Bool) (count b level : ℕ) (far : List ℕ) (reached front : ℕ → Bool)
    : Type 0 where
  pub some : 1 ≤ level
  pub len : length far ≡ count
  pub sound : (v : ℕ) → v < count → slice_index far v < none → Leads flows (slice_index far v) v b
  pub below : (v : ℕ) → v < count → slice_index far v < none → slice_index far v < level
  pub least : (n v : ℕ) → n < level → Leads flows n v b → slice_index far v ≤ n
  pub reached_numbered : (v : ℕ) → v < count → reached v ≡ true → slice_index far v < none
  pub unreached_free : (v : ℕ) → v < count → v < 1024 → reached v ≡ false → slice_index far v ≡ none
  pub whole : (a c : ℕ) → slice_index far c + 1 ≡ level → flows a c ≡ true → front a ≡ true
  pub sources : (a : ℕ) → front a ≡ true → (c : ℕ) × (slice_index far c + 1 ≡ level) × (flows a c ≡ true)
  pub bound : level + unreached far ≤ count
