-- Names of classes, and their positions in a list.
use Rattle.std.specs.Prelude.{◌≡◌, ℕ, suc, ◌<◌, ◌⊎◌, List, [], ◌∷◌, length, map, get_or, option_map, unwrap_or, bytes_eq, if◌then◌else◌, Option, Some, None, IsFalse, String, string_bytes}
use Rattle.std.specs.Borrow.{Bor}
use Rattle.std.specs.declared.alloc.Global.{Global}
use Rattle.vsi_syntax.specs.Words.{is_name}

-- The texts that references point to.
abbrev pub texts : List (Bor (List ℕ)) → List (List ℕ)
texts rs = map (λ r. r.now) rs

-- The pairs of texts that pairs of references point to.
abbrev pub text_pairs : List (Bor (List ℕ) × Bor (List ℕ)) → List (List ℕ × List ℕ)
text_pairs rs = map (λ p. (p.0.now, p.1.now)) rs

-- The bytes of owned texts.
abbrev pub owned : List (String Global) → List (List ℕ)
owned names = map string_bytes names

-- The first position of a name.
abbrev pub place_in : List (List ℕ) → List ℕ → Option ℕ
place_in [] x = None
place_in (y ∷ ys) x = if bytes_eq y x then Some 0 else option_map suc (place_in ys x)

-- The property holds at i, and at no position before.
pub record IsLeast (P : ℕ → Type 0) (i : ℕ) : Type 0 where
  pub holds : P i
  pub before : (k : ℕ) → k < i → ¬ (P k)

-- The property holds at no position.
abbrev pub Never : (ℕ → Type 0) → Type 0
Never P = (i : ℕ) → ¬ (P i)

-- The text at i is not a valid name.
abbrev pub IsBadName : List (List ℕ) → ℕ → Type 0
IsBadName names i = (i < length names) × IsFalse (is_name (get_or names i []))

-- The name is in the list.
abbrev pub StandsIn : List (List ℕ) → List ℕ → Type 0
StandsIn names x = (j : ℕ) × (j < length names) × (get_or names j [] ≡ x)

-- The name at i appears earlier.
abbrev pub StandsEarlier : List (List ℕ) → ℕ → Type 0
StandsEarlier names i = (j : ℕ) × (j < i) × (i < length names) × (get_or names j [] ≡ get_or names i [])

-- One of the two names has no position.
abbrev pub IsUnknown : List (List ℕ) → List ℕ × List ℕ → Type 0
IsUnknown names p = (place_in names p.0 ≡ None) ⊎ (place_in names p.1 ≡ None)

-- One of the names of the pair at i has no position.
abbrev pub IsUnknownAt : List (List ℕ) → List (List ℕ × List ℕ) → ℕ → Type 0
IsUnknownAt names pairs i = (i < length pairs) × IsUnknown names (get_or pairs i ([], []))

-- The positions of the two names, or the count for one that has none.
abbrev pub number_of : List (List ℕ) → List ℕ × List ℕ → ℕ × ℕ
number_of names p = (unwrap_or (place_in names p.0) (length names), unwrap_or (place_in names p.1) (length names))
