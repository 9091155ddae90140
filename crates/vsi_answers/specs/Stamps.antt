-- The walk that finds the loops whose guard nothing in their body changes. An assignment stamps its location with the
-- number of loops that have begun, so the body of a loop assigns a location exactly if, at its end, that location has a
-- stamp above the number of loops that began before it.
use Rattle.std.specs.Prelude.{◌≡◌, ℕ, zero, suc, ◌<◌, ◌≤◌, nat_lt, Bool, false, ◌||◌, List, [], ◌∷◌, ◌++◌, length, get_or}
use Rattle.vsi_scope.specs.Language.{Expression, Number, Location, Operator, Command}
use Rattle.vsi_answers.specs.Warned.{assigned, unchanged}

-- The stamp of a location, which is 0 past the end of the list.
abbrev pub stamp : List ℕ → ℕ → ℕ
stamp ss l = get_or ss l 0

-- The stamps after location l has the stamp s.
abbrev pub stamped : List ℕ → ℕ → ℕ → List ℕ
stamped [] zero s = s ∷ []
stamped [] (suc l) s = 0 ∷ stamped [] l s
stamped (x ∷ ss) zero s = s ∷ ss
stamped (x ∷ ss) (suc l) s = x ∷ stamped ss l s

-- An expression reads a location that has a stamp above s.
abbrev pub reads_above : List ℕ → ℕ → Expression → Bool
reads_above ss s (Number n) = false
reads_above ss s (Location l p) = nat_lt s (stamp ss l)
reads_above ss s (Operator o a b) = reads_above ss s a || reads_above ss s b

-- No stamp is above s.
abbrev pub AreUpTo : List ℕ → ℕ → Type 0
AreUpTo ss s = (l : ℕ) → stamp ss l ≤ s

-- For each s below n, the locations that have a stamp above s after a command are those that had one before it and
-- those that it assigns.
abbrev pub AreMarked : Command → ℕ → List ℕ → List ℕ → Type 0
AreMarked c n ss ts = (s l : ℕ) → s < n → nat_lt s (stamp ts l) ≡ (nat_lt s (stamp ss l) || assigned c l)

-- A walk over a command adds an answer for each of its loops, and leaves the stamps of its assignments.
abbrev pub IsWalked : Command → List Bool → List ℕ → List Bool → List ℕ → Type 0
IsWalked c xs ss ys ts =
    (length xs ≤ length ys)
    × (AreUpTo ss (length xs) →
    (ys ≡ xs ++ unchanged c) × AreUpTo ts (length ys) × AreMarked c (length xs) ss ts)
