-- The remainder of a command.
--   g  the number of globals
--   w  the locations that may be assigned
--   k  the number of locations in scope
--   n  the number of letvars before the command.
use Rattle.std.specs.Prelude.{◌≡◌, ℕ, ◌+◌, ◌≤◌, Bool, true, false, not, ◌⊎◌, List, [], ◌∷◌, ◌++◌, map, length, Option, Some, None, slice_get, pos}
use Rattle.vsi_scope.specs.declared.resolved.Entry.{Entry}
use Rattle.vsi_scope.specs.Language.{Number, Command, Skip, Assign, Sequence, If, While, Letvar, letvars}
use Rattle.vsi_opt.specs.Folding.{folded, truth_of, one, append}
use Rattle.vsi_scope.specs.Program.{Resolved}
use Rattle.vsi_scope.specs.View.{sequence}
use Rattle.vsi_opt.specs.Liveness.{Locations, with_bit, all_reads}
use Rattle.vsi_opt.specs.Optimised.{globals_alone}

-- Whether a guard whose truth may be known may be true.
abbrev pub may_be_true : Option Bool → Bool
may_be_true (Some b) = b
may_be_true None = true

-- Whether a guard whose truth may be known may be false.
abbrev pub may_be_false : Option Bool → Bool
may_be_false (Some b) = not b
may_be_false None = true

-- A list, or the empty one.
abbrev pub list_if : Bool → List ℕ → List ℕ
list_if true xs = xs
list_if false xs = []

-- The numbers of the letvars that remain of a command after folding, in order.
abbrev pub remaining : Command → ℕ → List ℕ
remaining Skip n = []
remaining (Assign l s e) n = []
remaining (Sequence a b) n = remaining a n ++ remaining b (n + letvars a)
remaining (If e a b) n =
    list_if (may_be_true (truth_of (folded e))) (remaining a n)
    ++ list_if (may_be_false (truth_of (folded e))) (remaining b (n + letvars a))
remaining (While e c) n = list_if (may_be_true (truth_of (folded e))) (remaining c n)
remaining (Letvar e c) n = n ∷ remaining c (n + 1)

-- A list consists of the entries at these positions of another, in this order.
abbrev pub HasEntries : List Entry → List Entry → List ℕ → Type 0
HasEntries ys xs ns = map Some ys ≡ map (slice_get xs) ns

-- A walk over a command has passed its letvars and added the numbers of those that remain.
abbrev pub Picks : Command → ℕ → ℕ → List ℕ → List ℕ → Type 0
Picks c n n' xs xs' = (n' ≡ n + letvars c) × (xs' ≡ xs ++ remaining c n)

-- The same if the command as a whole remains or is removed.
abbrev pub PicksIf : Bool → Command → ℕ → ℕ → List ℕ → List ℕ → Type 0
PicksIf b c n n' xs xs' = (n' ≡ n + letvars c) × (xs' ≡ xs ++ list_if b (remaining c n))

-- An assignment remains only if its location may be assigned, and is removed only if that isn't a global.
abbrev pub AssignmentRemains : ℕ → Locations → ℕ → Command → Command → Type 0
AssignmentRemains g w l c d = ((d ≡ one c) × (w l ≡ true)) ⊎ ((d ≡ Skip) × (g ≤ l))

-- A command d remains of a command, with the letvars of these numbers: each command keeps its position with its
-- expressions folded, except for removed assignments, for `if`s on a literal, which leave a branch, and for loops on
-- literal 0; a letvar's variable may be assigned if an expression of its scope reads it.
abbrev pub Remains : ℕ → Locations → ℕ → ℕ → Command → Command → List ℕ → Type 0
Remains g w k n Skip d ns = (d ≡ Skip) × (ns ≡ [])
Remains g w k n (Assign l s e) d ns = AssignmentRemains g w l (Assign l s (folded e)) d × (ns ≡ [])
Remains g w k n (Sequence a b) d ns =
    (a' : Command) × (b' : Command) × (xs : List ℕ) × (ys : List ℕ) ×
    Remains g w k n a a' xs × Remains g w k (n + letvars a) b b' ys × (d ≡ append a' b') × (ns ≡ xs ++ ys)
Remains g w k n (If e a b) d ns =
    ((truth_of (folded e) ≡ Some true) × Remains g w k n a d ns)
    ⊎ (((truth_of (folded e) ≡ Some false) × Remains g w k (n + letvars a) b d ns)
    ⊎ ((a' : Command) × (b' : Command) × (xs : List ℕ) × (ys : List ℕ) ×
    Remains g w k n a a' xs × Remains g w k (n + letvars a) b b' ys
    × (d ≡ one (If (folded e) a' b')) × (ns ≡ xs ++ ys)))
Remains g w k n (While e c) d ns =
    ((folded e ≡ Number (pos 0)) × (d ≡ Skip) × (ns ≡ []))
    ⊎ ((c' : Command) × Remains g w k n c c' ns × (d ≡ one (While (folded e) c')))
Remains g w k n (Letvar e c) d ns =
    (c' : Command) × (xs : List ℕ) × Remains g (with_bit w k (all_reads c k)) (k + 1) (n + 1) c c' xs
    × (d ≡ one (Letvar (folded e) c')) × (ns ≡ n ∷ xs)

-- The body of a program is a remainder of another's body, in which the globals may be assigned.
abbrev pub IsRemainder : Resolved → Resolved → Type 0
IsRemainder p r =
    let g = length p.globals in
    Remains g (globals_alone g) g 0 (sequence p.body) (sequence r.body) (remaining (sequence p.body) 0)

-- The entries of a program are those of the letvars that remain of another's body, in order.
abbrev pub KeepsEntries : Resolved → Resolved → Type 0
KeepsEntries p r = HasEntries r.letvars p.letvars (remaining (sequence p.body) 0)
