-- The effect of a command on a store.
use Rattle.std.specs.Prelude.{◌≡◌, ℕ, zero, suc, List, [], ◌∷◌, ◌++◌, length, take, Option, Some, None, slice_index_or, slice_set, ℤ, pos, negsuc}
use Rattle.vsi_scope.specs.Language.{Expression, Number, Location, Operator, Command, Skip, Assign, Sequence, If, While, Letvar}
use Rattle.vsi_syntax.specs.Operators.{apply}

-- A store: the words of its locations, in order.
abbrev pub Store : Type 0
Store = List ℤ

-- The value of an expression in a store.
abbrev pub value : Expression → Store → ℤ
value (Number n) m = n
value (Location l s) m = slice_index_or m l (pos 0)
value (Operator o a b) m = apply o (value a m) (value b m)

-- The first if the word is 0, else the second.
abbrev pub at_zero : ℤ → Option Store → Option Store → Option Store
at_zero (pos zero) a b = a
at_zero (pos (suc n)) a b = b
at_zero (negsuc n) a b = b

-- The next step continues from the store, if there is one.
abbrev pub and_then : Option Store → (Store → Option Store) → Option Store
and_then None go = None
and_then (Some m) go = go m

-- The store truncated to its first k words.
abbrev pub drop_past : ℕ → Option Store → Option Store
drop_past k None = None
drop_past k (Some m) = Some (take k m)

-- A loop of at most n turns.
abbrev pub turns : ℕ → (Store → ℤ) → (Store → Option Store) → Store → Option Store
turns zero guard body m = at_zero (guard m) (Some m) None
turns (suc n) guard body m = at_zero (guard m) (Some m) (and_then (body m) (turns n guard body))

-- The store after a command in which each loop takes at most n turns whenever it runs, else none.
abbrev pub runs : ℕ → Command → Store → Option Store
runs n Skip m = Some m
runs n (Assign l s e) m = Some (slice_set m l (value e m))
runs n (Sequence a b) m = and_then (runs n a m) (runs n b)
runs n (If e a b) m = at_zero (value e m) (runs n b m) (runs n a m)
runs n (While e c) m = turns n (value e) (runs n c) m
runs n (Letvar e c) m = drop_past (length m) (runs n c (m ++ value e m ∷ []))

-- A command evaluates one store to another if some number of turns is enough.
abbrev pub Evaluates : Command → Store → Store → Type 0
Evaluates c m m' = (n : ℕ) × (runs n c m ≡ Some m')
