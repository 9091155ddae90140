-- The loops, letvars and globals that are warned of.
use Rattle.std.specs.Prelude.{ℕ, ◌+◌, Bool, true, false, not, ◌||◌, ◌&&◌, ◌==◌, List, [], ◌∷◌, ◌++◌}
use Rattle.vsi_scope.specs.Language.{Expression, Number, Location, Operator, Command, Skip, Assign, Sequence, If, While, Letvar}
use Rattle.vsi_opt.specs.Liveness.{reads}

-- A command assigns a location.
abbrev pub assigned : Command → ℕ → Bool
assigned Skip l = false
assigned (Assign k s e) l = k == l
assigned (Sequence a b) l = assigned a l || assigned b l
assigned (If e a b) l = assigned a l || assigned b l
assigned (While e c) l = assigned c l
assigned (Letvar e c) l = assigned c l

-- A command reads a location, or assigns it, where assignments count.
abbrev pub used : Bool → Command → ℕ → Bool
used counts Skip l = false
used counts (Assign k s e) l = (counts && k == l) || reads e l
used counts (Sequence a b) l = used counts a l || used counts b l
used counts (If e a b) l = reads e l || (used counts a l || used counts b l)
used counts (While e c) l = reads e l || used counts c l
used counts (Letvar e c) l = reads e l || used counts c l

-- An expression reads a location that a command assigns.
abbrev pub reads_assigned : Command → Expression → Bool
reads_assigned c (Number n) = false
reads_assigned c (Location l s) = assigned c l
reads_assigned c (Operator o a b) = reads_assigned c a || reads_assigned c b

-- For each loop, in the order of the text, whether its body assigns no location that its guard reads.
abbrev pub unchanged : Command → List Bool
unchanged Skip = []
unchanged (Assign l s e) = []
unchanged (Sequence a b) = unchanged a ++ unchanged b
unchanged (If e a b) = unchanged a ++ unchanged b
unchanged (While e c) = not (reads_assigned c e) ∷ unchanged c
unchanged (Letvar e c) = unchanged c

-- For each letvar, in the order of the text, whether no expression of its body reads its location, which is k where k
-- locations are in scope.
abbrev pub unread : ℕ → Command → List Bool
unread k Skip = []
unread k (Assign l s e) = []
unread k (Sequence a b) = unread k a ++ unread k b
unread k (If e a b) = unread k a ++ unread k b
unread k (While e c) = unread k c
unread k (Letvar e c) = not (used false c k) ∷ unread (k + 1) c

-- A command neither reads nor assigns a location.
abbrev pub is_unused : Command → ℕ → Bool
is_unused c l = not (used true c l)
