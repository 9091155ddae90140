-- The sites of a command, at which a run takes steps.
use Rattle.std.specs.Prelude.{ℕ, ◌+◌}
use Rattle.vsi_scope.specs.Language.{Command, Skip, Assign, Sequence, If, While, Letvar}

-- The number of sites: one for each assignment, `if`, `while` and `letvar`. They are numbered in the order of the text.
abbrev pub sites : Command → ℕ
sites Skip = 0
sites (Assign l s e) = 1
sites (Sequence a b) = sites a + sites b
sites (If e a b) = 1 + sites a + sites b
sites (While e c) = 1 + sites c
sites (Letvar e c) = 1 + sites c
