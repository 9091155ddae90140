-- The budgets of the runs of an interface together.
use Rattle.std.specs.Prelude.{ℕ, ◌+◌, List, [], ◌∷◌}
use Rattle.vsi_conform.specs.declared.interface.Interface.{Interface}
use Rattle.vsi_conform.specs.declared.interface.Trial.{Trial}

-- The number of instructions that these runs take together at most.
abbrev pub sum_of : List Trial → ℕ
sum_of [] = 0
sum_of (t ∷ ts) = t.budget + sum_of ts

-- The number of instructions that the runs of an interface take together at most.
abbrev pub total_of : Interface → ℕ
total_of i = sum_of i.trials.items
