use Rattle.std.proofs.Common.{◌≡◌, ◌++◌, take}
use Rattle.std.specs.List.{flat_map}
use Rattle.vsi_lsp.specs.Titles.{further_words}
use Rattle.vsi_lsp.proofs.repairs.title_of.Given as goal

-- The title with the first raise, and then the further ones so far.
abbrev pub invariant-loop-raise : goal.invariant-loop-raise
invariant-loop-raise l =
    l.title.items
    ≡ l.initial.title.items ++ flat_map (further_words l.lattice l.program) (take l.raise-index l.rest)
