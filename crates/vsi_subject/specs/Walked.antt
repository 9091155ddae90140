-- The table with walks that is written part by part.
use Rattle.std.specs.Prelude.{ℕ, List}
use Rattle.vsi_flows.specs.Text.{IsWalksText}
use Rattle.vsi_flows.specs.declared.text.Walks.{Walks}

-- The text is that of the table with these walks.
abbrev pub IsTextOf : Walks → List ℕ → Type 0
IsTextOf w text = IsWalksText w.table.now.source.now.lattice w.table.now.profile w.table.now.source.now.text text
