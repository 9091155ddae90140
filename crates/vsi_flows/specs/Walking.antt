-- Tables whose lines are made a pair at a time.
use Rattle.std.specs.Prelude.{◌↔◌, map}
use Rattle.std.specs.List.{All, Contains}
use Rattle.vsi_lattice.specs.LatticeView.{order}
use Rattle.vsi_types.specs.Security.{program, steps_of}
use Rattle.vsi_infer.specs.Flowing.{size_of}
use Rattle.vsi_infer.specs.Lines.{IsMarkOf}
use Rattle.vsi_compiler.specs.SourceView.{IsSource}
use Rattle.vsi_flows.specs.Rows.{AreRowsOf}
use Rattle.vsi_flows.specs.Table.{AreAllowed, HasChoice, IsTable}
use Rattle.vsi_flows.specs.Walks.{IsFound}
use Rattle.vsi_flows.specs.declared.text.WalkTable.{WalkTable}
use Rattle.vsi_flows.specs.declared.text.Walks.{Walks}

-- The pairs are those of the source text's program under the profile, and decide whether a choice of classes types it;
-- the rows are its distances, and the known steps are its steps.
pub record IsWalkTable (t : WalkTable) : Type 0 where
  pub source : IsSource t.source.now
  pub distances :
      AreRowsOf (order t.source.now.lattice) t.profile (program t.source.now.resolved) (map (λ r. r.items) t.rows.items)
  pub table : IsTable (order t.source.now.lattice) t.profile (program t.source.now.resolved) t.pairs.items
  pub verdict : AreAllowed t.pairs.items ↔ HasChoice (order t.source.now.lattice) t.profile (program t.source.now.resolved)
  pub known : All (Contains (steps_of t.profile (program t.source.now.resolved))) t.known.steps.items

-- Each pair of the table has a finder for its walk, and the marks are those of the source text.
pub record AreWalks (w : Walks) : Type 0 where
  pub table : IsWalkTable w.table.now
  pub finds :
      All
      (IsFound (steps_of w.table.now.profile (program w.table.now.source.now.resolved))
      (size_of (program w.table.now.source.now.resolved)) w.found.items)
      w.table.now.pairs.items
  pub marked : All (IsMarkOf w.table.now.source.now.text) w.marks.items
