use Rattle.std.proofs.Common.{◌≡◌, ℕ, ◌<◌, ◌≤◌, ◌==◌, drop, false}
use Rattle.vsi_image.specs.Effects.{depth_at}
use Rattle.vsi_image.specs.Faults.{first_from, own_fault}
use Rattle.vsi_image.specs.Marks.{marked}
use Rattle.vsi_image.proofs.verifier.check_each.Given as goal

abbrev pub invariant-loop-pc : goal.invariant-loop-pc
invariant-loop-pc l = record {
  rest :
      first_from (own_fault l.image) l.pc (drop l.pc l.image.code.items)
      ≡ first_from (own_fault l.image) 0 l.image.code.items;
  depth : l.depth ≡ depth_at l.image.code.items l.pc;
  small : l.depth ≤ 256;
  passed : (k : ℕ) → k < l.pc → marked l.marks k ≡ (depth_at l.image.code.items k == 0);
  ahead : (k : ℕ) → l.pc ≤ k → marked l.marks k ≡ false;
}
