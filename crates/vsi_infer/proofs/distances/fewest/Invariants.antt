use Rattle.std.proofs.Common.{◌≡◌, ◌<◌, ◌≤◌, ◌⊎◌, ℕ, map, Some, slice_get}
use Rattle.vsi_infer.specs.Shortest.{far_at}
use Rattle.vsi_infer.proofs.distances.fewest.Given as goal

abbrev pub invariant-loop-v : goal.invariant-loop-v
invariant-loop-v l = record {
  lower : (v c : ℕ) → v < l.v → slice_get l.declared v ≡ Some (Some c)
      → l.best ≤ far_at (map (λ r. r.items) l.rows) c v;
  attained : (l.best ≡ 65535) ⊎ ((v : ℕ) × (c : ℕ) × (slice_get l.declared v ≡ Some (Some c))
      × (far_at (map (λ r. r.items) l.rows) c v ≡ l.best));
}
