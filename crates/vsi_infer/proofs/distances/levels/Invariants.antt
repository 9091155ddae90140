use Rattle.std.proofs.Common.{◌≡◌, ◌<◌, ◌⊎◌, ℕ, Some, map, length, get_or, slice_get, []}
use Rattle.vsi_infer.specs.Distances.{AreDistances}
use Rattle.vsi_infer.specs.Shortest.{goals_of}
use Rattle.vsi_infer.proofs.distances.levels.Given as goal

abbrev pub invariant-loop-v : goal.invariant-loop-v
invariant-loop-v g l =
    let L = g.C.Classes.lattice l.lattice in
    record {
      len : length l.rows.items ≡ L.count;
      each : (k : ℕ) → (get_or (map (λ r. r.items) l.rows.items) k [] ≡ [])
          ⊎ AreDistances (g.F.Flow.flows l.flow) (goals_of L.leq l.declared k)
          (get_or (map (λ r. r.items) l.rows.items) k []);
      done : (v c : ℕ) → v < l.v → slice_get l.declared v ≡ Some (Some c)
          → AreDistances (g.F.Flow.flows l.flow) (goals_of L.leq l.declared c)
          (get_or (map (λ r. r.items) l.rows.items) c []);
    }
