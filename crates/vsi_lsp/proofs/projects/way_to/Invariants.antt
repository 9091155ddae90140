use Rattle.std.proofs.Common.{◌≡◌, map, drop}
use Rattle.vsi_lsp.specs.Ways.{led_on, way}
use Rattle.vsi_lsp.proofs.projects.way_to.Given as goal

-- The rest of the path leads on from where its parts so far lead.
abbrev pub invariant-loop-part : goal.invariant-loop-part
invariant-loop-part l =
    led_on (map (λ n. n.now) l.names.items) (map (λ n. n.now) (drop l.part-index l.part-items)) ≡ way l.path
