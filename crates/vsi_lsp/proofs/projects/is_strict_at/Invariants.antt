use Rattle.std.proofs.Common.{take}
use Rattle.std.specs.List.{All}
use Rattle.vsi_lsp.specs.Ways.{IsStrictAt}
use Rattle.vsi_lsp.proofs.projects.is_strict_at.Given as goal

-- No program so far is strict and at the path.
abbrev pub invariant-loop-program : goal.invariant-loop-program
invariant-loop-program l = All (λ p. IsStrictAt l.path p → ⊥) (take l.program-index l.programs)
