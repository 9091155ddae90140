use Rattle.vsi_client.specs.Frames as spec
use Rattle.vsi_lsp.proofs.document.framed.Given as goal

-- The bytes so far are messages.
abbrev pub invariant-loop-message : goal.invariant-loop-message
invariant-loop-message l = spec.AreFrames l.out.items
