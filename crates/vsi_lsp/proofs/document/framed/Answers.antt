use Rattle.std.proofs.Common.{subst, sym}
use Rattle.vsi_client.specs.Frames.{AreFrames}
use Rattle.vsi_lsp.proofs.Framing.{one_framed}
use Rattle.vsi_lsp.proofs.document.framed.Goals as goal

pub loop-message-preserved : goal.loop-message-preserved
loop-message-preserved c =
    subst AreFrames (sym c.in_ok-put_frame.ensures) (one_framed c.loop-message.out.items _ c.loop-message.invariant)
