-- Messages that have been written.
use Rattle.std.proofs.Common.{◌++◌, ℕ, List, [], Option, inl, inr}
use Rattle.std.specs.Io.KnownBytes.{Appends}
use Rattle.std.proofs.KnownBytes.{Appends-kept, Appends-nil, Appends-trans}
use Rattle.vsi_drive.proofs.Outputs.{text_then}
use Rattle.vsi_lsp.proofs.Framing.{both_framed, none_framed}
use Rattle.vsi_client.specs.Frames.{AreFrames}
use Rattle.vsi_subject.specs.Partly.{Partly}
use Rattle.vsi_subject.specs.Served.{Serves}
use Rattle.vsi_subject.proofs.Partly.{whole_part}

-- More messages have been written after some.
pub served_on : (old between new : Option (List ℕ)) → Serves old between → Serves between new → Serves old new
served_on old between new (a, first, written) (b, second, more) =
    (a ++ b, both_framed a b first second, Appends-trans old between new a b written more)

-- Whole messages are a part of messages.
pub served_partly : (old new : Option (List ℕ)) → Serves old new → Partly AreFrames old new
served_partly old new (a, framed, written) = inr (a, framed, whole_part a old new written)

-- A part of messages after some messages is a part of messages.
pub part_on : (old between new : Option (List ℕ)) → Serves old between → Partly AreFrames between new →
    Partly AreFrames old new
part_on old between new (a, first, written) (inl kept) =
    inr (a, first, whole_part a old new (Appends-kept old between new a written kept))
part_on old between new (a, first, written) (inr (b, second, part)) =
    inr (a ++ b, both_framed a b first second, text_then old between new a b written part)
