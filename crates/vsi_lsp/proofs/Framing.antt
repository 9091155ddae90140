-- Streams of messages.
use Rattle.std.proofs.Common.{◌≡◌, ◌∙◌, ◌++◌, ◌∷◌, ℕ, List, [], refl, sym, ap}
use Rattle.vsi_client.specs.Frames.{AreFrames, frame, frames}
use Rattle.std.proofs.lemmas.List.{append_assoc, append-nil}

-- The messages of two streams, one after the other.
frames_joined : (a b : List (List ℕ)) → frames (a ++ b) ≡ frames a ++ frames b
frames_joined [] b = refl
frames_joined (body ∷ bodies) b =
    ap (λ rest. frame body ++ rest) (frames_joined bodies b)
    ∙ sym (append_assoc (frame body) (frames bodies) (frames b))

-- No message.
pub none_framed : AreFrames []
none_framed = ([], refl)

-- Two streams, one after the other, are a stream.
pub both_framed : (a b : List ℕ) → AreFrames a → AreFrames b → AreFrames (a ++ b)
both_framed a b (x, is) (y, are) = (x ++ y, rw (is, are) (sym (frames_joined x y)))

-- One message more.
pub one_framed : (a : List ℕ) (body : List ℕ) → AreFrames a → AreFrames (a ++ frame body)
one_framed a body are = both_framed a (frame body) are (body ∷ [], sym (append-nil (frame body)))
