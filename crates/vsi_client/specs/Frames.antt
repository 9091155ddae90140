-- Messages in a stream, each after its length.
use Rattle.std.specs.Prelude.{◌≡◌, ℕ, List, [], ◌∷◌, ◌++◌, codes, decimal, length}

-- A message after a header with the number of its bytes.
abbrev pub frame : List ℕ → List ℕ
frame body = codes "Content-Length: " ++ decimal (length body) ++ codes "\r\n\r\n" ++ body

-- Messages, one after the other.
abbrev pub frames : List (List ℕ) → List ℕ
frames [] = []
frames (body ∷ bodies) = frame body ++ frames bodies

-- The bytes are messages, and nothing else.
abbrev pub AreFrames : List ℕ → Type 0
AreFrames bytes = (bodies : List (List ℕ)) × (bytes ≡ frames bodies)
