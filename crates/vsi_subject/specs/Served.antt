-- The output of a language server, and its line if the client doesn't end the conversation.
use Rattle.std.specs.Prelude.{ℕ, List, Option, codes}
use Rattle.std.specs.Io.KnownBytes.{Appends}
use Rattle.vsi_client.specs.Frames.{AreFrames}

-- Messages have been written, each after its length, and nothing else.
abbrev pub Serves : Option (List ℕ) → Option (List ℕ) → Type 0
Serves old new = (bytes : List ℕ) × AreFrames bytes × Appends old new bytes

-- The line about a conversation that ends without `shutdown` and `exit`.
abbrev pub unended_line : List ℕ
unended_line = codes "ended without shutdown and exit\n"
