-- The classes that names denote.
use Rattle.std.specs.Prelude.{ℕ, List, Option}

-- The class that a name denotes, if any.
abbrev pub Known : Type 0
Known = List ℕ → Option ℕ
