-- The limits of a program over locations.
use Rattle.std.specs.Prelude.{ℕ}

-- The most globals that a program may have.
abbrev pub max_globals : ℕ
max_globals = 256

-- The most declarations that a program may have, globals and `letvar`s together.
abbrev pub max_declarations : ℕ
max_declarations = 1024

-- The greatest size of a program's body.
abbrev pub max_size : ℕ
max_size = 65534
