-- Errors and warnings, as objects of the language server protocol.
use Rattle.std.specs.Prelude.{◌≡◌, ℕ, Some, codes}
use Rattle.serde_json.specs.Data.{number, unsigned}
use Rattle.serde_json.specs.Find.{get}
use Rattle.serde_json.specs.View.{view}
use Rattle.serde_json.specs.declared.value.Value.{Value}

-- The object has this severity.
abbrev pub HasSeverity : ℕ → Value → Type 0
HasSeverity severity object = get (codes "severity") (view object) ≡ Some (number (unsigned severity))

-- The object is an error.
abbrev pub IsError : Value → Type 0
IsError object = HasSeverity 1 object

-- The object is a warning.
abbrev pub IsWarning : Value → Type 0
IsWarning object = HasSeverity 2 object
