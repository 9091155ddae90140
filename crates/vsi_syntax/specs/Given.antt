-- The relation between a function's answer and the result of reading.
use Rattle.std.specs.Prelude.{◌≡◌, Option, Some, None, Result, Ok, Err}
use Rattle.vsi_syntax.specs.declared.parser.ParseError.{ParseError}
use Rattle.vsi_syntax.specs.declared.parser.ParseError.TheVariants as errors

-- An error other than lack of memory means that reading gives nothing.
abbrev pub Fails : {Y : Type 0} → ParseError → Option Y → Type 0
Fails errors.Memory read = Unit {0}
Fails (errors.Unexpected _) read = read ≡ None
Fails (errors.TooDeep _) read = read ≡ None

-- The returned value, seen by `view`, is the result of reading, unless memory ran out.
abbrev pub Gives : {X Y : Type 0} → (X → Y) → Result X ParseError → Option Y → Type 0
Gives view (Ok x) read = read ≡ Some (view x)
Gives view (Err e) read = Fails e read
