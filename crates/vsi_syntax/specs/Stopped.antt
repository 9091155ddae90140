-- The relation between the answer of a reader inside `parse` and the result of reading: a stepping stone of the proof.
use Rattle.std.specs.Prelude.{◌≡◌, ℕ, Option, Some, None, Result, Ok, Err}
use Rattle.vsi_syntax.specs.declared.token.Token.{Token}
use Rattle.vsi_syntax.specs.declared.parser.Fault.{Fault}
use Rattle.vsi_syntax.specs.declared.parser.Fault.TheVariants as fault
use Rattle.vsi_syntax.specs.declared.parser.ParseError.{ParseError}
use Rattle.vsi_syntax.specs.declared.parser.ParseError.TheVariants as errors

-- A fault other than lack of memory means that reading gives nothing.
abbrev pub Fails : {Y : Type 0} → Fault → Option Y → Type 0
Fails fault.Memory read = Unit {0}
Fails (fault.Unexpected _) read = read ≡ None
Fails (fault.TooDeep _) read = read ≡ None

-- A reader's returned value, seen by `view`, is the result of reading, unless memory ran out.
abbrev pub Gives : {X Y : Type 0} → (X → Y) → Result X Fault → Option Y → Type 0
Gives view (Ok x) read = read ≡ Some (view x)
Gives view (Err e) read = Fails e read

-- The number of tokens left when reading ended.
abbrev pub left_of : Fault → ℕ
left_of fault.Memory = 0
left_of (fault.Unexpected left) = left
left_of (fault.TooDeep left) = left

-- The error corresponds to the fault, at this token.
abbrev pub StandsAt : Token → Fault → ParseError → Type 0
StandsAt token fault.Memory errors.Memory = Unit {0}
StandsAt token (fault.Unexpected _) (errors.Unexpected span) = span ≡ token.span
StandsAt token (fault.TooDeep _) (errors.TooDeep span) = span ≡ token.span
StandsAt token _ _ = ⊥
