-- The errors of texts with raised classes, whose lack of memory is always their own.
use Rattle.std.specs.Prelude.{ℕ}
use Rattle.std.specs.Global.{Vec}
use Rattle.vsi_compiler.specs.declared.source.CompileError.{CompileError}
use Rattle.vsi_compiler.specs.declared.source.CompileError.TheVariants as compiler
use Rattle.vsi_flows.specs.declared.least.RaisedError.{RaisedError}
use Rattle.vsi_flows.specs.declared.least.RaisedError.TheVariants as raised

-- The error for a source text that is refused.
abbrev pub source_error : CompileError → RaisedError
source_error compiler.Memory = raised.Memory
source_error e = raised.Source e

-- The error for a text with raised classes that is refused.
abbrev pub raised_error : Vec ℕ → CompileError → RaisedError
raised_error text compiler.Memory = raised.Memory
raised_error text e = raised.Raised text e
