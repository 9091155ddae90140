use Rattle.std.proofs.Common.{All}
use Rattle.vsi_lsp.specs.Severity.{IsError}
use Rattle.vsi_lsp.proofs.diagnostics.judged_errors.Given as goal

-- Each object so far is an error.
abbrev pub invariant-loop-flow : goal.invariant-loop-flow
invariant-loop-flow l = All IsError l.errors.items
