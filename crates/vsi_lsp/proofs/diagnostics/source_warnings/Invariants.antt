use Rattle.std.proofs.Common.{All}
use Rattle.vsi_lsp.specs.Severity.{IsWarning}
use Rattle.vsi_lsp.proofs.diagnostics.source_warnings.Given as goal

-- Each object so far is a warning.
abbrev pub invariant-loop-warning : goal.invariant-loop-warning
invariant-loop-warning l = All IsWarning l.objects.items
