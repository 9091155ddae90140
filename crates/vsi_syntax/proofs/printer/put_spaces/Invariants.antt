use Rattle.std.proofs.Common.{◌≡◌, ◌++◌}
use Rattle.vsi_syntax.specs.Canon.{spaces}
use Rattle.vsi_syntax.proofs.printer.put_spaces.Given as goal

abbrev pub invariant-loop : goal.invariant-loop
invariant-loop l = l.out.items ≡ l.fn.out.items ++ spaces l.counter
