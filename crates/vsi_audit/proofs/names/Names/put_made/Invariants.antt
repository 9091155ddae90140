use Rattle.std.proofs.Common.{◌≡◌, ◌∷◌, ◌++◌, replicate}
use Rattle.vsi_audit.proofs.names.Names.put_made.Given as goal

abbrev pub invariant-loop : goal.invariant-loop
invariant-loop l = l.out.items ≡ l.fn.out.items ++ (l.self.form.letter ∷ replicate l.counter 95)
