use Rattle.vsi_audit.proofs.names.unknown_class.Given as goal

abbrev pub invariant-loop-i : goal.invariant-loop-i
invariant-loop-i l = Unit {0}
