use Rattle.vsi_compiler.proofs.compiler.compile_in.Goals as goal

pub returns-clause-accepted : goal.returns-clause-accepted
returns-clause-accepted c = let s = c.in_ok-source.ensures in rw (← s.lattice, ← s.text) c.compile_source.ensures.accepted
