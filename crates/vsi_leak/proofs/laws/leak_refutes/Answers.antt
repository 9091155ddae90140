use Rattle.vsi_leak.proofs.Leaks as law
use Rattle.vsi_leak.proofs.laws.leak_refutes.Goals as goal

pub returns : goal.returns
returns c = law.leak_refutes
