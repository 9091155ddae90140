use Rattle.vsi_requests.proofs.selection.one_named.Goals as goal

pub returns-in-Some-clause-one : goal.returns-in-Some-clause-one
returns-in-Some-clause-one c = (c.in-Some.program.now, c.in-Some.ensures, c.from_ref.ensures.value)
