use Rattle.std.proofs.Common.{refl}
use Rattle.vsi_requests.proofs.selection.chosen.Goals as goal

pub returns-in_default-clause-chosen : goal.returns-in_default-clause-chosen
returns-in_default-clause-chosen c = rw c.in_default.is refl

pub returns-clause-chosen : goal.returns-clause-chosen
returns-clause-chosen c = rw c.in-Some.is c.one_named.ensures.one
