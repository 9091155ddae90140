use Rattle.std.proofs.Common.{rules, append_assoc}
use Rattle.vsi_requests.proofs.surveys.put_summary.Goals as goal

pub returns : goal.returns
returns c = search (rules, append_assoc)
