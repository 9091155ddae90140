use Rattle.vsi_scope.proofs.Evaluation.{one_answer}
use Rattle.vsi_scope.proofs.laws.one_answer.Goals as goal

pub returns : goal.returns
returns c = one_answer
