use Rattle.vsi_scope.proofs.Marks.{of_program}
use Rattle.vsi_scope.proofs.laws.marks_follow_text.Goals as goal

pub returns : goal.returns
returns c = of_program
