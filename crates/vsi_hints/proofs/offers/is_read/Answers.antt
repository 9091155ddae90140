use Rattle.vsi_hints.specs.Hints as spec
use Rattle.vsi_hints.proofs.offers.is_read.Goals as goal

pub returns-in_ok-is_expression-in_default : goal.returns-in_ok-is_expression-in_default
returns-in_ok-is_expression-in_default c = λ is. spec.expression _ (c.in_ok-is_expression-in_default.ensures is)

pub returns-in_ok-is_program-in-Commands : goal.returns-in_ok-is_program-in-Commands
returns-in_ok-is_program-in-Commands c = λ is. spec.commands _ (c.in_ok-is_program-in-Commands.ensures is)

pub returns-in_ok-declares-in-Declarations : goal.returns-in_ok-declares-in-Declarations
returns-in_ok-declares-in-Declarations c = λ is. spec.declarations _ (c.in_ok-declares-in-Declarations.ensures is)
