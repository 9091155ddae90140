use Rattle.vsi_compiler.proofs.Held.{declared_at, globals_at}
use Rattle.vsi_requests.proofs.Stepped.{refused_choice}
use Rattle.vsi_requests.proofs.choices.choice_of.Goals as goal

pub infer_in-requires-clause-globals : goal.infer_in-requires-clause-globals
infer_in-requires-clause-globals c =
    globals_at _ c.resolved-program.ensures.kept _ _ c.lattice-lattice.ensures c.resolved-program.ensures.value

pub infer_in-requires-clause-declared : goal.infer_in-requires-clause-declared
infer_in-requires-clause-declared c =
    declared_at _ c.resolved-program.ensures.kept _ _ c.lattice-lattice.ensures c.resolved-program.ensures.value

pub reached_choice-requires : goal.reached_choice-requires
reached_choice-requires c =
    declared_at _ c.resolved-program.ensures.kept _ _ c.lattice-lattice.ensures c.resolved-program.ensures.value

pub returns-in-Err-Refused : goal.returns-in-Err-Refused
returns-in-Err-Refused c =
    refused_choice c.args.source.now c.lattice-lattice.result.now c.resolved-program.result.now c.reached_choice.result
    c.resolved-program.ensures.kept c.lattice-lattice.ensures c.resolved-program.ensures.value c.in-Err-Refused.field-0-0
    (rw c.in-Err-Refused.field-0-is at c.in-Err-Refused.ensures.refused) c.reached_choice.ensures.kept
    c.reached_choice.ensures.classes
