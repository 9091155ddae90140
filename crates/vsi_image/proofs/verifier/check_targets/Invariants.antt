use Rattle.std.proofs.Common.{◌≡◌, drop}
use Rattle.vsi_image.specs.Faults.{first_from, target_fault}
use Rattle.vsi_image.proofs.verifier.check_targets.Given as goal

abbrev pub invariant-loop-pc : goal.invariant-loop-pc
invariant-loop-pc l =
    first_from (target_fault l.code) l.pc (drop l.pc l.code)
    ≡ first_from (target_fault l.code) 0 l.code
