use Rattle.std.proofs.Common.{◌≡◌, ◌++◌, drop}
use Rattle.vsi_image.specs.Listing.{code_lines}
use Rattle.vsi_image.proofs.instr.put_code.Given as goal

abbrev pub invariant-loop-pc : goal.invariant-loop-pc
invariant-loop-pc l = l.out.items ++ code_lines l.pc (drop l.pc l.code) ≡ l.fn.out.items ++ code_lines 0 l.code
