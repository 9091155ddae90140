use Rattle.std.proofs.Common.{rules, ◌≡◌}
use Rattle.vsi_machine.specs.Runs.{globals_of}
use Rattle.vsi_leak.proofs.Counts.{ends, ends_so, halted}
use Rattle.vsi_leak.proofs.check.ending.Goals as goal

pub instructions_of-requires : goal.instructions_of-requires
instructions_of-requires c =
    halted c.args.verified.now c.args.store.now c.args.budget c.run.new.self.state (search rules) (search rules)

pub returns-in-Halted : goal.returns-in-Halted
returns-in-Halted c =
    let image = c.args.verified.now in
    let m = c.args.store.now in
    let words = c.in_ok-words-in-Halted.words.items in
    let state = c.run.new.self.state in
    let is : globals_of image state ≡ words = search rules in (
      c.in_ok-instructions-in-Halted.ensures.within,
      ends_so image m words c.in_ok-instructions-in-Halted.instructions c.args.budget
          c.in_ok-instructions-in-Halted.ensures.taken
          (ends image m c.args.budget state words (search rules) (search rules) is),
    )
