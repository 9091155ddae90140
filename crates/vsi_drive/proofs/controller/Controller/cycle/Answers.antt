use Rattle.std.proofs.Common.{rules, arith}
use Rattle.std.proofs.lemmas.Grind.{common_steps}
use Rattle.vsi_image.specs.Fields.{globals}
use Rattle.vsi_drive.specs.Control.{control}
use Rattle.vsi_drive.specs.Settings.{settings_of}
use Rattle.vsi_drive.proofs.Shown.{shown_seen}
use Rattle.vsi_drive.proofs.Written.{cycle_written}
use Rattle.vsi_drive.proofs.controller.Controller.cycle.Goals as goal

pub returns-in-Halted-clause-line : goal.returns-in-Halted-clause-line
returns-in-Halted-clause-line c =
    let d = control c.args.self.now in
    let seen = shown_seen d (globals d.image.globals.items) c.store.result.now in
    rw (cycle_written d c.args.store.now c.as_slice.result.now (settings_of d c.args.line.now) (search rules))
    (first_of (search (rules, seen), grind (arith, common_steps, seen)))

pub returns-in-Halted-clause-store : goal.returns-in-Halted-clause-store
returns-in-Halted-clause-store c =
    let d = control c.args.self.now in
    rw (cycle_written d c.args.store.now c.as_slice.result.now (settings_of d c.args.line.now) (search rules))
    (search rules)
