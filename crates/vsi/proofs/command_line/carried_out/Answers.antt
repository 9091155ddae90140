use Rattle.std.proofs.Common.{◌∙◌, [], ap, subst}
use Rattle.std.specs.Prelude.{IfErr, OnOk, Some, if◌then◌else◌}
use Rattle.vsi_drive.specs.Counted.{device_of}
use Rattle.vsi_subject.specs.Done.{Done, Failed}
use Rattle.vsi_subject.specs.Saved.{KeepsStateOf}
use Rattle.vsi.proofs.command_line.carried_out.Goals as goal

pub returns-then-reads_input-clause-done : goal.returns-then-reads_input-clause-done
returns-then-reads_input-clause-done g c =
    let remaining = g.R.Read.remaining (device_of c.args.input.now) in
    subst
    (λ given. OnOk c.carry_out.result
    (Done (g.F.Files.holds c.args.files.now) given c.args.words.now (g.F.Files.holds c.carry_out.new.files)
    (g.W.Write.contents (device_of c.args.output.now)) (g.W.Write.contents (device_of c.carry_out.new.output))))
    (ap (λ b. if b then remaining else Some []) c.if-reads_input.ensures)
    c.carry_out.ensures.done

pub returns-clause-done : goal.returns-clause-done
returns-clause-done g c =
    let remaining = g.R.Read.remaining (device_of c.args.input.now) in
    subst
    (λ given. OnOk c.carry_out-2.result
    (Done (g.F.Files.holds c.args.files.now) given c.args.words.now (g.F.Files.holds c.carry_out-2.new.files)
    (g.W.Write.contents (device_of c.args.output.now)) (g.W.Write.contents (device_of c.carry_out-2.new.output))))
    (ap (λ d. Some d.now) c.new-nothing.ensures.device
    ∙ ap (λ b. if b then remaining else Some []) c.if-reads_input.ensures)
    c.carry_out-2.ensures.done

pub returns-then-reads_input-clause-failed : goal.returns-then-reads_input-clause-failed
returns-then-reads_input-clause-failed g c =
    let remaining = g.R.Read.remaining (device_of c.args.input.now) in
    subst
    (λ given. IfErr c.carry_out.result
    (Failed (g.F.Files.holds c.args.files.now) given c.args.words.now
    (g.W.Write.contents (device_of c.args.output.now)) (g.W.Write.contents (device_of c.carry_out.new.output))))
    (ap (λ b. if b then remaining else Some []) c.if-reads_input.ensures)
    c.carry_out.ensures.failed

pub returns-clause-failed : goal.returns-clause-failed
returns-clause-failed g c =
    let remaining = g.R.Read.remaining (device_of c.args.input.now) in
    subst
    (λ given. IfErr c.carry_out-2.result
    (Failed (g.F.Files.holds c.args.files.now) given c.args.words.now
    (g.W.Write.contents (device_of c.args.output.now)) (g.W.Write.contents (device_of c.carry_out-2.new.output))))
    (ap (λ d. Some d.now) c.new-nothing.ensures.device
    ∙ ap (λ b. if b then remaining else Some []) c.if-reads_input.ensures)
    c.carry_out-2.ensures.failed

pub returns-then-reads_input-clause-state : goal.returns-then-reads_input-clause-state
returns-then-reads_input-clause-state g c =
    let remaining = g.R.Read.remaining (device_of c.args.input.now) in
    subst
    (λ given. IfErr c.carry_out.result (λ failure.
    KeepsStateOf (g.F.Files.holds c.args.files.now) given c.args.words.now (g.F.Files.holds c.carry_out.new.files)
    (g.W.Write.contents (device_of c.args.output.now)) (g.W.Write.contents (device_of c.carry_out.new.output))))
    (ap (λ b. if b then remaining else Some []) c.if-reads_input.ensures)
    c.carry_out.ensures.state

pub returns-clause-state : goal.returns-clause-state
returns-clause-state g c =
    let remaining = g.R.Read.remaining (device_of c.args.input.now) in
    subst
    (λ given. IfErr c.carry_out-2.result (λ failure.
    KeepsStateOf (g.F.Files.holds c.args.files.now) given c.args.words.now (g.F.Files.holds c.carry_out-2.new.files)
    (g.W.Write.contents (device_of c.args.output.now)) (g.W.Write.contents (device_of c.carry_out-2.new.output))))
    (ap (λ d. Some d.now) c.new-nothing.ensures.device
    ∙ ap (λ b. if b then remaining else Some []) c.if-reads_input.ensures)
    c.carry_out-2.ensures.state
