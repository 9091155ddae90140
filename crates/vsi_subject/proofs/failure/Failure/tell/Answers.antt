use Rattle.std.proofs.Common.{List, ℕ, ap, subst, sym, ◌∙◌}
use Rattle.std.specs.Prelude.{OnOk, codes}
use Rattle.std.specs.Io.KnownBytes.{Appends}
use Rattle.vsi_drive.specs.Counted.{device_of}
use Rattle.vsi_subject.specs.Failures.{line_of, text_of_failure}
use Rattle.vsi_subject.proofs.failure.Failure.tell.Goals as goal

pub returns-in-LostFile-clause-whole : goal.returns-in-LostFile-clause-whole
returns-in-LostFile-clause-whole g c =
    let Whole : List ℕ → Type 0 = λ text. OnOk c.tell_line-in-LostFile.result
    (Appends (g.E.Write.contents (device_of c.args.error.now))
    (g.E.Write.contents (device_of c.tell_line-in-LostFile.new.error)) text) in
    subst Whole
    (ap (line_of (codes "file fault: ")) c.as_str.ensures.value ∙ sym (ap text_of_failure c.in-LostFile.is))
    c.tell_line-in-LostFile.ensures.whole
