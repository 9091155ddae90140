use Rattle.std.proofs.Common.{◌≡◌, ◌++◌, ap, ◌∙◌}
use Rattle.vsi_telling.specs.Safe.{is_plain, all_plain, shown}
use Rattle.std.proofs.Common.{arith}
use Rattle.std.proofs.lemmas.Grind.{common_steps}
use Rattle.vsi_telling.proofs.SafeLemmas.{shown_printable, shown_plain, both_pass}
use Rattle.vsi_telling.proofs.place.put_safe.Goals as goal

pub returns-in_err-put_byte-clause-printable : goal.returns-in_err-put_byte-clause-printable
returns-in_err-put_byte-clause-printable c = shown_printable c.args.bytes.now

pub returns-clause-printable : goal.returns-clause-printable
returns-clause-printable c = shown_printable c.args.bytes.now

pub returns-clause-plain : goal.returns-clause-plain
returns-clause-plain c old =
    let all : c.loop-byte.text.items ≡ c.args.text.now.items ++ shown c.args.bytes.now = grind (arith, common_steps) in
    ap all_plain all ∙ both_pass is_plain c.args.text.now.items (shown c.args.bytes.now) old
    (shown_plain c.args.bytes.now)
