use Rattle.std.proofs.Common.{◌≡◌, ◌++◌, ap, ◌∙◌, arith}
use Rattle.std.proofs.lemmas.Grind.{common_steps}
use Rattle.vsi_telling.specs.Safe.{is_plain, all_plain, told}
use Rattle.vsi_telling.proofs.SafeLemmas.{told_plain, both_pass}
use Rattle.vsi_telling.proofs.place.put_text.Goals as goal

pub returns-clause-plain : goal.returns-clause-plain
returns-clause-plain c old =
    let all : c.loop-byte.text.items ≡ c.args.text.now.items ++ told c.args.bytes.now = grind (arith, common_steps) in
    ap all_plain all ∙ both_pass is_plain c.args.text.now.items (told c.args.bytes.now) old
    (told_plain c.args.bytes.now)
