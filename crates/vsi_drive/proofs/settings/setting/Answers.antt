use Rattle.std.proofs.Common.{◌≡◌, ◌∙◌, Ok, true, ap, sym, rules, arith, w64}
use Rattle.std.specs.Prelude.{bytes_eq, codes}
use Rattle.std.proofs.lemmas.Int.{to_z-of_z}
use Rattle.vsi_image.specs.Fields.{global}
use Rattle.vsi_drive.specs.Reaches.{settable}
use Rattle.vsi_drive.specs.Settings.{with_word}
use Rattle.vsi_drive.proofs.Placed.{setting_at}
use Rattle.vsi_drive.proofs.settings.setting.Goals as goal

pub returns-in-Some-clause-setting : goal.returns-in-Some-clause-setting
returns-in-Some-clause-setting c =
    let s = settable c.args.reach.now in
    let eq : bytes_eq c.args.equal.now (codes "=") ≡ true = search rules in
    let is : bytes_eq (global c.variable-item.result).0 c.args.name.now ≡ true = search rules in
    sym (setting_at s c.args.number c.loop-i.i c.args.name.now c.args.equal.now c.args.value.now
    c.globals-variable-items.result.now c.variable-item.result _ c.globals-variable-items.ensures eq c.loop-i.invariant
    (omega (arith, c.loop-i-test.true)) c.variable-item.is is (c.in-Some.ensures.some c.loop-i.i))

pub returns-in-Some-word_of-clause-setting : goal.returns-in-Some-word_of-clause-setting
returns-in-Some-word_of-clause-setting c =
    let s = settable c.args.reach.now in
    let eq : bytes_eq c.args.equal.now (codes "=") ≡ true = search rules in
    let is : bytes_eq (global c.variable-item.result).0 c.args.name.now ≡ true = search rules in
    rw (to_z-of_z w64 c.in-Some-word_of.word (search rules))
    (sym (setting_at s c.args.number c.loop-i.i c.args.name.now c.args.equal.now c.args.value.now
    c.globals-variable-items.result.now c.variable-item.result _ c.globals-variable-items.ensures eq c.loop-i.invariant
    (omega (arith, c.loop-i-test.true)) c.variable-item.is is (c.in_default.ensures.none c.loop-i.i)
    ∙ ap (with_word c.args.number (Ok c.loop-i.i)) (sym c.in-Some-word_of.ensures)))
