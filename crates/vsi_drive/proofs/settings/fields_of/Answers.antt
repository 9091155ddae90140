use Rattle.std.proofs.Common.{◌≡◌, ◌∙◌, ◌++◌, false, get_or, ap, rules, arith}
use Rattle.std.specs.Prelude.{◌==◌}
use Rattle.std.proofs.lemmas.Grind.{common_steps}
use Rattle.vsi_lattice.specs.NamePlaces.{texts}
use Rattle.vsi_drive.specs.Fields.{is_blank}
use Rattle.vsi_drive.proofs.FieldsOf.{goes_on}
use Rattle.vsi_drive.proofs.settings.fields_of.Goals.{then-byte-eq61+in_ok-put_field-2+in_ok-push, else-byte-eq61}
use Rattle.vsi_drive.proofs.settings.fields_of.Goals as goal

pub loop-i-preserved : goal.loop-i-preserved
loop-i-preserved c =
    let blank : is_blank (get_or c.args.line.now c.loop-i.i 0) ≡ false = search rules in
    elim c.if-byte-eq61.branch [
      | then-byte-eq61+in_ok-put_field-2+in_ok-push w ↦ rw (w.fields-is, w.start-is)
          (first_of (search (rules, blank, w.if-byte-eq61, w.in_ok-put_field-2, w.in_ok-push), grind (arith, common_steps)))
      | else-byte-eq61 w ↦
          let other : (get_or c.args.line.now c.loop-i.i 0 == 61) ≡ false = search (rules, w.if-byte-eq61) in
          rw (w.fields-is, w.start-is)
          (record {
            start = omega (arith, c.loop-i.invariant.start);
            fields = ap (λ fs. texts c.loop-i.fields.items ++ fs)
                (goes_on c.args.line.now c.loop-i.start c.loop-i.i c.loop-i.invariant.start
                (omega (arith, c.loop-i-test.true)) blank other)
                ∙ c.loop-i.invariant.fields;
          })
    ]
