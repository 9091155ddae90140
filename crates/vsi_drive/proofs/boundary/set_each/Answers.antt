use Rattle.std.proofs.Common.{sym, ◌∙◌, rules, arith, w64}
use Rattle.std.proofs.lemmas.Int.{to_z-of_z}
use Rattle.std.proofs.lemmas.List.{length-map, length-set}
use Rattle.vsi_lattice.specs.NamePlaces.{texts}
use Rattle.vsi_drive.specs.Reaches.{settable}
use Rattle.vsi_drive.specs.Starts.{settings_each, start}
use Rattle.vsi_drive.proofs.Each.{each_more, each_fault, fault_behind}
use Rattle.vsi_drive.proofs.boundary.set_each.Goals as goal

pub returns-in-Err : goal.returns-in-Err
returns-in-Err c =
    let s = settable c.args.reach.now in
    let ts = texts c.args.settings.now in
    let n = c.loop-number.number in
    record {
      set = fault_behind (settings_each s 0 ts) (start c.args.words.now c.args.named.now) c.in-Err.fault
          (sym c.loop-number.invariant.set
          ∙ each_fault s n ts c.field.result.now c.in-Err.fault (start c.loop-number.words c.loop-number.named) (sym c.in-Err.is ∙ c.in_ok-place.ensures.setting)
          (omega (arith, c.loop-number-test.true, length-map c.args.settings.now (λ r. r.now))) c.field.ensures);
    }

pub loop-number-preserved : goal.loop-number-preserved
loop-number-preserved c =
    let s = settable c.args.reach.now in
    let ts = texts c.args.settings.now in
    let n = c.loop-number.number in
    rw (to_z-of_z w64 c.in-Ok.word (search rules))
    (record {
      words = length-set c.loop-number.words c.in-Ok.place c.in-Ok.word ∙ c.loop-number.invariant.words;
      named = length-set c.loop-number.named c.in-Ok.place _ ∙ c.loop-number.invariant.named;
      set = each_more s n ts c.field.result.now c.in-Ok.place c.in-Ok.word c.loop-number.words c.loop-number.named
          (sym c.in-Ok.is ∙ c.in_ok-place.ensures.setting)
          (omega (arith, c.loop-number-test.true, length-map c.args.settings.now (λ r. r.now))) c.field.ensures
          ∙ c.loop-number.invariant.set;
    })
