use Rattle.std.proofs.Common.{◌≡◌, ◌<◌, ◌∙◌, false, length, refl, sym, rules, arith, w64}
use Rattle.std.specs.Prelude.{nat_lt}
use Rattle.std.proofs.lemmas.Int.{to_z-of_z}
use Rattle.std.proofs.lemmas.List.{length-map, length-set, places}
use Rattle.vsi_lattice.specs.NamePlaces.{texts}
use Rattle.vsi_drive.specs.Control.{control}
use Rattle.vsi_drive.specs.Settings as spec
use Rattle.vsi_drive.proofs.Written.{fault_of, few_left, set_more, written_fault}
use Rattle.vsi_drive.proofs.settings.words_set.Goals as goal

pub loop-rest-preserved : goal.loop-rest-preserved
loop-rest-preserved c =
    let d = spec.at_or_below (control c.args.controller.now) in
    rw (to_z-of_z w64 c.in-Ok.word (search rules))
    (record {
      words = length-set c.loop-rest.words.items c.in-Ok.place _ ∙ c.loop-rest.invariant.words;
      count = search (rules, places);
      written = set_more d c.loop-rest.number c.loop-rest.rest.now _ _ _ c.in-Ok.place c.in-Ok.word
          c.loop-rest.words.items _ (sym c.in-Ok.is ∙ c.setting.ensures.setting) c.in-len3-up.len_at_least refl
          ∙ c.loop-rest.invariant.written;
    })

pub returns-then-not-is_empty-clause-set : goal.returns-then-not-is_empty-clause-set
returns-then-not-is_empty-clause-set c =
    let d = spec.at_or_below (control c.args.controller.now) in
    let rest = c.loop-rest.rest.now in
    let whole = length-map rest (λ r. r.now) in
    let some : 0 < length rest = search rules in
    let short : nat_lt 65536 (length c.args.line.now) ≡ false = search rules in
    rw short
    (fault_of _ c.args.store.now _
    (sym c.loop-rest.invariant.written
    ∙ written_fault _ c.loop-rest.words.items _
    (few_left d c.loop-rest.number (texts rest) (omega (arith, whole, some))
    (omega (arith, whole, c.in_default.len_below)))))
