use Rattle.std.proofs.Common.{◌≡◌, ◌<◌, [], map, get_or, length, arith, sym, ap, ◌∙◌, below_more, string_bytes}
use Rattle.std.proofs.lemmas.List.{length-map}
use Rattle.vsi_lattice.specs.NamePlaces.{StandsEarlier}
use Rattle.vsi_lattice.proofs.NameLemmas.{take_turn, earlier_from, from_earlier, text_of, name_at, absent, present, push_name}
use Rattle.vsi_lattice.proofs.reader.collect_names.Goals as goal

pub returns-in-Some-clause-duplicate : goal.returns-in-Some-clause-duplicate
returns-in-Some-clause-duplicate c =
    let names = map text_of c.args.names.now in
    let lt : c.loop-i.i < length names = omega (arith, c.loop-i-test.true, length-map c.args.names.now text_of) in
    let same : c.as_bytes.result.now ≡ get_or names c.loop-i.i [] =
    c.as_bytes.ensures.value ∙ sym (name_at c.args.names.now c.loop-i.i) in
    record {
      holds = earlier_from names (map string_bytes c.deref.result.now) c.loop-i.i c.as_bytes.result.now lt
          (ap (map string_bytes) c.deref.ensures.value ∙ c.loop-i.invariant.names) same
          (present (map string_bytes c.deref.result.now) c.as_bytes.result.now c.in-Some.field-0
          (sym c.in-Some.ensures.place));
      before = c.loop-i.invariant.fresh;
    }

pub loop-i-preserved : goal.loop-i-preserved
loop-i-preserved c =
    let names = map text_of c.args.names.now in
    let lt : c.loop-i.i < length names = omega (arith, c.loop-i-test.true, length-map c.args.names.now text_of) in
    let at_i = sym (name_at c.args.names.now c.loop-i.i) in
    let same : c.as_bytes.result.now ≡ get_or names c.loop-i.i [] = c.as_bytes.ensures.value ∙ at_i in
    record {
      names = take_turn names c.loop-i.i _ _ _ lt c.loop-i.invariant.names at_i
          (push_name _ _ _ _ c.in-Ok.ensures.items c.in_ok-name.ensures.ok);
      fresh = below_more (λ k. ¬ (StandsEarlier names k)) c.loop-i.i c.loop-i.invariant.fresh
          (λ h. absent (map string_bytes c.deref.result.now) c.as_bytes.result.now (sym c.in_default.ensures.place)
          (from_earlier names (map string_bytes c.deref.result.now) c.loop-i.i c.as_bytes.result.now lt
          (ap (map string_bytes) c.deref.ensures.value ∙ c.loop-i.invariant.names) same h));
    }

pub returns-clause-distinct : goal.returns-clause-distinct
returns-clause-distinct c i h =
    c.loop-i.invariant.fresh i (omega (arith, h.2, c.loop-i-test.false, length-map c.args.names.now text_of)) h
