use Rattle.std.proofs.Common.{◌<◌, [], map, length, string_bytes, arith, ap, sym, ◌∙◌, subst, below_more}
use Rattle.std.proofs.lemmas.List.{length-map}
use Rattle.std.proofs.lemmas.List.Elements.{All-push}
use Rattle.vsi_lattice.specs.NamePlaces.{IsUnknown, IsUnknownAt, number_of}
use Rattle.vsi_lattice.specs.Pairs.{ArePairsBelow}
use Rattle.vsi_lattice.proofs.NameLemmas.{push_turn, texts_of, text_at}
use Rattle.vsi_lattice.proofs.reader.number_pairs.Goals as goal

pub returns-in_default-clause-unknown : goal.returns-in_default-clause-unknown
returns-in_default-clause-unknown c = record {
  holds = (
    omega (arith, c.loop-i-test.true, length-map c.args.pairs.now texts_of),
    subst (IsUnknown (map string_bytes c.args.names.now)) (sym (text_at c.args.pairs.now c.loop-i.i))
        c.in_default.ensures.none,
  );
  before = c.loop-i.invariant.known;
}

pub loop-i-preserved : goal.loop-i-preserved
loop-i-preserved c =
    let names = map string_bytes c.args.names.now in
    let pairs = map texts_of c.args.pairs.now in
    let lt : c.loop-i.i < length pairs = omega (arith, c.loop-i-test.true, length-map c.args.pairs.now texts_of) in
    let at_i = text_at c.args.pairs.now c.loop-i.i in
    record {
      numbers = push_turn (number_of names) pairs c.loop-i.i ([], []) _ _ c.in-Some.both lt c.loop-i.invariant.numbers
          (c.in-Some.ensures.some ∙ ap (number_of names) (sym at_i)) c.in-Ok.ensures.items;
      below = subst (ArePairsBelow (length c.args.names.now)) (sym c.in-Ok.ensures.items)
          (All-push (λ p. (p.0 < length c.args.names.now) ×
          (p.1 < length c.args.names.now)) _ c.in-Some.both c.loop-i.invariant.below c.in-Some.ensures.below);
      known = below_more (λ k. ¬ (IsUnknownAt names pairs k)) c.loop-i.i c.loop-i.invariant.known
          (λ h. c.in-Some.ensures.known (subst (IsUnknown names) at_i h.1));
    }

pub returns-clause-known : goal.returns-clause-known
returns-clause-known c i h =
    c.loop-i.invariant.known i (omega (arith, h.0, c.loop-i-test.false, length-map c.args.pairs.now texts_of)) h
