use Rattle.std.proofs.Common.{arith, ◌∙◌, ◌≡◌, ◌<◌, ◌-◌, ◌+◌, sym, ap, subst, drop, length}
use Rattle.std.proofs.lemmas.Bool.Decides.{nat_tests}
use Rattle.vsi_client.specs.Places.{content_size, line_size, offset_at}
use Rattle.vsi_client.proofs.Placing.{Follows, follows_first, follows_last, follows_on, line_size_some}
use Rattle.vsi_client.proofs.places.place_of.Goals as goal

pub loop-size-init : goal.loop-size-init
loop-size-init c = (follows_first c.args.encoding c.args.text.now c.args.at, omega arith)

pub loop-size-preserved : goal.loop-size-preserved
loop-size-preserved c =
    let rest = c.loop-size.rest.now in
    let past : content_size rest < c.loop-size.left = c.is_past.ensures.past c.loop-size-test.true in
    let size = c.line_size-size.ensures.size in
    let some = line_size_some rest (c.is_past.ensures.some c.loop-size-test.true) in
    let Next = Follows c.args.encoding c.args.text.now c.args.at (c.loop-size.line + 1) in (
      λ is.
          subst (λ text. Next text c.saturating_sub-left.result)
          (sym (c.after-rest.ensures.rest ∙ ap (λ n. drop n rest) size))
          (subst (Next (drop (line_size rest) rest))
          (sym (c.saturating_sub-left.ensures ∙ ap (λ n. c.loop-size.left - n) size))
          (follows_on c.args.encoding c.args.text.now c.args.at c.loop-size.line rest c.loop-size.left
          (c.loop-size.invariant.0 is) past)),
      omega (arith, some, size, c.after-rest.ensures.left, c.loop-size.invariant.1),
    )

pub returns-clause-found : goal.returns-clause-found
returns-clause-found c = λ short is.
    let rest = c.loop-size.rest.now in
    let so = c.loop-size.invariant.0 is in
    let low = c.is_past.ensures.within c.loop-size-test.false so.placed.within in
    let small : length rest < 4611686018427387904 = omega (arith, short, c.loop-size.invariant.1) in
    let same : c.offset_of.result ≡ c.args.at =
    c.offset_of.ensures.offset
    ∙ subst (λ n. offset_at c.args.encoding c.args.text.now c.loop-size.line n ≡ c.args.at)
    (sym (c.units_before-character.ensures small low))
    (follows_last c.args.encoding c.args.text.now c.args.at c.loop-size.line rest c.loop-size.left so low) in
    grind (arith, nat_tests, c.then_some.ensures, same)
