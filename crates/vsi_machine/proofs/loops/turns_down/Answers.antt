use Rattle.std.proofs.Common.{◌≡◌, ◌+ℤ◌, ◌<ℤ◌, ℤ, pos, negsuc, arith, rules, sym, subst, ◌∙◌, w64, SFits, to_z, of_z}
use Rattle.std.proofs.lemmas.Int.{ints, to_z-of_z}
use Rattle.vsi_syntax.specs.Operators.{less_of}
use Rattle.vsi_machine.specs.Counters.{Counts}
use Rattle.vsi_machine.proofs.CountingUp.{down_turns, down_wraps, word_low}
use Rattle.vsi_machine.proofs.loops.turns_down.Goals as goal

pub returns-in-Some-clause-counts : goal.returns-in-Some-clause-counts
returns-in-Some-clause-counts c =
    let e = c.cover-turns.ensures in
    let fits : SFits w64 c.in-Some.last = search rules in
    let same : to_z w64 (of_z w64 c.args.start) ≡ c.args.start = to_z-of_z w64 c.args.start c.ranges.start in
    subst (λ (z : ℤ). Counts (λ now. less_of c.args.limit now) c.args.step c.cover-turns.result.0 c.args.start z)
    (sym (to_z-of_z w64 c.in-Some.last fits))
    (down_turns c.cover-turns.result.0 _ c.cover-turns.result.1 _ c.args.start c.args.step c.args.limit c.in-Some.last
    e.way e.enough e.fewest c.ranges.start (omega (arith, ints)) (omega (arith, ints))
    (c.in-Some.ensures.some ∙ same) (word_low c.in-Some.last fits))

pub returns-in-None-clause-fails : goal.returns-in-None-clause-fails
returns-in-None-clause-fails c =
    let e = c.cover-turns.ensures in
    let same : to_z w64 (of_z w64 c.args.start) ≡ c.args.start = to_z-of_z w64 c.args.start c.ranges.start in
    down_wraps c.cover-turns.result.0 _ c.cover-turns.result.1 _ c.args.start c.args.step c.args.limit
    e.way e.fewest e.some (omega (arith, ints)) (omega (arith, ints))
    (subst (λ (z : ℤ). z <ℤ (negsuc 9223372036854775807 +ℤ pos c.cover-turns.result.1)) same c.in-None.ensures.none)
