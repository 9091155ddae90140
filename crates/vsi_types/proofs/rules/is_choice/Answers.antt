use Rattle.std.proofs.Common.{◌<◌, map, length, sym, ◌∙◌, subst, arith}
use Rattle.std.proofs.lemmas.List.{length-map}
use Rattle.vsi_types.specs.Security.{Keeps}
use Rattle.vsi_types.proofs.Choosing.{kept_at, kept_all, kept_more, choice_length, at_place}
use Rattle.vsi_types.proofs.rules.is_choice.Goals as goal

pub returns-then-entries-choice-clause-changed : goal.returns-then-entries-choice-clause-changed
returns-then-entries-choice-clause-changed c = λ e h.
    c.if-entries-choice.true (choice_length (λ e. e.class) c.args.entries.now c.args.choice.now h)

pub returns-then-not-keeps-clause-changed : goal.returns-then-not-keeps-clause-changed
returns-then-not-keeps-clause-changed c = λ e h.
    let lt = c.loop-i-test.true in
    let there : c.loop-i.i < length (map (λ e. e.class) c.args.entries.now) =
    subst (λ n. c.loop-i.i < n) (sym (length-map c.args.entries.now (λ e. e.class))) lt in
    let same = c.if-entries-choice.false in
    at_place c.args.entries.now c.args.choice.now c.loop-i.i c.index-entries-i.result c.index-choice-i.result lt
    (omega (arith, lt, same)) c.index-choice-i.is (λ d t. Keeps d t → ⊥)
    (c.keeps.ensures.changed c.if-not-keeps.true)
    (kept_at (map (λ e. e.class) c.args.entries.now) c.args.choice.now c.loop-i.i h there)

pub loop-i-preserved : goal.loop-i-preserved
loop-i-preserved c =
    let lt = c.loop-i-test.true in
    let same = c.if-entries-choice.false in
    kept_more c.args.entries.now c.args.choice.now c.loop-i.i
    (at_place c.args.entries.now c.args.choice.now c.loop-i.i c.index-entries-i.result c.index-choice-i.result lt
    (omega (arith, lt, same)) c.index-choice-i.is Keeps
    (c.keeps.ensures.chosen c.if-not-keeps.false))
    c.loop-i.invariant

pub returns-clause-chosen : goal.returns-clause-chosen
returns-clause-chosen c = λ e.
    let long = length-map c.args.entries.now (λ e. e.class) in
    kept_all (map (λ e. e.class) c.args.entries.now) c.args.choice.now (long ∙ c.if-entries-choice.false)
    (λ i lt. c.loop-i.invariant i (omega (arith, lt, long, c.loop-i-test.false)))
