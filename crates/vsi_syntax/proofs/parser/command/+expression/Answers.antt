use Rattle.std.proofs.Common.{◌≡◌, ◌+◌, max, refl, ◌∙◌, arith}
use Rattle.std.proofs.lemmas.Result.{err_from_is_err_and}
use Rattle.vsi_syntax.specs.Tree.{depth, Binary}
use Rattle.vsi_syntax.specs.View.{lexemes, tree}
use Rattle.vsi_syntax.specs.Parsing.{parse, first, inside}
use Rattle.vsi_syntax.proofs.Reading.{fails_along, parse_starts, parse_fails, left_stops, left_deep, left_fails, left_turns}
use Rattle.vsi_syntax.proofs.parser.command.+expression.Goals as goal

pub expression-returns-in_err-left-clause-value : goal.expression-returns-in_err-left-clause-value
expression-returns-in_err-left-clause-value t c =
    let p = err_from_is_err_and c.from_residual.result c.from_residual.ensures.1 in
    rw (p.1, p.2)
    (fails_along c.in_err-left.field-0.0 (first (inside c.args.room) (lexemes c.args.tokens.now))
    (parse c.args.room c.args.least (lexemes c.args.tokens.now))
    (parse_fails c.args.room c.args.least (lexemes c.args.tokens.now)) c.in_err-left.ensures.value)

pub expression-loop-op-init : goal.expression-loop-op-init
expression-loop-op-init t c = record {
  measured = c.in_ok-left.ensures.measured;
  left_over = (
    c.args.room,
    omega arith,
    parse_starts c.args.room c.args.least (lexemes c.args.tokens.now)
        (lexemes c.in_ok-left.rest.now) (tree c.in_ok-left.left.expr) c.in_ok-left.ensures.value,
  );
}

pub expression-returns-then-left-room-clause-value :
    goal.expression-returns-then-left-room-clause-value
expression-returns-then-left-room-clause-value t c =
    let m = c.loop-op.invariant.measured in
    left_deep c.args.room c.args.least c.loop-op.left.depth c.loop-op.left.level (tree c.loop-op.left.expr)
    (lexemes c.loop-op.rest.now) (lexemes c.in-Some.after.now) c.in-Some.op _ m.depth_is m.level_is c.in-Some.ensures
    c.if-left-room.true c.loop-op.invariant.left_over

pub expression-returns-in_err-right-clause-value :
    goal.expression-returns-in_err-right-clause-value
expression-returns-in_err-right-clause-value t c =
    let m = c.loop-op.invariant.measured in
    let p = err_from_is_err_and c.from_residual-in_err-right.result c.from_residual-in_err-right.ensures.1 in
    rw (p.1, p.2) (fails_along c.in_err-right.field-0.0 _ _
    (λ none. left_fails c.args.room c.args.least c.loop-op.left.depth c.loop-op.left.level
    (tree c.loop-op.left.expr) (lexemes c.loop-op.rest.now) (lexemes c.in-Some.after.now) c.in-Some.op _
    m.level_is c.in-Some.ensures c.if-left-room.false (rw (← c.right_level_of.ensures) none)
    c.loop-op.invariant.left_over)
    c.in_err-right.ensures.value)

pub expression-loop-op-preserved : goal.expression-loop-op-preserved
expression-loop-op-preserved t c =
    let m = c.loop-op.invariant.measured in
    let r = c.in_ok-right.ensures.measured in
    let j = c.in_ok-left-2.ensures in
    let left = tree c.loop-op.left.expr in
    let right = tree c.in_ok-right.right.expr in
    let e : tree c.in_ok-left-2.left.expr ≡ Binary c.in-Some.op left right = cc (j.expr) in
    let new : c.in_ok-left-2.left.depth ≡ 1 + max (depth left) (depth right) =
    j.depth ∙ rw (m.depth_is, r.depth_is) refl in
    record {
      measured = record {
        depth_is = rw e new;
        level_is = rw e (j.level);
        fits = rw e (omega (arith, m.fits, m.depth_is, r.fits, c.if-left-room.false));
      };
      left_over =
          rw e (left_turns c.args.room c.args.least c.loop-op.left.depth c.loop-op.left.level
          c.in_ok-left-2.left.depth left right (lexemes c.loop-op.rest.now) (lexemes c.in-Some.after.now)
          (lexemes c.in_ok-right.behind.now) c.in-Some.op _
          m.depth_is m.level_is c.in-Some.ensures c.if-left-room.false
          (rw (← c.right_level_of.ensures) c.in_ok-right.ensures.value) new c.loop-op.invariant.left_over);
    }

pub expression-returns-clause-value : goal.expression-returns-clause-value
expression-returns-clause-value t c =
    let m = c.loop-op.invariant.measured in
    left_stops c.args.room c.args.least c.loop-op.left.depth c.loop-op.left.level (tree c.loop-op.left.expr)
    (lexemes c.loop-op.rest.now) _ m.level_is (rw c.in_default.is at c.next.ensures) c.loop-op.invariant.left_over
