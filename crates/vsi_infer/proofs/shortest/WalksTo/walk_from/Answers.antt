use Rattle.std.proofs.Common.{◌≡◌, ◌-◌, ◌==◌, ◌∙◌, suc, length, get_or, refl, sym, ap, subst, arith, eq-eqb}
use Rattle.std.proofs.lemmas.List.{length_push}
use Rattle.std.proofs.lemmas.Bool.{and_parts, and_from}
use Rattle.vsi_types.specs.Security.{program, steps_of}
use Rattle.vsi_infer.specs.Paths.{IsPath}
use Rattle.vsi_infer.specs.Shortest.{row_of}
use Rattle.vsi_infer.proofs.PathLemmas.{path_push, equal}
use Rattle.vsi_infer.proofs.shortest.WalksTo.walk_from.Goals as goal

pub next_step-requires-clause-some : goal.next_step-requires-clause-some
next_step-requires-clause-some c =
    let n : c.loop-left.left ≡ suc (c.loop-left.left - 1) = omega (arith, c.loop-left-test.true) in
    let d = c.requires.down c.loop-left.at (c.loop-left.left - 1) (c.loop-left.invariant.level ∙ n)
    (omega (arith, n, c.loop-left.invariant.small)) in (
      d.0,
      d.1,
      and_from (d.0.source == c.loop-left.at) (get_or c.args.self.now.row.now
          (row_of c.args.self.now.last d.0.target) 0 == c.loop-left.left - 1)
          (eq-eqb d.0.source c.loop-left.at d.2) (eq-eqb (get_or c.args.self.now.row.now
          (row_of c.args.self.now.last d.0.target) 0) (c.loop-left.left - 1) d.3),
    )

pub loop-left-preserved : goal.loop-left-preserved
loop-left-preserved c =
    let ss = steps_of c.args.profile (program c.args.program.now) in
    let s = c.in_ok-step.step in
    let row = c.args.self.now.row.now in
    let last = c.args.self.now.last in
    let q = and_parts (s.source == c.loop-left.at) (get_or row (row_of last s.target) 0 == c.loop-left.left - 1)
    c.in_ok-step.ensures.wanted in
    let items = c.in_ok-push.ensures.items in
    let n = length_push c.loop-left.steps.items s in
    record {
      level = equal (get_or row (row_of last s.target) 0) (c.loop-left.left - 1) q.1;
      small = omega (arith, c.loop-left.invariant.small);
      path = subst (λ l. IsPath ss c.args.from l s.target) (sym items)
          (path_push ss c.args.from c.loop-left.at c.loop-left.steps.items s c.loop-left.invariant.path
          (equal s.source c.loop-left.at q.0) c.in_ok-step.ensures.there);
      size = omega (arith, ap length items, n, c.loop-left.invariant.size, c.loop-left-test.true);
    }

pub loop-left-init : goal.loop-left-init
loop-left-init c = record {
  level = c.requires.at;
  small = c.requires.small;
  path = subst (λ l. IsPath (steps_of c.args.profile (program c.args.program.now)) c.args.from l c.args.from)
      (sym c.new-steps.ensures.items) refl;
  size = omega (arith, ap length c.new-steps.ensures.items);
}

pub returns : goal.returns
returns c =
    let z : c.loop-left.left ≡ 0 = omega (arith, c.loop-left-test.false) in
    record {
      end = c.loop-left.at;
      path = c.loop-left.invariant.path;
      level = c.loop-left.invariant.level ∙ z;
      size = omega (arith, c.loop-left.invariant.size, z);
    }
