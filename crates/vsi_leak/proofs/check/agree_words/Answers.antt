use Rattle.std.proofs.Common.{rules, ◌≡◌, ◌≤◌, ◌∙◌, List, ℕ, true, false, length, refl, arith, subst, sym}
use Rattle.std.proofs.lemmas.Bool.{both_ways}
use Rattle.std.proofs.lemmas.List.{length-map}
use Rattle.vsi_image.specs.Fields.{global, globals}
use Rattle.vsi_lattice.specs.LatticeView.{class_named, order}
use Rattle.vsi_store.specs.View.{is_seen}
use Rattle.vsi_leak.proofs.Agreement.{agree_all, agree_more, apart, global_at}
use Rattle.vsi_leak.proofs.check.agree_words.Goals as goal

pub returns-then-differs : goal.returns-then-differs
returns-then-differs c =
    let known = class_named c.args.lattice.now in
    let L = order c.args.lattice.now in
    let v = c.index-variables-i.result in
    let is = c.differs.ensures in
    let here = global_at c.args.variables.now c.loop-i.i v (search rules) c.index-variables-i.is in (
      λ h. absurd (both_ways false refl h),
      λ h. absurd (apart known L (globals c.args.variables.now) c.args.class c.args.first.now c.args.second.now
          c.loop-i.i (global v) here
          (subst (λ (n : List ℕ). is_seen known L c.args.class n ≡ true) c.as_slice-name.ensures.value
          (is.seen c.if-differs.true))
          (is.apart c.if-differs.true) h),
    )

pub loop-i-preserved : goal.loop-i-preserved
loop-i-preserved c =
    let known = class_named c.args.lattice.now in
    let L = order c.args.lattice.now in
    let v = c.index-variables-i.result in
    agree_more known L (globals c.args.variables.now) c.args.class c.args.first.now c.args.second.now c.loop-i.i
    (global v) (global_at c.args.variables.now c.loop-i.i v (search rules) c.index-variables-i.is)
    (λ seen. c.differs.ensures.equal c.if-differs.false
    (subst (λ (n : List ℕ). is_seen known L c.args.class n ≡ true) (sym c.as_slice-name.ensures.value) seen))
    c.loop-i.invariant

pub returns : goal.returns
returns c =
    let vs = c.args.variables.now in
    let count = length-map vs global in
    let all : length (globals vs) ≤ c.loop-i.i = omega (arith, count, c.loop-i-test.false) in (
      λ _. agree_all (class_named c.args.lattice.now) (order c.args.lattice.now) (globals vs) c.args.class
          c.args.first.now c.args.second.now c.loop-i.i all c.loop-i.invariant,
      λ _. refl,
    )
