use Rattle.std.proofs.Common.{refl, sym, subst, ◌∙◌, inr, true≢false}
use Rattle.vsi_lattice.specs.LatticeView.{class_named, order}
use Rattle.vsi_types.specs.declared.rules.Profile.TheVariants.{Strict}
use Rattle.vsi_types.specs.Walks.{IsBad}
use Rattle.vsi_compiler.proofs.Held.{of_parts}
use Rattle.vsi_steady.proofs.Sources.{looped_globals, looped_declared, one_looped}
use Rattle.vsi_steady.proofs.source.steady_explanation_of.Goals as goal

pub check_walk_once-requires-clause-globals : goal.check_walk_once-requires-clause-globals
check_walk_once-requires-clause-globals c =
    let l = c.lattice-lattice.result.now in
    let text = c.args.source.now.text in
    let r = c.resolved-resolved.result.now in
    let is = of_parts c.args.source.now c.resolved-resolved.ensures.kept l text r c.lattice-lattice.ensures refl
    c.resolved-resolved.ensures.value in
    looped_globals (order l) r c.in_ok-looped.looped c.in_ok-looped.ensures is.classes

pub check_walk_once-requires-clause-declared : goal.check_walk_once-requires-clause-declared
check_walk_once-requires-clause-declared c =
    let l = c.lattice-lattice.result.now in
    let text = c.args.source.now.text in
    let r = c.resolved-resolved.result.now in
    let is = of_parts c.args.source.now c.resolved-resolved.ensures.kept l text r c.lattice-lattice.ensures refl
    c.resolved-resolved.ensures.value in
    looped_declared (order l) r c.in_ok-looped.looped c.in_ok-looped.ensures is.classes

pub explain-requires-clause-globals : goal.explain-requires-clause-globals
explain-requires-clause-globals c =
    let l = c.lattice-lattice.result.now in
    let text = c.args.source.now.text in
    let r = c.resolved-resolved.result.now in
    let is = of_parts c.args.source.now c.resolved-resolved.ensures.kept l text r c.lattice-lattice.ensures refl
    c.resolved-resolved.ensures.value in
    looped_globals (order l) r c.in_ok-looped.looped c.in_ok-looped.ensures is.classes

pub explain-requires-clause-declared : goal.explain-requires-clause-declared
explain-requires-clause-declared c =
    let l = c.lattice-lattice.result.now in
    let text = c.args.source.now.text in
    let r = c.resolved-resolved.result.now in
    let is = of_parts c.args.source.now c.resolved-resolved.ensures.kept l text r c.lattice-lattice.ensures refl
    c.resolved-resolved.ensures.value in
    looped_declared (order l) r c.in_ok-looped.looped c.in_ok-looped.ensures is.classes

pub returns : goal.returns
returns c =
    let l = c.lattice-lattice.result.now in
    let text = c.args.source.now.text in
    let r = c.resolved-resolved.result.now in
    let is = of_parts c.args.source.now c.resolved-resolved.ensures.kept l text r c.lattice-lattice.ensures refl
    c.resolved-resolved.ensures.value in
    rw (← c.lattice-lattice.ensures) (inr (record {
      harmless = λ other looped stands loops bad.
          let here = subst (λ p. IsBad (order l) Strict p c.args.walk.now.steps.items)
          (one_looped (class_named l) text r other c.in_ok-looped.looped looped is.stands stands
          c.in_ok-looped.ensures loops) bad in
          true≢false (sym (c.in_ok-is_bad.ensures.1 here) ∙ c.if-is_bad.false);
      nothing = c.new.ensures.items;
    }))
