use Rattle.std.proofs.Common.{refl, sym, subst, ◌∙◌, inl, inr, true≢false}
use Rattle.std.proofs.lemmas.Result.{IfOk-weaker}
use Rattle.vsi_lattice.specs.LatticeView.{class_named, order}
use Rattle.vsi_types.specs.declared.rules.Profile.TheVariants.{Strict}
use Rattle.vsi_types.specs.Walks.{IsBad}
use Rattle.vsi_compiler.proofs.Compiled.{one_program}
use Rattle.vsi_compiler.proofs.Held.{of_parts, globals_at, declared_at}
use Rattle.vsi_compiler.proofs.source.walk_explanation.Goals as goal

pub check_walk_once-requires-clause-globals : goal.check_walk_once-requires-clause-globals
check_walk_once-requires-clause-globals c =
    globals_at _ c.resolved-resolved.ensures.kept _ _ c.lattice-lattice.ensures
    c.resolved-resolved.ensures.value

pub check_walk_once-requires-clause-declared : goal.check_walk_once-requires-clause-declared
check_walk_once-requires-clause-declared c =
    declared_at _ c.resolved-resolved.ensures.kept _ _ c.lattice-lattice.ensures
    c.resolved-resolved.ensures.value

pub explain-requires-clause-globals : goal.explain-requires-clause-globals
explain-requires-clause-globals c =
    globals_at _ c.resolved-resolved.ensures.kept _ _ c.lattice-lattice.ensures
    c.resolved-resolved.ensures.value

pub explain-requires-clause-declared : goal.explain-requires-clause-declared
explain-requires-clause-declared c =
    declared_at _ c.resolved-resolved.ensures.kept _ _ c.lattice-lattice.ensures
    c.resolved-resolved.ensures.value

pub returns-then-is_bad : goal.returns-then-is_bad
returns-then-is_bad c =
    let l = c.lattice-lattice.result.now in
    let text = c.text.result.now in
    let r = c.resolved-resolved.result.now in
    let is = of_parts c.args.source.now c.resolved-resolved.ensures.kept l text r c.lattice-lattice.ensures
    c.text.ensures c.resolved-resolved.ensures.value in
    rw (← c.lattice-lattice.ensures, ← c.text.ensures)
    (IfOk-weaker c.explain.result _ _
    (λ out lines. inl (record {
      resolved = r;
      stands = is.stands;
      bad = c.in_ok-is_bad.ensures.0 c.if-is_bad.true;
      lines = lines;
    })) c.explain.ensures)

pub returns-else-is_bad : goal.returns-else-is_bad
returns-else-is_bad c =
    let s = c.args.source.now in
    let l = c.lattice-lattice.result.now in
    let r = c.resolved-resolved.result.now in
    let is = of_parts s c.resolved-resolved.ensures.kept l s.text r c.lattice-lattice.ensures refl
    c.resolved-resolved.ensures.value in
    rw (← c.lattice-lattice.ensures) (inr (record {
      harmless = λ other stands bad.
          let here = subst (λ p. IsBad (order l) Strict p c.args.walk.now.steps.items)
          (one_program (class_named l) s.text r other is.stands stands) bad in
          true≢false (sym (c.in_ok-is_bad.ensures.1 here) ∙ c.if-is_bad.false);
      nothing = c.new.ensures.items;
    }))
