use Rattle.std.proofs.Common.{ap, ◌∙◌, inl, inr, refl, subst}
use Rattle.vsi_image.specs.Fields.{globals}
use Rattle.vsi_steps.specs.Traced.{IsTraced}
use Rattle.vsi_requests.proofs.Stepped.{compared}
use Rattle.vsi_requests.proofs.stepping.together.Goals as goal

pub returns-then-not-one-clause-failed : goal.returns-then-not-one-clause-failed
returns-then-not-one-clause-failed c = record {
  out = refl;
  is = inl (record {
    trace = c.in_ok-one.one;
    traced = subst (λ r. IsTraced r c.args.first.now c.args.budget c.in_ok-one.one) c.resolved-program.ensures.value
        c.in_ok-one.ensures;
    is = c.if-not-one.true;
  });
}

pub returns-then-not-other-clause-failed : goal.returns-then-not-other-clause-failed
returns-then-not-other-clause-failed c = record {
  out = refl;
  is = inr (record {
    trace = c.in_ok-other.other;
    traced = subst (λ r. IsTraced r c.args.second.now c.args.budget c.in_ok-other.other)
        c.resolved-program.ensures.value c.in_ok-other.ensures;
    is = c.if-not-other.true;
  });
}

pub returns-clause-told : goal.returns-clause-told
returns-clause-told c =
    compared c.args.source.now.lattice c.lattice-lattice.result.now c.args.source.now.resolved
    c.resolved-program.result.now c.args.class (globals c.args.verified.now.globals.items)
    (globals c.as_slice-variables.result.now) c.args.first.now c.args.second.now c.deref-2.result.now
    c.deref-3.result.now c.args.budget c.in_ok-one.one c.in_ok-other.other c.agree-is_same.result
    c.lattice-lattice.ensures c.resolved-program.ensures.value
    (ap globals (c.as_slice-variables.ensures.value ∙ ap (λ im. im.globals.items) c.image.ensures.same))
    c.deref-2.ensures.value c.deref-3.ensures.value c.in_ok-one.ensures c.in_ok-other.ensures c.if-not-one.false
    c.if-not-other.false c.agree-is_same.ensures
