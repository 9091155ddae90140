use Rattle.std.proofs.Common.{◌≡◌, length, refl, subst, sym}
use Rattle.vsi_steps.specs.Traced.{IsTraced}
use Rattle.vsi_requests.proofs.stepping.steps_reply.Goals as goal

pub returns : goal.returns
returns c =
    record {
      trace = c.in_ok-trace.trace;
      traced = subst (λ r. IsTraced r c.args.words.now c.args.budget c.in_ok-trace.trace) c.resolved.ensures.value
          c.in_ok-trace.ensures;
      is = refl;
    }

pub trace_of-requires : goal.trace_of-requires
trace_of-requires c =
    subst (λ r. length c.args.words.now ≡ length r.globals) (sym c.resolved.ensures.value) c.requires
