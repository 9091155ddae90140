use Rattle.std.proofs.Common.{ap, ◌∙◌}
use Rattle.std.specs.Prelude.{◌&&◌, not}
use Rattle.vsi_requests.proofs.policies.policy.Goals as goal
use Rattle.vsi_requests.proofs.policies.policy.Goals.{in-None+in_ok-lines-in-None+in_ok-json-in-None, in-Some+in_ok-before-in-Some+in_ok-sees_more-in-Some+in_ok-lines-in-Some+in_ok-json-in-Some}

pub returns-clause-told : goal.returns-clause-told
returns-clause-told g c =
    record {
      lattice = c.in_ok-classes.classes;
      declared = c.in_ok-classes.ensures.read;
      told = elim c.match-looking.branch [
        | in-Some+in_ok-before-in-Some+in_ok-sees_more-in-Some+in_ok-lines-in-Some+in_ok-json-in-Some w ↦
            rw (w.in-Some.is, w.reply-is) (record {
              old = w.in_ok-before-in-Some.before;
              declared = w.in_ok-before-in-Some.ensures.read;
              verdict = w.in_form-reply.ensures.verdict
                  ∙ ap (λ more. not (c.args.looking.is_denying && more)) w.in_ok-sees_more-in-Some.ensures.more;
              is = λ plain. w.in_form-reply.ensures.lines plain ∙ w.in_ok-lines-in-Some.ensures.changes;
            })
        | in-None+in_ok-lines-in-None+in_ok-json-in-None w ↦ rw (w.in-None.is, w.reply-is) (
          w.in_form-reply-in-None.ensures.verdict,
          λ plain. w.in_form-reply-in-None.ensures.lines plain ∙ w.in_ok-lines-in-None.ensures.table,
        )
      ];
    }
