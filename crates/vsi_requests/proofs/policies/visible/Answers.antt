use Rattle.std.proofs.Common.{ap, ◌∙◌}
use Rattle.std.specs.Prelude.{◌&&◌, not}
use Rattle.vsi_requests.proofs.policies.visible.Goals as goal
use Rattle.vsi_requests.proofs.policies.visible.Goals.{in-None+in_ok-lines-in-None+in_ok-json-in-None, in-Some+in_ok-before-in-Some+in_ok-lines-in-Some+in_ok-json-in-Some+in-None-1, in-Some+in_ok-before-in-Some+in_ok-lines-in-Some+in_ok-json-in-Some+in-Some-1}

pub returns-clause-told : goal.returns-clause-told
returns-clause-told g c =
    record {
      asked = c.in_ok-found.found;
      interface = c.in_ok-found.ensures.asked;
      lattice = c.in_ok-found.lattice;
      declared = c.in_ok-found.ensures.declared;
      told = elim c.match-asked.branch [
        | in-Some+in_ok-before-in-Some+in_ok-lines-in-Some+in_ok-json-in-Some+in-Some-1 w ↦
            rw (w.in-Some.is, w.reply-is) (record {
              old = w.in_ok-before-in-Some.before;
              asked = w.in_ok-before-in-Some.ensures.asked;
              lattice = w.in_ok-before-in-Some.old_lattice;
              declared = w.in_ok-before-in-Some.ensures.declared;
              verdict = w.in_form-reply.ensures.verdict
                  ∙ ap (λ more. not (c.args.asked.is_denying && more)) w.interface_sees_more-gains.ensures.more;
              is = λ plain. w.in_form-reply.ensures.lines plain ∙ w.in_ok-lines-in-Some.ensures.changes;
            })
        | in-Some+in_ok-before-in-Some+in_ok-lines-in-Some+in_ok-json-in-Some+in-None-1 w ↦
            rw (w.in-Some.is, w.reply-is) (record {
              old = w.in_ok-before-in-Some.before;
              asked = w.in_ok-before-in-Some.ensures.asked;
              lattice = w.in_ok-before-in-Some.old_lattice;
              declared = w.in_ok-before-in-Some.ensures.declared;
              verdict = w.in_form-reply.ensures.verdict
                  ∙ ap (λ more. not (c.args.asked.is_denying && more)) w.interface_sees_more-gains.ensures.more;
              is = λ plain. w.in_form-reply.ensures.lines plain ∙ w.in_ok-lines-in-Some.ensures.changes;
            })
        | in-None+in_ok-lines-in-None+in_ok-json-in-None w ↦ rw (w.in-None.is, w.reply-is) (
          w.in_form-reply-in-None.ensures.verdict,
          λ plain. w.in_form-reply-in-None.ensures.lines plain ∙ w.in_ok-lines-in-None.ensures.table,
        )
      ];
    }
