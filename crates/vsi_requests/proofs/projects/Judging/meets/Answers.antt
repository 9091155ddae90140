use Rattle.vsi_requests.proofs.projects.Judging.meets.Goals as goal

pub returns-clause-told : goal.returns-clause-told
returns-clause-told g c = λ all.
    record {
      bound = c.in_ok-has_bound.ensures c.if-not-has_bound.false;
      store = c.in_ok-has_store.ensures.told c.if-not-has_store.false;
      interface = c.in_ok-conforms.ensures.told all;
    }
