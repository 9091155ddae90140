use Rattle.std.proofs.Common.{[], sym}
use Rattle.std.proofs.lemmas.List.{append-nil}
use Rattle.vsi_lsp.proofs.diagnostics.refused_objects.Goals as goal

pub returns-in-Scope-TooLarge-clause-begins : goal.returns-in-Scope-TooLarge-clause-begins
returns-in-Scope-TooLarge-clause-begins c =
    record {
      errors = c.in_ok-errors.errors.items;
      others = [];
      listed = sym (append-nil c.in_ok-errors.errors.items);
      some = c.in_ok-errors.ensures.some;
      severe = c.in_ok-errors.ensures.severe;
    }

pub returns-clause-begins : goal.returns-clause-begins
returns-clause-begins c =
    record {
      errors = c.in_ok-errors.errors.items;
      others = c.loop-fault.further.items;
      listed = c.in_ok-append-2.ensures.items;
      some = c.in_ok-errors.ensures.some;
      severe = c.in_ok-errors.ensures.severe;
    }
