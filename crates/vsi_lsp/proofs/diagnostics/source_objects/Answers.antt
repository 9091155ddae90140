use Rattle.std.proofs.Common.{[], refl}
use Rattle.std.proofs.lemmas.List.Elements.{All-nil}
use Rattle.vsi_lsp.specs.Severity.{IsError}
use Rattle.vsi_lsp.proofs.diagnostics.source_objects.Goals as goal

pub returns-in-Ok : goal.returns-in-Ok
returns-in-Ok c =
    record {
      exact = record {
        errors = [];
        others = c.in_ok-warnings.warnings.items;
        listed = refl;
        exact = ((λ e. c.in-Ok.ensures.accepted), (λ a. refl));
        severe = All-nil IsError;
        warned = λ p. c.in_ok-warnings.ensures;
      };
    }

pub returns-in_ok-append-in-Err : goal.returns-in_ok-append-in-Err
returns-in_ok-append-in-Err c =
    record {
      exact = record {
        errors = c.in_ok-errors-in-Err.errors.items;
        others = c.in_ok-warnings.warnings.items;
        listed = c.in_ok-append-in-Err.ensures.items;
        exact = (
          (λ e. absurd (c.in_ok-errors-in-Err.ensures.some e)),
          (λ a. absurd (c.in_ok-errors-in-Err.ensures.judged (c.in-Err.ensures.exact a))),
        );
        severe = c.in_ok-errors-in-Err.ensures.severe;
        warned = λ p. c.in_ok-warnings.ensures;
      };
    }
