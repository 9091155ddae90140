use Rattle.std.proofs.Common.{rules, refl}
use Rattle.vsi_arguments.specs.Words.{texts}
use Rattle.vsi_arguments.proofs.checks.project.Goals as goal

pub returns : goal.returns
returns c = record {
  spelled = record {
    asks = record {
      rest = texts c.in_ok-rest.rest.now;
      named = c.in_ok-rest.ensures.named;
      has_operands = search rules;
      has_flags = search rules;
      has_options = search rules;
      has_numbers = search rules;
    };
    budgeted = refl;
  };
  own = rw (c.as_slice.ensures, c.as_slice-2.ensures) at c.in_ok-rest.ensures.own;
}
