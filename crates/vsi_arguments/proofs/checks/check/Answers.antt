use Rattle.std.proofs.Common.{rules, false}
use Rattle.std.specs.Prelude.{codes}
use Rattle.vsi_arguments.specs.Words.{texts, values_in}
use Rattle.vsi_arguments.proofs.checks.check.Goals as goal

pub returns-then-has_flag : goal.returns-then-has_flag
returns-then-has_flag c = record {
  spelled = record {
    rest = texts c.in_ok-rest.rest.now;
    named = c.in_ok-rest.ensures.named;
    has_operands = c.in_ok-compilation.ensures.files;
    has_flags = search rules;
    has_options = search rules;
    has_numbers = search rules;
  };
  own = rw (c.as_slice.ensures, c.as_slice-2.ensures) at c.in_ok-rest.ensures.own;
}

pub returns : goal.returns
returns c = record {
  spelled = record {
    formats = values_in (codes "--format") false (texts c.in_ok-rest.rest.now);
    asks = record {
      rest = texts c.in_ok-rest.rest.now;
      named = c.in_ok-rest.ensures.named;
      has_operands = c.in_ok-compilation.ensures.files;
      has_flags = search rules;
      has_options = search rules;
      has_numbers = search rules;
    };
    is_text = search rules;
  };
  own = rw (c.as_slice.ensures, c.as_slice-2.ensures) at c.in_ok-rest.ensures.own;
}
