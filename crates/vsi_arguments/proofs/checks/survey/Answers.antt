use Rattle.std.proofs.Common.{rules, false}
use Rattle.std.specs.Prelude.{codes}
use Rattle.vsi_arguments.specs.Words.{texts, values_in}
use Rattle.vsi_arguments.proofs.checks.survey.Goals as goal

pub returns : goal.returns
returns c = record {
  spelled = record {
    formats = values_in (codes "--format") false (texts c.in-Some.rest.now);
    has_places = c.in-Some-Some.has_places;
    asks = record {
      rest = texts c.in-Some.rest.now;
      named = c.in-Some.ensures.named;
      has_operands = search rules;
      has_flags = search rules;
      has_options = search rules;
      has_numbers = search rules;
    };
    given = search rules;
    each = search rules;
  };
  own = rw (c.as_slice.ensures, c.as_slice-2.ensures) at c.in-Some.ensures.own;
}
