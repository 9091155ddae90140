use Rattle.std.proofs.Common.{rules}
use Rattle.vsi_arguments.specs.Words.{texts}
use Rattle.vsi_arguments.proofs.requests.policy.Goals as goal

pub returns-in_default : goal.returns-in_default
returns-in_default c = record {
  spelled = record {
    is_named = c.in_ok-lattice.ensures.is_named;
    asks = record {
      rest = texts c.in_ok-rest.rest.now;
      named = c.in_ok-rest.ensures.named;
      has_operands = c.in_ok-lattice.ensures.operands;
      has_flags = search rules;
      has_options = (
        rw c.in_default.is at c.in_ok-interface.ensures,
        (c.in_ok-lattice.ensures.to, (c.in_ok-lattice.ensures.from, tt)),
      );
      has_numbers = tt;
    };
  };
  own = rw (c.as_slice.ensures, c.as_slice-2.ensures) at c.in_ok-rest.ensures.own;
}

pub returns-then-has_flag : goal.returns-then-has_flag
returns-then-has_flag c = record {
  spelled = record {
    is_named = c.in_ok-lattice.ensures.is_named;
    asks = record {
      rest = texts c.in_ok-rest.rest.now;
      named = c.in_ok-rest.ensures.named;
      has_operands = c.in_ok-lattice.ensures.operands;
      has_flags = search rules;
      has_options = (
        rw c.in_default.is at c.in_ok-interface.ensures,
        (c.in_ok-lattice.ensures.to, (c.in_ok-lattice.ensures.from, tt)),
      );
      has_numbers = tt;
    };
  };
  own = rw (c.as_slice.ensures, c.as_slice-2.ensures) at c.in_ok-rest.ensures.own;
}

pub returns : goal.returns
returns c = record {
  spelled = record {
    is_named = c.in_ok-older.ensures.is_named;
    asks = record {
      rest = texts c.in_ok-rest.rest.now;
      named = c.in_ok-rest.ensures.named;
      has_operands = c.in_ok-older.ensures.operands;
      has_flags = search rules;
      has_options = (
        rw c.in-Some.is at c.in_ok-interface.ensures,
        (c.in_ok-older.ensures.to, (c.in_ok-older.ensures.from, tt)),
      );
      has_numbers = tt;
    };
  };
  own = rw (c.as_slice.ensures, c.as_slice-2.ensures) at c.in_ok-rest.ensures.own;
}

pub returns-then-has_flag-2 : goal.returns-then-has_flag-2
returns-then-has_flag-2 c = record {
  spelled = record {
    is_named = c.in_ok-older.ensures.is_named;
    asks = record {
      rest = texts c.in_ok-rest.rest.now;
      named = c.in_ok-rest.ensures.named;
      has_operands = c.in_ok-older.ensures.operands;
      has_flags = search rules;
      has_options = (
        rw c.in-Some.is at c.in_ok-interface.ensures,
        (c.in_ok-older.ensures.to, (c.in_ok-older.ensures.from, tt)),
      );
      has_numbers = tt;
    };
  };
  own = rw (c.as_slice.ensures, c.as_slice-2.ensures) at c.in_ok-rest.ensures.own;
}
