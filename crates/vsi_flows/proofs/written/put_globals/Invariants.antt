use Rattle.std.proofs.Common.{◌≡◌, ◌++◌, map, drop}
use Rattle.vsi_syntax.specs.CommandView.{declared}
use Rattle.vsi_flows.proofs.written.put_globals.Given as goal

-- The places so far and those of what is left are all places.
abbrev pub invariant-loop-global : goal.invariant-loop-global
invariant-loop-global l =
    l.places.items ++ map (λ g. g.class.span) (map declared (drop l.global-index l.globals))
    ≡ l.fn.places.items ++ map (λ g. g.class.span) (map declared l.globals)
