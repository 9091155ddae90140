use Rattle.std.proofs.Common.{◌≡◌, ◌++◌, drop, option_map}
use Rattle.vsi_conform.specs.Reading.{bytes_of}
use Rattle.vsi_conform.specs.Reaching as spec
use Rattle.vsi_conform.proofs.reaching.reach_of.Given as goal

-- The names so far and those of the remaining globals that reach it are those of all.
abbrev pub invariant-loop-i : goal.invariant-loop-i
invariant-loop-i l =
    bytes_of l.sources.items ++ spec.sources_of (spec.flowing l.flows).table l.target (bytes_of (drop l.i l.flows.names.items)) l.i
    ≡ spec.sources_of (spec.flowing l.flows).table l.target (spec.flowing l.flows).names 0

-- The names so far and those of the rest that aren't listed are those of all.
abbrev pub invariant-loop-source : goal.invariant-loop-source
invariant-loop-source l =
    bytes_of l.beyond.items ++ spec.unlisted (bytes_of l.allowed.items) (bytes_of (drop l.source-index l.source-items))
    ≡ spec.unlisted (bytes_of l.allowed.items) (bytes_of l.source-items)
