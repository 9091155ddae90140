use Rattle.std.proofs.Common.{◌≡◌, ◌+◌, take}
use Rattle.vsi_subject.specs.Projects.{Judges}
use Rattle.vsi_requests.proofs.projects.put_programs.Given as goal

-- The verdicts on the programs so far, which are as many as these.
abbrev pub invariant-loop-program : goal.invariant-loop-program
invariant-loop-program g l =
    record {
      judges : Judges (g.F.Files.holds l.subject.files.now) l.budget (take l.program-index l.programs) l.counts.good
          l.counts.bad;
      all : l.counts.good + l.counts.bad ≡ l.program-index;
    }
