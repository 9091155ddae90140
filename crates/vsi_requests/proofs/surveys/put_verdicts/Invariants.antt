use Rattle.std.proofs.Common.{◌≡◌, ◌+◌, take}
use Rattle.vsi_subject.specs.Surveys.{Tally}
use Rattle.vsi_requests.proofs.surveys.put_verdicts.Given as goal

-- The verdicts on the files so far, which are as many as these.
abbrev pub invariant-loop-path : goal.invariant-loop-path
invariant-loop-path g l =
    record {
      tally : Tally (g.F.Files.holds l.subject.files.now) l.judgement l.lattice (take l.path-index l.paths) l.counts.good
          l.counts.bad;
      all : l.counts.good + l.counts.bad ≡ l.path-index;
    }
