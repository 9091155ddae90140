use Rattle.std.proofs.Common.{◌≡◌, refl, subst, sym}
use Rattle.vsi_answers.specs.Answers.{Because}
use Rattle.vsi_answers.specs.Judged.{TellsFault}
use Rattle.vsi_answers.proofs.Told.{fault_told}
use Rattle.vsi_subject.specs.Refusals.{IsNoMemory, NoOther, FailsBy}
use Rattle.vsi_subject.proofs.Reasons.{reason_fails}
use Rattle.vsi_subject.proofs.subject.faulty.Goals as goal

pub returns : goal.returns
returns c =
    let why = Because (TellsFault (λ f. (f ≡ c.args.fault) × IsNoMemory f)) ⊥ in
    subst (FailsBy why NoOther) (sym c.from.ensures)
    (reason_fails why NoOther c.refused_file.result
    (fault_told (λ f. (f ≡ c.args.fault) × IsNoMemory f) c.args.fault
    (refl, c.wants_memory.ensures c.if-wants_memory.false) ⊥ c.refused_file.result c.refused_file.ensures))
