-- The facts that hold if `check` is done to the end.
use Rattle.std.proofs.Common.{ℕ, List, Bool, subst, inl, inr}
use Rattle.std.specs.Prelude.{Ok, false, true}
use Rattle.std.specs.Global.{Vec}
use Rattle.vsi_types.specs.declared.rules.Profile.TheVariants.{Base}
use Rattle.vsi_answers.specs.Requests.{ChecksTo}
use Rattle.vsi_arguments.specs.declared.request.Judging.{Judging}
use Rattle.vsi_arguments.specs.declared.request.Request.{Request}
use Rattle.vsi_arguments.specs.declared.request.Request.TheVariants.{Check}
use Rattle.vsi_arguments.specs.Laws.{IsPlainCheck}
use Rattle.vsi_arguments.proofs.Plain.{check_is_asked}
use Rattle.vsi_subject.specs.Holding.{Holding, IsReadAt}
use Rattle.vsi.specs.Laws.{CheckedIsAccepted, IsAcceptedAt}
use Rattle.vsi_subject.specs.Files.{OfFiles}
use Rattle.vsi_subject.specs.Performed.{Performs, PutsAnswer, TellsCheck, ToldAccepted}

-- Where a judgement of two files by the base profile has been performed, the source text is accepted.
pub accepted_at : (holds : Holding) (judging : Judging) (lattice source : List ℕ) (text : Vec ℕ) →
    IsPlainCheck lattice source judging → TellsCheck judging.is_json holds judging true text →
    IsAcceptedAt holds lattice source
accepted_at holds judging lattice source text plain answer =
    let strict = judging.compilation.is_strict in
    let told : OfFiles holds judging.compilation (ToldAccepted judging.is_steady strict) text =
    subst (λ (b : Bool). TellsCheck b holds judging true text) plain.plain answer in
    let unsteady : ToldAccepted false strict told.lattice told.source text =
    subst (λ (b : Bool). ToldAccepted b strict told.lattice told.source text) plain.unsteady told.is in
    let base : ChecksTo told.lattice Base told.source (Ok text) =
    subst (λ (b : Bool). ToldAccepted false b told.lattice told.source text) plain.base unsteady in
    record {
      policy = told.files.lattice.policy;
      lattice_read = subst (λ (p : List ℕ). IsReadAt holds p told.files.lattice.policy) plain.lattice_is
          told.files.lattice.read;
      text = told.source;
      source_read = subst (λ (p : List ℕ). IsReadAt holds p told.source) plain.source_is told.files.read;
      declared = told.lattice;
      declares = told.files.lattice.declared;
      accepted = base.0;
    }

-- The law.
pub checked_is_accepted : CheckedIsAccepted
checked_is_accepted holds given words lattice source left old new plain (inl help) =
    absurd ((check_is_asked words lattice source plain).0 help.1)
checked_is_accepted holds given words lattice source left old new plain (inr (request, asks, performed)) =
    let found = (check_is_asked words lattice source plain).1 request asks in
    let put : PutsAnswer holds (Check found.0) left old new =
    subst (λ (r : Request). Performs holds given r left old new) found.1 performed in
    accepted_at holds found.0 lattice source put.text found.2 put.is
