use Rattle.std.proofs.Common.{sym, ◌∙◌, refl}
use Rattle.vsi_infer.proofs.RowsOf.{all_zero}
use Rattle.vsi_infer.proofs.ReachLemmas.{only_one}
use Rattle.std.proofs.lemmas.Bool.{false≢true}
use Rattle.vsi_infer.proofs.distances.only.Goals as goal

pub returns-then-place-lt1024-clause-alone : goal.returns-then-place-lt1024-clause-alone
returns-then-place-lt1024-clause-alone c = λ v h.
    only_one v c.args.place _ (all_zero 16 _ refl v 0) (sym (c.note.ensures.bits v 0) ∙ h)

pub returns-else-place-lt1024-clause-alone : goal.returns-else-place-lt1024-clause-alone
returns-else-place-lt1024-clause-alone c = λ v h. absurd (false≢true (sym (all_zero 16 _ refl v 0) ∙ h))
