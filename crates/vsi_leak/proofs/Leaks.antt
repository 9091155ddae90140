-- The property that a leak refutes, and the leaks that an accepted text can't show.
use Rattle.std.proofs.Common.{ℕ, subst}
use Rattle.vsi_image.specs.declared.instr.Image.{Image}
use Rattle.vsi_lattice.specs.Order.{Lattice, IsClass}
use Rattle.vsi_scope.specs.Meaning.{Store}
use Rattle.vsi_lattice.specs.Known.{Known}
use Rattle.vsi_compiler.specs.Observation.{IsNoninterfering, AgreeAt, IsStoreOf}
use Rattle.vsi_store.specs.declared.comparing.RunEnding.{RunEnding}
use Rattle.vsi_store.specs.declared.comparing.RunEnding.TheVariants.{Halted, OutOfBudget}
use Rattle.vsi_leak.specs.declared.check.Finding.{Finding}
use Rattle.vsi_leak.specs.declared.check.Finding.TheVariants as finding
use Rattle.vsi_leak.specs.declared.check.Sign.{Sign}
use Rattle.vsi_leak.specs.declared.check.Sign.TheVariants.{Words}
use Rattle.vsi_leak.specs.Laws.{LeakRefutes}
use Rattle.vsi_leak.specs.Leaks.{IsFinding, EndsSo, TellsApart, TellsNoWords}

module _ (known : Known) (L : Lattice) (image : Image) (budget a : ℕ) (within : IsClass L a) (m m' : Store)
    (fits : IsStoreOf image m) (fits' : IsStoreOf image m') (agree : AgreeAt known L image a m m')
    (secure : IsNoninterfering known L image) where
  -- Two halted runs from stores that agree end in agreement, so no final words tell them apart.
  untold : (e e' : RunEnding) → EndsSo image m budget e → EndsSo image m' budget e' →
      ¬ (TellsApart known L image a Words e e')
  untold (Halted n words) (Halted n' words') h h' apart =
      apart (secure a within m m' words.items words'.items n n' fits fits' agree h.1.ends h'.1.ends)
  untold (Halted n words) OutOfBudget h h' apart = apart
  untold OutOfBudget e h h' apart = apart

-- A leak by words refutes noninterference.
pub leak_refutes : LeakRefutes
leak_refutes known L image budget leak is words secure =
    untold known L image budget leak.class is.class leak.first.store.items leak.second.store.items is.first_store
    is.second_store is.agree secure leak.first.ending leak.second.ending is.first_end is.second_end
    (subst (λ (s : Sign). TellsApart known L image leak.class s leak.first.ending leak.second.ending) words is.apart)

-- A search of an image that lets no information flow where it may not reports no leak by words.
pub tells_no_words : (known : Known) (L : Lattice) (image : Image) (budget : ℕ) (f : Finding) →
    IsFinding known L image budget f → IsNoninterfering known L image → TellsNoWords f
tells_no_words known L image budget (finding.Leak leak) is secure =
    λ words. leak_refutes known L image budget leak is words secure
tells_no_words known L image budget (finding.Nothing pairs) is secure = tt
