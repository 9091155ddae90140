-- The request that plain arguments make.
use Rattle.std.specs.Prelude.{◌≡◌, ℕ, false, List, [], ◌∷◌, codes, String}
use Rattle.std.specs.declared.alloc.Global.{Global}
use Rattle.vsi_arguments.specs.declared.request.Judging.{Judging}
use Rattle.vsi_arguments.specs.declared.request.Request.{Request}
use Rattle.vsi_arguments.specs.declared.request.Request.TheVariants.{Check}
use Rattle.vsi_arguments.specs.Asked.{AsksFor}
use Rattle.vsi_arguments.specs.Help.{AsksHelp}
use Rattle.vsi_arguments.specs.Words.{is_dashed, texts}

-- The arguments are `check`, a lattice file and a source text, neither of which looks like an option.
pub record ArePlainCheck (words : List (String Global)) (lattice source : List ℕ) : Type 0 where
  pub are : texts words ≡ codes "check" ∷ lattice ∷ source ∷ []
  pub plain_lattice : is_dashed lattice ≡ false
  pub plain_source : is_dashed source ≡ false

-- A judgement of these files by the base profile, which is answered by `accepted`.
pub record IsPlainCheck (lattice source : List ℕ) (judging : Judging) : Type 0 where
  pub lattice_is : judging.compilation.lattice.now ≡ lattice
  pub source_is : judging.compilation.source.now ≡ source
  pub base : judging.compilation.is_strict ≡ false
  pub unsteady : judging.is_steady ≡ false
  pub plain : judging.is_json ≡ false

-- Such arguments don't ask for help, and the only request that they make is such a judgement.
abbrev pub CheckIsAsked : Type 0
CheckIsAsked =
    (words : List (String Global)) (lattice source : List ℕ) → ArePlainCheck words lattice source →
    (AsksHelp words → ⊥) × ((request : Request) → AsksFor words request →
    (judging : Judging) × (request ≡ Check judging) × IsPlainCheck lattice source judging)
