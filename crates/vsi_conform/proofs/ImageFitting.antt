-- An image conforms exactly if nothing is reported of it.
use Rattle.std.proofs.Common.{◌≡◌, ℕ, true, List, [], ◌∷◌, Option, Some, None, is_some, not, ◌&&◌, refl, sym, ap, ◌∙◌, subst}
use Rattle.std.specs.Global.{Vec}
use Rattle.vsi_lattice.specs.Order.{Lattice}
use Rattle.vsi_lattice.specs.declared.lattice.Lattice as named
use Rattle.vsi_lattice.specs.LatticeView.{class_named, order}
use Rattle.vsi_lattice.specs.Known.{Known}
use Rattle.vsi_image.specs.declared.instr.Image.{Image}
use Rattle.vsi_conform.specs.declared.interface.Interface.{Interface}
use Rattle.vsi_conform.specs.declared.interface.Judgement.{Judgement}
use Rattle.vsi_conform.specs.declared.interface.Judgement.TheVariants.{Base, Strict, Steady}
use Rattle.vsi_conform.specs.declared.interface.Point.{Point}
use Rattle.vsi_conform.specs.Bounded.{ReportsBound}
use Rattle.vsi_conform.specs.Conforms.{Fits}
use Rattle.vsi_conform.specs.Points.{is_none_told, points_of}
use Rattle.vsi_conform.proofs.BoundLines.{bounded_so}
use Rattle.vsi_conform.proofs.Converse.{fitting_told}
use Rattle.vsi_conform.proofs.Fitting.{image_fits}
use Rattle.vsi_conform.specs.ImageConforms.{Conforms, IsAcceptedAs, IsJudged}
use Rattle.vsi_conform.specs.declared.images.Refusal.{Refusal}

-- An image without a refusal is as the profile requires.
accepted_so : (known : Known) (L : Lattice) (j : Judgement) (image : Image) → IsJudged known L j image None →
    IsAcceptedAs known L j image
accepted_so known L Base image is = is
accepted_so known L Strict image is = is
accepted_so known L Steady image is = is

-- If the test says that nothing is reported, there is no refusal, no point and no line about the bound.
nothing_told : (r : Option Refusal) (ps : List Point) (line : Option (Vec ℕ)) →
    (not (is_some r) && is_none_told ps && not (is_some line)) ≡ true → (r ≡ None) × (ps ≡ []) × (line ≡ None)
nothing_told None [] None h = (refl, refl, refl)
nothing_told None [] (Some line) h = absurd cc
nothing_told None (p ∷ ps) line h = absurd cc
nothing_told (Some e) ps line h = absurd cc

-- An image conforms if nothing is reported of it.
pub conforms_so : (l : named.Lattice) (image : Image) (i : Interface) (r : Option Refusal) (ps : List Point)
    (line : Option (Vec ℕ)) → IsJudged (class_named l) (order l) i.judgement image r → ps ≡ points_of image i →
    ReportsBound i.bounded image line → (not (is_some r) && is_none_told ps && not (is_some line)) ≡ true →
    Conforms l image i
conforms_so l image i r ps line judged points bound h =
    let p = nothing_told r ps line h in
    record {
      accepted = accepted_so (class_named l) (order l) i.judgement image
          (subst (IsJudged (class_named l) (order l) i.judgement image) p.0 judged);
      fits = image_fits image i (sym points ∙ p.1) (bounded_so i.bounded image line bound p.2);
    }

-- Nothing is reported of an image that fits, if there is neither a refusal nor a line about the bound.
pub fitting_so : (image : Image) (i : Interface) (r : Option Refusal) (ps : List Point) (line : Option (Vec ℕ)) →
    ps ≡ points_of image i → Fits i image → r ≡ None → line ≡ None →
    (not (is_some r) && is_none_told ps && not (is_some line)) ≡ true
fitting_so image i r ps line points fits accepted bounded =
    ap (λ o. not (is_some o) && is_none_told ps && not (is_some line)) accepted
    ∙ ap (λ qs. is_none_told qs && not (is_some line)) (points ∙ fitting_told image i fits)
    ∙ ap (λ o. not (is_some o)) bounded
