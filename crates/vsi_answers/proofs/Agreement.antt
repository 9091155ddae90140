-- The laws of answers.
use Rattle.std.proofs.Common.{◌≡◌, length, sym, ap, ◌∙◌, inl, inr}
use Rattle.std.proofs.lemmas.List.{length-map}
use Rattle.std.specs.Prelude.{Ok, slice_get}
use Rattle.vsi_lattice.specs.LatticeView.{class_named, order}
use Rattle.vsi_image.specs.Fields.{Fields, fields, global, globals}
use Rattle.vsi_image.proofs.Images.{spelled-is_read}
use Rattle.vsi_image.specs.Reading.{image_of}
use Rattle.vsi_compiler.proofs.Profiles.{strict_implies_base}
use Rattle.vsi_drive.proofs.Seen as devices
use Rattle.vsi_answers.specs.declared.unanswered.Cause.TheVariants.{Source, File, Start, Steady, Raised}
use Rattle.vsi_answers.specs.Laws.{AcceptedIsAccepted, BuiltIsAccepted, SameView, StrictIsBase}
use Rattle.vsi_answers.proofs.Views.{same_fields, view_moved}

-- If `check` answers that a text is accepted, it is.
pub accepted_is_accepted : AcceptedIsAccepted
accepted_is_accepted P policy source text (inl found) = (found.0, found.1, found.2.0)
accepted_is_accepted P policy source text (inr none) = absurd none

-- `check` and `build` agree.
pub built_is_accepted : BuiltIsAccepted
built_is_accepted l P source answer text (Source e) =
    ((λ checked refused. refused.1.unaccepted checked.0), (λ built refused. refused.1.unaccepted built.compiled.accepted))
built_is_accepted l P source answer text (File f) = ((λ checked refused. refused), (λ built refused. refused))
built_is_accepted l P source answer text (Start f) = ((λ checked refused. refused), (λ built refused. refused))
built_is_accepted l P source answer text (Steady e) = ((λ checked refused. refused), (λ built refused. refused))
built_is_accepted l P source answer text (Raised e) = ((λ checked refused. refused), (λ built refused. refused))

-- The strict profile accepts no more than the base profile.
pub strict_is_base : StrictIsBase
strict_is_base l source answer text (Source e) checked refused =
    refused.1.unaccepted (strict_implies_base (class_named l) (order l) source checked.0)
strict_is_base l source answer text (File f) checked refused = refused
strict_is_base l source answer text (Start f) checked refused = refused
strict_is_base l source answer text (Steady e) checked refused = refused
strict_is_base l source answer text (Raised e) checked refused = refused

-- Stores that agree give the same view.
pub same_view : SameView
same_view l P source bytes im a built are class m₁ m₂ b₁ b₂ t₁ t₂ full₁ full₂ agree v₁ v₂ =
    let known = class_named l in
    let L = order l in
    let image = built.image in
    let read : image_of bytes.items ≡ Ok (fields image) =
    ap image_of built.spelled ∙ spelled-is_read _ (fields image) built.compiled.coded.spelled in
    let same : fields im ≡ fields image = same_fields (fields im) (fields image) (sym are.0 ∙ read) in
    let many : length im.globals.items ≡ length image.globals.items =
    sym (length-map im.globals.items global) ∙ ap (λ (f : Fields). length f.globals) same
    ∙ length-map image.globals.items global in
    devices.same_view known L P source image a built.compiled class m₁ m₂ b₁ b₂ t₁ t₂ (full₁ ∙ many) (full₂ ∙ many)
    (λ i g c at is below. agree i g c (ap (λ (f : Fields). slice_get f.globals i) same ∙ at) is below)
    (view_moved known L a im image same m₁ b₁ t₁ v₁) (view_moved known L a im image same m₂ b₂ t₂ v₂)
