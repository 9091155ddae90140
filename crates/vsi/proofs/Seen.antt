-- The views that a class has of two runs of a built image.
use Rattle.std.proofs.Common.{◌≡◌, ◌∙◌, ℕ, ℤ, List, sym, subst, ap, unwrap_or}
use Rattle.std.specs.Prelude.{Bool, Some, Ok}
use Rattle.std.specs.Global.{Vec}
use Rattle.vsi_lattice.specs.LatticeView.{class_named, order}
use Rattle.vsi_lattice.specs.Order.{IsClass}
use Rattle.vsi_lattice.specs.declared.lattice.Lattice.{Lattice}
use Rattle.vsi_image.specs.declared.instr.Image.{Image}
use Rattle.vsi_compiler.specs.Observation.{AgreeAt, IsStoreOf}
use Rattle.vsi_answers.specs.Judged.{AreImage}
use Rattle.vsi_answers.specs.Requests.{BuildsTo, ViewsTo}
use Rattle.vsi_answers.proofs.Agreement.{same_view}
use Rattle.vsi.specs.Laws.{BuiltIsSeenAlike}
use Rattle.vsi_subject.specs.Performed.{profile_of}

-- Two views under one lattice, of one image whose bytes are built, are the same where the stores agree.
same_seen : (l m₁ m₂ : Lattice) (strict : Bool) (source : List ℕ) (bytes : Vec ℕ) (i₁ i₂ : Image) (a₁ a₂ : ℕ)
    (class : List ℕ) (w₁ w₂ : List ℤ) (b₁ b₂ : ℕ) (t₁ t₂ : Vec ℕ) → m₁ ≡ l → m₂ ≡ l → i₂ ≡ i₁ →
    BuildsTo l (profile_of strict) source (Ok bytes) → AreImage bytes.items i₁ →
    class_named m₁ class ≡ Some a₁ → class_named m₂ class ≡ Some a₂ → IsClass (order m₁) a₁ → IsStoreOf i₁ w₁ →
    IsStoreOf i₂ w₂ → AgreeAt (class_named l) (order l) i₁ a₁ w₁ w₂ → ViewsTo m₁ a₁ i₁ w₁ b₁ (Ok t₁) →
    ViewsTo m₂ a₂ i₂ w₂ b₂ (Ok t₂) → t₁.items ≡ t₂.items
same_seen l m₁ m₂ strict source bytes i₁ i₂ a₁ a₂ class w₁ w₂ b₁ b₂ t₁ t₂ is₁ is₂ same built are n₁ n₂ c₁ s₁ s₂
    agree v₁ v₂ =
    let at : a₂ ≡ a₁ =
    ap (λ o. unwrap_or o a₁) (sym n₂ ∙ (ap (λ m. class_named m class) (is₂ ∙ sym is₁) ∙ n₁)) in
    same_view l (profile_of strict) source bytes i₁ a₁ built are (subst (λ m. IsClass (order m) a₁) is₁ c₁) w₁ w₂
    b₁ b₂ t₁ t₂ s₁ (subst (λ i. IsStoreOf i w₂) same s₂) agree (subst (λ m. ViewsTo m a₁ i₁ w₁ b₁ (Ok t₁)) is₁ v₁)
    (subst (λ m. ViewsTo m a₁ i₁ w₂ b₂ (Ok t₂)) is₂
    (subst (λ i. ViewsTo m₂ a₁ i w₂ b₂ (Ok t₂)) same (subst (λ a. ViewsTo m₂ a i₂ w₂ b₂ (Ok t₂)) at v₂)))

-- A class sees two runs of a built image alike.
pub built_is_seen_alike : BuiltIsSeenAlike
built_is_seen_alike built holds c bytes build path class e₁ e₂ o₁ o₂ t₁ t₂ first second is₁ is₂ are same agree =
    same_seen build.lattice first.lattice second.lattice c.is_strict build.source bytes first.image second.image
    first.viewer second.viewer class first.words second.words first.budget second.budget t₁ t₂ is₁ is₂ same build.is are
    first.looks.named second.looks.named first.looks.is first.begins.whole second.begins.whole agree first.views
    second.views
