-- Boxes with the sizes of their nodes, within a frame and apart, one more at a time.
use Rattle.std.proofs.Common.{◌≡◌, ℕ, ◌+◌, ◌<◌, ◌≤◌, List, length, subst, ⊎_elim, arith}
use Rattle.std.specs.List.{slice_index_or}
use Rattle.std.proofs.lemmas.Bool.{cases_lt}
use Rattle.std.proofs.lemmas.List.{get_or_default}
use Rattle.vsi_layered.specs.declared.drawing.Node.{Node}
use Rattle.vsi_layered.specs.declared.drawing.Place.{Place}
use Rattle.vsi_layered.specs.Drawing.{AreApart, HasSize, IsWithin}

-- One more node has a box of its size.
pub sized_more : (nodes : List Node) (places : List Place) (i : ℕ) (m : Node) (e : Place) → i < length nodes →
    i < length places → HasSize (slice_index_or nodes i m) (slice_index_or places i e) →
    ((k : ℕ) (n : Node) (d : Place) → k < i → HasSize (slice_index_or nodes k n) (slice_index_or places k d)) →
    (k : ℕ) (n : Node) (d : Place) → k < i + 1 → HasSize (slice_index_or nodes k n) (slice_index_or places k d)
sized_more nodes places i m e there beside here before k n d lt =
    ⊎_elim (λ below. before k n d below)
    (λ le.
    let same : i ≡ k = omega (arith, lt, le) in
    subst (λ j. HasSize (slice_index_or nodes j n) (slice_index_or places j d)) same
    (subst (λ p. HasSize (slice_index_or nodes i n) p) (get_or_default places i e d beside)
    (subst (λ x. HasSize x (slice_index_or places i e)) (get_or_default nodes i m n there) here)))
    (cases_lt k i)

-- One more box is within the frame.
pub within_more : (frame : Place) (places : List Place) (i : ℕ) (e : Place) → i < length places →
    IsWithin (slice_index_or places i e) frame →
    ((k : ℕ) (d : Place) → k < i → IsWithin (slice_index_or places k d) frame) →
    (k : ℕ) (d : Place) → k < i + 1 → IsWithin (slice_index_or places k d) frame
within_more frame places i e there here before k d lt =
    ⊎_elim (λ below. before k d below)
    (λ le.
    let same : i ≡ k = omega (arith, lt, le) in
    subst (λ j. IsWithin (slice_index_or places j d) frame) same
    (subst (λ p. IsWithin p frame) (get_or_default places i e d there) here))
    (cases_lt k i)

-- One more box and those before it have no point in common.
pub apart_more : (places : List Place) (i : ℕ) →
    ((j : ℕ) (d : Place) → j < i → AreApart (slice_index_or places j d) (slice_index_or places i d)) →
    ((j k : ℕ) (d : Place) → j < k → k < i → AreApart (slice_index_or places j d) (slice_index_or places k d)) →
    (j k : ℕ) (d : Place) → j < k → k < i + 1 → AreApart (slice_index_or places j d) (slice_index_or places k d)
apart_more places i here before j k d less lt =
    ⊎_elim (λ below. before j k d less below)
    (λ le.
    let same : i ≡ k = omega (arith, lt, le) in
    subst (λ x. AreApart (slice_index_or places j d) (slice_index_or places x d)) same
    (here j d (omega (arith, less, same))))
    (cases_lt k i)

-- One more node has its box within the box of its group.
pub framed_more : (nodes : List Node) (places groups : List Place) (i : ℕ) (m : Node) (e f : Place) →
    i < length nodes → i < length places → (slice_index_or nodes i m).group < length groups →
    IsWithin (slice_index_or places i e) (slice_index_or groups (slice_index_or nodes i m).group f) →
    ((k : ℕ) (n : Node) (d : Place) → k < i
    → IsWithin (slice_index_or places k d) (slice_index_or groups (slice_index_or nodes k n).group d)) →
    (k : ℕ) (n : Node) (d : Place) → k < i + 1
    → IsWithin (slice_index_or places k d) (slice_index_or groups (slice_index_or nodes k n).group d)
framed_more nodes places groups i m e f there beside room here before k n d lt =
    ⊎_elim (λ below. before k n d below)
    (λ le.
    let same : i ≡ k = omega (arith, lt, le) in
    subst (λ j. IsWithin (slice_index_or places j d) (slice_index_or groups (slice_index_or nodes j n).group d)) same
    (subst (λ p. IsWithin p (slice_index_or groups (slice_index_or nodes i n).group d))
    (get_or_default places i e d beside)
    (subst (λ x. IsWithin (slice_index_or places i e) (slice_index_or groups x.group d))
    (get_or_default nodes i m n there)
    (subst (λ g. IsWithin (slice_index_or places i e) g)
    (get_or_default groups (slice_index_or nodes i m).group f d room) here))))
    (cases_lt k i)
