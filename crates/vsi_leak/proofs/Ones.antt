-- Stores with a 1 in a single global, one after another.
use Rattle.std.proofs.Common.{◌≡◌, ℕ, ◌+◌, ◌<◌, ◌≤◌, ◌⊎◌, inl, inr, pos, List, slice_set, sym, subst, arith}
use Rattle.std.proofs.Math.Nat.{eq-or-lt_of_le}
use Rattle.vsi_image.specs.declared.instr.Image.{Image}
use Rattle.vsi_lattice.specs.Order.{Lattice}
use Rattle.vsi_scope.specs.Meaning.{Store}
use Rattle.vsi_lattice.specs.Known.{Known}
use Rattle.vsi_leak.specs.declared.check.Sign.{Sign}
use Rattle.vsi_leak.specs.Leaks.{NoOneShows, ShowNoneEither, zeros}

module _ (known : Known) (L : Lattice) (image : Image) (budget : ℕ) (s : Sign) (a : ℕ) where
  -- If none of the first stores shows a leak, and the next one doesn't, none of them does.
  pub one_more : (n : ℕ) (m : Store) → m ≡ zeros image → NoOneShows known L image budget s a n →
      ShowNoneEither known L image budget s a m (slice_set m n (pos 1)) → NoOneShows known L image budget s a (n + 1)
  one_more n m same before here i lt = by_order (eq-or-lt_of_le within)
    where
      within : i ≤ n
      within = omega (arith, lt)

      by_order : (i ≡ n) ⊎ (i < n) →
          ShowNoneEither known L image budget s a (zeros image) (slice_set (zeros image) i (pos 1))
      by_order (inl e) =
          subst (λ j. ShowNoneEither known L image budget s a (zeros image) (slice_set (zeros image) j (pos 1))) (sym e)
          (subst (λ x. ShowNoneEither known L image budget s a x (slice_set x n (pos 1))) same here)
      by_order (inr less) = before i less
