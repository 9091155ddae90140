-- The table of the extents of sites.
use Rattle.std.specs.Prelude.{◌≡◌, ◌<◌, ℕ, ◌+◌, List, [], ◌∷◌, ◌++◌, length, get_or}
use Rattle.vsi_scope.specs.Language.{Command, Skip, Assign, Sequence, If, While, Letvar}
use Rattle.vsi_steps.specs.declared.run.Extent.{Extent}
use Rattle.vsi_steps.specs.Sites.{sites}

-- An extent.
abbrev pub extent : ℕ → ℕ → Extent
extent k m = record { second = k; after = m }

-- The extents of the sites of a command, with n sites before it.
abbrev pub extents : ℕ → Command → List Extent
extents n Skip = []
extents n (Assign l s e) = extent (n + 1) (n + 1) ∷ []
extents n (Sequence a b) = extents n a ++ extents (n + sites a) b
extents n (If e a b) =
    extent (n + 1 + sites a) (n + 1 + sites a + sites b) ∷ (extents (n + 1) a ++ extents (n + 1 + sites a) b)
extents n (While e c) = extent (n + 1 + sites c) (n + 1 + sites c) ∷ extents (n + 1) c
extents n (Letvar e c) = extent (n + 1 + sites c) (n + 1 + sites c) ∷ extents (n + 1) c

-- The extents of a command were added to a table.
abbrev pub IsFilled : Command → List Extent → List Extent → Type 0
IsFilled c t t' = t' ≡ t ++ extents (length t) c

-- The extents of the parts of a command were added to a table, and k is the first site of its second branch, or that
-- after its parts.
abbrev pub AreParts : Command → List Extent → ℕ → List Extent → Type 0
AreParts Skip t k t' = ⊥
AreParts (Assign l s e) t k t' = (k ≡ length t) × (t' ≡ t)
AreParts (Sequence a b) t k t' = ⊥
AreParts (If e a b) t k t' =
    (k ≡ length t + sites a) × (t' ≡ t ++ (extents (length t) a ++ extents (length t + sites a) b))
AreParts (While e c) t k t' = (k ≡ length t + sites c) × (t' ≡ t ++ extents (length t) c)
AreParts (Letvar e c) t k t' = (k ≡ length t + sites c) × (t' ≡ t ++ extents (length t) c)

-- A table has this extent at a site.
pub record HasExtent (t : List Extent) (n k m : ℕ) : Type 0 where
  pub inside : n < length t
  pub extent_is : (x : Extent) → get_or t n x ≡ extent k m

-- A table has the extents of a command, with n sites before it.
abbrev pub HasExtents : List Extent → ℕ → Command → Type 0
HasExtents t n Skip = Unit {0}
HasExtents t n (Assign l s e) = HasExtent t n (n + 1) (n + 1)
HasExtents t n (Sequence a b) = HasExtents t n a × HasExtents t (n + sites a) b
HasExtents t n (If e a b) =
    HasExtent t n (n + 1 + sites a) (n + 1 + sites a + sites b) × HasExtents t (n + 1) a
    × HasExtents t (n + 1 + sites a) b
HasExtents t n (While e c) = HasExtent t n (n + 1 + sites c) (n + 1 + sites c) × HasExtents t (n + 1) c
HasExtents t n (Letvar e c) = HasExtent t n (n + 1 + sites c) (n + 1 + sites c) × HasExtents t (n + 1) c
