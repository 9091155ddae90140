-- The table of the extents of sites.
use Rattle.std.proofs.Common.{◌≡◌, ℕ, ◌+◌, ◌<◌, List, [], ◌∷◌, ◌++◌, Vec, Global, length, get_or, set, ◌⊎◌, inl, inr, refl, sym, ap, ◌∙◌, subst, arith, append_assoc}
use Rattle.std.proofs.lemmas.List.{length-append, append-nil}
use Rattle.std.proofs.Math.Seq.{set-append_seam, get_or-append_seam}
use Rattle.vsi_scope.specs.declared.program.Ex.{Ex}
use Rattle.vsi_scope.specs.declared.program.Cmd.{Cmd}
use Rattle.vsi_scope.specs.declared.program.Cmd.TheViews as view
use Rattle.vsi_scope.specs.declared.program.Cmd as cmd
use Rattle.vsi_scope.specs.Language.{Expression, Command, Skip, Assign, Sequence, If, While, Letvar}
use Rattle.vsi_scope.specs.View.{command, sequence}
use Rattle.vsi_steps.specs.declared.run.Extent.{Extent}
use Rattle.vsi_steps.specs.Extents.{extent, extents, IsFilled, AreParts, HasExtent, HasExtents}
use Rattle.vsi_steps.specs.Sites.{sites}
use Rattle.vsi_steps.specs.Steps.{IsStep}
use Rattle.vsi_steps.proofs.Counting.{seen_while, seen_letvar}

-- A command has an extent for each site.
pub length_extents : (n : ℕ) (c : Command) → length (extents n c) ≡ sites c
length_extents n Skip = refl
length_extents n (Assign l s e) = refl
length_extents n (Sequence a b) =
    omega (
      arith,
      length-append (extents n a) (extents (n + sites a) b),
      length_extents n a,
      length_extents (n + sites a) b,
    )
length_extents n (If e a b) =
    omega (
      arith,
      length-append (extents (n + 1) a) (extents (n + 1 + sites a) b),
      length_extents (n + 1) a,
      length_extents (n + 1 + sites a) b,
    )
length_extents n (While e c) = omega (arith, length_extents (n + 1) c)
length_extents n (Letvar e c) = omega (arith, length_extents (n + 1) c)

-- The command of a value of the code is one step at first.
pub own_step : (c : Cmd) → IsStep (command c)
own_step (cmd.Assign l s e) = tt
own_step (cmd.If' e sy y sn n) = tt
own_step (cmd.While' e sb b) = tt
own_step (cmd.Letvar' e sb b) = tt

-- A table grows by the sites of a command.
pub filled_length : (c : Command) (t u : List Extent) → IsFilled c t u → length u ≡ length t + sites c
filled_length c t u h =
    omega (arith, ap length h, length-append t (extents (length t) c), length_extents (length t) c)

-- Nothing is added for no command.
pub filled_none : (t : List Extent) → IsFilled Skip t t
filled_none t = sym (append-nil t)

-- The extents of a first command, and then those of a second, are those of both.
pub filled_both : (a b : Command) (t u v : List Extent) → IsFilled a t u → IsFilled b u v → IsFilled (Sequence a b) t v
filled_both a b t u v h k =
    k ∙ ap (λ i. u ++ extents i b) (filled_length a t u h) ∙ ap (λ l. l ++ extents (length t + sites a) b) h
    ∙ append_assoc t (extents (length t) a) (extents (length t + sites a) b)

-- The parts of a choice are its branches.
pub parts_if : (e : Expression) (a b : Command) (t u v : List Extent) (k : ℕ) → k ≡ length u → IsFilled a t u →
    IsFilled b u v → AreParts (If e a b) t k v
parts_if e a b t u v k at h h' = (at ∙ filled_length a t u h, filled_both a b t u v h h')

-- The parts of a loop or a letvar are its body.
pub parts_body : (c : Cmd) (v : Vec Cmd Global) (ks : List Cmd) (t u : List Extent) (k : ℕ) →
    (((e : Ex) × (c ≡ view.While e v)) ⊎ ((e : Ex) × (c ≡ view.Letvar e v))) → ks ≡ v.items → k ≡ length u →
    IsFilled (sequence ks) t u → AreParts (command c) t k u
parts_body c v ks t u k (inl h) same at f =
    subst (λ y. AreParts y t k u) (sym (seen_while c h.0 v ks h.1 same)) (at ∙ filled_length (sequence ks) t u f, f)
parts_body c v ks t u k (inr h) same at f =
    subst (λ y. AreParts y t k u) (sym (seen_letvar c h.0 v ks h.1 same)) (at ∙ filled_length (sequence ks) t u f, f)

-- An extent is written in front of the extents of the parts.
patched : (t ps t₁ t₂ : List Extent) (x : Extent) (k m : ℕ) → t₁ ≡ t ++ x ∷ [] → t₂ ≡ t₁ ++ ps →
    set t₂ (length t) (extent k m) ≡ t ++ extent k m ∷ ps
patched t ps t₁ t₂ x k m h h' =
    ap (λ l. set l (length t) (extent k m)) (h' ∙ ap (λ l. l ++ ps) h ∙ append_assoc t (x ∷ []) ps)
    ∙ set-append_seam t x ps (extent k m)

-- The length of a table with one more extent.
one_more : (t t₁ : List Extent) (x : Extent) → t₁ ≡ t ++ x ∷ [] → length t₁ ≡ length t + 1
one_more t t₁ x h = omega (arith, ap length h, length-append t (x ∷ []))

-- An extent in front of those of a body is that of a command with the body.
body_filled : (c : Command) (t t₁ t₂ t₃ : List Extent) (x : Extent) (k m : ℕ) → t₁ ≡ t ++ x ∷ [] →
    k ≡ length t₁ + sites c → t₂ ≡ t₁ ++ extents (length t₁) c → m ≡ length t₂ →
    t₃ ≡ set t₂ (length t) (extent k m) →
    t₃ ≡ t ++ extent (length t + 1 + sites c) (length t + 1 + sites c) ∷ extents (length t + 1) c
body_filled c t t₁ t₂ t₃ x k m h at parts long h' =
    let n = one_more t t₁ x h in
    let ps = extents (length t + 1) c in
    let parts' : t₂ ≡ t₁ ++ ps = parts ∙ ap (λ i. t₁ ++ extents i c) n in
    let first : k ≡ length t + 1 + sites c = omega arith in
    let last : m ≡ length t + 1 + sites c =
    omega (arith, ap length parts', length-append t₁ ps, length_extents (length t + 1) c) in
    h' ∙ patched t ps t₁ t₂ x k m h parts' ∙ ap (λ y. t ++ extent y m ∷ ps) first
    ∙ ap (λ y. t ++ extent (length t + 1 + sites c) y ∷ ps) last

-- The extent of a command, and then those of its parts, are those of the command.
filled_one : (c : Command) (t t₁ t₂ t₃ : List Extent) (x : Extent) (k m : ℕ) → IsStep c → t₁ ≡ t ++ x ∷ [] →
    AreParts c t₁ k t₂ → m ≡ length t₂ → t₃ ≡ set t₂ (length t) (extent k m) → IsFilled c t t₃
filled_one Skip t t₁ t₂ t₃ x k m is h p long h' = absurd is
filled_one (Sequence a b) t t₁ t₂ t₃ x k m is h p long h' = absurd is
filled_one (Assign l s e) t t₁ t₂ t₃ x k m is h p long h' =
    let n = one_more t t₁ x h in
    let first : k ≡ length t + 1 = omega (arith, p.0) in
    let last : m ≡ length t + 1 = omega (arith, ap length p.1) in
    h' ∙ patched t [] t₁ t₂ x k m h (p.1 ∙ sym (append-nil t₁)) ∙ ap (λ y. t ++ extent y m ∷ []) first
    ∙ ap (λ y. t ++ extent (length t + 1) y ∷ []) last
filled_one (If e a b) t t₁ t₂ t₃ x k m is h p long h' =
    let n = one_more t t₁ x h in
    let ps = extents (length t + 1) a ++ extents (length t + 1 + sites a) b in
    let parts : t₂ ≡ t₁ ++ ps = p.1 ∙ ap (λ i. t₁ ++ (extents i a ++ extents (i + sites a) b)) n in
    let size : length t₂ ≡ length t₁ + sites a + sites b =
    omega (
      arith,
      ap length parts,
      length-append t₁ ps,
      length-append (extents (length t + 1) a) (extents (length t + 1 + sites a) b),
      length_extents (length t + 1) a,
      length_extents (length t + 1 + sites a) b,
    ) in
    let first : k ≡ length t + 1 + sites a = omega (arith, p.0) in
    let last : m ≡ length t + 1 + sites a + sites b = omega arith in
    h' ∙ patched t ps t₁ t₂ x k m h parts ∙ ap (λ y. t ++ extent y m ∷ ps) first
    ∙ ap (λ y. t ++ extent (length t + 1 + sites a) y ∷ ps) last
filled_one (While e c) t t₁ t₂ t₃ x k m is h p long h' = body_filled c t t₁ t₂ t₃ x k m h p.0 p.1 long h'
filled_one (Letvar e c) t t₁ t₂ t₃ x k m is h p long h' = body_filled c t t₁ t₂ t₃ x k m h p.0 p.1 long h'

-- The same, where the extent is written at the length of the table before.
pub put_filled : (c : Command) (t t₁ t₂ : List Extent) (x : Extent) (i k m : ℕ) → IsStep c → i ≡ length t →
    t₁ ≡ t ++ x ∷ [] → AreParts c t₁ k t₂ → m ≡ length t₂ → IsFilled c t (set t₂ i (extent k m))
put_filled c t t₁ t₂ x i k m is at h p long =
    filled_one c t t₁ t₂ (set t₂ i (extent k m)) x k m is h p long (ap (λ j. set t₂ j (extent k m)) at)

-- A table has the extent at the seam of its parts.
at_seam : (n k m : ℕ) (t u v : List Extent) → length u ≡ n → t ≡ u ++ extent k m ∷ v → HasExtent t n k m
at_seam n k m t u v long is = record {
  inside = omega (arith, ap length is, length-append u (extent k m ∷ v));
  extent_is = λ x. ap (λ l. get_or l n x) is ∙ ap (λ i. get_or (u ++ extent k m ∷ v) i x) (sym long)
      ∙ get_or-append_seam u (extent k m) v x;
}

-- A table with the extents of a command in their place has them.
pub in_table : (c : Command) (n : ℕ) (t u v : List Extent) → length u ≡ n → t ≡ u ++ (extents n c ++ v) →
    HasExtents t n c
in_table Skip n t u v long is = tt
in_table (Assign l s e) n t u v long is = at_seam n (n + 1) (n + 1) t u v long is
in_table (Sequence a b) n t u v long is =
    let xs = extents n a in
    let ys = extents (n + sites a) b in
    let e = is ∙ ap (λ l. u ++ l) (append_assoc xs ys v) in (
      in_table a n t u (ys ++ v) long e,
      in_table b (n + sites a) t (u ++ xs) v (omega (arith, length-append u xs, length_extents n a))
          (e ∙ sym (append_assoc u xs (ys ++ v))),
    )
in_table (If e a b) n t u v long is =
    let x = extent (n + 1 + sites a) (n + 1 + sites a + sites b) in
    let xs = extents (n + 1) a in
    let ys = extents (n + 1 + sites a) b in
    let e' = is ∙ ap (λ l. u ++ x ∷ l) (append_assoc xs ys v) ∙ sym (append_assoc u (x ∷ []) (xs ++ (ys ++ v))) in (
      at_seam n _ _ t u ((xs ++ ys) ++ v) long is,
      in_table a (n + 1) t (u ++ x ∷ []) (ys ++ v) (omega (arith, length-append u (x ∷ []))) e',
      in_table b (n + 1 + sites a) t ((u ++ x ∷ []) ++ xs) v
          (omega (arith, length-append (u ++ x ∷ []) xs, length-append u (x ∷ []), length_extents (n + 1) a))
          (e' ∙ sym (append_assoc (u ++ x ∷ []) xs (ys ++ v))),
    )
in_table (While e c) n t u v long is =
    let x = extent (n + 1 + sites c) (n + 1 + sites c) in (
      at_seam n _ _ t u (extents (n + 1) c ++ v) long is,
      in_table c (n + 1) t (u ++ x ∷ []) v (omega (arith, length-append u (x ∷ [])))
          (is ∙ sym (append_assoc u (x ∷ []) (extents (n + 1) c ++ v))),
    )
in_table (Letvar e c) n t u v long is =
    let x = extent (n + 1 + sites c) (n + 1 + sites c) in (
      at_seam n _ _ t u (extents (n + 1) c ++ v) long is,
      in_table c (n + 1) t (u ++ x ∷ []) v (omega (arith, length-append u (x ∷ [])))
          (is ∙ sym (append_assoc u (x ∷ []) (extents (n + 1) c ++ v))),
    )

-- The extent of a command ends after its sites.
after_extent : (t : List Extent) (n : ℕ) (c : Command) → IsStep c → HasExtents t n c →
    (k : ℕ) × HasExtent t n k (n + sites c)
after_extent t n Skip is h = absurd is
after_extent t n (Assign l s e) is h = (n + 1, h)
after_extent t n (Sequence a b) is h = absurd is
after_extent t n (If e a b) is h =
    let same : n + 1 + sites a + sites b ≡ n + sites (If e a b) = omega arith in
    (n + 1 + sites a, subst (HasExtent t n (n + 1 + sites a)) same h.0)
after_extent t n (While e c) is h =
    let same : n + 1 + sites c ≡ n + sites (While e c) = omega arith in
    (n + 1 + sites c, subst (HasExtent t n (n + 1 + sites c)) same h.0)
after_extent t n (Letvar e c) is h =
    let same : n + 1 + sites c ≡ n + sites (Letvar e c) = omega arith in
    (n + 1 + sites c, subst (HasExtent t n (n + 1 + sites c)) same h.0)

module _ (t : List Extent) (n : ℕ) (c : Cmd) (h : HasExtents t n (command c)) where
  -- The site of a command is in the table.
  pub site_inside : n < length t
  site_inside = (after_extent t n (command c) (own_step c) h).1.inside

  -- The extent at the site of a command ends after its sites.
  pub site_after : (x : Extent) → x ≡ get_or t n x → x.after ≡ n + sites (command c)
  site_after x is = ap (λ (y : Extent). y.after) (is ∙ (after_extent t n (command c) (own_step c) h).1.extent_is x)
