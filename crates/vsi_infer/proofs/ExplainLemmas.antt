-- The text of a walk is put together from its parts.
use Rattle.std.proofs.Common.{◌≡◌, ℕ, zero, suc, ◌-◌, ◌<◌, ◌==◌, false, List, [], ◌∷◌, ◌++◌, length, get_or, refl, ap, ◌∙◌, arith}
use Rattle.std.specs.List.{flat_map}
use Rattle.std.proofs.lemmas.List.{append_assoc}
use Rattle.std.proofs.lemmas.Bool.{false≢true}
use Rattle.vsi_lattice.specs.declared.lattice.Lattice.{Lattice}
use Rattle.vsi_scope.specs.Program.{Resolved}
use Rattle.vsi_types.specs.declared.rules.Step.{Step}
use Rattle.vsi_types.specs.Walks.{last_target}
use Rattle.vsi_infer.specs.Explanation.{step_line, last_text, explanation}

-- The target of the last step is the target of the walk.
last_at : (x d : Step) (xs : List Step) → (get_or (x ∷ xs) (length xs) d).target ≡ last_target x xs
last_at x d [] = refl
last_at x d (y ∷ xs) = last_at y d xs

-- The lines of the steps and the last line are the walk's text.
pub explained : (l : Lattice) (source : List ℕ) (r : Resolved) (items : List Step) (d e : Step) → 0 < length items
    → flat_map (step_line source r) items ++ last_text l r (get_or items 0 d).source
    (get_or items (length items - 1) e).target ≡ explanation l source r items
explained l source r [] d e lt = absurd (omega (arith, lt))
explained l source r (x ∷ xs) d e lt =
    let n : suc (length xs) - 1 ≡ length xs = omega arith in
    ap (λ (i : ℕ). flat_map (step_line source r) (x ∷ xs) ++ last_text l r x.source (get_or (x ∷ xs) i e).target) n
    ∙ ap (λ v. flat_map (step_line source r) (x ∷ xs) ++ last_text l r x.source v) (last_at x e xs)

-- A text that grows by four pieces.
pub four_added : (out a b c d out1 out2 out3 out4 : List ℕ) → out1 ≡ out ++ a → out2 ≡ out1 ++ b → out3 ≡ out2 ++ c →
    out4 ≡ out3 ++ d → out4 ≡ out ++ (a ++ b ++ c ++ d)
four_added out a b c d out1 out2 out3 out4 h1 h2 h3 h4 =
    h4
    ∙ ap (λ x. x ++ d) (h3 ∙ ap (λ x. x ++ c) (h2 ∙ ap (λ x. x ++ b) h1))
    ∙ simp append_assoc

-- A number that isn't 0 is above 0.
pub positive : (n : ℕ) → false ≡ (n == 0) → 0 < n
positive zero e = absurd (false≢true e)
positive (suc n) e = omega arith
