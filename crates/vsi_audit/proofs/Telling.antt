-- The text of a walk is put together from its parts.
use Rattle.std.proofs.Common.{◌≡◌, ℕ, suc, ◌-◌, ◌<◌, List, [], ◌∷◌, ◌++◌, length, get_or, refl, ap, ◌∙◌, arith}
use Rattle.std.specs.List.{flat_map}
use Rattle.vsi_lattice.specs.declared.lattice.Lattice.{Lattice}
use Rattle.vsi_image.specs.Fields.{Global}
use Rattle.vsi_types.specs.declared.rules.Step.{Step}
use Rattle.vsi_types.specs.Walks.{last_target}
use Rattle.vsi_audit.specs.declared.names.Form.{Form}
use Rattle.vsi_audit.specs.Telling.{step_line, last_text, walk_text}

-- The target of the last step is the target of the walk.
last_at : (x d : Step) (xs : List Step) → (get_or (x ∷ xs) (length xs) d).target ≡ last_target x xs
last_at x d [] = refl
last_at x d (y ∷ xs) = last_at y d xs

-- The lines of the steps and the last line are the walk's text.
pub told : (l : Lattice) (gs : List Global) (f : Form) (items : List Step) (d e : Step) → 0 < length items
    → flat_map (step_line gs f) items ++ last_text l gs f (get_or items 0 d).source
    (get_or items (length items - 1) e).target ≡ walk_text l gs f items
told l gs f [] d e lt = absurd (omega (arith, lt))
told l gs f (x ∷ xs) d e lt =
    let n : suc (length xs) - 1 ≡ length xs = omega arith in
    ap (λ (i : ℕ). flat_map (step_line gs f) (x ∷ xs) ++ last_text l gs f x.source (get_or (x ∷ xs) i e).target) n
    ∙ ap (λ v. flat_map (step_line gs f) (x ∷ xs) ++ last_text l gs f x.source v) (last_at x e xs)
