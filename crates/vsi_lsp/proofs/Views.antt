-- Lists of views of names.
use Rattle.std.proofs.Common.{◌≡◌, ◌∙◌, ℕ, List, [], ◌∷◌, ◌&&◌, map, ap, refl, nat_eq, bytes_eq, Bor}
use Rattle.std.specs.Prelude.{Decides}
use Rattle.std.specs.Cmp.Lexicographic.{pointwise}
use Rattle.std.proofs.lemmas.Slice.Eq.{bytes_eq-Decides, slice_eq-Decides}

-- The names of views.
abbrev pub names : List (Bor (List ℕ)) → List (List ℕ)
names views = map (λ n. n.now) views

-- Views are compared by their names.
by_names : (xs ys : List (Bor (List ℕ))) →
    pointwise (λ x y. bytes_eq x.now y.now) xs ys ≡ pointwise bytes_eq (names xs) (names ys)
by_names [] [] = refl
by_names [] (y ∷ ys) = refl
by_names (x ∷ xs) [] = refl
by_names (x ∷ xs) (y ∷ ys) = ap (λ rest. bytes_eq x.now y.now && rest) (by_names xs ys)

-- Views are equal exactly if their names are.
pub same_names : (xs ys : List (Bor (List ℕ))) →
    Decides (pointwise (λ x y. bytes_eq x.now y.now) xs ys) (names xs ≡ names ys)
same_names xs ys = slice_eq-Decides bytes_eq-Decides (names xs) (names ys) _ (by_names xs ys)
