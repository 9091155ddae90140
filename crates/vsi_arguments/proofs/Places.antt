-- The texts from a position on.
use Rattle.std.proofs.Common.{◌≡◌, ℕ, suc, ◌+◌, ◌<◌, ◌≤◌, ◌-◌, map, take, List, [], ◌∷◌, length, drop, get_or, ap, sym, ◌∙◌, arith, add-one, sub-one, drop-cons, true}
use Rattle.std.proofs.Math.Seq.{take-length}
use Rattle.std.specs.Borrow.{Bor}
use Rattle.std.specs.List.{drop-map}
use Rattle.std.specs.Prelude.{bytes_eq}
use Rattle.std.proofs.lemmas.Slice.Eq.{bytes_eq-Decides}
use Rattle.vsi_arguments.specs.Words.{shown}

-- The texts from a position on are the text at the position followed by the later ones.
pub text_at : (texts : List (Bor (List ℕ))) (place : ℕ) (d : Bor (List ℕ)) (word : List ℕ) → place < length texts →
    bytes_eq (get_or texts place d).now word ≡ true →
    drop place (shown texts) ≡ word ∷ drop (place + 1) (shown texts)
text_at texts place d word within is =
    rw (add-one, drop-map, drop-map, drop-cons texts place d)
    (ap (λ (w : List ℕ). w ∷ shown (drop (suc place) texts)) ((bytes_eq-Decides (get_or texts place d).now word).0 is))

-- If the first item shows as a name, the items show as that name followed by what the others show.
pub first_named : {A : Type 0} (f : A → List ℕ) (xs : List A) (item : A) (name : List ℕ) → 1 ≤ length xs →
    item ≡ get_or xs 0 item → bytes_eq (f item) name ≡ true →
    map f xs ≡ name ∷ map f (take (length xs - 1) (drop 1 xs))
first_named f [] item name within at is = absurd (omega arith)
first_named f (x ∷ xs) item name within at is =
    let same : f x ≡ name = ap f (sym at) ∙ (bytes_eq-Decides (f item) name).0 is in
    rw (sub-one, take-length xs) (ap (λ (w : List ℕ). w ∷ map f xs) same)
