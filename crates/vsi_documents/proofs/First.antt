-- The first of some texts, and those after it.
use Rattle.std.proofs.Common.{◌≡◌, ℕ, ◌≤◌, ◌-◌, take, List, [], ◌∷◌, length, drop, get_or, ap, sym, arith, sub-one}
use Rattle.std.proofs.Math.Seq.{take-length}
use Rattle.std.specs.Borrow.{Bor}
use Rattle.vsi_lattice.specs.NamePlaces.{texts}

-- If the first of some texts is a name, they are that name followed by the others.
pub first_texts : (xs : List (Bor (List ℕ))) (otherwise : Bor (List ℕ)) (name : List ℕ) → 1 ≤ length xs →
    name ≡ (get_or xs 0 otherwise).now → texts xs ≡ name ∷ texts (take (length xs - 1) (drop 1 xs))
first_texts [] otherwise name within is = absurd (omega arith)
first_texts (x ∷ xs) otherwise name within is =
    let same : x.now ≡ name = sym is in
    rw (sub-one, take-length xs) (ap (λ (w : List ℕ). w ∷ texts xs) same)
