-- The names of the classes, one by one.
use Rattle.std.proofs.Common.{◌≡◌, ℕ, ◌+◌, List, [], ◌∷◌, ◌++◌, Some, slice_get, take, sym, ap, ◌∙◌}
use Rattle.std.specs.Global.{Vec}
use Rattle.std.proofs.lemmas.List.{map-append, take_more}
use Rattle.std.proofs.lemmas.Option.{slice_get_within, get_or_from_slice_get}
use Rattle.vsi_report.specs.Graph.{texts}

-- One more name is added.
pub name_more : (xs new : List (Vec ℕ)) (all : List (List ℕ)) (i : ℕ) (v : Vec ℕ) (name : List ℕ) →
    slice_get all i ≡ Some name → v.items ≡ name → new ≡ xs ++ v ∷ [] → texts xs ≡ take i all →
    texts new ≡ take (i + 1) all
name_more xs new all i v name at same n h =
    ap texts n ∙ map-append (λ (w : Vec ℕ). w.items) xs (v ∷ []) ∙ ap (λ l. l ++ v.items ∷ []) h
    ∙ ap (λ z. take i all ++ z ∷ []) (same ∙ sym (get_or_from_slice_get all i name name at))
    ∙ sym (take_more all i name (slice_get_within all i name at))
