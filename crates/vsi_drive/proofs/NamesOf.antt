-- The names in a list, byte by byte.
use Rattle.std.proofs.Common.{◌≡◌, ℕ, ◌+◌, ◌<◌, ◌≤◌, List, [], ◌∷◌, ◌++◌, length, drop, get_or, false, refl, sym, ap, ◌∙◌}
use Rattle.std.specs.Prelude.{slice_range, ◌==◌}
use Rattle.std.proofs.lemmas.List.{drop_more}
use Rattle.vsi_drive.specs.Boundary as spec
use Rattle.vsi_drive.proofs.FieldsOf.{range_more}

-- A byte that is no comma continues a name.
behind_other : (part rest : List ℕ) (b : ℕ) → (b == 44) ≡ false →
    spec.names_behind part (b ∷ rest) ≡ spec.names_behind (part ++ b ∷ []) rest
behind_other part rest b other = rw other refl

-- The names from there on are the same with that byte in the name.
pub goes_on : (text : List ℕ) (start at : ℕ) → start ≤ at → at < length text → (get_or text at 0 == 44) ≡ false →
    spec.names_behind (slice_range text start (at + 1)) (drop (at + 1) text)
    ≡ spec.names_behind (slice_range text start at) (drop at text)
goes_on text start at before within other =
    let b = get_or text at 0 in
    let more : slice_range text start at ++ b ∷ [] ≡ slice_range text start (at + 1) = range_more text start at before within in
    let cut : drop at text ≡ b ∷ drop (at + 1) text = drop_more text at 0 within in
    sym (ap (spec.names_behind (slice_range text start at)) cut
    ∙ behind_other (slice_range text start at) (drop (at + 1) text) b other
    ∙ ap (λ part. spec.names_behind part (drop (at + 1) text)) more)
