-- The fields of a line, byte by byte.
use Rattle.std.proofs.Common.{◌≡◌, ℕ, ◌+◌, ◌-◌, ◌<◌, ◌≤◌, List, [], ◌∷◌, ◌++◌, length, take, drop, get_or, true, false, refl, sym, ap, ◌∙◌, arith}
use Rattle.std.specs.Prelude.{slice_range, codes, ◌==◌}
use Rattle.std.proofs.lemmas.List.{drop_more, get_or-drop, length-drop, take_more}
use Rattle.vsi_drive.specs.Fields as spec

-- A field that ends goes before the later fields.
pub ended_in_front : (part : List ℕ) (fs : List (List ℕ)) → spec.ended part [] ++ fs ≡ spec.ended part fs
ended_in_front [] fs = refl
ended_in_front (b ∷ bs) fs = refl

-- A blank ends the field.
pub behind_blank : (part rest : List ℕ) (b : ℕ) → spec.is_blank b ≡ true →
    spec.fields_behind part (b ∷ rest) ≡ spec.ended part [] ++ spec.fields_behind [] rest
behind_blank part rest b blank = rw blank (sym (ended_in_front part (spec.fields_behind [] rest)))

-- `=` ends the field and is a field itself.
pub behind_equal : (part rest : List ℕ) (b : ℕ) → spec.is_blank b ≡ false → (b == 61) ≡ true →
    spec.fields_behind part (b ∷ rest) ≡ (spec.ended part [] ++ codes "=" ∷ []) ++ spec.fields_behind [] rest
behind_equal [] rest b blank equal = rw (blank, equal) refl
behind_equal (p ∷ ps) rest b blank equal = rw (blank, equal) refl

-- Any other byte continues the field.
pub behind_other : (part rest : List ℕ) (b : ℕ) → spec.is_blank b ≡ false → (b == 61) ≡ false →
    spec.fields_behind part (b ∷ rest) ≡ spec.fields_behind (part ++ b ∷ []) rest
behind_other part rest b blank equal = rw (blank, equal) refl

-- A range extended by the next byte.
pub range_more : (line : List ℕ) (start at : ℕ) → start ≤ at → at < length line →
    slice_range line start at ++ get_or line at 0 ∷ [] ≡ slice_range line start (at + 1)
range_more line start at before within =
    let there : start + (at - start) ≡ at = omega (arith, before) in
    let room : at - start < length (drop start line) = omega (arith, before, within, length-drop start line) in
    let same : get_or (drop start line) (at - start) 0 ≡ get_or line at 0 =
    get_or-drop start line (at - start) 0 ∙ ap (λ i. get_or line i 0) there in
    let width : at + 1 - start ≡ at - start + 1 = omega (arith, before) in
    sym (ap (λ n. take n (drop start line)) width ∙ take_more (drop start line) (at - start) 0 room
    ∙ ap (λ b. take (at - start) (drop start line) ++ b ∷ []) same)

-- A byte that is neither a blank nor `=` continues a field.
pub goes_on : (line : List ℕ) (start at : ℕ) → start ≤ at → at < length line →
    spec.is_blank (get_or line at 0) ≡ false → (get_or line at 0 == 61) ≡ false →
    spec.fields_behind (slice_range line start (at + 1)) (drop (at + 1) line)
    ≡ spec.fields_behind (slice_range line start at) (drop at line)
goes_on line start at before within blank equal =
    let b = get_or line at 0 in
    let more : slice_range line start at ++ b ∷ [] ≡ slice_range line start (at + 1) = range_more line start at before within in
    let cut : drop at line ≡ b ∷ drop (at + 1) line = drop_more line at 0 within in
    sym (ap (spec.fields_behind (slice_range line start at)) cut
    ∙ behind_other (slice_range line start at) (drop (at + 1) line) b blank equal
    ∙ ap (λ part. spec.fields_behind part (drop (at + 1) line)) more)
