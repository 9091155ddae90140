-- The parts of a path.
use Rattle.std.proofs.Common.{◌≡◌, ◌≢◌, ◌≤◌, ◌<◌, ◌+◌, ◌-◌, ◌==◌, ℕ, Bool, true, false, List, [], ◌∷◌, ◌++◌, length, get_or, take, drop, refl, sym, ◌∙◌, ap, subst, arith, drop-cons, add-one, Option, is_some, IfSome, Some, None, get_or-take, get_or-drop, length-take, length-drop}
use Rattle.std.proofs.lemmas.Bool.{eq-eqb, ne_eqb, false≢true}
use Rattle.std.specs.List.{slice_split, slice_range, All}
use Rattle.std.proofs.lemmas.List.Splits.{slice_split_at, slice_split_none}
use Rattle.std.proofs.lemmas.List.{take_rest}
use Rattle.std.proofs.lemmas.List.Folds.{drop_split}
use Rattle.std.proofs.lemmas.List.Elements.{All-from_get_or}
use Rattle.vsi_project.specs.Paths.{moved, reached, stays}

-- No byte of a path from one position to another is a slash.
abbrev pub HasNoSlash : List ℕ → ℕ → ℕ → Type 0
HasNoSlash path start end = (k : ℕ) → start ≤ k → k < end → get_or path k 0 ≢ 47

-- The bytes between these positions, if the second one isn't beyond the path.
pub length-between : (path : List ℕ) (start end : ℕ) → end ≤ length path →
    length (slice_range path start end) ≡ end - start
length-between path start end le = grind (arith, length-take, length-drop)

pub bytes_between : (path : List ℕ) (start end : ℕ) → start ≤ end → end ≤ length path → HasNoSlash path start end
    → All (λ b. (b == 47) ≡ false) (slice_range path start end)
bytes_between path start end le within none =
    All-from_get_or (λ b. (b == 47) ≡ false) (slice_range path start end) 0
    (λ i lt. let less : i < end - start = subst (λ n. i < n) (length-between path start end within) lt in
    rw (get_or-take (end - start) (drop start path) i 0 less)
    (rw (get_or-drop start path i 0)
    (ne_eqb (get_or path (start + i) 0) 47 (none (start + i) (omega arith) (omega arith)))))

pub first_part : (path : List ℕ) (start i : ℕ) → start ≤ i → i < length path → get_or path i 0 ≡ 47
    → HasNoSlash path start i
    → slice_split (λ b. b == 47) (drop start path)
    ≡ slice_range path start i ∷ slice_split (λ b. b == 47) (drop (i + 1) path)
first_part path start i le lt slash none =
    ap (slice_split (λ b. b == 47))
    (drop_split path start i le
    ∙ ap (λ rest. slice_range path start i ++ rest)
    (subst (λ n. drop i path ≡ get_or path i 0 ∷ drop n path) (sym (add-one i)) (drop-cons path i 0 lt)))
    ∙ slice_split_at (λ b. b == 47) (slice_range path start i) (get_or path i 0) (drop (i + 1) path)
    (bytes_between path start i le (omega arith) none) (eq-eqb (get_or path i 0) 47 slash)

-- A part leads on from where the earlier ones lead.
pub walk_on : (path : List ℕ) (depth start i next : ℕ) (end : Option ℕ) → start ≤ i → i < length path
    → get_or path i 0 ≡ 47 → HasNoSlash path start i
    → moved depth (slice_range path start i) ≡ Some next
    → reached (Some depth) (slice_split (λ b. b == 47) (drop start path)) ≡ end
    → reached (Some next) (slice_split (λ b. b == 47) (drop (i + 1) path)) ≡ end
walk_on path depth start i next end le lt slash none is before =
    ap (λ from. reached from (slice_split (λ b. b == 47) (drop (i + 1) path))) (sym is)
    ∙ sym (ap (λ parts. reached (Some depth) parts) (first_part path start i le lt slash none))
    ∙ before

-- The last part ends with the path.
pub last_part : (path : List ℕ) (start : ℕ) → start ≤ length path → HasNoSlash path start (length path)
    → slice_split (λ b. b == 47) (drop start path) ≡ slice_range path start (length path) ∷ []
last_part path start le none =
    let all : slice_range path start (length path) ≡ drop start path =
    take_rest path start in
    let rest : All (λ b. (b == 47) ≡ false) (drop start path) =
    subst (λ bytes. All (λ b. (b == 47) ≡ false) bytes) all
    (bytes_between path start (length path) le (omega arith) none) in
    slice_split_none (λ b. b == 47) (drop start path) rest ∙ ap (λ part. part ∷ []) (sym all)

-- The last part ends where the path leads.
pub lead_to : (path : List ℕ) (depth start : ℕ) (end : Option ℕ) → start ≤ length path
    → HasNoSlash path start (length path)
    → IfSome end (λ next. moved depth (slice_range path start (length path)) ≡ Some next)
    → reached (Some depth) (slice_split (λ b. b == 47) (drop start path))
    ≡ reached (Some 0) (slice_split (λ b. b == 47) path)
    → is_some end ≡ true → stays path ≡ true
lead_to path depth start None le none is before some = absurd (false≢true some)
lead_to path depth start (Some next) le none is before some =
    ap is_some
    (sym before
    ∙ ap (λ parts. reached (Some depth) parts) (last_part path start le none)
    ∙ ap (λ from. reached from []) is)
