-- The number of letvars that a walk has passed, and the entries that it has added.
use Rattle.std.proofs.Common.{◌≡◌, ℕ, zero, suc, ◌+◌, ◌-◌, ◌<◌, ◌≤◌, Bool, true, false, List, [], ◌∷◌, ◌++◌, map, length, get_or, take, drop, Some, slice_get, Vec, Global, refl, sym, ap, ◌∙◌, subst, arith}
use Rattle.std.proofs.lemmas.List.{drop_more, drop_all, take_more, take_all, map-append}
use Rattle.std.proofs.lemmas.List.Elements.{All-append, All-cons}
use Rattle.std.specs.List.{All}
use Rattle.std.specs.Prelude.{slice_range}
use Rattle.vsi_scope.specs.declared.program.Ex.{Ex}
use Rattle.vsi_scope.specs.declared.program.Cmd.{Cmd}
use Rattle.vsi_scope.specs.declared.program.Cmd.TheViews as view
use Rattle.vsi_scope.specs.declared.resolved.Entry.{Entry}
use Rattle.vsi_scope.specs.Language.{Command, Skip, Assign, Sequence, If, While, Letvar, letvars}
use Rattle.vsi_scope.specs.View.{expression, command, sequence}
use Rattle.vsi_opt.specs.Folding.{folded, truth_of}
use Rattle.vsi_opt.specs.Remaining.{may_be_true, may_be_false, list_if, remaining, HasEntries, Picks, PicksIf}
use Rattle.vsi_scope.proofs.Views.{command_If, command_While, command_Letvar}

-- The letvars of an `if` are those of its branches.
pub letvars_if : (c : Cmd) (e : Ex) (y n : Vec Cmd Global) → c ≡ view.If e y n →
    letvars (command c) ≡ letvars (sequence y.items) + letvars (sequence n.items)
letvars_if c e y n is = ap (λ x. letvars (command x)) is ∙ ap letvars (command_If e y n)

-- The letvars of a loop are those of its body.
pub letvars_while : (c : Cmd) (e : Ex) (b : Vec Cmd Global) → c ≡ view.While e b →
    letvars (command c) ≡ letvars (sequence b.items)
letvars_while c e b is = ap (λ x. letvars (command x)) is ∙ ap letvars (command_While e b)

-- A letvar has one letvar more than its body.
pub letvars_letvar : (c : Cmd) (e : Ex) (b : Vec Cmd Global) → c ≡ view.Letvar e b →
    letvars (command c) ≡ letvars (sequence b.items) + 1
letvars_letvar c e b is = ap (λ x. letvars (command x)) is ∙ ap letvars (command_Letvar e b)

-- The letvars from a command on are its own and those of the later commands.
pub letvars_from : (cs : List Cmd) (i : ℕ) (c : Cmd) → i < length cs → c ≡ get_or cs i c →
    letvars (sequence (drop i cs)) ≡ letvars (command c) + letvars (sequence (drop (i + 1) cs))
letvars_from cs i c lt is =
    ap (λ l. letvars (sequence l)) (drop_more cs i c lt)
    ∙ ap (λ x. letvars (command x) + letvars (sequence (drop (i + 1) cs))) (sym is)

-- Past the end there are none.
pub letvars_end : (cs : List Cmd) (i : ℕ) → length cs ≤ i → letvars (sequence (drop i cs)) ≡ 0
letvars_end cs i le = ap (λ l. letvars (sequence l)) (drop_all i cs le)

-- Two lists joined to a third.
joined_lists : (xs ys zs : List ℕ) → (xs ++ ys) ++ zs ≡ xs ++ (ys ++ zs)
joined_lists [] ys zs = refl
joined_lists (x ∷ xs) ys zs = ap (λ l. x ∷ l) (joined_lists xs ys zs)

-- The empty list joined to a list.
pub joined_nothing : (xs : List ℕ) → xs ++ [] ≡ xs
joined_nothing [] = refl
joined_nothing (x ∷ xs) = ap (λ l. x ∷ l) (joined_nothing xs)

-- A walk over a list of commands that has passed one more of them.
pub picks_more : (cs : List Cmd) (i : ℕ) (c : Cmd) (n n' : ℕ) (xs xs' : List ℕ) → i < length cs → c ≡ get_or cs i c →
    Picks (command c) n n' xs xs' →
    xs' ++ remaining (sequence (drop (i + 1) cs)) n' ≡ xs ++ remaining (sequence (drop i cs)) n
picks_more cs i c n n' xs xs' lt is p =
    let rest = sequence (drop (i + 1) cs) in
    ap (λ k. xs' ++ remaining rest k) p.0
    ∙ ap (λ l. l ++ remaining rest (n + letvars (command c))) p.1
    ∙ joined_lists xs (remaining (command c) n) (remaining rest (n + letvars (command c)))
    ∙ ap (λ x. xs ++ (remaining (command x) n ++ remaining rest (n + letvars (command x)))) is
    ∙ ap (λ l. xs ++ remaining (sequence l) n) (sym (drop_more cs i c lt))

-- A walk over a list of commands that has reached the end.
pub picks_end : (cs : List Cmd) (i n : ℕ) (xs : List ℕ) → length cs ≤ i →
    xs ++ remaining (sequence (drop i cs)) n ≡ xs
picks_end cs i n xs le = ap (λ l. xs ++ remaining (sequence l) n) (drop_all i cs le) ∙ joined_nothing xs

-- A walk over an `if` consists of a walk over each branch.
pub picks_if : (c : Cmd) (e : Ex) (y z : Vec Cmd Global) (ys zs : List Cmd) (b d : Bool) (n n₁ n₂ : ℕ)
    (xs xs₁ xs₂ : List ℕ) → c ≡ view.If e y z → ys ≡ y.items → zs ≡ z.items →
    b ≡ may_be_true (truth_of (folded (expression e))) → d ≡ may_be_false (truth_of (folded (expression e))) →
    PicksIf b (sequence ys) n n₁ xs xs₁ → PicksIf d (sequence zs) n₁ n₂ xs₁ xs₂ → Picks (command c) n n₂ xs xs₂
picks_if c e y z ys zs b d n n₁ n₂ xs xs₁ xs₂ is iy iz ib id p q =
    subst (λ x. Picks x n n₂ xs xs₂) (sym (ap command is ∙ command_If e y z)) (
      q.0 ∙ ap (λ l. n₁ + letvars (sequence l)) iz ∙ ap (λ k. k + letvars (sequence z.items)) first ∙ sums,
      q.1
          ∙ ap (λ l. xs₁ ++ list_if d (remaining (sequence l) n₁)) iz
          ∙ ap (λ k. xs₁ ++ list_if d (remaining (sequence z.items) k)) first
          ∙ ap (λ t. xs₁ ++ list_if t (remaining (sequence z.items) (n + letvars (sequence y.items)))) id
          ∙ ap (λ l. l ++ right) (p.1 ∙ ap (λ l. xs ++ list_if b (remaining (sequence l) n)) iy
          ∙ ap (λ t. xs ++ list_if t (remaining (sequence y.items) n)) ib)
          ∙ joined_lists xs left right,
    )
  where
    left : List ℕ
    left = list_if (may_be_true (truth_of (folded (expression e)))) (remaining (sequence y.items) n)

    right : List ℕ
    right = list_if (may_be_false (truth_of (folded (expression e))))
        (remaining (sequence z.items) (n + letvars (sequence y.items)))

    first : n₁ ≡ n + letvars (sequence y.items)
    first = p.0 ∙ ap (λ l. n + letvars (sequence l)) iy

    sums : n + letvars (sequence y.items) + letvars (sequence z.items) ≡ n +
        (letvars (sequence y.items) + letvars (sequence z.items))
    sums = omega arith

-- A walk over a loop is a walk over its body.
pub picks_while : (c : Cmd) (e : Ex) (b : Vec Cmd Global) (bs : List Cmd) (t : Bool) (n n' : ℕ) (xs xs' : List ℕ) →
    c ≡ view.While e b → bs ≡ b.items → t ≡ may_be_true (truth_of (folded (expression e))) →
    PicksIf t (sequence bs) n n' xs xs' → Picks (command c) n n' xs xs'
picks_while c e b bs t n n' xs xs' is ib it p =
    subst (λ x. Picks x n n' xs xs') (sym (ap command is ∙ command_While e b)) (
      p.0 ∙ ap (λ l. n + letvars (sequence l)) ib,
      p.1
          ∙ ap (λ l. xs ++ list_if t (remaining (sequence l) n)) ib
          ∙ ap (λ u. xs ++ list_if u (remaining (sequence b.items) n)) it,
    )

-- A walk over a letvar adds its own number, and then walks over its body.
pub picks_letvar : (c : Cmd) (e : Ex) (b : Vec Cmd Global) (bs : List Cmd) (n n' : ℕ) (xs xs₁ xs' : List ℕ) →
    c ≡ view.Letvar e b → bs ≡ b.items → xs₁ ≡ xs ++ n ∷ [] → Picks (sequence bs) (n + 1) n' xs₁ xs' →
    Picks (command c) n n' xs xs'
picks_letvar c e b bs n n' xs xs₁ xs' is ib push p =
    subst (λ x. Picks x n n' xs xs') (sym (ap command is ∙ command_Letvar e b)) (
      p.0 ∙ ap (λ l. n + 1 + letvars (sequence l)) ib ∙ sums,
      p.1
          ∙ ap (λ l. xs₁ ++ remaining (sequence l) (n + 1)) ib
          ∙ ap (λ l. l ++ remaining (sequence b.items) (n + 1)) push
          ∙ joined_lists xs (n ∷ []) (remaining (sequence b.items) (n + 1)),
    )
  where
    sums : n + 1 + letvars (sequence b.items) ≡ n + (letvars (sequence b.items) + 1)
    sums = omega arith

-- A list that is kept or dropped keeps the properties of its elements.
list_if_all : (P : ℕ → Type 0) (b : Bool) (xs : List ℕ) → All P xs → All P (list_if b xs)
list_if_all P true xs h = h
list_if_all P false xs h = λ k d lt. absurd (omega (arith, lt))

-- The numbers of the letvars that remain are those of the command's letvars.
pub remaining_below : (c : Command) (n k : ℕ) → n + letvars c ≤ k → All (λ i. i < k) (remaining c n)
remaining_below Skip n k le = λ i d lt. absurd (omega (arith, lt))
remaining_below (Assign l s e) n k le = λ i d lt. absurd (omega (arith, lt))
remaining_below (Sequence a b) n k le =
    All-append (λ i. i < k) (remaining a n) (remaining b (n + letvars a))
    (remaining_below a n k (omega (arith, le))) (remaining_below b (n + letvars a) k (omega (arith, le)))
remaining_below (If e a b) n k le =
    let t = truth_of (folded e) in
    All-append (λ i. i < k) (list_if (may_be_true t) (remaining a n))
    (list_if (may_be_false t) (remaining b (n + letvars a)))
    (list_if_all (λ i. i < k) (may_be_true t) (remaining a n) (remaining_below a n k (omega (arith, le))))
    (list_if_all (λ i. i < k) (may_be_false t) (remaining b (n + letvars a))
    (remaining_below b (n + letvars a) k (omega (arith, le))))
remaining_below (While e c) n k le =
    list_if_all (λ i. i < k) (may_be_true (truth_of (folded e))) (remaining c n)
    (remaining_below c n k (omega (arith, le)))
remaining_below (Letvar e c) n k le =
    All-cons (λ i. i < k) n (remaining c (n + 1)) (omega (arith, le))
    (remaining_below c (n + 1) k (omega (arith, le)))

-- Each number that a walk has added has an entry.
pub number_below : (ns ms old : List ℕ) (c : Command) (k i : ℕ) → ns ≡ ms → ms ≡ old ++ remaining c 0 → old ≡ [] →
    letvars c ≤ k → i < length ns → get_or ns i 0 < k
number_below ns ms old c k i is added none le lt =
    let e : ns ≡ remaining c 0 = is ∙ added ∙ ap (λ l. l ++ remaining c 0) none in
    subst (λ l. get_or l i 0 < k) (sym e)
    (remaining_below c 0 k (omega (arith, le)) i 0 (subst (λ l. i < length l) e lt))

-- The part of a list with one entry.
one_entry : (xs : List Entry) (n : ℕ) → n < length xs → map Some (take 1 (drop n xs)) ≡ slice_get xs n ∷ []
one_entry [] n lt = absurd (omega (arith, lt))
one_entry (x ∷ xs) zero lt = refl
one_entry (x ∷ xs) (suc n) lt = one_entry xs n (omega (arith, lt))

-- A walk over numbers that has added the entry of one more.
pub entries_more : (xs ys ys' : List Entry) (ns : List ℕ) (i : ℕ) → i < length ns → get_or ns i 0 < length xs →
    ys' ≡ ys ++ slice_range xs (get_or ns i 0) (get_or ns i 0 + 1) → HasEntries ys xs (take i ns) →
    HasEntries ys' xs (take (i + 1) ns)
entries_more xs ys ys' ns i lt below more has =
    let n = get_or ns i 0 in
    let width : n + 1 - n ≡ 1 = omega arith in
    ap (map Some) more
    ∙ map-append Some ys (slice_range xs n (n + 1))
    ∙ ap (λ l. l ++ map Some (slice_range xs n (n + 1))) has
    ∙ ap (λ w. map (slice_get xs) (take i ns) ++ map Some (take w (drop n xs))) width
    ∙ ap (λ l. map (slice_get xs) (take i ns) ++ l) (one_entry xs n below)
    ∙ sym (map-append (slice_get xs) (take i ns) (n ∷ []))
    ∙ ap (map (slice_get xs)) (sym (take_more ns i 0 lt))

-- A walk over numbers that has reached the end.
pub entries_end : (xs ys : List Entry) (ns ms old : List ℕ) (c : Command) (i : ℕ) → ns ≡ ms →
    ms ≡ old ++ remaining c 0 →
    old ≡ [] → length ns ≤ i → HasEntries ys xs (take i ns) → HasEntries ys xs (remaining c 0)
entries_end xs ys ns ms old c i is added none le has =
    has ∙ ap (map (slice_get xs)) (take_all i ns le ∙ is ∙ added ∙ ap (λ l. l ++ remaining c 0) none)
