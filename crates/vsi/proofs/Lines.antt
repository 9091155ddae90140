-- The line feeds of an explanation.
use Rattle.std.proofs.Common.{◌≡◌, ◌++◌, ◌∙◌, ℕ, suc, ◌+◌, ◌<◌, ◌≤◌, ◌^◌, ◌%◌, Bool, true, false, cond, eqb, List, [], ◌∷◌, take, drop, Option, inr, refl, sym, ap, codes, arith}
use Rattle.std.specs.Prelude.{decimal}
use Rattle.std.proofs.lemmas.Fmt.{decimal_by_steps}
use Rattle.std.proofs.lemmas.List.{append_assoc, take-append-drop}
use Rattle.vsi_syntax.specs.Lines.{breaks}
use Rattle.vsi.specs.Shortened.{Shows, page_line, rest_line}

-- The line feeds of two parts are those of both.
pub breaks_append : (a b : List ℕ) → breaks (a ++ b) ≡ breaks a + breaks b
breaks_append [] b = omega arith
breaks_append (x ∷ a) b = rw (breaks_append a b) (go (eqb x 10))
  where
    go : (y : Bool) → cond y (suc (breaks a + breaks b)) (breaks a + breaks b)
        ≡ cond y (suc (breaks a)) (breaks a) + breaks b
    go true = omega arith
    go false = refl

-- A digit is no line feed.
digit_feeds : (d : ℕ) → d < 10 → breaks ((48 + d) ∷ []) ≡ 0
digit_feeds d small = grind arith

-- A number has no line feed.
pub decimal_feeds : (n : ℕ) → n < 2 ^ 64 → breaks (decimal n) ≡ 0
decimal_feeds =
    decimal_by_steps (λ n ds. breaks ds ≡ 0)
    (λ n small. digit_feeds n small)
    (λ n ds large none. omega (arith, breaks_append ds ((48 + n % 10) ∷ []), none, digit_feeds (n % 10) (omega arith)))

-- A number between two parts adds no line feed.
pub between : (a b : List ℕ) (n : ℕ) → breaks (decimal n) ≡ 0 → breaks (a ++ decimal n ++ b) ≡ breaks a + breaks b
between a b n none = omega (arith, breaks_append (a ++ decimal n) b, breaks_append a (decimal n), none)

-- Three parts after a text are one.
three : (t a b d : List ℕ) → t ++ a ++ b ++ d ≡ t ++ (a ++ b ++ d)
three t a b d = ap (λ l. l ++ d) (append_assoc t a b) ∙ append_assoc t (a ++ b) d

-- Few lines and a page are few lines.
pub all_short : (lines one two : List ℕ) (code : Option ℕ) → breaks lines < 40 → breaks (page_line code) ≤ 1
    → one ≡ lines → two ≡ one ++ page_line code → breaks two ≤ 40
all_short lines one two code few page o t =
    omega (arith, ap breaks t, breaks_append one (page_line code), ap breaks o, few, page)

-- So are the first lines, the line about the rest, the last lines and the page.
pub cut_short : (head tail one two three' text : List ℕ) (code : Option ℕ) (left : ℕ)
    → breaks head + breaks tail ≤ 38 → breaks (page_line code) ≤ 1 → breaks (decimal left) ≡ 0 → one ≡ head
    → two ≡ one ++ codes "Lines left out here: " ++ decimal left ++ codes "; `--all` writes all.\n"
    → three' ≡ two ++ tail → text ≡ three' ++ page_line code → breaks text ≤ 40
cut_short head tail one two three' text code left few page none o w h t =
    let rest : breaks (rest_line left) ≡ 1 =
    between (codes "Lines left out here: ") (codes "; `--all` writes all.\n") left none in
    omega (
      arith,
      ap breaks t,
      breaks_append three' (page_line code),
      ap breaks h,
      breaks_append two tail,
      ap breaks (w ∙ three one _ _ _),
      breaks_append one (rest_line left),
      rest,
      ap breaks o,
      few,
      page,
    )

-- They are those of an explanation that is cut.
pub cut_shown : (lines body head rest tail one two three' text : List ℕ) (code : Option ℕ) (n m left : ℕ)
    → body ≡ take m lines → tail ≡ drop m lines → head ≡ take n body → rest ≡ drop n body → left ≡ breaks rest
    → one ≡ head → two ≡ one ++ codes "Lines left out here: " ++ decimal left ++ codes "; `--all` writes all.\n"
    → three' ≡ two ++ tail → text ≡ three' ++ page_line code → Shows lines code text
cut_shown lines body head rest tail one two three' text code n m left b a h r l o w t e =
    let line : two ≡ head ++ rest_line (breaks rest) =
    w ∙ three one _ _ _ ∙ ap (λ k. one ++ rest_line k) l ∙ ap (λ x. x ++ rest_line (breaks rest)) o in
    let parts : head ++ rest ≡ body = rw (h, r) (take-append-drop n body) in
    let whole : body ++ tail ≡ lines = rw (b, a) (take-append-drop m lines) in
    inr (
      head,
      rest,
      tail,
      sym (ap (λ x. x ++ tail) parts ∙ whole),
      e ∙ ap (λ x. x ++ page_line code) (t ∙ ap (λ x. x ++ tail) line),
    )
