-- Lexemes that are read continue to some program.
use Rattle.std.proofs.Common.{◌≡◌, ◌&&◌, Bool, true, false, cond, List, [], ◌∷◌, ◌++◌, map, Option, Some, None, refl, sym, ap, subst, ◌∙◌, append_assoc, arith}
use Rattle.std.proofs.lemmas.List.{append-nil}
use Rattle.vsi_syntax.specs.Tree.{Lexeme, Name, Assign, Done, Then, write, write_command}
use Rattle.vsi_syntax.proofs.Pairs.{some_is, bind_some}
use Rattle.vsi_recovery.specs.declared.sort.Sort.{Sort}
use Rattle.vsi_recovery.specs.declared.rules.Wanted.{Wanted}
use Rattle.vsi_recovery.specs.declared.rules.Wanted.TheVariants as w
use Rattle.vsi_recovery.specs.Goes.{AreSpelled, IsWritten}
use Rattle.vsi_recovery.specs.Sorts.{lexeme_sort}
use Rattle.vsi_recovery.specs.Sorts.{same}
use Rattle.vsi_recovery.specs.Rules.{Rule, rules, parts_of, may_be_empty, begun, step, can_end, run, start}
use Rattle.vsi_recovery.proofs.Lists.{same_is}
use Rattle.vsi_recovery.proofs.Joining.{weaken}
use Rattle.vsi_recovery.proofs.Languages.{Is, a_name, a_name_is, some_lexeme, AreProper, Writes, WritesAll, AllHold, rules_hold}

-- The rule that was found holds, by the result of its test.
found_case : (x : Wanted) (r : Rule) (rs : List Rule) (a : Sort) (parts : List Wanted) (b : Bool) (y : Lexeme)
    (u : List Lexeme) → AllHold x (r ∷ rs) → same r.sort a ≡ b → cond b (Some r.parts) (parts_of a rs) ≡ Some parts →
    (parts_of a rs ≡ Some parts → Writes x (y ∷ u)) → Is a y → WritesAll parts u → Writes x (y ∷ u)
found_case x r rs a parts true y u hold e f later i p =
    hold.0 y u (subst (λ (c : Sort). Is c y) (sym (same_is r.sort a e)) i)
    (subst (λ (c : List Wanted). WritesAll c u) (sym (some_is r.parts parts f)) p)
found_case x r rs a parts false y u hold e f later i p = later f

-- The rule that was found holds.
found_holds : (x : Wanted) (rs : List Rule) (a : Sort) (parts : List Wanted) (y : Lexeme) (u : List Lexeme) →
    AllHold x rs → parts_of a rs ≡ Some parts → Is a y → WritesAll parts u → Writes x (y ∷ u)
found_holds x [] a parts y u hold f i p = absurd cc
found_holds x (r ∷ rs) a parts y u hold f i p =
    found_case x r rs a parts (same r.sort a) y u hold refl f
    (λ g. found_holds x rs a parts y u hold.1 g i p) i p

-- Lexemes written by two lists of parts consist of two parts.
split : (xs ys : List Wanted) (ws : List Lexeme) → WritesAll (xs ++ ys) ws →
    (u : List Lexeme) × (v : List Lexeme) × (ws ≡ u ++ v) × WritesAll xs u × WritesAll ys v
split [] ys ws p = ([], ws, refl, refl, p)
split (x ∷ xs) ys ws p =
    let q = split xs ys p.1 p.4 in (
      p.0 ++ q.0,
      q.1,
      p.2 ∙ ap (λ (z : List Lexeme). p.0 ++ z) q.2 ∙ sym (append_assoc p.0 q.0 q.1),
      (p.0, q.0, refl, p.3, q.3),
      q.4,
    )

-- A part that may be omitted may write no lexemes.
empty_writes : (x : Wanted) → may_be_empty x ≡ true → Writes x []
empty_writes w.Globals e = ([], refl)
empty_writes w.Command e = absurd cc
empty_writes w.Rest e = (Done, tt, refl)
empty_writes w.Class e = (None, refl)
empty_writes w.Expression e = absurd cc
empty_writes w.Sum e = absurd cc
empty_writes w.Operators e = λ t lt. (t, weaken 1 0 t lt (omega arith), sym (append-nil (write t)))
empty_writes w.SumOperators e = λ t lt. (t, lt, sym (append-nil (write t)))
empty_writes (w.Token a) e = absurd cc

-- If two tests hold together, the first holds.
and_left : (a b : Bool) → (a && b) ≡ true → a ≡ true
and_left true b h = refl
and_left false b h = h

-- If two tests hold together, the second holds.
and_right : (a b : Bool) → (a && b) ≡ true → b ≡ true
and_right true b h = h
and_right false b h = absurd cc

-- If all parts may be omitted, they may write no lexemes.
pub end_writes : (xs : List Wanted) → can_end xs ≡ true → WritesAll xs []
end_writes [] e = refl
end_writes (x ∷ xs) e = (
  [],
  [],
  refl,
  empty_writes x (and_left (may_be_empty x) (can_end xs) e),
  end_writes xs (and_right (may_be_empty x) (can_end xs) e),
)

-- A step was made by the first part, or by the parts after it.
step_case : (x : Wanted) (xs ys : List Wanted) (a : Sort) (y : Lexeme) (u : List Lexeme)
    (found : Option (List Wanted)) (empty : Bool) → parts_of a (rules x) ≡ found → may_be_empty x ≡ empty →
    begun found empty xs (step xs a) ≡ Some ys → (step xs a ≡ Some ys → WritesAll xs (y ∷ u)) → Is a y →
    WritesAll ys u → WritesAll (x ∷ xs) (y ∷ u)
step_case x xs ys a y u (Some parts) empty f e h later i p =
    let q = split parts xs u (subst (λ (c : List Wanted). WritesAll c u) (sym (some_is (parts ++ xs) ys h)) p) in (
      y ∷ q.0,
      q.1,
      ap (λ (z : List Lexeme). y ∷ z) q.2,
      found_holds x (rules x) a parts y q.0 (rules_hold x) f i q.3,
      q.4,
    )
step_case x xs ys a y u None true f e h later i p = ([], y ∷ u, refl, empty_writes x e, later h)
step_case x xs ys a y u None false f e h later i p = absurd cc

-- Lexemes that the parts after a step may write are also allowed with the step's token in front.
pub step_sound : (xs ys : List Wanted) (a : Sort) (y : Lexeme) (u : List Lexeme) → step xs a ≡ Some ys → Is a y →
    WritesAll ys u → WritesAll xs (y ∷ u)
step_sound [] ys a y u h i p = absurd cc
step_sound (x ∷ xs) ys a y u h i p =
    step_case x xs ys a y u (parts_of a (rules x)) (may_be_empty x) refl refl h
    (λ g. step_sound xs ys a y u g i p) i p

-- Lexemes that the parts after a reading may write are also allowed with the lexemes read in front.
pub run_sound : (xs ys : List Wanted) (ws u : List Lexeme) → run xs (map lexeme_sort ws) ≡ Some ys → AreProper ws →
    WritesAll ys u → WritesAll xs (ws ++ u)
run_sound xs ys [] u h proper p = subst (λ (c : List Wanted). WritesAll c u) (sym (some_is xs ys h)) p
run_sound xs ys (y ∷ ws) u h proper p =
    let q = bind_some (step xs (lexeme_sort y)) (λ zs. run zs (map lexeme_sort ws)) ys h in
    step_sound xs q.0 (lexeme_sort y) y (ws ++ u) q.1 proper.0 (run_sound q.0 ys ws u q.2 proper.1 p)

-- Lexemes that a text can contain are among those allowed.
abbrev pub SomeWrites : (List Lexeme → Type 0) → Type 0
SomeWrites P = (u : List Lexeme) × AreSpelled u × P u

-- Every pending part may write some lexemes that a text can contain.
some_writes : (x : Wanted) → SomeWrites (Writes x)
some_writes w.Globals = ([], tt, empty_writes w.Globals refl)
some_writes w.Command = (
  write_command (Assign a_name (Name a_name)),
  (a_name_is, (tt, (a_name_is, tt))),
  (Assign a_name (Name a_name), tt, refl),
)
some_writes w.Rest = ([], tt, empty_writes w.Rest refl)
some_writes w.Class = ([], tt, empty_writes w.Class refl)
some_writes w.Expression = (write (Name a_name), (a_name_is, tt), (Name a_name, tt, refl))
some_writes w.Sum = (write (Name a_name), (a_name_is, tt), (Name a_name, tt, refl))
some_writes w.Operators = ([], tt, empty_writes w.Operators refl)
some_writes w.SumOperators = ([], tt, empty_writes w.SumOperators refl)
some_writes (w.Token a) = let x = some_lexeme a in (x.0 ∷ [], (x.2, tt), (x.0, x.1, refl))

-- If a text can contain each of two lists of lexemes, it can contain both joined.
spelled_append : (us vs : List Lexeme) → AreSpelled us → AreSpelled vs → AreSpelled (us ++ vs)
spelled_append [] vs h i = i
spelled_append (u ∷ us) vs h i = (h.0, spelled_append us vs h.1 i)

-- Every list of pending parts may write some lexemes that a text can contain.
pub all_write : (xs : List Wanted) → SomeWrites (WritesAll xs)
all_write [] = ([], tt, refl)
all_write (x ∷ xs) =
    let a = some_writes x in let b = all_write xs in
    (a.0 ++ b.0, spelled_append a.0 b.0 a.1 b.1, (a.0, b.0, refl, a.2, b.2))

-- Lexemes that the parts at the start may write are a program.
pub start_writes : (ws : List Lexeme) → WritesAll start ws → IsWritten ws
start_writes ws p =
    let q = p.4 in let r = q.4 in (
      record { globals = p.3.0; body = Then q.3.0 r.3.0 },
      (q.3.1, r.3.1),
      let e₁ = p.3.1 in let e₂ = q.3.2 in let e₃ = r.3.2 in let e₄ = p.2 in let e₅ = q.2 in let e₆ = r.2 in
          let e₇ = r.4 in let e₈ = append-nil r.0 in cc,
    )
