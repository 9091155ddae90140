-- The sorts listed after tokens are exactly those that may come next.
use Rattle.std.proofs.Common.{◌≡◌, true, List, [], ◌∷◌, ◌++◌, map, Option, Some, None, refl, sym, ap, subst, ◌∙◌}
use Rattle.std.proofs.lemmas.List.{append-nil}
use Rattle.std.specs.Prelude.{is_some}
use Rattle.vsi_syntax.specs.declared.token.Token.{Token}
use Rattle.vsi_syntax.specs.Tree.{Lexeme}
use Rattle.vsi_syntax.specs.View.{lexemes}
use Rattle.vsi_syntax.proofs.Pairs.{some_is}
use Rattle.vsi_recovery.specs.declared.sort.Sort.{Sort}
use Rattle.vsi_recovery.specs.declared.rules.Wanted.{Wanted}
use Rattle.vsi_recovery.specs.Goes.{IsWritten, CanFollow}
use Rattle.vsi_recovery.specs.Sorts.{lexeme_sort}
use Rattle.vsi_recovery.specs.Rules.{step, can_end, run, start}
use Rattle.vsi_recovery.proofs.Languages.{is_sort, some_lexeme, tokens_proper, WritesAll}
use Rattle.vsi_recovery.proofs.Sound.{end_writes, step_sound, run_sound, all_write, start_writes}
use Rattle.vsi_recovery.proofs.Complete.{Accepts, steps_some, program_goes, prefix_goes}

-- An option that is present has a value.
some_there : (found : Option (List Wanted)) → is_some found ≡ true → (xs : List Wanted) × (found ≡ Some xs)
some_there None e = absurd cc
some_there (Some xs) e = (xs, refl)

-- A listed sort may come next.
pub follow_sound : (ts : List Token) (xs : List Wanted) (a : Sort) →
    run start (map lexeme_sort (lexemes ts)) ≡ Some xs → is_some (step xs a) ≡ true → CanFollow (lexemes ts) a
follow_sound ts xs a read e =
    let s = some_there (step xs a) e in
    let x = some_lexeme a in
    let u = all_write s.0 in (
      x.0,
      u.0,
      is_sort a x.0 x.1,
      (x.2, u.1),
      start_writes (lexemes ts ++ x.0 ∷ u.0)
          (run_sound start xs (lexemes ts) (x.0 ∷ u.0) read (tokens_proper ts)
          (step_sound xs s.0 a x.0 u.0 s.1 x.1 u.2)),
    )

-- A written continuation of these lexemes is read after them.
behind_goes : (ws rest : List Lexeme) → IsWritten (ws ++ rest) →
    (ys : List Wanted) × (run start (map lexeme_sort ws) ≡ Some ys) × Accepts ys rest
behind_goes ws rest p = prefix_goes start ws rest (subst (Accepts start) p.2 (program_goes p.0 p.1))

-- If a sort may come next, the lexemes before it are read and the sort is listed.
follow_goes : (ws : List Lexeme) (a : Sort) → CanFollow ws a →
    (ys : List Wanted) × (run start (map lexeme_sort ws) ≡ Some ys) × (is_some (step ys a) ≡ true)
follow_goes ws a f =
    let b = behind_goes ws (f.0 ∷ f.1) f.4 in
    let s = steps_some (step b.0 (lexeme_sort f.0)) (λ zs. Accepts zs f.1) b.2 in
    (b.0, b.1, ap (λ (c : Sort). is_some (step b.0 c)) (sym f.2) ∙ ap is_some s.1)

-- A sort that may come next is listed.
pub follow_complete : (ws : List Lexeme) (xs : List Wanted) (a : Sort) → run start (map lexeme_sort ws) ≡ Some xs →
    CanFollow ws a → is_some (step xs a) ≡ true
follow_complete ws xs a read f =
    let g = follow_goes ws a f in
    ap (λ (ys : List Wanted). is_some (step ys a)) (some_is xs g.0 (sym read ∙ g.1)) ∙ g.2

-- Nothing may follow lexemes that cannot be read.
pub follow_none : (ws : List Lexeme) (a : Sort) → run start (map lexeme_sort ws) ≡ None → CanFollow ws a → ⊥
follow_none ws a read f = let g = follow_goes ws a f in let e = g.1 in cc

-- If all pending parts may be omitted, a program ends there.
pub end_sound : (ts : List Token) (xs : List Wanted) → run start (map lexeme_sort (lexemes ts)) ≡ Some xs →
    can_end xs ≡ true → IsWritten (lexemes ts)
end_sound ts xs read e =
    start_writes (lexemes ts)
    (subst (WritesAll start) (append-nil (lexemes ts))
    (run_sound start xs (lexemes ts) [] read (tokens_proper ts) (end_writes xs e)))

-- If a program ends after the lexemes, they are read, and all parts that are pending then may be omitted.
end_goes : (ws : List Lexeme) → IsWritten ws →
    (ys : List Wanted) × (run start (map lexeme_sort ws) ≡ Some ys) × (can_end ys ≡ true)
end_goes ws p = behind_goes ws [] (subst IsWritten (sym (append-nil ws)) p)

-- If a program ends after the lexemes, all pending parts may be omitted.
pub end_complete : (ws : List Lexeme) (xs : List Wanted) → run start (map lexeme_sort ws) ≡ Some xs → IsWritten ws →
    can_end xs ≡ true
end_complete ws xs read p =
    let g = end_goes ws p in ap can_end (some_is xs g.0 (sym read ∙ g.1)) ∙ g.2

-- No program ends after lexemes that cannot be read.
pub end_none : (ws : List Lexeme) → run start (map lexeme_sort ws) ≡ None → IsWritten ws → ⊥
end_none ws read p = let g = end_goes ws p in let e = g.1 in cc
