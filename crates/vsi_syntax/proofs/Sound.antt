-- Reading an expression is sound: the lexemes taken are those that the tree writes, and it is levelled and of bounded
-- depth.
use Rattle.std.proofs.Common.{◌≡◌, ℕ, zero, suc, ◌<◌, ◌≤◌, cond, inl, inr, ltb, List, [], ◌∷◌, ◌++◌, Some, None, refl, sym, ap, ◌∙◌, append_assoc, arith}
use Rattle.std.proofs.lemmas.Bool.{ltb-true}
use Rattle.vsi_syntax.specs.declared.token.Kind.{Kind}
use Rattle.vsi_syntax.specs.declared.token.Kind.TheVariants as k
use Rattle.vsi_syntax.specs.Tree.{Lexeme, Called, Sign, sign, Tree, Number, Name, Bracket, Binary, write, left_level, right_level, IsLevelled, depth}
use Rattle.vsi_syntax.specs.Parsing.{◌>>=◌, own_level, next, Reads, nothing, closing, rounded, sign_first, first, more, whole, parse}
use Rattle.vsi_syntax.proofs.Pairs.{some_left, some_right, bind_some, guard_some, go_cases}
use Rattle.vsi_syntax.proofs.Operators.{relevel, next_is}

-- The lexemes that a reader took from the front are those that this tree writes.
pub record Took (room l : ℕ) (ws : List Lexeme) (t : Tree) (rest : List Lexeme) : Type 0 where
  pub parts : ws ≡ write t ++ rest
  pub levelled : IsLevelled l t
  pub fits : depth t ≤ room

-- The tree and the rest may be replaced by equal ones.
took_along : (room l : ℕ) (ws : List Lexeme) (t u : Tree) (rest behind : List Lexeme) → t ≡ u → rest ≡ behind →
    Took room l ws t rest → Took room l ws u behind
took_along room l ws t u rest behind e f h = rw (← e, ← f) h

-- Reading an inner expression is sound, and its depth is smaller.
abbrev pub IsSoundBelow : ℕ → Reads → Type 0
IsSoundBelow room inner = (l : ℕ) (ws : List Lexeme) (t : Tree) (rest : List Lexeme) → inner l ws ≡ Some (t, rest) →
    (ws ≡ write t ++ rest) × IsLevelled l t × (depth t < room)

-- If a closing bracket is read, the lexemes begin with one.
pub closing_is : (ws rest : List Lexeme) → closing ws ≡ Some rest → ws ≡ Sign k.Close ∷ rest
closing_is [] rest h = absurd cc
closing_is (Called x ∷ ws) rest h = absurd cc
closing_is (Sign k.Close ∷ ws) rest h = cc
closing_is (Sign _ ∷ ws) rest h = absurd cc

-- Reading a bracket is sound.
bracket_sound : (inner : Reads) (room l : ℕ) (ws : List Lexeme) (t : Tree) (rest : List Lexeme) →
    IsSoundBelow room inner → (inner 0 ws >>= rounded) ≡ Some (t, rest) → Took room l (Sign k.Open ∷ ws) t rest
bracket_sound inner room l ws t rest sound h =
    let a = bind_some (inner 0 ws) rounded (t, rest) h in
    let b = bind_some (closing a.0.1) (λ rest. Some (Bracket a.0.0, rest)) (t, rest) a.2 in
    let s = sound 0 ws a.0.0 a.0.1 a.1 in
    let c = closing_is a.0.1 b.0 b.1 in
    let e = some_left (Bracket a.0.0) t b.0 rest b.2 in
    let f = some_right (Bracket a.0.0) t b.0 rest b.2 in
    took_along room l (Sign k.Open ∷ ws) (Bracket a.0.0) t b.0 rest e f (record {
      parts = ap (λ (x : List Lexeme). Sign k.Open ∷ x)
          (s.0 ∙ ap (λ (x : List Lexeme). write a.0.0 ++ x) c
          ∙ sym (append_assoc (write a.0.0) (Sign k.Close ∷ []) b.0));
      levelled = s.1;
      fits = omega (arith, s.2);
    })

-- Reading an atom that does not begin with a name is sound.
sign_sound : (inner : Reads) (room l : ℕ) (kind : Kind) (ws : List Lexeme) (t : Tree) (rest : List Lexeme) →
    IsSoundBelow room inner → sign_first inner kind ws ≡ Some (t, rest) → Took room l (Sign kind ∷ ws) t rest
sign_sound inner room l (k.Number n) ws t rest sound h =
    let e = some_left (Number n) t ws rest h in
    let f = some_right (Number n) t ws rest h in
    rw (← e, ← f) (record { parts = refl; levelled = tt; fits = omega arith })
sign_sound inner room l k.Open ws t rest sound h = bracket_sound inner room l ws t rest sound h
sign_sound inner room l _ ws t rest sound h = absurd cc

-- Reading an atom is sound.
first_sound : (inner : Reads) (room l : ℕ) (ws : List Lexeme) (t : Tree) (rest : List Lexeme) →
    IsSoundBelow room inner →
    first inner ws ≡ Some (t, rest) → Took room l ws t rest
unfolding first
first_sound inner room l [] t rest sound h = absurd cc
first_sound inner room l (Called x ∷ ws) t rest sound h =
    let e = some_left (Name x) t ws rest h in
    let f = some_right (Name x) t ws rest h in
    rw (← e, ← f) (record { parts = refl; levelled = tt; fits = omega arith })
first_sound inner room l (Sign kind ∷ ws) t rest sound h = sign_sound inner room l kind ws t rest sound h

-- Continuing from a tree took these lexemes: with those of the tree they are what the result writes.
pub record Grew (room l : ℕ) (t : Tree) (ws : List Lexeme) (u : Tree) (rest : List Lexeme) : Type 0 where
  pub parts : write t ++ ws ≡ write u ++ rest
  pub levelled : IsLevelled l u
  pub fits : depth u ≤ room

-- Continuing from a tree is sound: the lexemes of that tree and those taken are what the result writes.
more_sound : (n : ℕ) (inner : Reads) (room l : ℕ) (t : Tree) (ws : List Lexeme) (u : Tree) (rest : List Lexeme) →
    IsSoundBelow room inner → IsLevelled l t → depth t ≤ room → more inner n room l t ws ≡ Some (u, rest) →
    Grew room l t ws u rest
unfolding more
more_sound zero inner room l t ws u rest sound lv fits h =
    elim (go_cases (Some (t, ws)) (λ op rest. None) (next l (own_level t) ws) (Some (u, rest)) h) [
      | inl s ↦
          let e = some_left t u ws rest s.1 in
          let f = some_right t u ws rest s.1 in
          rw (← e, ← f) (record { parts = refl; levelled = lv; fits = fits })
      | inr s ↦ absurd (cc (s.2))
    ]
more_sound (suc n) inner room l t ws u rest sound lv fits h =
    elim (go_cases (Some (t, ws))
    (λ op rest. cond (ltb (depth t) room)
    (inner (right_level op) rest >>= λ r. more inner n room l (Binary op t r.0) r.1) None) (next l (own_level t) ws)
    (Some (u, rest)) h) [
      | inl s ↦
          let e = some_left t u ws rest s.1 in
          let f = some_right t u ws rest s.1 in
          rw (← e, ← f) (record { parts = refl; levelled = lv; fits = fits })
      | inr s ↦
          let op = s.0.0 in
          let after = s.0.1 in
          let g = guard_some (ltb (depth t) room)
          (inner (right_level op) after >>= λ r. more inner n room l (Binary op t r.0) r.1) (u, rest) s.2 in
          let low : depth t < room = ltb-true (depth t) room g.0 in
          let b = bind_some (inner (right_level op) after) (λ r. more inner n room l (Binary op t r.0) r.1) (u, rest)
          g.1
          in
          let p = next_is l (own_level t) ws op after s.1 in
          let q = sound (right_level op) after b.0.0 b.0.1 b.1 in
          let lv' : IsLevelled l (Binary op t b.0.0) = (p.1, relevel l (left_level op) t lv p.2, q.1) in
          let r = more_sound n inner room l (Binary op t b.0.0) b.0.1 u rest sound lv' (omega (arith, q.2)) b.2 in
          let e : write t ++ ws ≡ write (Binary op t b.0.0) ++ b.0.1 =
          ap (λ (x : List Lexeme). write t ++ x) (p.0 ∙ ap (λ (x : List Lexeme). Sign (sign op) ∷ x) q.0)
          ∙ sym (append_assoc (write t) (Sign (sign op) ∷ write b.0.0) b.0.1) in
          record { parts = e ∙ r.parts; levelled = r.levelled; fits = r.fits }
    ]

-- Reading an expression is sound if reading inside it is.
whole_sound : (inner : Reads) (room l : ℕ) (ws : List Lexeme) (t : Tree) (rest : List Lexeme) →
    IsSoundBelow room inner →
    whole inner room l ws ≡ Some (t, rest) → Took room l ws t rest
whole_sound inner room l ws t rest sound h =
    let a = bind_some (first inner ws) (λ r. more inner room room l r.0 r.1) (t, rest) h in
    let f = first_sound inner room l ws a.0.0 a.0.1 sound a.1 in
    let m = more_sound room inner room l a.0.0 a.0.1 t rest sound f.levelled f.fits a.2 in
    record { parts = f.parts ∙ m.parts; levelled = m.levelled; fits = m.fits }

-- Reading an expression of bounded depth is sound: it is levelled and not deeper.
pub parse_sound : (room l : ℕ) (ws : List Lexeme) (t : Tree) (rest : List Lexeme) → parse room l ws ≡ Some (t, rest) →
    Took room l ws t rest
unfolding parse
parse_sound zero l ws t rest h = whole_sound nothing zero l ws t rest (λ l ws t rest e. absurd cc) h
parse_sound (suc room) l ws t rest h =
    whole_sound (parse room) (suc room) l ws t rest
    (λ l ws t rest e. let s = parse_sound room l ws t rest e in (s.parts, s.levelled, omega (arith, s.fits))) h
