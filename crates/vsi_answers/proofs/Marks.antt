-- Stamps of locations, and walks that leave them.
use Rattle.std.proofs.Common.{◌≡◌, ℕ, zero, suc, ◌+◌, ◌-◌, ◌<◌, ◌≤◌, Bool, true, false, List, [], ◌∷◌, ◌++◌, length, set, take, replicate, refl, sym, ap, subst, ◌∙◌, arith, inl, inr}
use Rattle.std.specs.Prelude.{not, ◌||◌, ◌==◌, nat_lt}
use Rattle.std.proofs.lemmas.Bool.{cases_eq, eq-eqb, le-ltb, lt-ltb, ne_eqb, or_right}
use Rattle.std.proofs.lemmas.List.{append-nil, append_assoc, length-set, length_push, set_at, take_all}
use Rattle.vsi_syntax.specs.declared.token.Span.{Span}
use Rattle.vsi_scope.specs.Language.{Expression, Number, Location, Operator, Command, Assign, While}
use Rattle.vsi_answers.specs.Warned.{assigned, reads_assigned, unchanged}
use Rattle.vsi_answers.specs.Stamps.{stamp, stamped, reads_above, AreUpTo, AreMarked, IsWalked}

-- A location that has a stamp already.
pub stamped_within : (ss : List ℕ) (l s : ℕ) → l < length ss → set ss l s ≡ stamped ss l s
stamped_within [] l s lt = absurd (omega (arith, lt))
stamped_within (x ∷ ss) zero s lt = refl
stamped_within (x ∷ ss) (suc l) s lt = ap (λ r. x ∷ r) (stamped_within ss l s (omega (arith, lt)))

-- A location past the end, after as many zeros as there are before it.
stamped_after : (ss : List ℕ) (n l s : ℕ) → l ≡ length ss + n → (ss ++ replicate n 0) ++ s ∷ [] ≡ stamped ss l s
stamped_after [] zero zero s e = refl
stamped_after [] zero (suc l) s e = absurd (omega (arith, e))
stamped_after [] (suc n) zero s e = absurd (omega (arith, e))
stamped_after [] (suc n) (suc l) s e = ap (λ r. 0 ∷ r) (stamped_after [] n l s (omega (arith, e)))
stamped_after (x ∷ ss) n zero s e = absurd (omega (arith, e))
stamped_after (x ∷ ss) n (suc l) s e = ap (λ r. x ∷ r) (stamped_after ss n l s (omega (arith, e)))

-- A location past the end, after a list is made as long as its number.
pub stamped_past : (ss rs ts : List ℕ) (n l s : ℕ) → n ≡ length ss → n ≤ l →
    rs ≡ take l ss ++ replicate (l - n) 0 → ts ≡ rs ++ s ∷ [] → ts ≡ stamped ss l s
stamped_past ss rs ts n l s long past p q =
    q ∙ ap (λ r. r ++ s ∷ []) p
    ∙ ap (λ r. (r ++ replicate (l - n) 0) ++ s ∷ []) (take_all l ss (omega (arith, long, past)))
    ∙ stamped_after ss (l - n) l s (omega (arith, long, past))

-- The location has the stamp.
stamped_same : (ss : List ℕ) (l s : ℕ) → stamp (stamped ss l s) l ≡ s
stamped_same [] zero s = refl
stamped_same [] (suc l) s = stamped_same [] l s
stamped_same (x ∷ ss) zero s = refl
stamped_same (x ∷ ss) (suc l) s = stamped_same ss l s

-- Another location keeps its stamp.
stamped_other : (ss : List ℕ) (l s k : ℕ) → (l ≡ k → ⊥) → stamp (stamped ss l s) k ≡ stamp ss k
stamped_other [] zero s zero ne = absurd (ne refl)
stamped_other [] zero s (suc k) ne = refl
stamped_other [] (suc l) s zero ne = refl
stamped_other [] (suc l) s (suc k) ne = stamped_other [] l s k (λ e. ne (ap suc e))
stamped_other (x ∷ ss) zero s zero ne = absurd (ne refl)
stamped_other (x ∷ ss) zero s (suc k) ne = refl
stamped_other (x ∷ ss) (suc l) s zero ne = refl
stamped_other (x ∷ ss) (suc l) s (suc k) ne = stamped_other ss l s k (λ e. ne (ap suc e))

-- Either false, or the other.
or_nothing : (b : Bool) → b ≡ (b || false)
or_nothing true = refl
or_nothing false = refl

-- One of three.
or_three : (a b c : Bool) → ((a || b) || c) ≡ (a || (b || c))
or_three true b c = refl
or_three false b c = refl

-- No stamp is above the new one if none was.
stamped_up : (ss : List ℕ) (l n : ℕ) → AreUpTo ss n → AreUpTo (stamped ss l n) n
stamped_up ss l n up k =
    elim (cases_eq l k) [
      | inl e ↦
          let same : stamp (stamped ss l n) k ≡ n =
          ap (stamp (stamped ss l n)) (sym e) ∙ stamped_same ss l n in
          omega (arith, same)
      | inr ne ↦ omega (arith, stamped_other ss l n k ne, up k)
    ]

-- An assignment marks its location alone.
stamped_marked : (l : ℕ) (p : Span) (e : Expression) (n : ℕ) (ss : List ℕ) →
    AreMarked (Assign l p e) n ss (stamped ss l n)
stamped_marked l p e n ss s k lt =
    elim (cases_eq l k) [
      | inl same ↦
          let new : stamp (stamped ss l n) k ≡ n =
          ap (stamp (stamped ss l n)) (sym same) ∙ stamped_same ss l n in
          lt-ltb s (stamp (stamped ss l n) k) (omega (arith, lt, new))
          ∙ sym (or_right (nat_lt s (stamp ss k)) (l == k) (eq-eqb l k same))
      | inr ne ↦
          ap (nat_lt s) (stamped_other ss l n k ne)
          ∙ or_nothing (nat_lt s (stamp ss k))
          ∙ ap (λ b. nat_lt s (stamp ss k) || b) (sym (ne_eqb l k ne))
    ]

-- A walk over an assignment.
pub walked_assignment : (l : ℕ) (p : Span) (e : Expression) (n : ℕ) (xs : List Bool) (ss ts : List ℕ) →
    n ≡ length xs → ts ≡ stamped ss l n → IsWalked (Assign l p e) xs ss xs ts
walked_assignment l p e n xs ss ts long is =
    let new : stamped ss l (length xs) ≡ ts = ap (stamped ss l) (sym long) ∙ sym is in
    subst (IsWalked (Assign l p e) xs ss xs) new (
      omega arith,
      λ up. (
        sym (append-nil xs),
        stamped_up ss l (length xs) up,
        stamped_marked l p e (length xs) ss,
      ),
    )

-- A walk over what consists of two commands, one after the other.
pub walked_both : (a b c : Command) (xs us ys : List Bool) (ss rs ts : List ℕ) →
    unchanged c ≡ unchanged a ++ unchanged b → ((l : ℕ) → assigned c l ≡ (assigned a l || assigned b l)) →
    IsWalked a xs ss us rs → IsWalked b us rs ys ts → IsWalked c xs ss ys ts
walked_both a b c xs us ys ss rs ts loops marks p q = (
  omega (arith, p.0, q.0),
  λ up.
      let f = p.1 up in
      let g = q.1 f.1 in (
        g.0
            ∙ ap (λ l. l ++ unchanged b) f.0
            ∙ append_assoc xs (unchanged a) (unchanged b)
            ∙ ap (λ l. xs ++ l) (sym loops),
        g.1,
        λ s l lt.
            g.2 s l (omega (arith, lt, p.0))
            ∙ ap (λ t. t || assigned b l) (f.2 s l lt)
            ∙ or_three (nat_lt s (stamp ss l)) (assigned a l) (assigned b l)
            ∙ ap (λ t. nat_lt s (stamp ss l) || t) (sym (marks l)),
      ),
)

-- A guard reads a location with a later stamp exactly if it reads one that is assigned.
reads_same : (c : Command) (ts : List ℕ) (n : ℕ) (e : Expression) →
    ((l : ℕ) → nat_lt n (stamp ts l) ≡ assigned c l) → reads_above ts n e ≡ reads_assigned c e
reads_same c ts n (Number k) h = refl
reads_same c ts n (Location l p) h = h l
reads_same c ts n (Operator o a b) h =
    ap (λ t. t || reads_above ts n b) (reads_same c ts n a h)
    ∙ ap (λ t. reads_assigned c a || t) (reads_same c ts n b h)

-- A walk over a loop adds an answer, walks over the body, and then gives the answer.
pub walked_loop : (e : Expression) (c : Command) (xs zs : List Bool) (ss ts : List ℕ) →
    IsWalked c (xs ++ false ∷ []) ss zs ts →
    IsWalked (While e c) xs ss (set zs (length xs) (not (reads_above ts (length xs) e))) ts
walked_loop e c xs zs ss ts p =
    let n = length xs in
    let r = reads_above ts n e in
    let one : length (xs ++ false ∷ []) ≡ n + 1 = length_push xs false in
    let same : length (set zs n (not r)) ≡ length zs = length-set zs n (not r) in (
      omega (arith, p.0, one, same),
      λ up.
          let f = p.1 (λ l. omega (arith, up l, one)) in
          let marked : (l : ℕ) → nat_lt n (stamp ts l) ≡ assigned c l =
          λ l. f.2 n l (omega (arith, one)) ∙ ap (λ t. t || assigned c l) (le-ltb n (stamp ss l) (up l)) in (
            ap (λ l. set l n (not r)) (f.0 ∙ append_assoc xs (false ∷ []) (unchanged c))
                ∙ set_at xs false (unchanged c) (not r) n refl
                ∙ ap (λ t. xs ++ not t ∷ unchanged c) (reads_same c ts n e marked),
            λ l. omega (arith, f.1 l, same),
            λ s l lt. f.2 s l (omega (arith, lt, one)),
          ),
    )
