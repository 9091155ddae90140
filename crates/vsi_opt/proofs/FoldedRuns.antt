-- Folding preserves the behaviour of a command.
use Rattle.std.proofs.Common.{◌≡◌, ℕ, zero, suc, ◌++◌, [], ◌∷◌, length, Option, Some, None, ℤ, pos, negsuc, refl, sym, ap, ◌∙◌}
use Rattle.std.specs.Prelude.{slice_set}
use Rattle.vsi_syntax.specs.declared.tree.Op.{Op}
use Rattle.vsi_scope.specs.Language.{Expression, Number, Location, Operator, Command, Skip, Assign, Sequence, If, While, Letvar}
use Rattle.vsi_syntax.specs.Operators.{apply}
use Rattle.vsi_scope.specs.Meaning.{Store, value, at_zero, and_then, drop_past, turns, runs}
use Rattle.vsi_opt.specs.Folding.{fold_operator, folded, one, append, truth_of, branch, loop, fold}

-- Equal first steps followed by equal next steps are equal.
pub and_then_same : (o o' : Option Store) (f g : Store → Option Store) → o ≡ o' → ((m : Store) → f m ≡ g m) →
    and_then o f ≡ and_then o' g
and_then_same None o' f g e h = ap (λ x. and_then x g) e
and_then_same (Some m) o' f g e h = h m ∙ ap (λ x. and_then x g) e

-- A further step that does nothing changes nothing.
pub and_then_some : (o : Option Store) → and_then o (λ m. Some m) ≡ o
and_then_some None = refl
and_then_some (Some m) = refl

-- Two further steps are one step that does both.
pub and_then_then : (o : Option Store) (f g : Store → Option Store) →
    and_then (and_then o f) g ≡ and_then o (λ m. and_then (f m) g)
and_then_then None f g = refl
and_then_then (Some m) f g = refl

-- Two sequences joined run one after the other.
pub runs_append : (n : ℕ) (a b : Command) (m : Store) → runs n (append a b) m ≡ and_then (runs n a m) (runs n b)
runs_append n Skip b m = refl
runs_append n (Assign l s e) b m = refl
runs_append n (Sequence a c) b m =
    and_then_same (runs n a m) (runs n a m) (runs n (append c b)) (λ m₁. and_then (runs n c m₁) (runs n b)) refl
    (runs_append n c b)
    ∙ sym (and_then_then (runs n a m) (runs n c) (runs n b))
runs_append n (If e a c) b m = refl
runs_append n (While e c) b m = refl
runs_append n (Letvar e c) b m = refl

-- The sequence of one command runs like the command.
pub runs_one : (n : ℕ) (c : Command) (m : Store) → runs n (one c) m ≡ runs n c m
runs_one n c m = and_then_some (runs n c m)

-- A folded operator has the value of the operator.
operator_value : (o : Op) (a b : Expression) (m : Store) → value (fold_operator o a b) m
    ≡ apply o (value a m) (value b m)
operator_value o (Number x) (Number y) m = refl
operator_value o (Number x) (Location l s) m = refl
operator_value o (Number x) (Operator p c d) m = refl
operator_value o (Location l s) b m = refl
operator_value o (Operator p c d) b m = refl

-- A folded expression has the value of the expression.
pub folded_value : (e : Expression) (m : Store) → value (folded e) m ≡ value e m
folded_value (Number n) m = refl
folded_value (Location l s) m = refl
folded_value (Operator o a b) m =
    operator_value o (folded a) (folded b) m
    ∙ ap (λ x. apply o x (value (folded b) m)) (folded_value a m)
    ∙ ap (apply o (value a m)) (folded_value b m)

-- A folded choice runs like the choice.
fold_if_runs : (n : ℕ) (e : Expression) (a b : Command) (m : Store) →
    runs n (branch (truth_of e) e a b) m ≡ at_zero (value e m) (runs n b m) (runs n a m)
fold_if_runs n (Number (pos zero)) a b m = refl
fold_if_runs n (Number (pos (suc k))) a b m = refl
fold_if_runs n (Number (negsuc k)) a b m = refl
fold_if_runs n (Location l s) a b m = runs_one n (If (Location l s) a b) m
fold_if_runs n (Operator o x y) a b m = runs_one n (If (Operator o x y) a b) m

-- Equal guards and equal branches choose equally.
pub at_zero_same : (z z' : ℤ) (a b a' b' : Option Store) → z ≡ z' → a ≡ a' → b ≡ b' → at_zero z a b ≡ at_zero z' a' b'
at_zero_same z z' a b a' b' e f g = ap (λ x. at_zero x a b) e ∙ ap (λ x. at_zero z' x b) f ∙ ap (at_zero z' a') g

-- A loop whose guard is false leaves the store unchanged.
stops_at_zero : (n : ℕ) (guard : Store → ℤ) (f : Store → Option Store) (m : Store) → guard m ≡ pos zero →
    turns n guard f m ≡ Some m
stops_at_zero zero guard f m e = ap (λ x. at_zero x (Some m) None) e
stops_at_zero (suc n) guard f m e = ap (λ x. at_zero x (Some m) (and_then (f m) (turns n guard f))) e

-- A folded loop takes the turns of the loop.
fold_while_runs : (n : ℕ) (e : Expression) (c : Command) (m : Store) →
    runs n (loop (truth_of e) e c) m ≡ turns n (value e) (runs n c) m
fold_while_runs n (Number (pos zero)) c m = sym (stops_at_zero n (value (Number (pos zero))) (runs n c) m refl)
fold_while_runs n (Number (pos (suc k))) c m = runs_one n (While (Number (pos (suc k))) c) m
fold_while_runs n (Number (negsuc k)) c m = runs_one n (While (Number (negsuc k)) c) m
fold_while_runs n (Location l s) c m = runs_one n (While (Location l s) c) m
fold_while_runs n (Operator o x y) c m = runs_one n (While (Operator o x y) c) m

-- Equal guards and equal bodies take the same turns.
pub turns_same : (n : ℕ) (g h : Store → ℤ) (f k : Store → Option Store) → ((m : Store) → g m ≡ h m) →
    ((m : Store) → f m ≡ k m) → (m : Store) → turns n g f m ≡ turns n h k m
turns_same zero g h f k e d m = ap (λ x. at_zero x (Some m) None) (e m)
turns_same (suc n) g h f k e d m =
    at_zero_same (g m) (h m) (Some m) (and_then (f m) (turns n g f)) (Some m) (and_then (k m) (turns n h k)) (e m)
    refl
    (and_then_same (f m) (k m) (turns n g f) (turns n h k) (d m) (turns_same n g h f k e d))

-- A folded command behaves like the command.
pub fold_runs : (c : Command) (n : ℕ) (m : Store) → runs n (fold c) m ≡ runs n c m
fold_runs Skip n m = refl
fold_runs (Assign l s e) n m = ap (λ x. Some (slice_set m l x)) (folded_value e m)
fold_runs (Sequence a b) n m =
    runs_append n (fold a) (fold b) m ∙ and_then_same (runs n (fold a) m) (runs n a m) (runs n (fold b)) (runs n b)
    (fold_runs a n m) (fold_runs b n)
fold_runs (If e a b) n m =
    fold_if_runs n (folded e) (fold a) (fold b) m
    ∙ at_zero_same (value (folded e) m) (value e m) _ _ _ _ (folded_value e m) (fold_runs b n m) (fold_runs a n m)
fold_runs (While e c) n m =
    fold_while_runs n (folded e) (fold c) m
    ∙ turns_same n (value (folded e)) (value e) (runs n (fold c)) (runs n c) (folded_value e) (fold_runs c n) m
fold_runs (Letvar e c) n m =
    runs_one n (Letvar (folded e) (fold c)) m
    ∙ ap (λ x. drop_past (length m) (runs n (fold c) (m ++ x ∷ []))) (folded_value e m)
    ∙ ap (drop_past (length m)) (fold_runs c n (m ++ value e m ∷ []))
