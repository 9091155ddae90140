-- The size, the locations and the letvars of the optimised body, and that nothing is left to fold.
use Rattle.std.proofs.Common.{◌≡◌, ℕ, zero, suc, ◌+◌, ◌≤◌, Bool, true, false, Option, Some, None, pos, negsuc, refl, sym, subst, arith}
use Rattle.vsi_syntax.specs.declared.tree.Op.{Op}
use Rattle.vsi_scope.specs.Language.{Expression, Number, Location, Operator, Command, Skip, Assign, Sequence, If, While, Letvar, HasLocations, HasPlaces, letvars, expression_size, size}
use Rattle.vsi_opt.specs.Folding.{fold_operator, folded, one, append, truth_of, branch, loop, fold}
use Rattle.vsi_opt.specs.Liveness.{Locations, kept_live}
use Rattle.vsi_opt.specs.Ranges.{Fits}
use Rattle.vsi_opt.specs.Folded.{IsFoldedExpression, IsFolded}
use Rattle.vsi_opt.proofs.Removal.{append_sum, IsCarried, kept_live_carried}
use Rattle.vsi_opt.proofs.Depths.{optimised_depth, optimised_nesting}
use Rattle.vsi_opt.specs.Optimised.{globals_alone, NotLarger, NothingToFold, PlacesKept}

-- A test that a command passes if all its parts do.
pub record IsWhole (P : Command → Type 0) : Type 0 where
  pub nothing : P Skip
  pub of_then : (a b : Command) → P (Sequence a b) → P a × P b
  pub to_then : (a b : Command) → P a → P b → P (Sequence a b)

-- The concatenation of two sequences that pass the test passes it.
append_whole : (P : Command → Type 0) → IsWhole P → (a b : Command) → P a → P b → P (append a b)
append_whole P w Skip b x y = y
append_whole P w (Assign l s e) b x y = w.to_then (Assign l s e) b x y
append_whole P w (Sequence a c) b x y = let t = w.of_then a c x in
    w.to_then a (append c b) t.0 (append_whole P w c b t.1 y)
append_whole P w (If e a c) b x y = w.to_then (If e a c) b x y
append_whole P w (While e c) b x y = w.to_then (While e c) b x y
append_whole P w (Letvar e c) b x y = w.to_then (Letvar e c) b x y

-- The sequence of a command that passes the test passes it.
one_whole : (P : Command → Type 0) → IsWhole P → (c : Command) → P c → P (one c)
one_whole P w c x = w.to_then c Skip x w.nothing

-- Two sequences joined have the sum of their sizes.
append_size : (a b : Command) → size (append a b) ≡ size a + size b
append_size = append_sum size refl (λ a b. refl)

-- A folded operator is no larger.
operator_size : (o : Op) (a b : Expression) →
    expression_size (fold_operator o a b) ≤ expression_size a + expression_size b + 1
operator_size o (Number x) (Number y) = omega arith
operator_size o (Number x) (Location l s) = omega arith
operator_size o (Number x) (Operator p c d) = omega arith
operator_size o (Location l s) b = omega arith
operator_size o (Operator p c d) b = omega arith

-- A folded expression is no larger.
folded_size : (e : Expression) → expression_size (folded e) ≤ expression_size e
folded_size (Number n) = omega arith
folded_size (Location l s) = omega arith
folded_size (Operator o a b) = omega (arith, operator_size o (folded a) (folded b), folded_size a, folded_size b)

-- A folded choice is no larger than its parts.
fold_if_size : (t : Option Bool) (e : Expression) (a b : Command) →
    size (branch t e a b) ≤ expression_size e + size a + size b + 2
fold_if_size (Some true) e a b = omega arith
fold_if_size (Some false) e a b = omega arith
fold_if_size None e a b = omega arith

-- A folded loop is no larger than its parts.
fold_while_size : (t : Option Bool) (e : Expression) (c : Command) → size (loop t e c) ≤ expression_size e + size c + 2
fold_while_size (Some true) e c = omega arith
fold_while_size (Some false) e c = omega arith
fold_while_size None e c = omega arith

-- A folded command is no larger.
fold_size : (c : Command) → size (fold c) ≤ size c
fold_size Skip = omega arith
fold_size (Assign l s e) = omega (arith, folded_size e)
fold_size (Sequence a b) = omega (arith, append_size (fold a) (fold b), fold_size a, fold_size b)
fold_size (If e a b) = omega (
  arith,
  fold_if_size (truth_of (folded e)) (folded e) (fold a) (fold b),
  folded_size e,
  fold_size a,
  fold_size b,
)
fold_size (While e c) = omega (
  arith,
  fold_while_size (truth_of (folded e)) (folded e) (fold c),
  folded_size e,
  fold_size c,
)
fold_size (Letvar e c) = omega (arith, folded_size e, fold_size c)

-- Removal makes nothing larger if it makes no part larger.
no_larger : IsCarried (λ a c. size a ≤ size c)
no_larger = record {
  nothing = omega arith;
  stays = λ l s e. omega arith;
  goes = λ l s e. omega arith;
  joined = λ a b c d x y. omega (arith, append_size a b, x, y);
  choice = λ e a b c d x y. omega (arith, x, y);
  repeated = λ e a c x. omega (arith, x);
  local = λ e a c x. omega (arith, x);
}

-- The optimised body is no larger, nor deeper.
pub not_larger : NotLarger
not_larger c g = (
  omega (arith, kept_live_carried (λ a c. size a ≤ size c) no_larger (fold c) g g (globals_alone g), fold_size c),
  optimised_depth c g,
  optimised_nesting c g,
)

-- A sequence is folded if its parts are.
folded_parts : IsWhole IsFolded
folded_parts = record { nothing = tt; of_then = λ a b x. x; to_then = λ a b x y. (x, y) }

-- Folding an operator on folded operands leaves nothing to fold.
operator_folded : (o : Op) (a b : Expression) → IsFoldedExpression a → IsFoldedExpression b →
    IsFoldedExpression (fold_operator o a b)
operator_folded o (Number x) (Number y) f g = tt
operator_folded o (Number x) (Location l s) f g = (f, g, λ h k. k)
operator_folded o (Number x) (Operator p c d) f g = (f, g, λ h k. k)
operator_folded o (Location l s) b f g = (f, g, λ h k. h)
operator_folded o (Operator p c d) b f g = (f, g, λ h k. h)

-- A folded expression has nothing left to fold.
expression_folded : (e : Expression) → IsFoldedExpression (folded e)
expression_folded (Number n) = tt
expression_folded (Location l s) = tt
expression_folded (Operator o a b) = operator_folded o (folded a) (folded b) (expression_folded a) (expression_folded b)

-- A folded choice of folded parts has nothing left to fold.
fold_if_folded : (e : Expression) (a b : Command) → IsFoldedExpression e → IsFolded a → IsFolded b →
    IsFolded (branch (truth_of e) e a b)
fold_if_folded (Number (pos zero)) a b f x y = y
fold_if_folded (Number (pos (suc k))) a b f x y = x
fold_if_folded (Number (negsuc k)) a b f x y = x
fold_if_folded (Location l s) a b f x y =
    one_whole IsFolded folded_parts (If (Location l s) a b) (f, λ h. h, x, y)
fold_if_folded (Operator o p q) a b f x y = one_whole IsFolded folded_parts (If (Operator o p q) a b) (f, λ h. h, x, y)

-- The test that only the literal 0 passes.
is_zero : Expression → Type 0
is_zero (Number (pos zero)) = Unit {0}
is_zero (Number (pos (suc n))) = ⊥
is_zero (Number (negsuc n)) = ⊥
is_zero (Location l s) = ⊥
is_zero (Operator o a b) = ⊥

-- An expression that fails the test is not the literal 0.
not_zero : (e : Expression) → (is_zero e → ⊥) → e ≡ Number (pos zero) → ⊥
unfolding is_zero
not_zero e h is = h (subst is_zero (sym is) tt)

-- A loop of folded parts, whose guard is not the literal 0, has nothing left to fold.
loop_folded : (e : Expression) (c : Command) → IsFoldedExpression e → (is_zero e → ⊥) → IsFolded c →
    IsFolded (one (While e c))
loop_folded e c f h x = one_whole IsFolded folded_parts (While e c) (f, not_zero e h, x)

-- A folded loop of folded parts has nothing left to fold.
fold_while_folded : (e : Expression) (c : Command) → IsFoldedExpression e → IsFolded c →
    IsFolded (loop (truth_of e) e c)
unfolding is_zero
fold_while_folded (Number (pos zero)) c f x = tt
fold_while_folded (Number (pos (suc n))) c f x = loop_folded (Number (pos (suc n))) c tt (λ h. h) x
fold_while_folded (Number (negsuc n)) c f x = loop_folded (Number (negsuc n)) c tt (λ h. h) x
fold_while_folded (Location l s) c f x = loop_folded (Location l s) c f (λ h. h) x
fold_while_folded (Operator o p q) c f x = loop_folded (Operator o p q) c f (λ h. h) x

-- A folded command has nothing left to fold.
fold_folded : (c : Command) → IsFolded (fold c)
fold_folded Skip = tt
fold_folded (Assign l s e) = (expression_folded e, tt)
fold_folded (Sequence a b) = append_whole IsFolded folded_parts (fold a) (fold b) (fold_folded a) (fold_folded b)
fold_folded (If e a b) = fold_if_folded (folded e) (fold a) (fold b) (expression_folded e) (fold_folded a)
    (fold_folded b)
fold_folded (While e c) = fold_while_folded (folded e) (fold c) (expression_folded e) (fold_folded c)
fold_folded (Letvar e c) = ((expression_folded e, fold_folded c), tt)

-- Removal leaves nothing new to fold if it leaves nothing new in the parts.
stays_folded : IsCarried (λ a c. IsFolded c → IsFolded a)
stays_folded = record {
  nothing = λ x. tt;
  stays = λ l s e x. one_whole IsFolded folded_parts (Assign l s e) x;
  goes = λ l s e x. tt;
  joined = λ a b c d f g x. append_whole IsFolded folded_parts a b (f x.0) (g x.1);
  choice = λ e a b c d f g x. ((x.0, x.1, f x.2, g x.3), tt);
  repeated = λ e a c f x. ((x.0, x.1, f x.2), tt);
  local = λ e a c f x. ((x.0, f x.1), tt);
}

-- The optimised body has nothing left to fold.
pub nothing_to_fold : NothingToFold
nothing_to_fold c g =
    kept_live_carried (λ a c. IsFolded c → IsFolded a) stays_folded (fold c) g g (globals_alone g) (fold_folded c)

-- A sequence uses existing locations if its parts do.
places_parts : (k : ℕ) → IsWhole (HasPlaces k)
places_parts k = record { nothing = tt; of_then = λ a b x. x; to_then = λ a b x y. (x, y) }

-- A folded operator reads only locations that its operands read.
operator_places : (k : ℕ) (o : Op) (a b : Expression) → HasLocations k a → HasLocations k b →
    HasLocations k (fold_operator o a b)
operator_places k o (Number x) (Number y) f g = tt
operator_places k o (Number x) (Location l s) f g = (f, g)
operator_places k o (Number x) (Operator p c d) f g = (f, g)
operator_places k o (Location l s) b f g = (f, g)
operator_places k o (Operator p c d) b f g = (f, g)

-- A folded expression reads existing locations.
folded_places : (k : ℕ) (e : Expression) → HasLocations k e → HasLocations k (folded e)
folded_places k (Number n) h = tt
folded_places k (Location l s) h = h
folded_places k (Operator o a b) h = operator_places k o (folded a) (folded b) (folded_places k a h.0)
    (folded_places k b h.1)

-- A folded choice uses existing locations.
fold_if_places : (k : ℕ) (t : Option Bool) (e : Expression) (a b : Command) → HasLocations k e → HasPlaces k a →
    HasPlaces k b → HasPlaces k (branch t e a b)
fold_if_places k (Some true) e a b f x y = x
fold_if_places k (Some false) e a b f x y = y
fold_if_places k None e a b f x y = ((f, x, y), tt)

-- A folded loop uses existing locations.
fold_while_places : (k : ℕ) (t : Option Bool) (e : Expression) (c : Command) → HasLocations k e → HasPlaces k c →
    HasPlaces k (loop t e c)
fold_while_places k (Some true) e c f x = ((f, x), tt)
fold_while_places k (Some false) e c f x = tt
fold_while_places k None e c f x = ((f, x), tt)

-- A folded command uses existing locations.
fold_places : (c : Command) (k : ℕ) → HasPlaces k c → HasPlaces k (fold c)
fold_places Skip k x = tt
fold_places (Assign l s e) k x = ((x.0, folded_places k e x.1), tt)
fold_places (Sequence a b) k x = append_whole (HasPlaces k) (places_parts k) (fold a) (fold b) (fold_places a k x.0)
    (fold_places b k x.1)
fold_places (If e a b) k x = fold_if_places k (truth_of (folded e)) (folded e) (fold a) (fold b)
    (folded_places k e x.0) (fold_places a k x.1) (fold_places b k x.2)
fold_places (While e c) k x = fold_while_places k (truth_of (folded e)) (folded e) (fold c)
    (folded_places k e x.0) (fold_places c k x.1)
fold_places (Letvar e c) k x = ((folded_places k e x.0, fold_places c (k + 1) x.1), tt)

-- Removal leaves existing locations if it leaves such in the parts.
stays_placed : IsCarried (λ a c. (k : ℕ) → HasPlaces k c → HasPlaces k a)
stays_placed = record {
  nothing = λ k x. tt;
  stays = λ l s e k x. one_whole (HasPlaces k) (places_parts k) (Assign l s e) x;
  goes = λ l s e k x. tt;
  joined = λ a b c d f g k x. append_whole (HasPlaces k) (places_parts k) a b (f k x.0) (g k x.1);
  choice = λ e a b c d f g k x. ((x.0, f k x.1, g k x.2), tt);
  repeated = λ e a c f k x. ((x.0, f k x.1), tt);
  local = λ e a c f k x. ((x.0, f (k + 1) x.1), tt);
}

-- The optimised body uses existing locations.
pub places_kept : PlacesKept
places_kept c g h =
    kept_live_carried (λ a c. (k : ℕ) → HasPlaces k c → HasPlaces k a) stays_placed (fold c) g g (globals_alone g) g
    (fold_places c g h)

-- Two sequences joined have the letvars of both.
pub append_letvars : (a b : Command) → letvars (append a b) ≡ letvars a + letvars b
append_letvars = append_sum letvars refl (λ a b. refl)

-- Removal keeps the number of letvars if it keeps that of the parts.
same_letvars : IsCarried (λ a c. letvars a ≡ letvars c)
same_letvars = record {
  nothing = refl;
  stays = λ l s e. refl;
  goes = λ l s e. refl;
  joined = λ a b c d x y. omega (arith, append_letvars a b, x, y);
  choice = λ e a b c d x y. omega (arith, x, y);
  repeated = λ e a c x. omega (arith, x);
  local = λ e a c x. omega (arith, x);
}

-- Removal keeps the number of letvars.
pub kept_live_letvars : (c : Command) (g k : ℕ) (live : Locations) → letvars (kept_live g k c live) ≡ letvars c
kept_live_letvars = kept_live_carried (λ a c. letvars a ≡ letvars c) same_letvars

-- A folded choice has no more letvars than its branches.
fold_if_letvars : (t : Option Bool) (e : Expression) (a b : Command) → letvars (branch t e a b) ≤ letvars a + letvars b
fold_if_letvars (Some true) e a b = omega arith
fold_if_letvars (Some false) e a b = omega arith
fold_if_letvars None e a b = omega arith

-- A folded loop has no more letvars than its body.
fold_while_letvars : (t : Option Bool) (e : Expression) (c : Command) → letvars (loop t e c) ≤ letvars c
fold_while_letvars (Some true) e c = omega arith
fold_while_letvars (Some false) e c = omega arith
fold_while_letvars None e c = omega arith

-- Folding adds no letvar.
pub fold_letvars : (c : Command) → letvars (fold c) ≤ letvars c
fold_letvars Skip = omega arith
fold_letvars (Assign l s e) = omega arith
fold_letvars (Sequence a b) = omega (arith, append_letvars (fold a) (fold b), fold_letvars a, fold_letvars b)
fold_letvars (If e a b) = omega
    (arith, fold_if_letvars (truth_of (folded e)) (folded e) (fold a) (fold b), fold_letvars a, fold_letvars b)
fold_letvars (While e c) =
    omega (arith, fold_while_letvars (truth_of (folded e)) (folded e) (fold c), fold_letvars c)
fold_letvars (Letvar e c) = omega (arith, fold_letvars c)

-- Locations below a number within the limit are within the limit.
wider : (e : Expression) (k : ℕ) → k ≤ 1024 → HasLocations k e → HasLocations 1024 e
wider (Number n) k le h = tt
wider (Location l s) k le h = omega (arith, le, h)
wider (Operator o a b) k le h = (wider a k le h.0, wider b k le h.1)

-- A command with existing locations and few letvars is within the limits.
fits_from : (c : Command) (k : ℕ) → HasPlaces k c → k + letvars c ≤ 1024 → Fits k c
fits_from Skip k h le = tt
fits_from (Assign l s e) k h le = (omega (arith, h.0, le), wider e k (omega (arith, le)) h.1)
fits_from (Sequence a b) k h le = (fits_from a k h.0 (omega (arith, le)), fits_from b k h.1 (omega (arith, le)))
fits_from (If e a b) k h le = (
  wider e k (omega (arith, le)) h.0,
  fits_from a k h.1 (omega (arith, le)),
  fits_from b k h.2 (omega (arith, le)),
)
fits_from (While e c) k h le =
    (wider e k (omega (arith, le)) h.0, fits_from c k h.1 (omega (arith, le)), omega (arith, le))
fits_from (Letvar e c) k h le = (
  omega (arith, le),
  wider e k (omega (arith, le)) h.0,
  fits_from c (k + 1) h.1
      (omega (arith, le)),
)

-- A folded command is within the limits.
pub fold_fits : (c : Command) (k : ℕ) → HasPlaces k c → k + letvars c ≤ 1024 → Fits k (fold c)
fold_fits c k h le = fits_from (fold c) k (fold_places c k h) (omega (arith, le, fold_letvars c))
