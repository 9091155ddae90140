-- Properties that joining and removal preserve, shown once for every measure and every relation to the original
-- command.
use Rattle.std.proofs.Common.{◌≡◌, ℕ, ◌+◌, ◌≤◌, max, Bool, true, false, refl, arith}
use Rattle.vsi_syntax.specs.declared.token.Span.{Span}
use Rattle.vsi_scope.specs.Language.{Expression, Command, Skip, Assign, Sequence, If, While, Letvar}
use Rattle.vsi_opt.specs.Folding.{one, append}
use Rattle.vsi_opt.specs.Liveness.{Locations, with_bit, all_reads, throughout, before, kept, kept_in_loop, kept_live}

-- ---- two sequences joined.

-- A measure that adds up over sequences adds up over joined sequences.
pub append_sum : (f : Command → ℕ) → f Skip ≡ 0 → ((a b : Command) → f (Sequence a b) ≡ f a + f b) →
    (a b : Command) → f (append a b) ≡ f a + f b
append_sum f z s Skip b = let behind : f (append Skip b) ≡ f b = refl in omega (arith, behind, z)
append_sum f z s (Assign l x e) b = s (Assign l x e) b
append_sum f z s (Sequence a c) b =
    let whole : f (append (Sequence a c) b) ≡ f a + f (append c b) = s a (append c b) in
    omega (arith, whole, s a c, append_sum f z s c b)
append_sum f z s (If e a c) b = s (If e a c) b
append_sum f z s (While e c) b = s (While e c) b
append_sum f z s (Letvar e c) b = s (Letvar e c) b

-- A measure that is the greatest of the parts is no greater for joined sequences.
pub append_most : (f : Command → ℕ) → ((a b : Command) → f (Sequence a b) ≡ max (f a) (f b)) →
    (a b : Command) → f (append a b) ≤ max (f a) (f b)
append_most f s Skip b = let behind : f (append Skip b) ≡ f b = refl in omega (arith, behind)
append_most f s (Assign l x e) b =
    let whole : f (append (Assign l x e) b) ≡ max (f (Assign l x e)) (f b) = s (Assign l x e) b in omega (arith, whole)
append_most f s (Sequence a c) b =
    let whole : f (append (Sequence a c) b) ≡ max (f a) (f (append c b)) = s a (append c b) in
    omega (arith, whole, s a c, append_most f s c b)
append_most f s (If e a c) b =
    let whole : f (append (If e a c) b) ≡ max (f (If e a c)) (f b) = s (If e a c) b in omega (arith, whole)
append_most f s (While e c) b =
    let whole : f (append (While e c) b) ≡ max (f (While e c)) (f b) = s (While e c) b in omega (arith, whole)
append_most f s (Letvar e c) b =
    let whole : f (append (Letvar e c) b) ≡ max (f (Letvar e c)) (f b) = s (Letvar e c) b in omega (arith, whole)

-- ---- removal.

-- A relation of the remaining command to the original that carries over from the parts of a command.
pub record IsCarried (R : Command → Command → Type 0) : Type 0 where
  pub nothing : R Skip Skip
  pub stays : (l : ℕ) (s : Span) (e : Expression) → R (one (Assign l s e)) (Assign l s e)
  pub goes : (l : ℕ) (s : Span) (e : Expression) → R Skip (Assign l s e)
  pub joined : (a b c d : Command) → R a c → R b d → R (append a b) (Sequence c d)
  pub choice : (e : Expression) (a b c d : Command) → R a c → R b d → R (one (If e a b)) (If e c d)
  pub repeated : (e : Expression) (a c : Command) → R a c → R (one (While e a)) (While e c)
  pub local : (e : Expression) (a c : Command) → R a c → R (one (Letvar e a)) (Letvar e c)

-- An assignment that stays or is removed is related to the original.
kept_carried : (R : Command → Command → Type 0) → IsCarried R → (b : Bool) (l : ℕ) (s : Span) (e : Expression) →
    R (kept b (Assign l s e)) (Assign l s e)
kept_carried R w true l s e = w.stays l s e
kept_carried R w false l s e = w.goes l s e

-- The result of removal in a loop is related to the original.
pub kept_in_loop_carried : (R : Command → Command → Type 0) → IsCarried R → (c : Command) (k : ℕ) (live : Locations) →
    R (kept_in_loop k c live) c
kept_in_loop_carried R w Skip k live = w.nothing
kept_in_loop_carried R w (Assign l s e) k live = kept_carried R w (live l) l s e
kept_in_loop_carried R w (Sequence a b) k live =
    w.joined (kept_in_loop k a live) (kept_in_loop k b live) a b (kept_in_loop_carried R w a k live)
    (kept_in_loop_carried R w b k live)
kept_in_loop_carried R w (If e a b) k live =
    w.choice e (kept_in_loop k a live) (kept_in_loop k b live) a b (kept_in_loop_carried R w a k live)
    (kept_in_loop_carried R w b k live)
kept_in_loop_carried R w (While e c) k live =
    w.repeated e (kept_in_loop k c live) c (kept_in_loop_carried R w c k live)
kept_in_loop_carried R w (Letvar e c) k live =
    let inside = with_bit live k (all_reads c k) in
    w.local e (kept_in_loop (k + 1) c inside) c (kept_in_loop_carried R w c (k + 1) inside)

-- The result of removal is related to the original.
pub kept_live_carried : (R : Command → Command → Type 0) → IsCarried R → (c : Command) (g k : ℕ) (live : Locations) →
    R (kept_live g k c live) c
kept_live_carried R w Skip g k live = w.nothing
kept_live_carried R w (Assign l s e) g k live = kept_carried R w (live l) l s e
kept_live_carried R w (Sequence a b) g k live =
    let after = before g k b live in
    w.joined (kept_live g k a after) (kept_live g k b live) a b (kept_live_carried R w a g k after)
    (kept_live_carried R w b g k live)
kept_live_carried R w (If e a b) g k live =
    w.choice e (kept_live g k a live) (kept_live g k b live) a b (kept_live_carried R w a g k live)
    (kept_live_carried R w b g k live)
kept_live_carried R w (While e c) g k live =
    let live_in = throughout e c live in
    w.repeated e (kept_in_loop k c live_in) c (kept_in_loop_carried R w c k live_in)
kept_live_carried R w (Letvar e c) g k live =
    let inside = with_bit live k false in
    w.local e (kept_live g (k + 1) c inside) c (kept_live_carried R w c g (k + 1) inside)
