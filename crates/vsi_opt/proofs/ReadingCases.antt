-- The results of the walks over live locations, for each kind of command.
use Rattle.std.proofs.Common.{◌≡◌, ℕ, zero, suc, ◌+◌, ◌<◌, ◌≤◌, Bool, true, false, ◌||◌, cond, eqb, List, [], ◌∷◌, length, get_or, drop, Vec, Global, refl, sym, ap, ◌∙◌, subst}
use Rattle.std.proofs.lemmas.List.{drop_more, drop_all}
use Rattle.vsi_syntax.specs.declared.token.Span.{Span}
use Rattle.vsi_scope.specs.declared.program.Ex.{Ex}
use Rattle.vsi_scope.specs.declared.program.Cmd.{Cmd}
use Rattle.vsi_scope.specs.declared.program.Cmd.TheViews.{If, While, Letvar}
use Rattle.vsi_scope.specs.Language.{Location, Skip, HasLocations, letvars}
use Rattle.vsi_scope.specs.View.{expression, command, sequence}
use Rattle.vsi_scope.proofs.Views.{command_If, command_While, command_Letvar}
use Rattle.vsi_opt.specs.Folding.{append}
use Rattle.vsi_opt.specs.Liveness.{Locations, joined, with_bit, reads, all_reads, kept_in_loop}
use Rattle.vsi_opt.specs.Ranges.{Fits}
use Rattle.vsi_opt.proofs.Sequences.{append_append, append_nothing}

-- The disjunction of three tests is associative.
or_or : (x y z : Bool) → ((x || y) || z) ≡ (x || (y || z))
or_or true y z = refl
or_or false y z = refl

-- A disjunction with false changes nothing.
or_false : (x : Bool) → (x || false) ≡ x
or_false true = refl
or_false false = refl

-- A number that is put in is in the set.
or_bit : (x b : Bool) → (x || b) ≡ cond b true x
or_bit true true = refl
or_bit true false = refl
or_bit false true = refl
or_bit false false = refl

-- The union of three sets is associative.
pub joined_joined : (a b c : Locations) → joined (joined a b) c ≡ joined a (joined b c)
joined_joined a b c = λ i l. or_or (a l) (b l) (c l) i

-- The empty command reads nothing more.
pub joined_nothing : (a : Locations) → joined a (all_reads Skip) ≡ a
joined_nothing a = λ i l. or_false (a l) i

-- The union with the reads of one location puts the location in.
pub joined_one : (a : Locations) (k : ℕ) (s : Span) → joined a (reads (Location k s)) ≡ with_bit a k true
joined_one a k s = λ i l. or_bit (a l) (eqb l k) i

-- Two sets added in turn are the union of both.
pub joined_twice : (o a b n₁ n₂ : Locations) → n₁ ≡ joined o a → n₂ ≡ joined n₁ b → n₂ ≡ joined o (joined a b)
joined_twice o a b n₁ n₂ e f = f ∙ ap (λ x. joined x b) e ∙ joined_joined o a b

-- Three sets added in turn are the union of all.
pub joined_thrice : (o a b d n₁ n₂ n₃ : Locations) → n₁ ≡ joined o a → n₂ ≡ joined n₁ b → n₃ ≡ joined n₂ d →
    n₃ ≡ joined o (joined a (joined b d))
joined_thrice o a b d n₁ n₂ n₃ e f g = joined_twice n₁ b d n₂ n₃ f g ∙ ap (λ x. joined x (joined b d)) e
    ∙ joined_joined o a (joined b d)

-- The parts of an `if` are within the limits.
pub fits_if : (k : ℕ) (c : Cmd) (e : Ex) (y n : Vec Cmd Global) → c ≡ If e y n → Fits k (command c) →
    HasLocations 1024 (expression e) × Fits k (sequence y.items) × Fits k (sequence n.items)
fits_if k c e y n is f = subst (Fits k) (ap command is ∙ command_If e y n) f

-- The parts of a loop are within the limits.
pub fits_while : (k : ℕ) (c : Cmd) (e : Ex) (b : Vec Cmd Global) → c ≡ While e b → Fits k (command c) →
    HasLocations 1024 (expression e) × Fits k (sequence b.items) × (letvars (sequence b.items) ≤ 1024)
fits_while k c e b is f = subst (Fits k) (ap command is ∙ command_While e b) f

-- A letvar and its parts are within the limits.
pub fits_letvar : (k : ℕ) (c : Cmd) (e : Ex) (b : Vec Cmd Global) → c ≡ Letvar e b → Fits k (command c) →
    (k < 1024) × HasLocations 1024 (expression e) × Fits (k + 1) (sequence b.items)
fits_letvar k c e b is f = subst (Fits k) (ap command is ∙ command_Letvar e b) f

-- A list of commands equal to one within the limits is within them.
pub fits_list : (k : ℕ) (cs ds : List Cmd) → ds ≡ cs → Fits k (sequence cs) → Fits k (sequence ds)
fits_list k cs ds e f = subst (λ l. Fits k (sequence l)) (sym e) f

-- Each command of a list within the limits is within them.
pub fits_at : (k : ℕ) (cs : List Cmd) (i : ℕ) (c : Cmd) → i < length cs → c ≡ get_or cs i c →
    Fits k (sequence cs) → Fits k (command c)
fits_at k cs i c lt is f =
    subst (λ x. Fits k (command x)) (sym is)
    ((subst (λ l. Fits k (sequence l)) (drop_more cs i c lt) (fits_drop cs i f)).0)
  where
    fits_drop : (cs : List Cmd) (i : ℕ) → Fits k (sequence cs) → Fits k (sequence (drop i cs))
    fits_drop [] i f = fits_none i
      where
        fits_none : (i : ℕ) → Fits k (sequence (drop i []))
        fits_none zero = tt
        fits_none (suc i) = tt
    fits_drop (c ∷ cs) zero f = f
    fits_drop (c ∷ cs) (suc i) f = fits_drop cs i f.1

-- Removal in a loop handles one more command.
pub kept_in_loop_more : (k : ℕ) (live : Locations) (cs out out' : List Cmd) (i : ℕ) (c : Cmd) → i < length cs →
    c ≡ get_or cs i c → sequence out' ≡ append (sequence out) (kept_in_loop k (command c) live) → append (sequence out')
    (kept_in_loop k (sequence (drop (i + 1) cs)) live)
    ≡ append (sequence out) (kept_in_loop k (sequence (drop i cs)) live)
kept_in_loop_more k live cs out out' i c lt is e =
    ap (λ x. append x (kept_in_loop k (sequence (drop (i + 1) cs)) live)) e
    ∙ append_append (sequence out) (kept_in_loop k (command c) live) (kept_in_loop k (sequence (drop (i + 1) cs)) live)
    ∙ ap (λ x. append (sequence out) (append (kept_in_loop k (command x) live)
    (kept_in_loop k (sequence (drop (i + 1) cs)) live))) is
    ∙ ap (λ l. append (sequence out) (kept_in_loop k (sequence l) live)) (sym (drop_more cs i c lt))

-- At the end of a list nothing more is added.
pub kept_in_loop_end : (k : ℕ) (live : Locations) (cs out : List Cmd) (i : ℕ) → length cs ≤ i →
    append (sequence out) (kept_in_loop k (sequence (drop i cs)) live) ≡ sequence out
kept_in_loop_end k live cs out i le = ap (λ l. append (sequence out) (kept_in_loop k (sequence l) live))
    (drop_all i cs le)
    ∙ append_nothing out
