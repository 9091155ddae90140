-- The results of the two walks over a loop, for each kind of command.
use Rattle.std.proofs.Common.{◌≡◌, ℕ, ◌+◌, ◌<◌, ◌≤◌, Bool, true, false, ◌||◌, List, length, get_or, drop, Vec, Global, refl, sym, ap, ◌∙◌, subst, ⊎_elim, arith}
use Rattle.std.proofs.lemmas.Bool.{cases_eq}
use Rattle.std.proofs.lemmas.List.{drop_more, drop_all}
use Rattle.vsi_syntax.specs.declared.token.Span.{Span}
use Rattle.vsi_scope.specs.declared.program.Ex.{Ex}
use Rattle.vsi_scope.specs.declared.program.Cmd.{Cmd}
use Rattle.vsi_scope.specs.declared.program.Cmd as cmd
use Rattle.vsi_scope.specs.declared.program.Cmd.TheViews as view
use Rattle.vsi_scope.specs.Language.{Command, Skip, Assign, Sequence, If, While, Letvar, letvars}
use Rattle.vsi_scope.specs.View.{expression, command, sequence}
use Rattle.vsi_scope.proofs.Views.{command_If, command_While, command_Letvar}
use Rattle.vsi_opt.specs.Liveness.{Locations, joined, with_bit, reads, all_reads}
use Rattle.vsi_opt.specs.Loops.{noted, Tells, AddFits, Adds, KeptInLoopFits}
use Rattle.vsi_opt.specs.Ranges.{Fits}
use Rattle.vsi_opt.proofs.LiveRuns.{bit_same, bit_other}
use Rattle.vsi_opt.proofs.ReadingCases.{joined_joined, joined_nothing, joined_twice, joined_thrice}

-- A fact about the commands from a position on holds for the first of them and for the later ones.
from_place : (P : Command → Type 0) (cs : List Cmd) (i : ℕ) (c : Cmd) → i < length cs → c ≡ get_or cs i c →
    P (sequence (drop i cs)) → P (Sequence (command c) (sequence (drop (i + 1) cs)))
from_place P cs i c lt is p =
    subst (λ x. P (Sequence (command x) (sequence (drop (i + 1) cs)))) (sym is)
    (subst (λ l. P (sequence l)) (drop_more cs i c lt) p)

-- A fact about a command and the later ones holds for the commands from its position on.
to_place : (P : Command → Type 0) (cs : List Cmd) (i : ℕ) (c : Cmd) → i < length cs → c ≡ get_or cs i c →
    P (Sequence (command c) (sequence (drop (i + 1) cs))) → P (sequence (drop i cs))
to_place P cs i c lt is p =
    subst (λ l. P (sequence l)) (sym (drop_more cs i c lt))
    (subst (λ x. P (Sequence (command x) (sequence (drop (i + 1) cs)))) is p)

-- A fact about a list of commands holds for an equal list.
pub of_list : (P : Command → Type 0) (cs ds : List Cmd) → ds ≡ cs → P (sequence cs) → P (sequence ds)
of_list P cs ds e p = subst (λ l. P (sequence l)) (sym e) p

-- The first of the commands from a position on is within the limits.
pub add_fits_one : (k n : ℕ) (cs : List Cmd) (i : ℕ) (c : Cmd) → i < length cs → c ≡ get_or cs i c →
    AddFits k n (sequence (drop i cs)) → AddFits k n (command c)
add_fits_one k n cs i c lt is f =
    let g = from_place (AddFits k n) cs i c lt is f in
    (g.0.0, omega (arith, g.1))

-- The later commands are within the limits.
pub add_fits_rest : (k n n' : ℕ) (cs : List Cmd) (i : ℕ) (c : Cmd) → i < length cs → c ≡ get_or cs i c →
    n' ≡ n + letvars (command c) → AddFits k n (sequence (drop i cs)) → AddFits k n' (sequence (drop (i + 1) cs))
add_fits_rest k n n' cs i c lt is e f =
    let g = from_place (AddFits k n) cs i c lt is f in
    (g.0.1, omega (arith, g.1, e))

-- The parts of an `if` are within the limits.
pub add_fits_if : (k n : ℕ) (c : Cmd) (e : Ex) (y z : Vec Cmd Global) → c ≡ view.If e y z → AddFits k n (command c) →
    AddFits k n (sequence y.items) × AddFits k (n + letvars (sequence y.items)) (sequence z.items)
add_fits_if k n c e y z is f =
    let g = subst (AddFits k n) (ap command is ∙ command_If e y z) f in
    ((g.0.1, omega (arith, g.1)), (g.0.2, omega (arith, g.1)))

-- The body of a loop is within the limits.
pub add_fits_while : (k n : ℕ) (c : Cmd) (e : Ex) (b : Vec Cmd Global) → c ≡ view.While e b → AddFits k n (command c) →
    AddFits k n (sequence b.items)
add_fits_while k n c e b is f =
    let g = subst (AddFits k n) (ap command is ∙ command_While e b) f in
    (g.0.1, g.1)

-- A letvar's location, number and body are within the limits.
pub add_fits_letvar : (k n : ℕ) (c : Cmd) (e : Ex) (b : Vec Cmd Global) → c ≡ view.Letvar e b →
    AddFits k n (command c) →
    (k < 1024) × (n < 1024) × AddFits (k + 1) (n + 1) (sequence b.items)
add_fits_letvar k n c e b is f =
    let g = subst (AddFits k n) (ap command is ∙ command_Letvar e b) f in
    (g.0.0, omega (arith, g.1), (g.0.2, omega (arith, g.1)))

-- A walk over a list of commands is a walk over an equal list.
pub adds_list : (k n m : ℕ) (cs ds : List Cmd) (live all own every : Locations) → ds ≡ cs →
    Adds k (sequence ds) live own n all every m → Adds k (sequence cs) live own n all every m
adds_list k n m cs ds live all own every e f = subst (λ l. Adds k (sequence l) live own n all every m) e f

-- A walk over an assignment adds its reads.
pub adds_assign : (k n : ℕ) (c : Cmd) (l : ℕ) (s : Span) (e : Ex) (live live' own : Locations) → c ≡ cmd.Assign l s e →
    live' ≡ joined live (reads (expression e)) → Adds k (command c) live own n live' own n
adds_assign k n c l s e live live' own is add =
    subst (λ x. Adds k (command x) live own n live' own n) (sym is) (add, refl, omega arith)

-- A walk over an `if` is a walk over its guard and its branches.
pub adds_if : (k n n₁ n₂ : ℕ) (c : Cmd) (e : Ex) (y z : Vec Cmd Global)
    (live live₁ live₂ live₃ own own₁ own₂ : Locations) →
    c ≡ view.If e y z → live₁ ≡ joined live (reads (expression e)) →
    Adds k (sequence y.items) live₁ own n live₂ own₁ n₁ →
    Adds k (sequence z.items) live₂ own₁ n₁ live₃ own₂ n₂ → Adds k (command c) live own n live₃ own₂ n₂
adds_if k n n₁ n₂ c e y z live live₁ live₂ live₃ own own₁ own₂ is add f g =
    let a = sequence y.items in
    let b = sequence z.items in
    subst (λ x. Adds k x live own n live₃ own₂ n₂) (sym (ap command is ∙ command_If e y z)) (
      joined_thrice live (reads (expression e)) (all_reads a) (all_reads b) live₁ live₂ live₃ add f.0 g.0,
      g.1 ∙ ap (λ m. noted k m b own₁) f.2 ∙ ap (noted k (n + letvars a) b) f.1,
      omega (arith, f.2, g.2),
    )

-- A walk over a loop is a walk over its guard and its body.
pub adds_while : (k n n₁ : ℕ) (c : Cmd) (e : Ex) (b : Vec Cmd Global) (live live₁ live₂ own own₁ : Locations) →
    c ≡ view.While e b → live₁ ≡ joined live (reads (expression e)) →
    Adds k (sequence b.items) live₁ own n live₂ own₁ n₁ →
    Adds k (command c) live own n live₂ own₁ n₁
adds_while k n n₁ c e b live live₁ live₂ own own₁ is add f =
    subst (λ x. Adds k x live own n live₂ own₁ n₁) (sym (ap command is ∙ command_While e b))
    (joined_twice live (reads (expression e)) (all_reads (sequence b.items)) live₁ live₂ add f.0, f.1, f.2)

-- A location that was in a set is put back after a walk without it.
pub put_back : (a r b d : Locations) (k : ℕ) → a k ≡ true → b ≡ joined (with_bit a k false) r →
    d ≡ with_bit b k true →
    d ≡ joined a r
put_back a r b d k was e f = f ∙ (λ i l. go l i)
  where
    go : (l : ℕ) → with_bit b k true l ≡ joined a r l
    go l =
        ⊎_elim
        (λ is. ap (with_bit b k true) is ∙ bit_same b k true ∙ sym (ap (λ x. x || r k) was)
        ∙ sym (ap (joined a r) is))
        (λ other. bit_other b k true l other ∙ ap (λ x. x l) e ∙ ap (λ x. x || r l) (bit_other a k false l other))
        (cases_eq l k)

-- A location that wasn't in a set stays as a walk leaves it.
pub left_out : (a r b : Locations) (k : ℕ) → a k ≡ false → b ≡ joined (with_bit a k false) r → b ≡ joined a r
left_out a r b k was e = e ∙ ap (λ x. joined x r) (λ i l. go l i)
  where
    go : (l : ℕ) → with_bit a k false l ≡ a l
    go l =
        ⊎_elim
        (λ is. ap (with_bit a k false) is ∙ bit_same a k false ∙ sym was ∙ sym (ap a is))
        (λ other. bit_other a k false l other)
        (cases_eq l k)

-- After a walk that began without a location, the set has it exactly if the commands read it.
found_there : (a r b : Locations) (k : ℕ) → b ≡ joined (with_bit a k false) r → b k ≡ r k
found_there a r b k e = ap (λ x. x k) e ∙ ap (λ x. x || r k) (bit_same a k false)

-- A walk over a letvar is a walk over its initial value and its body that notes the letvar.
pub adds_letvar : (k n n₁ : ℕ) (c : Cmd) (e : Ex) (b : Vec Cmd Global)
    (live live₁ live₂ live₃ live₄ own own₁ own₂ : Locations) (r : Bool) →
    c ≡ view.Letvar e b → live₁ ≡ joined live (reads (expression e)) → live₂ ≡ with_bit live₁ k false →
    Adds (k + 1) (sequence b.items) live₂ own (n + 1) live₃ own₁ n₁ → r ≡ live₃ k → own₂ ≡ with_bit own₁ n r →
    (live₃ ≡ joined (with_bit live₁ k false) (all_reads (sequence b.items)) → live₄ ≡ joined live₁
    (all_reads (sequence b.items))) →
    Adds k (command c) live own n live₄ own₂ n₁
adds_letvar k n n₁ c e b live live₁ live₂ live₃ live₄ own own₁ own₂ r is add out f found note back =
    let d = sequence b.items in
    let inner : live₃ ≡ joined (with_bit live₁ k false) (all_reads d) = f.0 ∙ ap (λ x. joined x (all_reads d)) out in
    subst (λ x. Adds k x live own n live₄ own₂ n₁) (sym (ap command is ∙ command_Letvar e b)) (
      joined_twice live (reads (expression e)) (all_reads d) live₁ live₄ add (back inner),
      note ∙ ap (with_bit own₁ n) (found ∙ found_there live₁ (all_reads d) live₃ k inner)
          ∙ ap (λ o. with_bit o n (all_reads d k)) f.1,
      omega (arith, f.2),
    )

-- A walk over a command and then over the later ones is a walk from the command on.
pub adds_more : (k n n' m : ℕ) (cs : List Cmd) (i : ℕ) (c : Cmd) (live live' all own own' every : Locations) →
    i < length cs →
    c ≡ get_or cs i c → Adds k (command c) live own n live' own' n' →
    Adds k (sequence (drop (i + 1) cs)) live' own' n' all every m → Adds k (sequence (drop i cs)) live own n all
    every m
adds_more k n n' m cs i c live live' all own own' every lt is f g =
    let rest = sequence (drop (i + 1) cs) in
    to_place (λ x. Adds k x live own n all every m) cs i c lt is (
      g.0 ∙ ap (λ x. joined x (all_reads rest)) f.0 ∙ joined_joined live (all_reads (command c)) (all_reads rest),
      g.1 ∙ ap (λ j. noted k j rest own') f.2 ∙ ap (noted k (n + letvars (command c)) rest) f.1,
      omega (arith, f.2, g.2),
    )

-- At the end of a list of commands a walk adds nothing more.
pub adds_end : (k n : ℕ) (cs : List Cmd) (i : ℕ) (live own : Locations) → length cs ≤ i →
    Adds k (sequence (drop i cs)) live own n live own n
adds_end k n cs i live own le =
    subst (λ l. Adds k (sequence l) live own n live own n) (sym (drop_all i cs le))
    (sym (joined_nothing live), refl, omega arith)

-- A walk notes no number below the commands' own.
noted_below : (c : Command) (k n i : ℕ) (own : Locations) → i < n → noted k n c own i ≡ own i
noted_below Skip k n i own lt = refl
noted_below (Assign l s e) k n i own lt = refl
noted_below (Sequence a b) k n i own lt =
    noted_below b k (n + letvars a) i (noted k n a own) (omega (arith, lt)) ∙ noted_below a k n i own lt
noted_below (If e a b) k n i own lt =
    noted_below b k (n + letvars a) i (noted k n a own) (omega (arith, lt)) ∙ noted_below a k n i own lt
noted_below (While e c) k n i own lt = noted_below c k n i own lt
noted_below (Letvar e c) k n i own lt =
    bit_other (noted (k + 1) (n + 1) c own) n (all_reads c k) i (λ is. absurd (omega (arith, is, lt)))
    ∙ noted_below c (k + 1) (n + 1) i own (omega (arith, lt))

-- The notes about commands depend on their own numbers alone.
tells_same : (c : Command) (k n : ℕ) (own other : Locations) →
    ((i : ℕ) → n ≤ i → i < n + letvars c → other i ≡ own i) → Tells own k n c → Tells other k n c
tells_same Skip k n own other h t = tt
tells_same (Assign l s e) k n own other h t = tt
tells_same (Sequence a b) k n own other h t = (
  tells_same a k n own other (λ i le lt. h i le (omega (arith, lt))) t.0,
  tells_same b k (n + letvars a) own other (λ i le lt. h i (omega (arith, le)) (omega (arith, lt))) t.1,
)
tells_same (If e a b) k n own other h t = (
  tells_same a k n own other (λ i le lt. h i le (omega (arith, lt))) t.0,
  tells_same b k (n + letvars a) own other (λ i le lt. h i (omega (arith, le)) (omega (arith, lt))) t.1,
)
tells_same (While e c) k n own other h t = tells_same c k n own other h t
tells_same (Letvar e c) k n own other h t = (
  h n (omega arith) (omega arith) ∙ t.0,
  tells_same c (k + 1) (n + 1) own other (λ i le lt. h i (omega (arith, le)) (omega (arith, lt))) t.1,
)

-- The notes that a walk makes of commands are true of them.
noted_tells : (c : Command) (k n : ℕ) (own : Locations) → Tells (noted k n c own) k n c
noted_tells Skip k n own = tt
noted_tells (Assign l s e) k n own = tt
noted_tells (Sequence a b) k n own =
    let first = noted k n a own in (
      tells_same a k n first (noted k (n + letvars a) b first)
          (λ i le lt. noted_below b k (n + letvars a) i first lt) (noted_tells a k n own),
      noted_tells b k (n + letvars a) first,
    )
noted_tells (If e a b) k n own =
    let first = noted k n a own in (
      tells_same a k n first (noted k (n + letvars a) b first)
          (λ i le lt. noted_below b k (n + letvars a) i first lt) (noted_tells a k n own),
      noted_tells b k (n + letvars a) first,
    )
noted_tells (While e c) k n own = noted_tells c k n own
noted_tells (Letvar e c) k n own =
    let inner = noted (k + 1) (n + 1) c own in (
      bit_same inner n (all_reads c k),
      tells_same c (k + 1) (n + 1) inner (with_bit inner n (all_reads c k))
          (λ i le lt. bit_other inner n (all_reads c k) i (λ is. absurd (omega (arith, is, le))))
          (noted_tells c (k + 1) (n + 1) own),
    )

-- A loop's body is within the limits after its letvars are noted.
pub kept_in_loop_fits_noted : (k : ℕ) (cs ds : List Cmd) (own own' : Locations) → Fits k (sequence cs) →
    letvars (sequence cs) ≤ 1024 →
    ds ≡ cs → own' ≡ noted k 0 (sequence ds) own → KeptInLoopFits own' k 0 (sequence ds)
kept_in_loop_fits_noted k cs ds own own' f few e note =
    subst (λ o. KeptInLoopFits o k 0 (sequence ds)) (sym note) (
      of_list (Fits k) cs ds e f,
      noted_tells (sequence ds) k 0 own,
      omega
          (arith, few, ap (λ l. letvars (sequence l)) e),
    )

-- The first of the commands from a position on is noted and within the limits.
pub kept_in_loop_fits_one : (own : Locations) (k n : ℕ) (cs : List Cmd) (i : ℕ) (c : Cmd) → i < length cs →
    c ≡ get_or cs i c →
    KeptInLoopFits own k n (sequence (drop i cs)) → KeptInLoopFits own k n (command c)
kept_in_loop_fits_one own k n cs i c lt is f =
    let g = from_place (KeptInLoopFits own k n) cs i c lt is f in
    (g.0.0, g.1.0, omega (arith, g.2))

-- The later commands are noted and within the limits.
pub kept_in_loop_fits_rest : (own : Locations) (k n n' : ℕ) (cs : List Cmd) (i : ℕ) (c : Cmd) → i < length cs →
    c ≡ get_or cs i c → n' ≡ n + letvars (command c) → KeptInLoopFits own k n (sequence (drop i cs)) →
    KeptInLoopFits own k n' (sequence (drop (i + 1) cs))
kept_in_loop_fits_rest own k n n' cs i c lt is e f =
    let g = from_place (KeptInLoopFits own k n) cs i c lt is f in
    (g.0.1, subst (λ m. Tells own k m (sequence (drop (i + 1) cs))) (sym e) g.1.1, omega (arith, g.2, e))

-- The branches of an `if` are noted and within the limits.
pub kept_in_loop_fits_if : (own : Locations) (k n : ℕ) (c : Cmd) (e : Ex) (y z : Vec Cmd Global) → c ≡ view.If e y z →
    KeptInLoopFits own k n (command c) →
    KeptInLoopFits own k n (sequence y.items) × KeptInLoopFits own k (n + letvars (sequence y.items)) (sequence z.items)
kept_in_loop_fits_if own k n c e y z is f =
    let g = subst (KeptInLoopFits own k n) (ap command is ∙ command_If e y z) f in
    ((g.0.1, g.1.0, omega (arith, g.2)), (g.0.2, g.1.1, omega (arith, g.2)))

-- The body of a loop is noted and within the limits.
pub kept_in_loop_fits_while : (own : Locations) (k n : ℕ) (c : Cmd) (e : Ex) (b : Vec Cmd Global) → c ≡ view.While e b →
    KeptInLoopFits own k n (command c) → KeptInLoopFits own k n (sequence b.items)
kept_in_loop_fits_while own k n c e b is f =
    let g = subst (KeptInLoopFits own k n) (ap command is ∙ command_While e b) f in
    (g.0.1, g.1, g.2)

-- A letvar's location, number and body are noted and within the limits.
pub kept_in_loop_fits_letvar : (own : Locations) (k n : ℕ) (c : Cmd) (e : Ex) (b : Vec Cmd Global) → c
    ≡ view.Letvar e b →
    KeptInLoopFits own k n (command c) →
    (k < 1024) × (n < 1024) × (own n ≡ all_reads (sequence b.items) k) × KeptInLoopFits own (k + 1) (n + 1)
    (sequence b.items)
kept_in_loop_fits_letvar own k n c e b is f =
    let g = subst (KeptInLoopFits own k n) (ap command is ∙ command_Letvar e b) f in
    (g.0.0, omega (arith, g.2), g.1.0, (g.0.2, g.1.1, omega (arith, g.2)))
