-- The result of the backward removal, for each kind of command.
use Rattle.std.proofs.Common.{◌≡◌, ℕ, ◌+◌, false, List, [], ◌∷◌, ◌++◌, reverse, Vec, Global, sym, ap, ◌∙◌, true, Bool, cond}
use Rattle.std.proofs.lemmas.List.{reverse-append}
use Rattle.vsi_syntax.specs.declared.token.Span.{Span}
use Rattle.vsi_scope.specs.declared.program.Ex.{Ex}
use Rattle.vsi_scope.specs.declared.program.Cmd.{Cmd}
use Rattle.vsi_scope.specs.declared.program.Cmd as cmd
use Rattle.vsi_scope.specs.declared.program.Cmd.TheViews as view
use Rattle.vsi_scope.specs.Language.{Assign, Command, If, While, Letvar}
use Rattle.vsi_scope.specs.View.{expression, command, sequence}
use Rattle.vsi_scope.proofs.Views.{command_If, command_While, command_Letvar}
use Rattle.vsi_opt.specs.Folding.{one, append}
use Rattle.vsi_opt.specs.Liveness.{Locations, joined, with_bit, reads, all_reads, throughout, before, kept_in_loop, kept_live, taken, kept}
use Rattle.vsi_opt.proofs.FoldingCases.{one_if, one_while, one_letvar}
use Rattle.vsi_opt.proofs.ReadingCases.{joined_twice}

-- A command pushed to a reversed list is the first of the sequence.
pub pushed_front : (out out' : List Cmd) (x : Cmd) (d : Command) → out' ≡ out ++ x ∷ [] → one (command x) ≡ d →
    sequence (reverse out') ≡ append d (sequence (reverse out))
pushed_front out out' x d e f =
    ap (λ l. sequence (reverse l)) e
    ∙ ap sequence (reverse-append out (x ∷ []))
    ∙ ap (λ y. append y (sequence (reverse out))) f

-- An `if` with an equal guard, over known branches.
pub same_if : (v e : Ex) (y n : Vec Cmd Global) (a b : Command) → expression v ≡ expression e → sequence y.items ≡ a →
    sequence n.items ≡ b → one (command (view.If v y n)) ≡ one (If (expression e) a b)
same_if v e y n a b p f g = one_if v y n a b f g ∙ ap (λ x. one (If x a b)) p

-- A loop with an equal guard, over a known body.
pub same_while : (v e : Ex) (b : Vec Cmd Global) (a : Command) → expression v ≡ expression e → sequence b.items ≡ a →
    one (command (view.While v b)) ≡ one (While (expression e) a)
same_while v e b a p f = one_while v b a f ∙ ap (λ x. one (While x a)) p

-- A letvar with an equal initial value, over a known body.
pub same_letvar : (v e : Ex) (b : Vec Cmd Global) (a : Command) → expression v ≡ expression e → sequence b.items ≡ a →
    one (command (view.Letvar v b)) ≡ one (Letvar (expression e) a)
same_letvar v e b a p f = one_letvar v b a f ∙ ap (λ x. one (Letvar x a)) p

module _ (g k : ℕ) (live : Locations) where
  -- An assignment to a live location stays; it takes the location out of the live set and adds its reads.
  pub kept_live_stays : (c x : Cmd) (l : ℕ) (s : Span) (e : Ex) (out out' : List Cmd) (b : Bool) (t a : Locations) →
      c ≡ cmd.Assign l s e → command x ≡ Assign l s (expression e) → b ≡ live l → b ≡ true → t ≡ taken g l live →
      a ≡ joined t (reads (expression e)) → out' ≡ out ++ x ∷ [] →
      (sequence (reverse out') ≡ append (kept_live g k (command c) live) (sequence (reverse out)))
      × (a ≡ before g k (command c) live)
  kept_live_stays c x l s e out out' b t a is p f h et ea push = (
    pushed_front out out' x (kept_live g k (command c) live) push
        (ap one p
        ∙ sym (ap (λ y. kept_live g k (command y) live) is ∙ ap (λ y. kept y (Assign l s (expression e))) (sym f ∙ h))),
    ea
        ∙ ap (λ y. joined y (reads (expression e))) et
        ∙ sym (ap (λ y. before g k (command y) live) is
        ∙ ap (λ y. cond y (joined (taken g l live) (reads (expression e))) live) (sym f ∙ h)),
  )

  -- An `if` without the dead assignments of its branches.
  pub kept_live_if : (c : Cmd) (e v : Ex) (y n y' n' : Vec Cmd Global) (ys ns out out' : List Cmd) → c ≡ view.If e y n →
      ys ≡ y.items → ns ≡ n.items → expression v ≡ expression e → sequence y'.items ≡ kept_live g k (sequence ys) live →
      sequence n'.items ≡ kept_live g k (sequence ns) live → out' ≡ out ++ view.If v y' n' ∷ [] →
      sequence (reverse out') ≡
      append (kept_live g k (command c) live) (sequence (reverse out))
  kept_live_if c e v y n y' n' ys ns out out' is iy in' p f h push =
      pushed_front out out' (view.If v y' n') (kept_live g k (command c) live) push
      (same_if v e y' n' _ _ p (f ∙ ap (λ l. kept_live g k (sequence l) live) iy) (h
      ∙ ap (λ l. kept_live g k (sequence l) live) in')
      ∙ sym (ap (λ x. kept_live g k (command x) live) is ∙ ap (λ x. kept_live g k x live) (command_If e y n)))

  -- The live locations before an `if`.
  pub before_if : (c : Cmd) (e : Ex) (y n : Vec Cmd Global) (ys ns : List Cmd) (l o j a : Locations) →
      c ≡ view.If e y n → ys ≡ y.items → ns ≡ n.items → l ≡ before g k (sequence ys) live → o ≡ before g k (sequence ns)
      live → j ≡ joined l o → a ≡ joined j (reads (expression e)) → a ≡ before g k (command c) live
  before_if c e y n ys ns l o j a is iy in' el eo ej ea =
      ea
      ∙ ap (λ x. joined x (reads (expression e)))
      (ej ∙ ap (λ x. joined x o) (el ∙ ap (λ l. before g k (sequence l) live) iy)
      ∙ ap (joined (before g k (sequence y.items) live)) (eo ∙ ap (λ l. before g k (sequence l) live) in'))
      ∙ sym (ap (λ x. before g k (command x) live) is ∙ ap (λ x. before g k x live) (command_If e y n))

  -- The live locations before a loop.
  pub before_while : (c : Cmd) (e : Ex) (b : Vec Cmd Global) (bs : List Cmd) (r a : Locations) → c ≡ view.While e b →
      bs ≡ b.items → r ≡ joined live (reads (expression e)) → a ≡ joined r (all_reads (sequence bs)) → a ≡ before g k
      (command c) live
  before_while c e b bs r a is ib er ea =
      joined_twice live (reads (expression e)) (all_reads (sequence bs)) r a er ea
      ∙ ap (λ l. throughout (expression e) (sequence l) live) ib
      ∙ sym (ap (λ x. before g k (command x) live) is ∙ ap (λ x. before g k x live) (command_While e b))

  -- A loop without the dead assignments of its body.
  pub kept_live_while : (c : Cmd) (e v : Ex) (b b' : Vec Cmd Global) (bs' out out' : List Cmd) (a : Locations) →
      c ≡ view.While e b → bs' ≡ b.items → expression v ≡ expression e → a ≡ before g k (command c) live →
      sequence b'.items ≡
      kept_in_loop k (sequence bs') a → out' ≡ out ++ view.While v b' ∷ [] → sequence (reverse out') ≡ append
      (kept_live g k (command c) live) (sequence (reverse out))
  kept_live_while c e v b b' bs' out out' a is ib p ea f push =
      pushed_front out out' (view.While v b') (kept_live g k (command c) live) push
      (same_while v e b' _ p
      (f ∙ ap (λ l. kept_in_loop k (sequence l) a) ib
      ∙ ap (kept_in_loop k (sequence b.items)) (ea ∙ ap (λ x. before g k (command x) live) is
      ∙ ap (λ x. before g k x live) (command_While e b)))
      ∙ sym (ap (λ x. kept_live g k (command x) live) is ∙ ap (λ x. kept_live g k x live) (command_While e b)))

  -- A letvar without the dead assignments of its body.
  pub kept_live_letvar : (c : Cmd) (e v : Ex) (b b' : Vec Cmd Global) (bs out out' : List Cmd) (a : Locations) →
      c ≡ view.Letvar e b → bs ≡ b.items → expression v ≡ expression e → a ≡ with_bit live k false → sequence b'.items
      ≡ kept_live
      g (k + 1) (sequence bs) a → out' ≡ out ++ view.Letvar v b' ∷ [] → sequence (reverse out') ≡ append
      (kept_live g k (command c) live) (sequence (reverse out))
  kept_live_letvar c e v b b' bs out out' a is ib p ea f push =
      pushed_front out out' (view.Letvar v b') (kept_live g k (command c) live) push
      (same_letvar v e b' _ p (f ∙ ap (λ l. kept_live g (k + 1) (sequence l) a) ib
      ∙ ap (kept_live g (k + 1) (sequence b.items)) ea)
      ∙ sym (ap (λ x. kept_live g k (command x) live) is ∙ ap (λ x. kept_live g k x live) (command_Letvar e b)))

  -- The live locations before a letvar.
  pub before_letvar : (c : Cmd) (e : Ex) (b : Vec Cmd Global) (bs : List Cmd) (a n r d : Locations) →
      c ≡ view.Letvar e b → bs ≡ b.items → a ≡ with_bit live k false → n ≡ before g (k + 1) (sequence bs) a → r ≡
      with_bit n k false → d ≡ joined r (reads (expression e)) → d ≡ before g k (command c) live
  before_letvar c e b bs a n r d is ib ea en er ed =
      ed
      ∙ ap (λ x. joined x (reads (expression e)))
      (er ∙ ap (λ x. with_bit x k false) (en ∙ ap (λ l. before g (k + 1) (sequence l) a) ib
      ∙ ap (before g (k + 1) (sequence b.items)) ea))
      ∙ sym (ap (λ x. before g k (command x) live) is ∙ ap (λ x. before g k x live) (command_Letvar e b))
