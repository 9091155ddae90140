-- The result of removal inside a loop, for each kind of command.
use Rattle.std.proofs.Common.{◌≡◌, ℕ, ◌+◌, Bool, true, false, List, [], ◌∷◌, ◌++◌, Vec, Global, sym, ap, ◌∙◌}
use Rattle.vsi_syntax.specs.declared.token.Span.{Span}
use Rattle.vsi_scope.specs.declared.program.Ex.{Ex}
use Rattle.vsi_scope.specs.declared.program.Cmd.{Cmd}
use Rattle.vsi_scope.specs.declared.program.Cmd as cmd
use Rattle.vsi_scope.specs.declared.program.Cmd.TheViews.{If, While, Letvar}
use Rattle.vsi_scope.specs.Language.{Assign}
use Rattle.vsi_scope.specs.View.{expression, command, sequence}
use Rattle.vsi_scope.proofs.Views.{command_If, command_While, command_Letvar}
use Rattle.vsi_opt.specs.Folding.{one, append}
use Rattle.vsi_opt.specs.Liveness.{Locations, with_bit, all_reads, kept, kept_in_loop}
use Rattle.vsi_opt.proofs.Sequences.{pushed, append_nothing}
use Rattle.vsi_opt.proofs.KeptLiveCases.{same_if, same_while, same_letvar}

module _ (k : ℕ) (live : Locations) where
  -- An assignment to a live location stays.
  pub kept_in_loop_stays : (c x : Cmd) (l : ℕ) (s : Span) (e : Ex) (out out' : List Cmd) (b : Bool) → c
      ≡ cmd.Assign l s e →
      command x ≡ Assign l s (expression e) → b ≡ live l → b ≡ true → out' ≡ out ++ x ∷ [] →
      sequence out' ≡ append (sequence out) (kept_in_loop k (command c) live)
  kept_in_loop_stays c x l s e out out' b is p f g push =
      pushed out out' x (kept_in_loop k (command c) live) push
      (ap one p
      ∙ sym (ap (λ y. kept_in_loop k (command y) live) is ∙ ap (λ y. kept y (Assign l s (expression e))) (sym f ∙ g)))

  -- An assignment to a location that is not live is removed.
  pub kept_in_loop_goes : (c : Cmd) (l : ℕ) (s : Span) (e : Ex) (out : List Cmd) (b : Bool) → c ≡ cmd.Assign l s e →
      b ≡ live l → b ≡ false → sequence out ≡ append (sequence out) (kept_in_loop k (command c) live)
  kept_in_loop_goes c l s e out b is f g =
      sym (append_nothing out)
      ∙ ap (append (sequence out)) (sym (ap (λ x. kept_in_loop k (command x) live) is
      ∙ ap (λ x. kept x (Assign l s (expression e))) (sym f ∙ g)))

  -- An `if` in a loop.
  pub kept_in_loop_if : (c : Cmd) (e v : Ex) (y n y' n' : Vec Cmd Global) (ys ns out out' : List Cmd) → c ≡ If e y n →
      ys ≡ y.items → ns ≡ n.items → expression v ≡ expression e → sequence y'.items
      ≡ kept_in_loop k (sequence ys) live → sequence
      n'.items ≡ kept_in_loop k (sequence ns) live → out' ≡ out ++ If v y' n' ∷ [] → sequence out'
      ≡ append (sequence out)
      (kept_in_loop k (command c) live)
  kept_in_loop_if c e v y n y' n' ys ns out out' is iy in' p f h push =
      pushed out out' (If v y' n') (kept_in_loop k (command c) live) push
      (same_if v e y' n' _ _ p (f ∙ ap (λ l. kept_in_loop k (sequence l) live) iy) (h
      ∙ ap (λ l. kept_in_loop k (sequence l) live) in')
      ∙ sym (ap (λ x. kept_in_loop k (command x) live) is ∙ ap (λ x. kept_in_loop k x live) (command_If e y n)))

  -- A loop in a loop.
  pub kept_in_loop_while : (c : Cmd) (e v : Ex) (b b' : Vec Cmd Global) (bs out out' : List Cmd) → c ≡ While e b →
      bs ≡ b.items → expression v ≡ expression e → sequence b'.items ≡ kept_in_loop k (sequence bs) live → out' ≡ out
      ++ While v
      b' ∷ [] → sequence out' ≡ append (sequence out) (kept_in_loop k (command c) live)
  kept_in_loop_while c e v b b' bs out out' is ib p f push =
      pushed out out' (While v b') (kept_in_loop k (command c) live) push
      (same_while v e b' _ p (f ∙ ap (λ l. kept_in_loop k (sequence l) live) ib)
      ∙ sym (ap (λ x. kept_in_loop k (command x) live) is ∙ ap (λ x. kept_in_loop k x live) (command_While e b)))

  -- A letvar, in whose body its own variable is live if its scope reads it.
  pub kept_in_loop_letvar : (c : Cmd) (e v : Ex) (b b' : Vec Cmd Global) (bs out out' : List Cmd) (r : Bool)
      (a : Locations) →
      c ≡ Letvar e b → bs ≡ b.items → expression v ≡ expression e → r ≡ all_reads (sequence b.items) k → a
      ≡ with_bit live
      k r →
      sequence b'.items ≡ kept_in_loop (k + 1) (sequence bs) a → out' ≡ out ++ Letvar v b' ∷ [] →
      sequence out' ≡ append (sequence out) (kept_in_loop k (command c) live)
  kept_in_loop_letvar c e v b b' bs out out' r a is ib p er ea f push =
      pushed out out' (Letvar v b') (kept_in_loop k (command c) live) push
      (same_letvar v e b' _ p
      (f ∙ ap (λ l. kept_in_loop (k + 1) (sequence l) a) ib
      ∙ ap (kept_in_loop (k + 1) (sequence b.items)) (ea ∙ ap (with_bit live k) er))
      ∙ sym (ap (λ x. kept_in_loop k (command x) live) is ∙ ap (λ x. kept_in_loop k x live) (command_Letvar e b)))
