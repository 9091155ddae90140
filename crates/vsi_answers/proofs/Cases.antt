-- Walks over letvars, each with an answer of its own.
use Rattle.std.proofs.Common.{◌≡◌, ℕ, zero, suc, ◌+◌, ◌<◌, ◌≤◌, Bool, List, [], ◌∷◌, ◌++◌, length, get_or, Vec, Global, sym, ap, ◌∙◌, arith}
use Rattle.std.specs.Prelude.{not, false}
use Rattle.vsi_scope.specs.declared.program.Ex.{Ex}
use Rattle.vsi_scope.specs.declared.program.Cmd.{Cmd}
use Rattle.vsi_scope.specs.declared.program.Cmd.TheViews as view
use Rattle.vsi_scope.specs.Language.{letvars}
use Rattle.vsi_scope.specs.View.{command, sequence}
use Rattle.vsi_scope.proofs.Views.{command_Letvar}
use Rattle.vsi_answers.specs.Warned.{unread, used}
use Rattle.vsi_answers.proofs.Flags.{passed_first}

-- A walk over a letvar.
pub passed_letvar : (k : ℕ) (c : Cmd) (e : Ex) (b : Vec Cmd Global) (cs ds : List Cmd) (xs us ws : List Bool)
    (r : Bool) → c ≡ view.Letvar e b → cs ≡ b.items → ds ≡ b.items → r ≡ used false (sequence cs) k →
    us ≡ xs ++ not r ∷ [] → ws ≡ us ++ unread (k + 1) (sequence ds) → ws ≡ xs ++ unread k (command c)
passed_letvar k c e b cs ds xs us ws r is ic id er p q =
    passed_first xs us ws (unread k (command c)) (not r) (unread (k + 1) (sequence ds))
    (unread (k + 1) (sequence b.items)) p q
    (ap (λ l. unread (k + 1) (sequence l)) id)
    (ap (λ x. unread k (command x)) is ∙ ap (unread k) (command_Letvar e b)
    ∙ ap (λ x. not x ∷ unread (k + 1) (sequence b.items)) (sym (er ∙ ap (λ l. used false (sequence l) k) ic)))

-- A command of a list has no more letvars than the list.
pub letvars_in : (cs : List Cmd) (i : ℕ) (c : Cmd) → i < length cs → c ≡ get_or cs i c →
    letvars (command c) ≤ letvars (sequence cs)
letvars_in [] i c lt is = absurd (omega (arith, lt))
letvars_in (x ∷ cs) zero c lt is = let e = ap (λ y. letvars (command y)) is in omega (arith, e)
letvars_in (x ∷ cs) (suc i) c lt is = omega (arith, letvars_in cs i c (omega (arith, lt)) is)
