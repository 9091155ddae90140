-- Loops in a list of commands.
use Rattle.std.proofs.Common.{◌≡◌, ℕ, zero, suc, ◌+◌, ◌<◌, true, List, [], ◌∷◌, take, length, get_or, refl, sym, ap, ◌∙◌, arith}
use Rattle.std.specs.Prelude.{◌||◌}
use Rattle.std.proofs.lemmas.List.{take_more}
use Rattle.std.proofs.lemmas.List.Recursion.{or_push}
use Rattle.std.proofs.Math.Bool.{or-true}
use Rattle.vsi_scope.specs.declared.program.Cmd.{Cmd}
use Rattle.vsi_scope.specs.Language.{has_loop}
use Rattle.vsi_scope.specs.View.{command, sequence}

-- The loops of a list with one more command.
pub loop_more : (cs : List Cmd) (i : ℕ) (c : Cmd) → i < length cs → c ≡ get_or cs i c →
    has_loop (sequence (take (i + 1) cs)) ≡ (has_loop (sequence (take i cs)) || has_loop (command c))
loop_more cs i c lt is =
    ap (λ l. has_loop (sequence l)) (take_more cs i c lt)
    ∙ or_push (λ l. has_loop (sequence l)) (λ d. has_loop (command d)) refl (λ d ds. refl) (take i cs) (get_or cs i c)
    ∙ ap (λ y. has_loop (sequence (take i cs)) || has_loop (command y)) (sym is)

-- A loop in one command is in the list.
pub loop_found : (cs : List Cmd) (i : ℕ) (c : Cmd) → i < length cs → c ≡ get_or cs i c →
    has_loop (command c) ≡ true → has_loop (sequence cs) ≡ true
loop_found [] i c lt is h = absurd (omega (arith, lt))
loop_found (x ∷ cs) zero c lt is h =
    ap (λ y. has_loop (command y) || has_loop (sequence cs)) (sym is) ∙ ap (λ b. b || has_loop (sequence cs)) h
loop_found (x ∷ cs) (suc i) c lt is h =
    ap (λ b. has_loop (command x) || b) (loop_found cs i c (omega (arith, lt)) is h) ∙ or-true (has_loop (command x))
