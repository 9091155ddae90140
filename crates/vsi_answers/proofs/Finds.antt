-- Something that one of a list of commands does.
use Rattle.std.proofs.Common.{◌≡◌, ℕ, zero, suc, ◌+◌, ◌<◌, Bool, true, false, List, [], ◌∷◌, take, length, get_or, ap, sym, ◌∙◌, arith}
use Rattle.std.specs.Prelude.{◌||◌}
use Rattle.std.proofs.lemmas.List.{take_more}
use Rattle.std.proofs.lemmas.List.Recursion.{or_push}
use Rattle.std.proofs.Math.Bool.{or-true}
use Rattle.vsi_scope.specs.declared.program.Cmd.{Cmd}
use Rattle.vsi_scope.specs.Language.{Command, Skip, Sequence}
use Rattle.vsi_scope.specs.View.{command, sequence}

-- A sequence of two commands does it if one of them does.
abbrev pub IsEither : (Command → Bool) → Type 0
IsEither f = (a b : Command) → f (Sequence a b) ≡ (f a || f b)

-- A list with one more command.
pub found_more : (f : Command → Bool) → f Skip ≡ false → IsEither f → (cs : List Cmd) (i : ℕ) (c : Cmd) →
    i < length cs → c ≡ get_or cs i c →
    f (sequence (take (i + 1) cs)) ≡ (f (sequence (take i cs)) || f (command c))
found_more f none either cs i c lt is =
    ap (λ l. f (sequence l)) (take_more cs i c lt)
    ∙ or_push (λ l. f (sequence l)) (λ d. f (command d)) none (λ d ds. either (command d) (sequence ds)) (take i cs)
    (get_or cs i c)
    ∙ ap (λ y. f (sequence (take i cs)) || f (command y)) (sym is)

-- A command of a list that does it.
pub found_in : (f : Command → Bool) → IsEither f → (cs : List Cmd) (i : ℕ) (c : Cmd) → i < length cs →
    c ≡ get_or cs i c → f (command c) ≡ true → f (sequence cs) ≡ true
found_in f either [] i c lt is h = absurd (omega (arith, lt))
found_in f either (x ∷ cs) zero c lt is h =
    either (command x) (sequence cs)
    ∙ ap (λ y. f (command y) || f (sequence cs)) (sym is) ∙ ap (λ b. b || f (sequence cs)) h
found_in f either (x ∷ cs) (suc i) c lt is h =
    either (command x) (sequence cs)
    ∙ ap (λ b. f (command x) || b) (found_in f either cs i c (omega (arith, lt)) is h) ∙ or-true (f (command x))
