-- The parts of a command fit if the command does.
use Rattle.std.proofs.Common.{◌≡◌, ℕ, zero, suc, ◌+◌, ◌<◌, ◌≤◌, List, [], ◌∷◌, ◌++◌, length, take, get_or, Vec, Global, sym, ap, ◌∙◌, subst, arith, append_assoc}
use Rattle.std.proofs.lemmas.List.{take_more, append-nil}
use Rattle.vsi_scope.specs.declared.program.Ex.{Ex}
use Rattle.vsi_scope.specs.declared.program.Cmd.{Cmd}
use Rattle.vsi_scope.specs.declared.program.Cmd.TheViews as view
use Rattle.vsi_scope.specs.Language.{Expression, Command, If, While, Letvar, expression_size, size, nesting}
use Rattle.vsi_scope.specs.View.{expression, command, sequence}
use Rattle.vsi_scope.proofs.Views.{command_If, command_While, command_Letvar}
use Rattle.vsi_code.specs.Layout.{code_at, Fits}

-- ---- one more command.

-- The code of a sequence with one more command.
code_push : (l : List Cmd) (d : Cmd) (pc k : ℕ) →
    code_at pc k (sequence (l ++ d ∷ [])) ≡
    code_at pc k (sequence l) ++ code_at (pc + size (sequence l)) k (command d)
code_push [] d pc k =
    let z : pc ≡ pc + 0 = omega arith in
    append-nil (code_at pc k (command d)) ∙ ap (λ n. code_at n k (command d)) z
code_push (x ∷ l) d pc k =
    let front = code_at pc k (command x) in
    let next = pc + size (command x) in
    let at : next + size (sequence l) ≡ pc + (size (command x) + size (sequence l)) = omega arith in
    ap (λ r. front ++ r) (code_push l d next k)
    ∙ sym (append_assoc front (code_at next k (sequence l)) _)
    ∙ ap (λ n. (front ++ code_at next k (sequence l)) ++ code_at n k (command d)) at

-- The code of the commands up to one of them, with that one.
pub code_more : (cs : List Cmd) (i pc k : ℕ) (d : Cmd) → i < length cs →
    code_at pc k (sequence (take (i + 1) cs)) ≡
    code_at pc k (sequence (take i cs)) ++ code_at (pc + size (sequence (take i cs))) k (command (get_or cs i d))
code_more cs i pc k d lt =
    ap (λ l. code_at pc k (sequence l)) (take_more cs i d lt) ∙ code_push (take i cs) (get_or cs i d) pc k

-- The commands up to one of them, with that one, are no larger than all.
size_within : (cs : List Cmd) (i : ℕ) (d : Cmd) → i < length cs →
    size (sequence (take i cs)) + size (command (get_or cs i d)) ≤ size (sequence cs)
size_within [] i d lt = absurd (omega arith)
size_within (c ∷ cs) zero d lt = omega arith
size_within (c ∷ cs) (suc i) d lt = let r = size_within cs i d (omega arith) in omega (arith, r)

-- A command of a sequence nests no letvars deeper than the sequence does.
nesting_within : (cs : List Cmd) (i : ℕ) (d : Cmd) → i < length cs →
    nesting (command (get_or cs i d)) ≤ nesting (sequence cs)
nesting_within [] i d lt = absurd (omega arith)
nesting_within (c ∷ cs) zero d lt = omega arith
nesting_within (c ∷ cs) (suc i) d lt = let r = nesting_within cs i d (omega arith) in omega (arith, r)

-- ---- commands that fit.

-- Each command of a sequence fits after those before it.
pub fits_next : (cs : List Cmd) (i pc k : ℕ) (c : Cmd) → i < length cs → c ≡ get_or cs i c →
    Fits pc k (sequence cs) → Fits (pc + size (sequence (take i cs))) k (command c)
fits_next cs i pc k c lt e f =
    let s = size_within cs i c lt in
    let n = nesting_within cs i c lt in
    let s' = ap (λ x. size (command x)) e in
    let n' = ap (λ x. nesting (command x)) e in
    record { size = omega (arith, f.size, s, s'); slots = omega (arith, f.slots, n, n') }

-- A command with two branches is a choice of their sequences.
pub choice_is : (x : Cmd) (e : Ex) (v w : Vec Cmd Global) (a b : List Cmd) → x ≡ view.If e v w → a ≡ v.items →
    b ≡ w.items →
    command x ≡ If (expression e) (sequence a) (sequence b)
choice_is x e v w a b is ha hb =
    ap command is ∙ command_If e v w
    ∙ ap (λ l. If (expression e) (sequence l) (sequence w.items)) (sym ha)
    ∙ ap (λ l. If (expression e) (sequence a) (sequence l)) (sym hb)

-- A command with a loop body is a loop over the body's sequence.
pub loop_is : (x : Cmd) (e : Ex) (v : Vec Cmd Global) (a : List Cmd) → x ≡ view.While e v → a ≡ v.items →
    command x ≡ While (expression e) (sequence a)
loop_is x e v a is ha = ap command is ∙ command_While e v ∙ ap (λ l. While (expression e) (sequence l)) (sym ha)

-- A command with a letvar body is a letvar over the body's sequence.
pub letvar_is : (x : Cmd) (e : Ex) (v : Vec Cmd Global) (a : List Cmd) → x ≡ view.Letvar e v → a ≡ v.items →
    command x ≡ Letvar (expression e) (sequence a)
letvar_is x e v a is ha = ap command is ∙ command_Letvar e v ∙ ap (λ l. Letvar (expression e) (sequence l)) (sym ha)

module _ (pc k : ℕ) (x : Command) (fits : Fits pc k x) where
  -- A command fits if an equal command does.
  pub fits_as : (y : Command) → x ≡ y → Fits pc k y
  fits_as y e = subst (Fits pc k) e fits

  module _ (e : Expression) (a b : Command) (is : x ≡ If e a b) where
    -- The first branch fits after the guard and its test.
    pub fits_first : (n : ℕ) → n ≡ pc + expression_size e + 1 → Fits n k a
    fits_first n h =
        let f = fits_as (If e a b) is in
        record { size = omega (arith, h, f.size); slots = omega (arith, h, f.slots) }

    -- The second branch fits after the first one and its jump.
    pub fits_second : (n : ℕ) → n ≡ pc + expression_size e + 1 + size a + 1 → Fits n k b
    fits_second n h =
        let f = fits_as (If e a b) is in
        record { size = omega (arith, h, f.size); slots = omega (arith, h, f.slots) }

  -- A loop's body fits after the guard and its test.
  pub fits_loop : (e : Expression) (c : Command) → x ≡ While e c → (n : ℕ) → n ≡ pc + expression_size e + 1 → Fits n k c
  fits_loop e c is n h =
      let f = fits_as (While e c) is in
      record { size = omega (arith, h, f.size); slots = omega (arith, h, f.slots) }

  -- A letvar's body fits after the initial value and its store, above the variable's word.
  pub fits_letvar : (e : Expression) (c : Command) → x ≡ Letvar e c →
      (n : ℕ) → n ≡ pc + expression_size e + 1 → Fits n (k + 1) c
  fits_letvar e c is n h =
      let f = fits_as (Letvar e c) is in
      record { size = omega (arith, h, f.size); slots = omega (arith, h, f.slots) }
