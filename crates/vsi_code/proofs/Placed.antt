-- Instructions at positions in the code, and the lengths of its parts.
use Rattle.std.proofs.Common.{◌≡◌, ℕ, ◌+◌, ◌<◌, List, [], ◌∷◌, ◌++◌, length, Some, refl, ap, ◌∙◌, subst, arith, append_assoc, length-append}
use Rattle.std.specs.Prelude.{slice_get}
use Rattle.std.proofs.Math.Seq.{get_or-append_seam}
use Rattle.std.proofs.lemmas.Option.{slice_get-get_or}
use Rattle.vsi_image.specs.declared.instr.Instr.{Instr}
use Rattle.vsi_image.specs.declared.instr.Instr.TheVariants.{Store, Jz, Jmp, Halt}
use Rattle.vsi_scope.specs.Language.{Expression, Number, Location, Operator, Command, Skip, Assign, Sequence, If, While, Letvar, expression_size, size}
use Rattle.vsi_code.specs.Layout.{op_code, expression_code, choice_code, loop_code, code_at, whole_code}

-- The code has these instructions from a position on.
abbrev pub HasAt : List Instr → ℕ → List Instr → Type 0
HasAt code pc [] = Unit {0}
HasAt code pc (i ∷ is) = (slice_get code pc ≡ Some i) × HasAt code (pc + 1) is

-- If the code has two parts at a position, it has the first one there.
pub has_front : (code : List Instr) (pc : ℕ) (a b : List Instr) → HasAt code pc (a ++ b) → HasAt code pc a
has_front code pc [] b h = tt
has_front code pc (i ∷ a) b h = (h.0, has_front code (pc + 1) a b h.1)

-- The code has the second part after the first one.
has_rest : (code : List Instr) (pc : ℕ) (a b : List Instr) → HasAt code pc (a ++ b) → HasAt code (pc + length a) b
has_rest code pc [] b h = let e : pc ≡ pc + 0 = omega arith in subst (λ n. HasAt code n b) e h
has_rest code pc (i ∷ a) b h =
    let e : pc + 1 + length a ≡ pc + length (i ∷ a) = omega arith in
    subst (λ n. HasAt code n b) e (has_rest code (pc + 1) a b h.1)

-- The same for a first part of known length.
pub has_back : (code : List Instr) (pc : ℕ) (a b : List Instr) (n : ℕ) →
    length a ≡ n → HasAt code pc (a ++ b) → HasAt code (pc + n) b
has_back code pc a b n e h = subst (λ n. HasAt code (pc + n) b) e (has_rest code pc a b h)

-- The instructions after a prefix are at the position of its length.
has_all_from : (is pre : List Instr) → HasAt (pre ++ is) (length pre) is
has_all_from [] pre = tt
has_all_from (i ∷ is) pre =
    let within : length pre < length (pre ++ i ∷ is) = omega (arith, length-append pre (i ∷ is)) in
    let here = slice_get-get_or (pre ++ i ∷ is) (length pre) i within ∙ ap Some (get_or-append_seam pre i is i) in
    let n : length (pre ++ i ∷ []) ≡ length pre + 1 = omega (arith, length-append pre (i ∷ [])) in
    let rest = has_all_from is (pre ++ i ∷ []) in
    let same = append_assoc pre (i ∷ []) is in
    let there = subst (λ l. HasAt l (length (pre ++ i ∷ [])) is) same rest in
    (here, subst (λ m. HasAt (pre ++ i ∷ is) m is) n there)

-- The code is at its own beginning.
pub has_all : (code : List Instr) → HasAt code 0 code
has_all code = has_all_from code []

-- The number of instructions of an expression's code is the expression's size.
pub expression_long : (e : Expression) → length (expression_code e) ≡ expression_size e
expression_long (Number n) = refl
expression_long (Location l s) = refl
expression_long (Operator o a b) =
    let whole = length-append (expression_code a) (expression_code b ++ op_code o ∷ []) in
    let back = length-append (expression_code b) (op_code o ∷ []) in
    omega (arith, expression_long a, expression_long b, whole, back)

-- The length of a choice from the lengths of its parts.
choice_long : (g y n : List Instr) (p q : ℕ) → length (choice_code g p y q n) ≡ length g + length y + length n + 2
choice_long g y n p q =
    omega (arith, length-append g (Jz p ∷ (y ++ (Jmp q ∷ n))), length-append y (Jmp q ∷ n))

-- The length of a loop from the lengths of its parts.
loop_long : (g b : List Instr) (p q : ℕ) → length (loop_code g p b q) ≡ length g + length b + 2
loop_long g b p q = omega (arith, length-append g (Jz p ∷ (b ++ Jmp q ∷ [])), length-append b (Jmp q ∷ []))

-- The number of instructions of a command's code is the command's size.
pub command_long : (c : Command) (pc k : ℕ) → length (code_at pc k c) ≡ size c
command_long Skip pc k = refl
command_long (Assign l s e) pc k = omega (arith, expression_long e, length-append (expression_code e) (Store l ∷ []))
command_long (Sequence a b) pc k =
    let both = length-append (code_at pc k a) (code_at (pc + size a) k b) in
    omega (arith, command_long a pc k, command_long b (pc + size a) k, both)
command_long (If e a b) pc k =
    let first = pc + expression_size e + 1 in
    let second = first + size a + 1 in
    let both = choice_long (expression_code e) (code_at first k a) (code_at second k b) second (second + size b) in
    omega (arith, expression_long e, command_long a first k, command_long b second k, both)
command_long (While e c) pc k =
    let body = pc + expression_size e + 1 in
    let both = loop_long (expression_code e) (code_at body k c) (body + size c + 1) pc in
    omega (arith, expression_long e, command_long c body k, both)
command_long (Letvar e c) pc k =
    let body = pc + expression_size e + 1 in
    let both = length-append (expression_code e) (Store k ∷ code_at body (k + 1) c) in
    omega (arith, expression_long e, command_long c body (k + 1), both)

-- The whole code of a body has one instruction more than the body's size.
pub whole_long : (g : ℕ) (c : Command) → length (whole_code g c) ≡ size c + 1
whole_long g c = omega (arith, command_long c 0 g, length-append (code_at 0 g c) (Halt ∷ []))
