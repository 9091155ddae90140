-- Code with jumps that are aimed after the parts they skip are emitted.
use Rattle.std.proofs.Common.{◌≡◌, ℕ, ◌+◌, List, [], ◌∷◌, ◌++◌, length, ap, ◌∙◌, arith, append_assoc, length-append, length-set}
use Rattle.std.specs.Prelude.{slice_set}
use Rattle.std.proofs.Math.Seq.{set-append_seam}
use Rattle.vsi_image.specs.declared.instr.Instr.{Instr}
use Rattle.vsi_image.specs.declared.instr.Instr.TheVariants.{Store, Jz, Jmp}
use Rattle.vsi_scope.specs.Language.{Expression, Command, If, While, Letvar, expression_size, size}
use Rattle.vsi_code.specs.Layout.{expression_code, choice_code, loop_code, code_at}
use Rattle.vsi_code.proofs.Placed.{expression_long, command_long}

-- ---- lengths of emitted code.

-- The length of code after a guard and one instruction are added.
pub guard_long : (old c1 : List Instr) (e : Expression) (i : Instr) →
    c1 ≡ old ++ (expression_code e ++ i ∷ []) → length c1 ≡ length old + expression_size e + 1
guard_long old c1 e i h =
    let back = length-append (expression_code e) (i ∷ []) in
    ap length h ∙ omega (arith, expression_long e, length-append old (expression_code e ++ i ∷ []), back)

-- The length of code after a command is added.
pub part_long : (old c1 : List Instr) (c : Command) (pc k : ℕ) →
    c1 ≡ old ++ code_at pc k c → length c1 ≡ length old + size c
part_long old c1 c pc k h = ap length h ∙ omega (arith, command_long c pc k, length-append old (code_at pc k c))

-- The length of code after one instruction is added.
pub one_long : (old c1 : List Instr) (i : Instr) → c1 ≡ old ++ i ∷ [] → length c1 ≡ length old + 1
one_long old c1 i h = ap length h ∙ omega (arith, length-append old (i ∷ []))

-- The length of code after a guard, a command and one instruction are added.
pub jump_long : (old c1 c2 c3 : List Instr) (e : Expression) (i j : Instr) (c : Command) (pc k : ℕ) →
    c1 ≡ old ++ (expression_code e ++ i ∷ []) → c2 ≡ c1 ++ code_at pc k c → c3 ≡ c2 ++ j ∷ [] →
    length c3 ≡ length old + expression_size e + 1 + size c + 1
jump_long old c1 c2 c3 e i j c pc k h1 h2 h3 =
    omega (arith, guard_long old c1 e i h1, part_long c1 c2 c pc k h2, one_long c2 c3 j h3)

-- The length of code after one instruction is replaced.
pub set_long : (old c1 : List Instr) (n : ℕ) (i : Instr) → c1 ≡ slice_set old n i → length c1 ≡ length old
set_long old c1 n i h = ap length h ∙ length-set old n i

-- ---- code that is emitted and patched.

-- Two parts, with the instruction before the first one and the one between them replaced.
two_patched : (old g a b c1 c2 c3 c4 c5 c6 : List Instr) (x y i j : Instr) (t u : ℕ) →
    c1 ≡ old ++ (g ++ x ∷ []) → t ≡ length old + length g → c2 ≡ c1 ++ a → u ≡ length c2 → c3 ≡ c2 ++ y ∷ [] →
    c4 ≡ slice_set c3 t i → c5 ≡ c4 ++ b → c6 ≡ slice_set c5 u j →
    c6 ≡ old ++ (g ++ (i ∷ (a ++ (j ∷ b))))
two_patched old g a b c1 c2 c3 c4 c5 c6 x y i j t u h1 ht h2 hu h3 h4 h5 h6 =
    let front = (old ++ g) ++ i ∷ a in
    let flat3 : ((old ++ (g ++ x ∷ [])) ++ a) ++ y ∷ [] ≡ (old ++ g) ++ x ∷ (a ++ y ∷ []) = simp append_assoc in
    let f3 = h3 ∙ ap (λ l. l ++ y ∷ []) (h2 ∙ ap (λ l. l ++ a) h1) ∙ flat3 in
    let at_t : t ≡ length (old ++ g) = omega (arith, ht, length-append old g) in
    let f4 = h4 ∙ ap (λ n. slice_set c3 n i) at_t ∙ ap (λ l. slice_set l (length (old ++ g)) i) f3
    ∙ set-append_seam (old ++ g) x (a ++ y ∷ []) i in
    let flat5 : ((old ++ g) ++ i ∷ (a ++ y ∷ [])) ++ b ≡ front ++ y ∷ b = simp append_assoc in
    let f5 = h5 ∙ ap (λ l. l ++ b) f4 ∙ flat5 in
    let n1 = ap length h1 ∙ length-append old (g ++ x ∷ []) in
    let n2 = ap length h2 ∙ length-append c1 a in
    let m1 = length-append g (x ∷ []) in
    let m2 = length-append (old ++ g) (i ∷ a) in
    let at_u : u ≡ length front = omega (arith, hu, n1, n2, m1, m2, length-append old g) in
    let flat6 : front ++ j ∷ b ≡ old ++ (g ++ (i ∷ (a ++ (j ∷ b)))) = simp append_assoc in
    h6 ∙ ap (λ n. slice_set c5 n j) at_u ∙ ap (λ l. slice_set l (length front) j) f5
    ∙ set-append_seam front y b j ∙ flat6

-- One part, with the instruction before it replaced.
one_patched : (old g a c1 c2 c3 c4 : List Instr) (x i j : Instr) (t : ℕ) →
    c1 ≡ old ++ (g ++ x ∷ []) → t ≡ length old + length g → c2 ≡ c1 ++ a → c3 ≡ c2 ++ j ∷ [] →
    c4 ≡ slice_set c3 t i →
    c4 ≡ old ++ (g ++ (i ∷ (a ++ j ∷ [])))
one_patched old g a c1 c2 c3 c4 x i j t h1 ht h2 h3 h4 =
    let flat3 : ((old ++ (g ++ x ∷ [])) ++ a) ++ j ∷ [] ≡ (old ++ g) ++ x ∷ (a ++ j ∷ []) = simp append_assoc in
    let f3 = h3 ∙ ap (λ l. l ++ j ∷ []) (h2 ∙ ap (λ l. l ++ a) h1) ∙ flat3 in
    let at_t : t ≡ length (old ++ g) = omega (arith, ht, length-append old g) in
    h4 ∙ ap (λ n. slice_set c3 n i) at_t ∙ ap (λ l. slice_set l (length (old ++ g)) i) f3
    ∙ set-append_seam (old ++ g) x (a ++ j ∷ []) i ∙ append_assoc old g (i ∷ (a ++ j ∷ []))

-- A choice's code, with its test aimed at the second branch and its jump at the end.
pub choice_patched : (old : List Instr) (k : ℕ) (e : Expression) (a b : Command) (c1 c2 c3 c4 c5 c6 : List Instr)
    (t u : ℕ) →
    c1 ≡ old ++ (expression_code e ++ Jz 0 ∷ []) → t ≡ length old + expression_size e →
    c2 ≡ c1 ++ code_at (length c1) k a → u ≡ length c2 → c3 ≡ c2 ++ Jmp 0 ∷ [] →
    c4 ≡ slice_set c3 t (Jz (length c3)) → c5 ≡ c4 ++ code_at (length c4) k b →
    c6 ≡ slice_set c5 u (Jmp (length c5)) →
    c6 ≡ old ++ code_at (length old) k (If e a b)
choice_patched old k e a b c1 c2 c3 c4 c5 c6 t u h1 ht h2 hu h3 h4 h5 h6 =
    let G = expression_code e in
    let first = length old + expression_size e + 1 in
    let second = first + size a + 1 in
    let n1 : length c1 ≡ first = guard_long old c1 e (Jz 0) h1 in
    let n3 : length c3 ≡ second = jump_long old c1 c2 c3 e (Jz 0) (Jmp 0) a (length c1) k h1 h2 h3 in
    let n4 : length c4 ≡ second = set_long c3 c4 t (Jz (length c3)) h4 ∙ n3 in
    let n5 : length c5 ≡ second + size b = omega (arith, n4, part_long c4 c5 b (length c4) k h5) in
    let A = code_at first k a in
    let B = code_at second k b in
    let at : t ≡ length old + length (expression_code e) = omega (arith, ht, expression_long e) in
    two_patched old G (code_at (length c1) k a) (code_at (length c4) k b) c1 c2 c3 c4 c5 c6 (Jz 0) (Jmp 0)
    (Jz (length c3)) (Jmp (length c5)) t u h1 at h2 hu h3 h4 h5 h6
    ∙ ap (λ n. old ++ choice_code G (length c3) (code_at n k a) (length c5) (code_at (length c4) k b)) n1
    ∙ ap (λ n. old ++ choice_code G n A (length c5) (code_at (length c4) k b)) n3
    ∙ ap (λ n. old ++ choice_code G second A n (code_at (length c4) k b)) n5
    ∙ ap (λ n. old ++ choice_code G second A (second + size b) (code_at n k b)) n4

-- A loop's code, with its test aimed at the end.
pub loop_patched : (old : List Instr) (k : ℕ) (e : Expression) (c : Command) (c1 c2 c3 c4 : List Instr) (s t : ℕ) →
    s ≡ length old → c1 ≡ old ++ (expression_code e ++ Jz 0 ∷ []) → t ≡ length old + expression_size e →
    c2 ≡ c1 ++ code_at (length c1) k c → c3 ≡ c2 ++ Jmp s ∷ [] → c4 ≡ slice_set c3 t (Jz (length c3)) →
    c4 ≡ old ++ code_at (length old) k (While e c)
loop_patched old k e c c1 c2 c3 c4 s t hs h1 ht h2 h3 h4 =
    let G = expression_code e in
    let body = length old + expression_size e + 1 in
    let end = body + size c + 1 in
    let n1 : length c1 ≡ body = guard_long old c1 e (Jz 0) h1 in
    let n3 : length c3 ≡ end = jump_long old c1 c2 c3 e (Jz 0) (Jmp s) c (length c1) k h1 h2 h3 in
    let at : t ≡ length old + length (expression_code e) = omega (arith, ht, expression_long e) in
    one_patched old G (code_at (length c1) k c) c1 c2 c3 c4 (Jz 0) (Jz (length c3)) (Jmp s) t h1 at h2 h3 h4
    ∙ ap (λ n. old ++ loop_code G (length c3) (code_at n k c) s) n1
    ∙ ap (λ n. old ++ loop_code G n (code_at body k c) s) n3
    ∙ ap (λ n. old ++ loop_code G end (code_at body k c) n) hs

-- A letvar's code.
pub letvar_joined : (old : List Instr) (k : ℕ) (e : Expression) (c : Command) (c1 c2 c3 : List Instr) →
    c1 ≡ old ++ expression_code e → c2 ≡ c1 ++ Store k ∷ [] → c3 ≡ c2 ++ code_at (length c2) (k + 1) c →
    c3 ≡ old ++ code_at (length old) k (Letvar e c)
letvar_joined old k e c c1 c2 c3 h1 h2 h3 =
    let body = length old + expression_size e + 1 in
    let n1 = ap length h1 ∙ length-append old (expression_code e) in
    let n2 : length c2 ≡ body = omega (arith, n1, one_long c1 c2 (Store k) h2, expression_long e) in
    let g2 = h2 ∙ ap (λ l. l ++ Store k ∷ []) h1 in
    let g3 = h3 ∙ ap (λ n. c2 ++ code_at n (k + 1) c) n2 ∙ ap (λ l. l ++ code_at body (k + 1) c) g2 in
    g3 ∙ simp append_assoc
