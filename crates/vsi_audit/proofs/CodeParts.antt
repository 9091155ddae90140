-- Code that is part of other code, put together from its parts.
use Rattle.std.proofs.Common.{◌≡◌, ℕ, ◌+◌, ◌<◌, List, [], ◌∷◌, ◌++◌, length, take, drop, get_or, refl, sym, ap, subst, ◌∙◌, append_assoc, length-append, arith}
use Rattle.std.proofs.lemmas.List.{at_drop_more, at_drop_all, append-nil}
use Rattle.vsi_image.specs.declared.instr.Instr.{Instr}
use Rattle.vsi_image.specs.declared.instr.Instr.TheVariants.{Store, Jz, Jmp, Halt}
use Rattle.vsi_scope.specs.declared.program.Cmd.{Cmd}
use Rattle.vsi_scope.specs.Language.{Expression, Command, Operator, Assign, If, While, Letvar, expression_size, size}
use Rattle.vsi_scope.specs.View.{command, sequence}
use Rattle.vsi_syntax.specs.declared.tree.Op.{Op}
use Rattle.vsi_syntax.specs.declared.token.Span.{Span}
use Rattle.vsi_code.specs.Layout.{op_code, expression_code, choice_code, loop_code, code_at, whole_code}
use Rattle.vsi_code.proofs.Placed.{command_long}
use Rattle.vsi_code.proofs.Parts.{code_more}
use Rattle.vsi_audit.specs.Coding.{StandsAt}

-- A single instruction is at its place.
pub one_stands : (code : List Instr) (place : ℕ) (i d : Instr) → place < length code → get_or code place d ≡ i →
    StandsAt code (i ∷ []) place 1 (place + 1)
one_stands code place i d lt e =
    record {
      whole = at_drop_more (λ xs. xs) code place d lt ∙ ap (λ (x : Instr). x ∷ drop (place + 1) code) e;
      long = refl;
    }

-- Two parts that follow each other are one part.
joined : (code a b : List Instr) (place m mid n end : ℕ) → StandsAt code a place m mid → StandsAt code b mid n end →
    StandsAt code (a ++ b) place (m + n) end
joined code a b place m mid n end first second =
    record {
      whole = first.whole ∙ ap (λ (r : List Instr). a ++ r) second.whole ∙ sym (append_assoc a b (drop end code));
      long = omega (arith, first.long, second.long);
    }

-- An instruction and the part after it are one part.
led : (code b : List Instr) (i : Instr) (place behind mid n end : ℕ) → StandsAt code (i ∷ []) place 1 behind →
    place + 1 ≡ mid → StandsAt code b mid n end → StandsAt code (i ∷ b) place (1 + n) end
led code b i place behind mid n end one next rest =
    let same : behind ≡ mid = omega (arith, one.long, next) in
    joined code (i ∷ []) b place 1 mid n end (subst (StandsAt code (i ∷ []) place 1) same one) rest

-- A part and its size can be replaced by equal ones.
same_part : (code a b : List Instr) (place m n end : ℕ) → a ≡ b → m ≡ n → StandsAt code a place m end →
    StandsAt code b place n end
same_part code a b place m n end e k s =
    record { whole = s.whole ∙ ap (λ (x : List Instr). x ++ drop end code) e; long = omega (arith, s.long, k) }

-- The code of an operator is at its place.
pub operator_stands : (code : List Instr) (place mid last end : ℕ) (o : Op) (a b : Expression) →
    StandsAt code (expression_code a) place (expression_size a) mid →
    StandsAt code (expression_code b) mid (expression_size b) last →
    StandsAt code (op_code o ∷ []) last 1 end →
    StandsAt code (expression_code (Operator o a b)) place (expression_size (Operator o a b)) end
operator_stands code place mid last end o a b first second third =
    let parts = joined code (expression_code a) (expression_code b ++ op_code o ∷ []) place (expression_size a) mid
    (expression_size b + 1) end first
    (joined code (expression_code b) (op_code o ∷ []) mid (expression_size b) last 1 end second third) in
    same_part code _ (expression_code (Operator o a b)) place _ (expression_size (Operator o a b)) end refl
    (omega arith) parts

-- The code of an assignment is at its place.
pub assign_stands : (code : List Instr) (place k mid end l : ℕ) (s : Span) (e : Expression) →
    StandsAt code (expression_code e) place (expression_size e) mid → StandsAt code (Store l ∷ []) mid 1 end →
    StandsAt code (code_at place k (Assign l s e)) place (size (Assign l s e)) end
assign_stands code place k mid end l s e first second =
    joined code (expression_code e) (Store l ∷ []) place (expression_size e) mid 1 end first second

-- The code of a choice is at its place.
pub choice_stands : (code : List Instr) (place k test first jump second end tested jumped : ℕ) (e : Expression)
    (a b : Command) → StandsAt code (expression_code e) place (expression_size e) test → test + 1 ≡ first →
    StandsAt code (code_at first k a) first (size a) jump → jump + 1 ≡ second →
    StandsAt code (code_at second k b) second (size b) end → StandsAt code (Jz second ∷ []) test 1 tested →
    StandsAt code (Jmp end ∷ []) jump 1 jumped →
    StandsAt code (code_at place k (If e a b)) place (size (If e a b)) end
choice_stands code place k test first jump second end tested jumped e a b guard f onwards s otherwise jz jmp =
    let p : first ≡ place + expression_size e + 1 = omega (arith, guard.long, f) in
    let q : second ≡ place + expression_size e + 1 + size a + 1 = omega (arith, p, onwards.long, s) in
    let r : end ≡ place + expression_size e + 1 + size a + 1 + size b = omega (arith, q, otherwise.long) in
    let parts = joined code (expression_code e) _ place (expression_size e) test _ end guard
    (led code _ (Jz second) test tested first _ end jz f
    (joined code (code_at first k a) _ first (size a) jump _ end onwards
    (led code (code_at second k b) (Jmp end) jump jumped second (size b) end jmp s otherwise))) in
    let same : choice_code (expression_code e) second (code_at first k a) end (code_at second k b) ≡
    code_at place k (If e a b) =
    ap (λ n. choice_code (expression_code e) second (code_at n k a) end (code_at second k b)) p
    ∙ ap (λ n. choice_code (expression_code e) n (code_at (place + expression_size e + 1) k a) end (code_at n k b)) q
    ∙ ap (λ n. choice_code (expression_code e) (place + expression_size e + 1 + size a + 1)
    (code_at (place + expression_size e + 1) k a) n (code_at (place + expression_size e + 1 + size a + 1) k b)) r in
    same_part code _ (code_at place k (If e a b)) place _ (size (If e a b)) end same (omega arith) parts

-- The code of a loop is at its place.
pub loop_stands : (code : List Instr) (place k test first jump end tested : ℕ) (e : Expression) (c : Command) →
    StandsAt code (expression_code e) place (expression_size e) test → test + 1 ≡ first →
    StandsAt code (code_at first k c) first (size c) jump → StandsAt code (Jmp place ∷ []) jump 1 end →
    StandsAt code (Jz end ∷ []) test 1 tested →
    StandsAt code (code_at place k (While e c)) place (size (While e c)) end
loop_stands code place k test first jump end tested e c guard f body jmp jz =
    let p : first ≡ place + expression_size e + 1 = omega (arith, guard.long, f) in
    let r : end ≡ place + expression_size e + 1 + size c + 1 = omega (arith, p, body.long, jmp.long) in
    let parts = joined code (expression_code e) _ place (expression_size e) test _ end guard
    (led code _ (Jz end) test tested first _ end jz f
    (joined code (code_at first k c) (Jmp place ∷ []) first (size c) jump 1 end body jmp)) in
    let same : loop_code (expression_code e) end (code_at first k c) place ≡ code_at place k (While e c) =
    ap (λ n. loop_code (expression_code e) end (code_at n k c) place) p
    ∙ ap (λ n. loop_code (expression_code e) n (code_at (place + expression_size e + 1) k c) place) r in
    same_part code _ (code_at place k (While e c)) place _ (size (While e c)) end same (omega arith) parts

-- The code of a letvar is at its place.
pub letvar_stands : (code : List Instr) (place k above store first end : ℕ) (e : Expression) (c : Command) →
    StandsAt code (expression_code e) place (expression_size e) store → StandsAt code (Store k ∷ []) store 1 first →
    k + 1 ≡ above → StandsAt code (code_at first above c) first (size c) end →
    StandsAt code (code_at place k (Letvar e c)) place (size (Letvar e c)) end
letvar_stands code place k above store first end e c value one next body =
    let p : first ≡ place + expression_size e + 1 = omega (arith, value.long, one.long) in
    let parts = joined code (expression_code e) _ place (expression_size e) store _ end value
    (joined code (Store k ∷ []) (code_at first above c) store 1 first (size c) end one body) in
    let same : expression_code e ++ (Store k ∷ code_at first above c) ≡ code_at place k (Letvar e c) =
    ap (λ n. expression_code e ++ (Store k ∷ code_at n above c)) p
    ∙ ap (λ n. expression_code e ++ (Store k ∷ code_at (place + expression_size e + 1) n c)) (sym next) in
    same_part code _ (code_at place k (Letvar e c)) place _ (size (Letvar e c)) end same (omega arith) parts

-- The code of the first commands and of the next one is at its place.
pub more_stands : (code : List Instr) (cs : List Cmd) (i start k place end : ℕ) (c : Cmd) → i < length cs →
    c ≡ get_or cs i c →
    StandsAt code (code_at start k (sequence (take i cs))) start (size (sequence (take i cs))) place →
    StandsAt code (code_at place k (command c)) place (size (command c)) end →
    StandsAt code (code_at start k (sequence (take (i + 1) cs))) start (size (sequence (take (i + 1) cs))) end
more_stands code cs i start k place end c lt is front one =
    let before = code_at start k (sequence (take i cs)) in
    let next = start + size (sequence (take i cs)) in
    let more : code_at start k (sequence (take (i + 1) cs)) ≡ before ++ code_at next k (command c) =
    code_more cs i start k c lt ∙ ap (λ (x : Cmd). before ++ code_at next k (command x)) (sym is) in
    let longer : size (sequence (take (i + 1) cs)) ≡ size (sequence (take i cs)) + size (command c) =
    omega (
      arith,
      command_long (sequence (take (i + 1) cs)) start k,
      command_long (sequence (take i cs)) start k,
      command_long (command c) next k,
      ap length more,
      length-append before (code_at next k (command c)),
    ) in
    let same : before ++ code_at place k (command c) ≡ code_at start k (sequence (take (i + 1) cs)) =
    ap (λ n. before ++ code_at n k (command c)) front.long ∙ sym more in
    same_part code _ (code_at start k (sequence (take (i + 1) cs))) start _ (size (sequence (take (i + 1) cs))) end same
    (sym longer)
    (joined code before (code_at place k (command c)) start (size (sequence (take i cs))) place (size (command c)) end
    front one)

-- The code of a body is the whole code.
pub whole_stands : (code : List Instr) (k n halt end : ℕ) (c : Command) →
    StandsAt code (code_at 0 k c) 0 n halt → StandsAt code (Halt ∷ []) halt 1 end → end ≡ length code →
    code ≡ whole_code k c
whole_stands code k n halt end c body last all =
    (joined code (code_at 0 k c) (Halt ∷ []) 0 n halt 1 end body last).whole
    ∙ ap (λ (r : List Instr). whole_code k c ++ r) (at_drop_all (λ xs. xs) code end (omega (arith, all)))
    ∙ append-nil (whole_code k c)
