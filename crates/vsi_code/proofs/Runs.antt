-- The machine follows the body.
use Rattle.std.proofs.Common.{◌≡◌, ◌≢◌, ℕ, zero, suc, ◌+◌, ◌<◌, ◌≤◌, List, [], ◌∷◌, ◌++◌, length, take, drop, Option, Some, None, Bool, true, false, refl, sym, ap, ◌∙◌, subst, arith, append_assoc, length-append, ℤ, pos, if◌then◌else◌}
use Rattle.std.specs.Prelude.{slice_get, slice_set}
use Rattle.std.specs.Option.{option_map}
use Rattle.std.specs.Ordering.{int_eq}
use Rattle.std.proofs.lemmas.Option.{slice_get-get_or}
use Rattle.std.proofs.lemmas.List.{get_or_append_left, set-append_left, set_at, take-append-drop, length-drop}
use Rattle.std.proofs.lemmas.Bool.{lt-ltb}
use Rattle.std.proofs.lemmas.Bool.Decides.{Decides-int_eq}
use Rattle.vsi_image.specs.declared.instr.Instr.{Instr}
use Rattle.vsi_image.specs.declared.instr.Instr.TheVariants.{Push, Load, Store, Jz, Jmp}
use Rattle.vsi_image.specs.Meaning.{State, going, acted}
use Rattle.vsi_syntax.specs.Operators.{apply}
use Rattle.vsi_syntax.specs.declared.tree.Op.{Op}
use Rattle.vsi_syntax.specs.declared.tree.Op.TheVariants.{Add, Sub, Mul, Eq, Lt}
use Rattle.vsi_scope.specs.Language.{Expression, Number, Location, Operator, Command, Skip, Assign, Sequence, If, While, Letvar, HasLocations, HasPlaces, expression_size, size, nesting}
use Rattle.vsi_scope.specs.Meaning.{Store as Words, value, and_then, drop_past, turns, runs}
use Rattle.vsi_scope.proofs.Evaluation.{zero_cases, at_other, at_none, length_kept}
use Rattle.vsi_code.specs.Layout.{op_code, expression_code, code_at}
use Rattle.vsi_code.proofs.Placed.{HasAt, has_front, has_back, expression_long, command_long}
use Rattle.vsi_code.proofs.Stretches.{Leads, Comes, Runs, step, leads_on, comes_on, as_comes, here, before, before_more, fewer, and_runs, jump_behind, moved_to, answered}

-- The machine's test finds a word other than 0 unequal to 0.
not_zero : (z : ℤ) → z ≢ pos 0 → int_eq z (pos 0) ≡ false
not_zero z h = by_test (int_eq z (pos 0)) refl
  where
    by_test : (b : Bool) → int_eq z (pos 0) ≡ b → b ≡ false
    by_test true e = absurd (h ((Decides-int_eq z (pos 0)).0 e))
    by_test false e = refl

-- An operator's instruction leaves the operator's result.
op_acts : (o : Op) (pc : ℕ) (a b : ℤ) (s m : List ℤ) →
    acted (op_code o) pc (b ∷ a ∷ s) m ≡ Some (going (pc + 1) (apply o a b ∷ s) m)
op_acts Add pc a b s m = refl
op_acts Sub pc a b s m = refl
op_acts Mul pc a b s m = refl
op_acts Eq pc a b s m = refl
op_acts Lt pc a b s m = refl

module _ (code : List Instr) where
  -- ---- expressions.

  -- An expression's code puts its value on top.
  expression_leads : (e : Expression) (pc : ℕ) (s : List ℤ) (m rest : List ℤ) →
      HasLocations (length m) e → HasAt code pc (expression_code e) →
      Leads code (going pc s (m ++ rest)) (going (pc + expression_size e) (value e m ∷ s) (m ++ rest))
  expression_leads (Number n) pc s m rest p h = step code pc s (m ++ rest) (Push n) _ h.0 refl
  expression_leads (Location l span) pc s m rest p h =
      let M = m ++ rest in
      let within : l < length M = omega (arith, p, length-append m rest) in
      let word = slice_get-get_or M l (pos 0) within ∙ ap Some (get_or_append_left m rest (pos 0) l p) in
      step code pc s M (Load l) _ h.0 (ap (option_map (λ v. going (pc + 1) (v ∷ s) M)) word)
  expression_leads (Operator o a b) pc s m rest p h =
      let M = m ++ rest in
      let pc1 = pc + expression_size a in
      let pc2 = pc1 + expression_size b in
      let ha = has_front code pc (expression_code a) _ h in
      let hr = has_back code pc (expression_code a) (expression_code b ++ op_code o ∷ []) (expression_size a)
      (expression_long a) h in
      let hb = has_front code pc1 (expression_code b) _ hr in
      let ho = has_back code pc1 (expression_code b) (op_code o ∷ []) (expression_size b) (expression_long b) hr in
      let e : pc2 + 1 ≡ pc + (expression_size a + expression_size b + 1) = omega arith in
      let acts = op_acts o pc2 (value a m) (value b m) s M in
      let first = expression_leads a pc s m rest p.0 ha in
      let second = expression_leads b pc1 (value a m ∷ s) m rest p.1 hb in
      let last = step code pc2 (value b m ∷ value a m ∷ s) M (op_code o) _ ho.0 acts in
      subst (λ n. Leads code (going pc s M) (going n (value (Operator o a b) m ∷ s) M)) e
      (leads_on code _ _ _ first (leads_on code _ _ _ second last))

  -- A test jumps if the word is 0.
  jz_zero : (pc t : ℕ) (v : ℤ) (M : List ℤ) →
      v ≡ pos 0 → slice_get code pc ≡ Some (Jz t) → Leads code (going pc (v ∷ []) M) (going t [] M)
  jz_zero pc t v M z e =
      let acts = ap (λ z. Some (going (if int_eq z (pos 0) then t else pc + 1) [] M)) z in
      step code pc (v ∷ []) M (Jz t) _ e acts

  -- A test goes on if the word isn't 0.
  jz_other : (pc t : ℕ) (v : ℤ) (M : List ℤ) →
      v ≢ pos 0 → slice_get code pc ≡ Some (Jz t) → Leads code (going pc (v ∷ []) M) (going (pc + 1) [] M)
  jz_other pc t v M z e =
      let acts = ap (λ b. Some (going (if b then t else pc + 1) [] M)) (not_zero v z) in
      step code pc (v ∷ []) M (Jz t) _ e acts

  -- A store writes its slot.
  store_leads : (pc l : ℕ) (v : ℤ) (M : List ℤ) →
      l < length M → slice_get code pc ≡ Some (Store l) →
      Leads code (going pc (v ∷ []) M) (going (pc + 1) [] (slice_set M l v))
  store_leads pc l v M within e =
      let written = going (pc + 1) [] (slice_set M l v) in
      step code pc (v ∷ []) M (Store l) _ e (ap (λ b. if b then Some written else None) (lt-ltb l (length M) within))

  -- ---- commands.

  module _ (e : Expression) (pc t : ℕ) (m rest : List ℤ) where
    -- A false guard leads to the test's target.
    guard_zero : HasLocations (length m) e → HasAt code pc (expression_code e) →
        slice_get code (pc + expression_size e) ≡ Some (Jz t) → value e m ≡ pos 0 →
        Comes code (going pc [] (m ++ rest)) (going t [] (m ++ rest))
    guard_zero p h j z =
        let test = jz_zero (pc + expression_size e) t (value e m) (m ++ rest) z j in
        as_comes code _ _ (leads_on code _ _ _ (expression_leads e pc [] m rest p h) test)

    -- A true guard leads to the instruction after the test.
    guard_other : HasLocations (length m) e → HasAt code pc (expression_code e) →
        slice_get code (pc + expression_size e) ≡ Some (Jz t) → value e m ≢ pos 0 →
        Comes code (going pc [] (m ++ rest)) (going (pc + expression_size e + 1) [] (m ++ rest))
    guard_other p h j z =
        let test = jz_other (pc + expression_size e) t (value e m) (m ++ rest) z j in
        as_comes code _ _ (leads_on code _ _ _ (expression_leads e pc [] m rest p h) test)

  -- The code from pc to pc' follows f, from any store of k words with room for as many slots as given.
  abbrev Follows : (n pc pc' k room : ℕ) → (Words → Option Words) → Type 0
  Follows n pc pc' k room f =
      (m rest : List ℤ) → length m ≡ k → room ≤ length rest →
      Runs code n (going pc [] (m ++ rest)) pc' (length rest) (f m)

  module _ (n pc end k room : ℕ) (e : Expression) (body : Words → Option Words) (long : ℕ) where
    -- A loop whose body follows f follows at most i turns of f.
    loop_runs : (i : ℕ) → i ≤ n → HasLocations k e → HasAt code pc (expression_code e) →
        slice_get code (pc + expression_size e) ≡ Some (Jz end) →
        slice_get code (pc + expression_size e + 1 + long) ≡ Some (Jmp pc) →
        ((m m' : Words) → body m ≡ Some m' → length m' ≡ length m) →
        Follows n (pc + expression_size e + 1) (pc + expression_size e + 1 + long) k room body →
        Follows i pc end k room (turns i (value e) body)
    loop_runs zero le p h jz jmp kept f m rest lm lr =
        let p' = subst (λ k. HasLocations k e) (sym lm) p in
        let now = going pc [] (m ++ rest) in
        zero_cases (value e m)
        (λ z. answered code 0 now end (length rest) _ _ (at_none (value e m) (Some m) None z)
        (record { rest = rest; long = refl; comes = guard_zero e pc end m rest p' h jz z }))
        (λ z. answered code 0 now end (length rest) _ _ (at_other (value e m) (Some m) None z)
        (record { steps = 0; many = omega arith; state = now; reached = refl; running = refl }))
    loop_runs (suc i) le p h jz jmp kept f m rest lm lr =
        let p' = subst (λ k. HasLocations k e) (sym lm) p in
        let now = going pc [] (m ++ rest) in
        let back = pc + expression_size e + 1 + long in
        let all = and_then (body m) (turns i (value e) body) in
        zero_cases (value e m)
        (λ z. answered code (suc i) now end (length rest) _ _ (at_none (value e m) (Some m) all z)
        (record { rest = rest; long = refl; comes = guard_zero e pc end m rest p' h jz z }))
        (λ z. answered code (suc i) now end (length rest) _ _ (at_other (value e m) (Some m) all z)
        (before code (suc i) _ _ end (length rest) all (guard_other e pc end m rest p' h jz z)
        (and_runs code (suc i) _ back end (length rest) (body m) (turns i (value e) body)
        (fewer code (suc i) n _ _ (length rest) (body m) le (f m rest lm lr))
        (λ m1 rest1 l1 e1.
        let again = loop_runs i (omega (arith, le)) p h jz jmp kept f m1 rest1 (kept m m1 e1 ∙ lm)
        (omega (arith, l1, lr)) in
        let jump = step code back [] (m1 ++ rest1) (Jmp pc) _ jmp refl in
        subst (λ r. Runs code (suc i) (going back [] (m1 ++ rest1)) end r (turns i (value e) body m1)) l1
        (before_more code i _ _ end (length rest1) (turns i (value e) body m1) jump again)))))

  -- At the end of a letvar its word is no longer part of the store.
  dropped_runs : (n : ℕ) (s : State) (pc k r : ℕ) (o : Option Words) →
      ((m1 : Words) → o ≡ Some m1 → length m1 ≡ k + 1) →
      Runs code n s pc r o → Runs code n s pc (suc r) (drop_past k o)
  dropped_runs n s pc k r None h g = g
  dropped_runs n s pc k r (Some m1) h g =
      let behind = drop k m1 ++ g.rest in
      let l = length-append (drop k m1) g.rest in
      let long : length behind ≡ suc r = omega (arith, l, length-drop k m1, h m1 refl, g.long) in
      let same : m1 ++ g.rest ≡ take k m1 ++ behind =
      ap (λ x. x ++ g.rest) (sym (take-append-drop k m1)) ∙ append_assoc (take k m1) (drop k m1) g.rest in
      let there = here code _ _ (ap (going pc []) same) in
      record { rest = behind; long = long; comes = comes_on code s _ _ g.comes there }

  -- A command's code follows the command.
  pub command_runs : (c : Command) (n pc k : ℕ) → HasPlaces k c → HasAt code pc (code_at pc k c) →
      Follows n pc (pc + size c) k (nesting c) (runs n c)
  command_runs Skip n pc k p h m rest lm lr =
      let at : pc ≡ pc + 0 = omega arith in
      record { rest = rest; long = refl; comes = here code _ _ (ap (λ x. going x [] (m ++ rest)) at) }
  command_runs (Assign l span e) n pc k p h m rest lm lr =
      let M = m ++ rest in
      let p' = subst (λ k. HasLocations k e) (sym lm) p.1 in
      let he = has_front code pc (expression_code e) _ h in
      let hs = has_back code pc (expression_code e) (Store l ∷ []) (expression_size e) (expression_long e) h in
      let lt : l < length m = omega (arith, p.0, lm) in
      let within : l < length M = omega (arith, lt, length-append m rest) in
      let at : pc + expression_size e + 1 ≡ pc + (expression_size e + 1) = omega arith in
      let store = store_leads (pc + expression_size e) l (value e m) M within hs.0 in
      let way = leads_on code _ _ _ (expression_leads e pc [] m rest p' he) store in
      let written = ap (going (pc + expression_size e + 1) []) (set-append_left m rest l (value e m) lt)
      ∙ ap (λ x. going x [] (slice_set m l (value e m) ++ rest)) at in
      record { rest = rest; long = refl; comes = comes_on code _ _ _ (as_comes code _ _ way) (here code _ _ written) }
  command_runs (Sequence a b) n pc k p h m rest lm lr =
      let pc1 = pc + size a in
      let ha = has_front code pc (code_at pc k a) _ h in
      let hb = has_back code pc (code_at pc k a) (code_at pc1 k b) (size a) (command_long a pc k) h in
      let at : pc1 + size b ≡ pc + (size a + size b) = omega arith in
      moved_to code n _ _ _ (length rest) (runs n (Sequence a b) m) at
      (and_runs code n _ pc1 (pc1 + size b) (length rest) (runs n a m) (runs n b)
      (command_runs a n pc k p.0 ha m rest lm (omega (arith, lr)))
      (λ m1 rest1 l1 e1.
      let second = command_runs b n pc1 k p.1 hb m1 rest1 (length_kept a n m m1 e1 ∙ lm)
      (omega (arith, l1, lr)) in
      subst (λ r. Runs code n (going pc1 [] (m1 ++ rest1)) (pc1 + size b) r (runs n b m1)) l1 second))
  command_runs (If e a b) n pc k p h m rest lm lr =
      let now = going pc [] (m ++ rest) in
      let p' = subst (λ k. HasLocations k e) (sym lm) p.0 in
      let first = pc + expression_size e + 1 in
      let jump = first + size a in
      let second = jump + 1 in
      let end = second + size b in
      let A = code_at first k a in
      let B = code_at second k b in
      let he = has_front code pc (expression_code e) _ h in
      let h1 = has_back code pc (expression_code e) (Jz second ∷ (A ++ (Jmp end ∷ B))) (expression_size e)
      (expression_long e) h
      in
      let ha = has_front code first A _ h1.1 in
      let h2 = has_back code first A (Jmp end ∷ B) (size a) (command_long a first k) h1.1 in
      let at : end ≡ pc + (expression_size e + size a + size b + 2) = omega arith in
      moved_to code n _ _ _ (length rest) (runs n (If e a b) m) at
      (zero_cases (value e m)
      (λ z. answered code n now end (length rest) _ _ (at_none (value e m) (runs n b m) (runs n a m) z)
      (before code n _ _ end (length rest) (runs n b m) (guard_zero e pc second m rest p' he h1.0 z)
      (command_runs b n second k p.2 h2.1 m rest lm (omega (arith, lr)))))
      (λ z. answered code n now end (length rest) _ _ (at_other (value e m) (runs n b m) (runs n a m) z)
      (before code n _ _ end (length rest) (runs n a m) (guard_other e pc second m rest p' he h1.0 z)
      (jump_behind code n _ jump end (length rest) (runs n a m)
      (command_runs a n first k p.1 ha m rest lm (omega (arith, lr))) h2.0))))
  command_runs (While e c) n pc k p h m rest lm lr =
      let body = pc + expression_size e + 1 in
      let jump = body + size c in
      let end = jump + 1 in
      let C = code_at body k c in
      let he = has_front code pc (expression_code e) _ h in
      let h1 = has_back code pc (expression_code e) (Jz end ∷ (C ++ Jmp pc ∷ [])) (expression_size e)
      (expression_long e) h in
      let hc = has_front code body C _ h1.1 in
      let h2 = has_back code body C (Jmp pc ∷ []) (size c) (command_long c body k) h1.1 in
      let at : end ≡ pc + (expression_size e + size c + 2) = omega arith in
      moved_to code n _ _ _ (length rest) (runs n (While e c) m) at
      (loop_runs n pc end k (nesting c) e (runs n c) (size c) n (omega arith) p.0 he h1.0 h2.0 (length_kept c n)
      (λ m rest lm lr. command_runs c n body k p.1 hc m rest lm lr) m rest lm lr)
  command_runs (Letvar e c) n pc k p h m [] lm lr = absurd (omega (arith, lr))
  command_runs (Letvar e c) n pc k p h m (r ∷ rest) lm lr =
      let M = m ++ r ∷ rest in
      let v = value e m in
      let inner = m ++ v ∷ [] in
      let p' = subst (λ k. HasLocations k e) (sym lm) p.0 in
      let body = pc + expression_size e + 1 in
      let end = body + size c in
      let C = code_at body (k + 1) c in
      let he = has_front code pc (expression_code e) _ h in
      let h1 = has_back code pc (expression_code e) (Store k ∷ C) (expression_size e) (expression_long e) h in
      let within : k < length M = omega (arith, lm, length-append m (r ∷ rest)) in
      let written : slice_set M k v ≡ inner ++ rest = set_at m r rest v k lm ∙ sym (append_assoc m (v ∷ []) rest) in
      let store = store_leads (pc + expression_size e) k v M within h1.0 in
      let way = as_comes code _ _ (leads_on code _ _ _ (expression_leads e pc [] m (r ∷ rest) p' he) store) in
      let at : end ≡ pc + (expression_size e + size c + 1) = omega arith in
      let lm1 : length inner ≡ k + 1 = omega (arith, lm, length-append m (v ∷ [])) in
      let inside = command_runs c n body (k + 1) p.1 h1.1 inner rest lm1 (omega (arith, lr)) in
      let kept : (m1 : Words) → runs n c inner ≡ Some m1 → length m1 ≡ k + 1 =
      λ m1 e1. length_kept c n inner m1 e1 ∙ lm1 in
      let outside = dropped_runs n _ end k (length rest) (runs n c inner) kept inside in
      let started = going body [] (inner ++ rest) in
      moved_to code n _ _ _ (suc (length rest)) (runs n (Letvar e c) m) at
      (before code n _ _ end (suc (length rest)) (runs n (Letvar e c) m)
      (comes_on code _ _ _ way (here code _ _ (ap (going body []) written)))
      (subst (λ x. Runs code n started end (suc (length rest)) (drop_past x (runs n c inner))) (sym lm) outside))
