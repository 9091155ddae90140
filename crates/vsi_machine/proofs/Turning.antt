-- The turns of a loop.
use Rattle.std.proofs.Common.{◌≡◌, ℕ, zero, suc, ◌+◌, ◌*◌, ◌<◌, ◌≤◌, inl, inr, ℤ, List, [], length, Some, Bool, true, false, refl, sym, ap, ◌∙◌, subst, arith}
use Rattle.std.specs.Prelude.{slice_get}
use Rattle.std.proofs.lemmas.Option.{slice_get_within}
use Rattle.vsi_syntax.specs.Operators.{sum_of}
use Rattle.vsi_image.specs.declared.instr.Instr.{Instr}
use Rattle.vsi_image.specs.declared.instr.Instr.TheVariants.{Jz, Jmp}
use Rattle.vsi_image.specs.Meaning.{after, going}
use Rattle.vsi_machine.specs.declared.bound.Cost.{Cost}
use Rattle.vsi_machine.specs.declared.loops.Known.{Known}
use Rattle.vsi_machine.specs.declared.loops.Known.TheVariants.{Number, Same, Moved, Below, Above, Any}
use Rattle.vsi_machine.specs.Known.{Means, Hold, word}
use Rattle.vsi_machine.specs.Counters.{Counts}
use Rattle.vsi_machine.specs.Loops.{Enters, IsEntry, Keeps, Remains, Remain}
use Rattle.vsi_machine.specs.Looping.{Finished, guard_of, guard_value}
use Rattle.vsi_machine.specs.Stretch.{Leads, Evaluates}
use Rattle.vsi_machine.proofs.Slots.{there}
use Rattle.vsi_machine.proofs.Running.{next_run, one_run, test_zero, test_other}

-- The value of a guard whose variable has this word.
valued : (up : Bool) (slot : ℕ) (limit : ℤ) (guard : Known) (m : List ℤ) (v : ℤ) → guard ≡ guard_of up slot limit
    → Means m guard v → v ≡ guard_value up limit (word m slot)
valued true slot limit guard m v e h = subst (λ (g : Known). Means m g v) e h
valued false slot limit guard m v e h = subst (λ (g : Known). Means m g v) e h

-- The effect of a loop's turns on these slots.
record Turned (code : List Instr) (entry turned : List Known) (start target tested : ℕ) (body : Cost) (slot : ℕ)
    (now : List ℤ) (turns : ℕ) (last : ℤ) : Type 0 where
  steps : ℕ
  enough : turns * (body.least + (tested + 1)) + tested ≤ steps
  few : steps ≤ turns * (body.most + (tested + 1)) + tested
  end : List ℤ
  reached : after code steps (going start [] now) ≡ Some (going target [] end)
  long : length end ≡ length now
  word_is : word end slot ≡ last
  same : (k : ℕ) (f : Known) → slice_get entry k ≡ Some f → slice_get turned k ≡ Some f → word end k ≡ word now k

module _ (code inner : List Instr) (facts entry turned : List Known) (start place target jump : ℕ) (guard : Known)
    (body : Cost) (slot tested : ℕ) (up : Bool) (limit step : ℤ)
    (ev : Evaluates code entry start place guard)
    (jz : slice_get code place ≡ Some (Jz target))
    (jmp : slice_get code jump ≡ Some (Jmp start))
    (count : start + tested ≡ place + 1)
    (leads : Leads code entry (place + 1) jump body turned)
    (enters : (k : ℕ) (f : Known) → slice_get entry k ≡ Some f → Enters inner facts k f)
    (keeps : Keeps entry turned)
    (guarded : guard ≡ guard_of up slot limit)
    (moves : slice_get turned slot ≡ Some (Moved slot step)) where
  -- A fact at the start of a turn holds for the words with which it compares.
  enters_hold : (now : List ℤ) (k : ℕ) (f : Known) → Enters inner facts k f
      → ((n : ℤ) → f ≡ Number n → word now k ≡ n) → Means now f (word now k)
  enters_hold now k (Number n) e h = h n refl
  enters_hold now k (Same j) e h = ap (word now) (sym e.0)
  enters_hold now k (Moved j d) e h = absurd e
  enters_hold now k (Below j n) e h = absurd e
  enters_hold now k (Above j n) e h = absurd e
  enters_hold now k Any e h = absurd e

  -- A fact that a turn leaves unchanged says that the word is the same.
  kept : (now last : List ℤ) (k : ℕ) (f : Known) → Enters inner facts k f → Means now f (word now k)
      → Means now f (word last k) → word last k ≡ word now k
  kept now last k (Number n) e h g = g ∙ sym h
  kept now last k (Same j) e h g = g ∙ ap (word now) e.0
  kept now last k (Moved j d) e h g = absurd e
  kept now last k (Below j n) e h g = absurd e
  kept now last k (Above j n) e h g = absurd e
  kept now last k Any e h g = absurd e

  -- The facts at the start of a turn hold after it.
  again : (now last : List ℤ) → Hold now entry now → Hold now turned last → length entry ≡ length turned
      → Hold last entry last
  again now last h g e = record {
    count = e ∙ g.count;
    each = λ k f s. enters_hold last k f (enters k f s)
        (λ n is. g.each k (Number n) (keeps k n (s ∙ ap Some is)));
  }

  -- A number of turns.
  turning : length entry ≡ length turned → (turns : ℕ) (now : List ℤ) (last : ℤ) → Hold now entry now
      → Counts (guard_value up limit) step turns (word now slot) last
      → Turned code entry turned start target tested body slot now turns last
  turning same zero now last h c =
      let g = ev now now h in
      let long : g.steps + 1 ≡ tested = omega (arith, g.count, count) in
      let z = valued up slot limit guard now g.operand guarded g.means ∙ c.0 in
      record {
        steps = g.steps + 1;
        enough = omega (arith, long);
        few = omega (arith, long);
        end = now;
        reached = test_zero code now now start place target guard g jz z;
        long = refl;
        word_is = c.1;
        same = λ k f p q. refl;
      }
  turning same (suc turns) now last h c =
      let g = ev now now h in
      let long : g.steps + 1 ≡ tested = omega (arith, g.count, count) in
      let is = valued up slot limit guard now g.operand guarded g.means in
      let first = test_other code now now start place target guard g jz (λ z. c.0 (sym is ∙ z)) in
      let b = leads now now h in
      let moved : word b.last slot ≡ sum_of (word now slot) step = b.hold.each slot (Moved slot step) moves in
      let back = one_run code jump [] b.last (Jmp start) (going start [] b.last) jmp refl in
      let rest = turning same turns b.last last (again now b.last h b.hold same)
      (subst (λ w. Counts (guard_value up limit) step turns w last) (sym moved) c.2) in
      record {
        steps = g.steps + 1 + (b.steps + (1 + rest.steps));
        enough = omega (arith, long, b.enough, rest.enough);
        few = omega (arith, long, b.few, rest.few);
        end = rest.end;
        reached = next_run code (g.steps + 1) (b.steps + (1 + rest.steps)) _ _ _ first
            (next_run code b.steps (1 + rest.steps) _ _ _ b.reached
            (next_run code 1 rest.steps _ _ _ back rest.reached));
        long = rest.long ∙ sym b.hold.count ∙ sym same ∙ h.count;
        word_is = rest.word_is;
        same = λ k f p q. rest.same k f p q
            ∙ kept now b.last k f (enters k f p) (h.each k f p) (b.hold.each k f q);
      }

-- The facts before a loop imply those at the start of its first turn.
entry_holds : (inner : List Instr) (facts entry : List Known) (m now : List ℤ) → IsEntry inner facts entry
    → Hold m facts now → Hold now entry now
entry_holds inner facts entry m now e h = record {
  count = e.count ∙ h.count;
  each = λ k f s. by k f s (e.each k f s);
}
  where
    by : (k : ℕ) (f : Known) → slice_get entry k ≡ Some f → Enters inner facts k f → Means now f (word now k)
    by k (Number n) s e = h.each k (Number n) e.0
    by k (Same j) s e = ap (word now) (sym e.0)
    by k (Moved j d) s e = absurd e
    by k (Below j n) s e = absurd e
    by k (Above j n) s e = absurd e
    by k Any s e = absurd e

-- The facts after a loop hold if its variable has the last word and no turn changes the rest.
remain_holds : (facts entry turned left : List Known) (slot : ℕ) (last : ℤ) (m now end : List ℤ)
    → length entry ≡ length facts → Hold m facts now → length end ≡ length now → word end slot ≡ last
    → ((k : ℕ) (f : Known) → slice_get entry k ≡ Some f → slice_get turned k ≡ Some f → word end k ≡ word now k)
    → Remain facts entry turned slot last left → Hold m left end
remain_holds facts entry turned left slot last m now end e h long is same r = record {
  count = r.count ∙ h.count ∙ sym long;
  each = λ k f s. by k f (r.each k f s);
}
  where
    by : (k : ℕ) (f : Known) → Remains facts entry turned slot last k f → Means m f (word end k)
    by k f (inl p) =
        subst (λ (g : Known). Means m g (word end k)) (sym p.1) (ap (word end) p.0 ∙ is)
    by k f (inr (inl p)) =
        let lt : k < length entry = omega (arith, slice_get_within facts k f p.1, e) in
        let x = there entry k lt in
        subst (Means m f) (sym (same k x.0 x.1 (sym p.2 ∙ x.1))) (h.each k f p.1)
    by k f (inr (inr p)) = subst (λ (g : Known). Means m g (word end k)) (sym p.1) tt

-- A loop that counts.
pub loop_leads : (code inner : List Instr) (facts entry turned left : List Known) (start place target jump tested : ℕ)
    (guard : Known) (body cost : Cost) → Evaluates code entry start place guard
    → slice_get code place ≡ Some (Jz target) → slice_get code jump ≡ Some (Jmp start) → start + tested ≡ place + 1
    → Leads code entry (place + 1) jump body turned → IsEntry inner facts entry → length turned ≡ length entry
    → Finished facts entry guard turned tested body cost left → Leads code facts start target cost left
loop_leads code inner facts entry turned left start place target jump tested guard body cost ev jz jmp count leads e
    same f m now h =
    let c = f.counter in
    let begins : word now f.slot ≡ c.start = h.each f.slot (Number c.start) c.begins in
    let t = turning code inner facts entry turned start place target jump guard body f.slot tested c.up c.limit c.step
    ev jz jmp count leads e.each f.keeps c.guarded c.moves (sym same) f.turns now f.last
    (entry_holds inner facts entry m now e h)
    (subst (λ w. Counts (guard_value c.up c.limit) c.step f.turns w f.last) (sym begins) c.counts) in
    record {
      steps = t.steps;
      enough = omega (arith, f.least, t.enough);
      few = omega (arith, f.most, t.few);
      last = t.end;
      reached = t.reached;
      hold = remain_holds facts entry turned left f.slot f.last m now t.end e.count h t.long t.word_is t.same f.remain;
    }

-- The same for facts under other names.
pub loop_leads_as : (code inner : List Instr) (facts e₀ e₁ e₂ entry u turned left : List Known)
    (start place target jump end tested : ℕ) (guard : Known) (body cost : Cost) → IsEntry inner facts e₀
    → Evaluates code e₁ start place guard → Leads code e₂ (place + 1) jump body u
    → Finished facts entry guard turned tested body cost left → slice_get code place ≡ Some (Jz target)
    → slice_get code jump ≡ Some (Jmp end) → end ≡ start → start + tested ≡ place + 1 → e₀ ≡ entry → e₁ ≡ entry
    → e₂ ≡ entry → u ≡ turned → length turned ≡ length entry → Leads code facts start target cost left
loop_leads_as code inner facts e₀ e₁ e₂ entry u turned left start place target jump end tested guard body cost e ev leads
    f jz jmp back count p q r s same =
    loop_leads code inner facts entry turned left start place target jump tested guard body cost
    (subst (λ x. Evaluates code x start place guard) q ev) jz
    (subst (λ n. slice_get code jump ≡ Some (Jmp n)) back jmp) count
    (subst (λ x. Leads code entry (place + 1) jump body x) s (subst (λ x. Leads code x (place + 1) jump body u) r leads))
    (subst (IsEntry inner facts) p e) same f
