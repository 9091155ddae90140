-- The effects of commands.
use Rattle.std.proofs.Common.{◌≡◌, ◌≢◌, ℕ, ◌+◌, ◌<◌, ◌≤◌, ◌⊎◌, inl, inr, min, max, ℤ, pos, List, [], ◌∷◌, length, Some, None, if◌then◌else◌, sym, ap, ◌∙◌, subst, arith, length-set, get_or-set_same, get_or-set_other}
use Rattle.std.specs.Prelude.{slice_get, slice_set}
use Rattle.std.proofs.lemmas.Bool.{cases_lt, lt-ltb}
use Rattle.vsi_image.specs.declared.instr.Instr.{Instr}
use Rattle.vsi_image.specs.declared.instr.Instr.TheVariants.{Store, Jmp}
use Rattle.vsi_image.specs.Meaning.{going}
use Rattle.vsi_machine.specs.declared.bound.Cost.{Cost}
use Rattle.vsi_machine.specs.declared.loops.Known.{Known}
use Rattle.vsi_machine.specs.declared.loops.Known.TheVariants.{Any}
use Rattle.vsi_machine.specs.Known.{Means, Hold, word}
use Rattle.vsi_machine.specs.Loops.{Joined}
use Rattle.vsi_machine.specs.Stretch.{Leads, Evaluates, Stores}
use Rattle.vsi_machine.proofs.Slots.{set_same, set_other}
use Rattle.vsi_machine.proofs.Running.{next_run, one_run, leads_jump}

-- If a fact holds of a word that is written, the facts hold with it.
stored_holds : (m now : List ℤ) (facts left : List Known) (slot : ℕ) (value : Known) (v : ℤ) → Hold m facts now
    → Means m value v → Stores slot value facts left → Hold m left (slice_set now slot v)
stored_holds m now facts left slot value v h means st = record {
  count = ap length st.1 ∙ length-set facts slot value ∙ h.count ∙ sym (length-set now slot v);
  each = λ k f s. elim (cases_lt k slot) [
    | inl less ↦ let ne : k ≢ slot = omega (arith, less) in other k f ne s
    | inr ge ↦ elim (cases_lt slot k) [
      | inl more ↦ let ne : k ≢ slot = omega (arith, more) in other k f ne s
      | inr le ↦ let e : k ≡ slot = omega (arith, ge, le) in same k f e s
    ]
  ];
}
  where
    other : (k : ℕ) (f : Known) → k ≢ slot → slice_get left k ≡ Some f → Means m f (word (slice_set now slot v) k)
    other k f ne s =
        subst (Means m f) (sym (get_or-set_other now slot k v (pos 0) ne))
        (h.each k f (sym (set_other facts slot k value ne) ∙ ap (λ l. slice_get l k) (sym st.1) ∙ s))

    some_is : (a b : Known) → Some a ≡ Some b → a ≡ b
    some_is a b e = cc

    same : (k : ℕ) (f : Known) → k ≡ slot → slice_get left k ≡ Some f → Means m f (word (slice_set now slot v) k)
    same k f e s =
        let is : value ≡ f = some_is value f (sym (set_same facts slot value st.0)
        ∙ ap (slice_get (slice_set facts slot value)) (sym e) ∙ ap (λ l. slice_get l k) (sym st.1) ∙ s) in
        let lt : slot < length now = omega (arith, st.0, h.count) in
        let there : word (slice_set now slot v) k ≡ v =
        ap (word (slice_set now slot v)) e ∙ get_or-set_same now slot v (pos 0) lt in
        subst (λ g. Means m g (word (slice_set now slot v) k)) is (subst (Means m value) (sym there) means)

-- An assignment.
pub store_leads : (code : List Instr) (facts left : List Known) (start place slot n : ℕ) (value : Known) (cost : Cost)
    → Evaluates code facts start place value → slice_get code place ≡ Some (Store slot)
    → Stores slot value facts left → start + n ≡ place + 1 → cost.least ≡ n → cost.most ≡ n
    → Leads code facts start (place + 1) cost left
store_leads code facts left start place slot n value cost ev is st count p q m now h =
    let g = ev m now h in
    let lt : slot < length now = omega (arith, st.0, h.count) in
    let written = going (place + 1) [] (slice_set now slot g.operand) in
    let acts = ap (λ b. if b then Some written else None) (lt-ltb slot (length now) lt) in
    record {
      steps = g.steps + 1;
      enough = omega (arith, g.count, count, p);
      few = omega (arith, g.count, count, q);
      last = slice_set now slot g.operand;
      reached = next_run code g.steps 1 _ _ _ g.reached
          (one_run code place (g.operand ∷ []) now (Store slot) written is acts);
      hold = stored_holds m now facts left slot value g.operand h g.means st;
    }

-- A stretch leads to every list of facts, each of which is known after it or says nothing.
leads_less : (code : List Instr) (facts left less : List Known) (from to : ℕ) (cost whole : Cost)
    → Leads code facts from to cost left → length less ≡ length left
    → ((k : ℕ) (f : Known) → slice_get less k ≡ Some f → (f ≡ Any) ⊎ (slice_get left k ≡ Some f))
    → whole.least ≤ cost.least → cost.most ≤ whole.most → Leads code facts from to whole less
leads_less code facts left less from to cost whole a long each p q m now h =
    let c = a m now h in
    record {
      steps = c.steps;
      enough = omega (arith, p, c.enough);
      few = omega (arith, q, c.few);
      last = c.last;
      reached = c.reached;
      hold = record {
        count = long ∙ c.hold.count;
        each = λ k f s. elim (each k f s) [
          | inl any ↦ subst (λ (g : Known). Means m g (word c.last k)) (sym any) tt
          | inr known ↦ c.hold.each k f known
        ];
      };
    }

-- The left part of a joined fact.
joined_left : {A B C D : Type 0} → (B × C) ⊎ (A × D) → A ⊎ B
joined_left (inl p) = inr p.0
joined_left (inr p) = inl p.0

-- The right part of a joined fact.
joined_right : {A B C D : Type 0} → (B × C) ⊎ (A × D) → A ⊎ C
joined_right (inl p) = inr p.1
joined_right (inr p) = inl p.0

-- The first branch of two, with its jump to the end.
pub first_leads : (code : List Instr) (facts one two left : List Known) (from jump end : ℕ) (first more second whole : Cost)
    → Leads code facts from jump first one → slice_get code jump ≡ Some (Jmp end) → Joined one two left
    → more.least ≡ first.least + 1 → more.most ≡ first.most + 1 → whole.least ≡ min more.least second.least
    → whole.most ≡ max more.most second.most → Leads code facts from end whole left
first_leads code facts one two left from jump end first more second whole a is j p q r t =
    leads_less code facts one left from end more whole (leads_jump code facts one from jump end first more a is p q)
    j.count (λ k f s. joined_left (j.each k f s)) (omega (arith, r)) (omega (arith, t))

-- The second branch.
pub second_leads : (code : List Instr) (facts one two left : List Known) (from end : ℕ) (more second whole : Cost)
    → Leads code facts from end second two → Joined one two left → length two ≡ length one
    → whole.least ≡ min more.least second.least → whole.most ≡ max more.most second.most
    → Leads code facts from end whole left
second_leads code facts one two left from end more second whole a j long r t =
    leads_less code facts two left from end second whole a
    (j.count ∙ sym long) (λ k f s. joined_right (j.each k f s)) (omega (arith, r)) (omega (arith, t))

-- The second branch, with its facts under other names.
pub second_leads_as : (code : List Instr) (facts given one two new left : List Known) (from end : ℕ)
    (more second whole : Cost) → Leads code given from end second new → Joined one two left
    → whole.least ≡ min more.least second.least → whole.most ≡ max more.most second.most → given ≡ facts → new ≡ two
    → length two ≡ length one → Leads code facts from end whole left
second_leads_as code facts given one two new left from end more second whole a j r t g n long =
    second_leads code facts one two left from end more second whole
    (subst (λ x. Leads code facts from end second x) n (subst (λ x. Leads code x from end second new) g a)) j long r t
