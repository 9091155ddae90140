-- Whole runs within a bound.
use Rattle.std.proofs.Common.{◌≡◌, ℕ, ◌+◌, ◌-◌, ℤ, pos, List, [], ◌++◌, length, replicate, Some, true, refl, sym, ◌∙◌, subst, arith, length-append, inl, inr}
use Rattle.std.specs.Prelude.{slice_get}
use Rattle.std.proofs.lemmas.List.{length-replicate, length-map}
use Rattle.vsi_image.specs.declared.instr.Instr.{Instr}
use Rattle.vsi_image.specs.declared.instr.Instr.TheVariants.{Halt}
use Rattle.vsi_image.specs.declared.instr.Image.{Image}
use Rattle.vsi_image.specs.Fields.{global}
use Rattle.vsi_image.specs.Meaning.{going, start, ended}
use Rattle.vsi_image.specs.Valid.{IsValid}
use Rattle.vsi_machine.specs.Counting.{GoesOn, HaltsIn}
use Rattle.vsi_machine.specs.Runs.{run_of}
use Rattle.vsi_machine.proofs.Counts.{went_on, goes_on, halts, count_is, halts_longer}
use Rattle.std.proofs.lemmas.Bool.{cases_lt}
use Rattle.vsi_machine.specs.declared.bound.Cost.{Cost}
use Rattle.vsi_machine.specs.declared.loops.Known.{Known}
use Rattle.vsi_machine.specs.Known.{Means, word}
use Rattle.vsi_machine.specs.Facts.{AreSame}
use Rattle.vsi_machine.specs.Stretch.{Leads, Ends}
use Rattle.vsi_machine.specs.Bound.{AlwaysHalts}
use Rattle.vsi_machine.specs.BoundLaws.{EnoughBudget, ExactCount}
use Rattle.vsi_machine.proofs.Running.{next_run, one_run}

-- A stretch from the start to a HALT is a whole run.
pub ends_at : (code : List Instr) (slots halt : ℕ) (facts left : List Known) (cost whole : Cost) → AreSame slots facts
    → Leads code facts 0 halt cost left → slice_get code halt ≡ Some Halt → whole.least ≡ cost.least + 1
    → whole.most ≡ cost.most + 1 → Ends code slots whole
ends_at code slots halt facts left cost whole same leads is p q now long =
    let c = leads now now (record {
      count = same.count ∙ sym long;
      each = λ k f s. subst (λ (g : Known). Means now g (word now k)) (sym (same.each k f s)) refl;
    }) in
    record {
      steps = c.steps;
      enough = omega (arith, p, c.enough);
      few = omega (arith, q, c.few);
      place = halt;
      last = c.last;
      reached = c.reached;
      halts = is;
    }

-- The slots at the start of a valid image.
start_long : (image : Image) (words : List ℤ) → IsValid image → length words ≡ length image.globals.items
    → length (words ++ replicate (image.slots - length words) (pos 0)) ≡ image.slots
start_long image words valid e =
    let zeros = replicate (image.slots - length words) (pos 0) in
    omega (
      arith,
      e,
      valid.allowed.slots_above,
      length-map image.globals.items global,
      length-append words zeros,
      length-replicate (image.slots - length words) (pos 0),
    )

-- An image that ends within a cost always halts within it.
pub always_halts : (image : Image) (cost : Cost) → IsValid image → Ends image.code.items image.slots cost
    → AlwaysHalts image cost.least cost.most
always_halts image cost valid ends words e =
    let f = ends (words ++ replicate (image.slots - length words) (pos 0)) (start_long image words valid e) in
    let t = ended f.place true [] f.last in
    let over : run_of image words (f.steps + 1) ≡ Some t =
    next_run image.code.items f.steps 1 _ _ _ f.reached (one_run image.code.items f.place [] f.last Halt t f.halts refl) in
    let there : run_of image words f.steps ≡ Some (going f.place [] f.last) = f.reached in
    record {
      count = f.steps + 1;
      exact = count_is image words (f.steps + 1) (halts (run_of image words (f.steps + 1)) t over refl)
          (λ n lt. elim (cases_lt n f.steps) [
            | inl l ↦ went_on image.code.items f.steps n (start image words) (going f.place [] f.last) l there refl
            | inr ge ↦ let same : f.steps ≡ n = omega (arith, lt, ge) in
                subst (λ (k : ℕ). GoesOn (run_of image words k)) same
                (goes_on (run_of image words f.steps) (going f.place [] f.last) there refl)
          ]);
      enough = f.enough;
      few = f.few;
    }

-- The same for an image under another name.
pub always_halts_as : (image held : Image) (cost : Cost) → held ≡ image → IsValid image
    → Ends held.code.items held.slots cost → AlwaysHalts image cost.least cost.most
always_halts_as image held cost e valid ends =
    always_halts image cost valid (subst (λ (i : Image). Ends i.code.items i.slots cost) e ends)

-- The same for a stretch under other names.
pub ends_as : (code held : List Instr) (slots halt : ℕ) (facts given left : List Known) (cost whole : Cost)
    → AreSame slots facts → Leads held given 0 halt cost left → slice_get held halt ≡ Some Halt
    → whole.least ≡ cost.least + 1 → whole.most ≡ cost.most + 1 → held ≡ code → given ≡ facts
    → Ends code slots whole
ends_as code held slots halt facts given left cost whole same leads is p q e g =
    subst (λ c. Ends c slots whole) e
    (ends_at held slots halt facts left cost whole same (subst (λ f. Leads held f 0 halt cost left) g leads) is p q)

-- If the budget is no smaller than the bound, every run halts.
pub enough_budget : EnoughBudget
enough_budget image least most budget words always le e =
    let h = always words e in
    halts_longer image.code.items h.count budget (start image words) h.exact.halts (omega (arith, h.few, le))

-- A bound that is exact is each run's number of instructions.
pub exact_count : ExactCount
exact_count image n words always e =
    let h = always words e in
    let same : h.count ≡ n = omega (arith, h.enough, h.few) in
    subst (HaltsIn image words) same h.exact
