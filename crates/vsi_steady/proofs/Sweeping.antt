-- A sweep over the code that raises the classes of slots.
use Rattle.std.proofs.Common.{◌≡◌, ℕ, ◌+◌, ◌<◌, ◌≤◌, List, [], ◌∷◌, length, get_or, drop, take, reverse, Some, None, Option, Bool, true, false, ◌||◌, refl, sym, ap, subst, ◌∙◌, arith, inl, inr}
use Rattle.std.specs.Prelude.{slice_get, IfSome}
use Rattle.std.specs.List.{All}
use Rattle.std.proofs.lemmas.Bool.{both_ways, cases_Bool}
use Rattle.std.proofs.lemmas.List.{drop_more, drop_all}
use Rattle.std.proofs.lemmas.Option.{get_or_from_slice_get}
use Rattle.vsi_lattice.specs.Order.{Lattice, IsLattice, IsClass}
use Rattle.vsi_image.specs.declared.instr.Instr.{Instr}
use Rattle.vsi_image.specs.declared.instr.Image.{Image}
use Rattle.vsi_image.specs.Effects.{left, slot_of}
use Rattle.vsi_image.specs.Valid.{IsFine, IsValid}
use Rattle.vsi_infer.specs.Ranks.{distance}
use Rattle.vsi_lattice.specs.Known.{Known}
use Rattle.vsi_steady.specs.Steady.{HaveClasses, IsSteady, Passes, GoesThrough}
use Rattle.vsi_steady.specs.Least.{AllBelow, AreLeast, Leads, Finds, FindsRaised, RisesBy}
use Rattle.vsi_steady.proofs.First.{same_global}
use Rattle.vsi_steady.proofs.Least.{leads_below, found_below, rises_below, instr_nearer}
use Rattle.vsi_steady.proofs.Walking.{Standing, fine_at, gone_on, standing_on}

-- The rest of the code passes with these classes of slots, from operands at or above the current ones.
pub record Follows (L : Lattice) (slots : List ℕ) (rest : List Instr) (now : List ℕ) : Type 0 where
  pub held : List ℕ
  pub below : AllBelow L now held
  pub code : GoesThrough L slots rest held

-- Code that passes from a place on passes through the instruction there.
pub record Follows1 (L : Lattice) (slots : List ℕ) (i : Instr) (rest : List Instr) (held : List ℕ) : Type 0 where
  pub after : List ℕ
  pub passes : Passes L slots i held after
  pub code : GoesThrough L slots rest after

-- The code has an instruction at that place.
first_on : (L : Lattice) (slots : List ℕ) (code : List Instr) (pc : ℕ) (i : Instr) (held : List ℕ)
    → slice_get code pc ≡ Some i → pc < length code → GoesThrough L slots (drop pc code) held
    → Follows1 L slots i (drop (pc + 1) code) held
first_on L slots code pc i held e lt g =
    let here : get_or code pc i ≡ i = get_or_from_slice_get code pc i i e in
    let cut : drop pc code ≡ i ∷ drop (pc + 1) code =
    drop_more code pc i lt ∙ ap (λ x. x ∷ drop (pc + 1) code) here in
    let on = subst (λ l. GoesThrough L slots l held) cut g in
    record { after = on.0; passes = on.1; code = on.2 }

module _ (known : Known) (L : Lattice) (image : Image) where
  -- A sweep up to a place: if no class has risen, the classes are the first ones; if no requirement failed, the code
  -- passes whenever its rest does; and if the image is steady, the classes are at or below those with which it is
  -- steady, and no requirement failed.
  pub record Sweeping (first classes : List ℕ) (pc depth : ℕ) (held : List ℕ) (risen : Bool)
      (flow : Option ℕ) : Type 0 where
    pub standing : Standing L image pc depth held
    pub have : HaveClasses known L image classes
    pub through : risen ≡ false → flow ≡ None
        → GoesThrough L classes (drop pc image.code.items) (reverse (take depth held))
        → GoesThrough L classes image.code.items []
    pub below : AreLeast known L image classes
    pub follows : (s : IsSteady known L image)
        → Follows L s.slots (drop pc image.code.items) (reverse (take depth held))
    pub clear : IsSteady known L image → flow ≡ None
    pub same : risen ≡ false → classes ≡ first
    pub nearer : risen ≡ true → distance L.leq L.count classes < distance L.leq L.count first

  -- The effect of an instruction on the classes in a sweep.
  pub record Swept1 (i : Instr) (classes raised : List ℕ) (now after : List ℕ) (is_raised is_met : Bool) : Type 0 where
    pub have : HaveClasses known L image raised
    pub first : FindsRaised L (length image.globals.items) raised i now
    pub same : is_raised ≡ false → raised ≡ classes
    pub risen : is_raised ≡ true → RisesBy L classes i now raised
    pub passes : is_met ≡ true → Passes L raised i now after
    pub leads : Leads L raised i now after
    pub found : Finds L raised i now → is_met ≡ true

module _ (known : Known) (L : Lattice) (laws : IsLattice L) (image : Image) (valid : IsValid image) where
  -- The slot of an instruction has a class.
  slot_within : (classes : List ℕ) (i : Instr) (depth : ℕ) → HaveClasses known L image classes → IsFine image i depth
      → IfSome (slot_of i) (λ k. k < length classes)
  slot_within classes i depth have fine = within (slot_of i) fine.slot
    where
      within : (o : Option ℕ) → IfSome o (λ k. k < image.slots) → IfSome o (λ k. k < length classes)
      within None h = tt
      within (Some k) h = omega (arith, h, have.count)

  -- If a disjunction fails, both sides do.
  neither : (a b : Bool) → (a || b) ≡ false → (a ≡ false) × (b ≡ false)
  neither true b h = absurd (both_ways true h refl)
  neither false b h = (refl, h)

  -- If one of two sweeps gets nearer to the top, so do both together.
  closer : (first classes raised : List ℕ) (risen is_raised : Bool) → (risen || is_raised) ≡ true
      → (risen ≡ false → classes ≡ first)
      → (risen ≡ true → distance L.leq L.count classes < distance L.leq L.count first)
      → (is_raised ≡ false → raised ≡ classes)
      → (is_raised ≡ true → distance L.leq L.count raised < distance L.leq L.count classes)
      → distance L.leq L.count raised < distance L.leq L.count first
  closer first classes raised true true loud same near same' near' = omega (arith, near refl, near' refl)
  closer first classes raised true false loud same near same' near' =
      subst (λ l. distance L.leq L.count l < distance L.leq L.count first) (sym (same' refl)) (near refl)
  closer first classes raised false true loud same near same' near' =
      subst (λ l. distance L.leq L.count raised < distance L.leq L.count l) (same refl) (near' refl)
  closer first classes raised false false loud same near same' near' = absurd (both_ways false refl loud)

  -- Classes below those with which the image is steady stay below them.
  still_below : (i : Instr) (classes raised now after : List ℕ) (is_raised is_met : Bool)
      → Swept1 known L image i classes raised now after is_raised is_met → HaveClasses known L image classes
      → IfSome (slot_of i) (λ k. k < length classes) → (s : IsSteady known L image) → AllBelow L classes s.slots
      → (held rest : List ℕ) → AllBelow L now held → Passes L s.slots i held rest → AllBelow L raised s.slots
  still_below i classes raised now after is_raised is_met w have lt s below held rest near p =
      elim (cases_Bool is_raised) [
        | inl up ↦
            rises_below L laws classes s.slots have.classes s.have.classes below
            (omega (arith, have.count, s.have.count)) i now held rest raised lt near p (w.risen up)
        | inr flat ↦ subst (λ l. AllBelow L l s.slots) (sym (w.same flat)) below
      ]

  -- One instruction continues the sweep.
  pub sweep_on : (first classes raised : List ℕ) (pc depth : ℕ) (held held' : List ℕ) (risen is_raised is_met : Bool)
      (flow flow' : Option ℕ) (i : Instr)
      → Sweeping known L image first classes pc depth held risen flow
      → slice_get image.code.items pc ≡ Some i → pc < length image.code.items
      → Swept1 known L image i classes raised (reverse (take depth held)) (reverse (take (left i depth) held'))
      is_raised is_met
      → All (IsClass L) held'
      → (is_met ≡ true → flow' ≡ flow) → (flow' ≡ None → (is_met ≡ true) × (flow ≡ None))
      → Sweeping known L image first raised (pc + 1) (left i depth) held' (risen || is_raised) flow'
  sweep_on first classes raised pc depth held held' risen is_raised is_met flow flow' i w e lt d all met none =
      let code = image.code.items in
      let now = reverse (take depth held) in
      let after = reverse (take (left i depth) held') in
      let fine = fine_at L image pc depth held i valid w.standing e in
      let slot = slot_within classes i depth w.have fine in
      let slot' = slot_within raised i depth d.have fine in
      let one : (s : IsSteady known L image) → Follows1 L s.slots i (drop (pc + 1) code) (w.follows s).held =
      λ s. first_on L s.slots code pc i (w.follows s).held e lt (w.follows s).code in
      let below : AreLeast known L image raised =
      λ s. still_below i classes raised now after is_raised is_met d w.have slot s (w.below s) (w.follows s).held
      (one s).after (w.follows s).below (one s).passes in
      let meets : IsSteady known L image → is_met ≡ true =
      λ s. d.found (found_below L laws raised s.slots d.have.classes s.have.classes (below s)
      (omega (arith, d.have.count, s.have.count)) (length image.globals.items) i now (w.follows s).held (one s).after
      slot' (same_global known L image raised s.slots d.have s.have) (w.follows s).below d.first (one s).passes) in
      record {
        standing = standing_on L image pc depth held held' i valid w.standing e lt all;
        have = d.have;
        through = λ quiet clear on.
            let same = d.same (neither risen is_raised quiet).1 in
            let before = w.through (neither risen is_raised quiet).0 (none clear).1 in
            let here : GoesThrough L raised (drop pc code) now =
            gone_on L raised code pc i now after e lt (d.passes (none clear).0) on in
            subst (λ l. GoesThrough L l code []) (sym same)
            (before (subst (λ l. GoesThrough L l (drop pc code) now) same here));
        below = below;
        follows = λ s.
            record {
              held = (one s).after;
              below = leads_below L laws raised s.slots d.have.classes s.have.classes (below s)
                  (omega (arith, d.have.count, s.have.count)) i now after (w.follows s).held (one s).after
                  slot' (w.follows s).below d.leads (one s).passes;
              code = (one s).code;
            };
        clear = λ s. met (meets s) ∙ w.clear s;
        same = λ quiet. d.same (neither risen is_raised quiet).1 ∙ w.same (neither risen is_raised quiet).0;
        nearer = λ loud.
            closer first classes raised risen is_raised loud w.same w.nearer d.same
            (λ up. instr_nearer L laws classes i now raised w.have.classes slot (d.risen up));
      }

  -- After a whole sweep in which no class rose and no requirement failed, the code passes.
  pub swept_through : (first classes : List ℕ) (pc depth : ℕ) (held : List ℕ) (risen : Bool) (flow : Option ℕ)
      → Sweeping known L image first classes pc depth held risen flow → length image.code.items ≤ pc
      → risen ≡ false → flow ≡ None → GoesThrough L classes image.code.items []
  swept_through first classes pc depth held risen flow w le quiet clear =
      w.through quiet clear
      (subst (λ l. GoesThrough L classes l (reverse (take depth held))) (sym (drop_all pc image.code.items le)) tt)
