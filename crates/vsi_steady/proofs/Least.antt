-- The classes of slots and operands stay at or below those with which an image is steady.
use Rattle.std.proofs.Common.{◌≡◌, ℕ, zero, suc, ◌<◌, ◌≤◌, List, [], ◌∷◌, length, sym, subst, arith, inl, inr}
use Rattle.std.specs.Prelude.{slice_index, slice_set, IfSome}
use Rattle.std.specs.List.{All}
use Rattle.std.proofs.lemmas.List.Elements.{All-get_or}
use Rattle.std.proofs.lemmas.Bool.{both_ways, cases_Bool, cases_lt}
use Rattle.vsi_lattice.specs.Order.{Lattice, IsLattice, IsClass, Below}
use Rattle.vsi_image.specs.declared.instr.Instr.{Instr}
use Rattle.vsi_image.specs.declared.instr.Instr.TheVariants.{Push, Load, Store, Add, Sub, Mul, Eq, Lt, Jz, Jmp, Halt}
use Rattle.vsi_image.specs.Effects.{slot_of}
use Rattle.vsi_infer.specs.Ranks.{distance}
use Rattle.vsi_infer.proofs.RankLemmas.{distance_falls}
use Rattle.vsi_steady.specs.Steady.{Operates, Stores, Passes}
use Rattle.vsi_steady.specs.Least.{AllBelow, OnTop, Drops, Joins, Leads, Finds, FindsRaised, Rises, RisesBy}

-- Classes that are below others are below them at each slot.
below_at : (L : Lattice) (xs ys : List ℕ) (k : ℕ) → AllBelow L xs ys → k < length xs
    → Below L (slice_index xs k) (slice_index ys k)
below_at L [] ys k h lt = absurd (omega (arith, lt))
below_at L (a ∷ xs) [] k h lt = absurd h
below_at L (a ∷ xs) (b ∷ ys) zero h lt = h.2
below_at L (a ∷ xs) (b ∷ ys) (suc k) h lt = below_at L xs ys k h.3 (omega (arith, lt))

-- They stay below if one of them rises no higher.
below_set : (L : Lattice) (xs ys : List ℕ) (k c : ℕ) → AllBelow L xs ys → k < length xs → IsClass L c
    → Below L c (slice_index ys k) → AllBelow L (slice_set xs k c) ys
below_set L [] ys k c h lt class low = absurd (omega (arith, lt))
below_set L (a ∷ xs) [] k c h lt class low = absurd h
below_set L (a ∷ xs) (b ∷ ys) zero c h lt class low = (class, h.1, low, h.3)
below_set L (a ∷ xs) (b ∷ ys) (suc k) c h lt class low =
    (h.0, h.1, h.2, below_set L xs ys k c h.3 (omega (arith, lt)) class low)

module _ (L : Lattice) (laws : IsLattice L) where
  -- An operator that takes no higher classes leaves no higher ones.
  joins_below : (now after held left : List ℕ) → AllBelow L now held → Joins L now after → Operates L held left
      → AllBelow L after left
  joins_below [] after held left h j o = absurd j
  joins_below (b ∷ []) after held left h j o = absurd j
  joins_below (b ∷ a ∷ rest) after [] left h j o = absurd o
  joins_below (b ∷ a ∷ rest) after (y ∷ []) left h j o = absurd o
  joins_below (b ∷ a ∷ rest) after (y ∷ x ∷ others) left h j o =
      let c = o.0 in
      let first : Below L a c = laws.transitive a x c h.3.0 h.3.1 o.1 h.3.2 o.2 in
      let second : Below L b c = laws.transitive b y c h.0 h.1 o.1 h.2 o.3 in
      let here : AllBelow L (j.0 ∷ rest) (c ∷ others) = (j.1.within, o.1, j.1.least c o.1 first second, h.3.3) in
      subst (λ l. AllBelow L after l) (sym o.4) (subst (λ l. AllBelow L l (c ∷ others)) (sym j.2) here)

  -- The same holds if the top operand is stored.
  drops_below : (slot : ℕ) (now after held left : List ℕ) → AllBelow L now held → Drops now after
      → Stores L slot held left → AllBelow L after left
  drops_below slot [] after held left h d s = absurd d
  drops_below slot (c ∷ rest) after [] left h d s = absurd s
  drops_below slot (c ∷ rest) after (x ∷ others) left h d s =
      subst (λ l. AllBelow L after l) (sym s.1) (subst (λ l. AllBelow L l others) (sym d) h.3)

  -- The same holds if a jump takes the top operand.
  jz_below : (now after held left : List ℕ) → AllBelow L now held → Drops now after → held ≡ L.bottom ∷ []
      → left ≡ [] → AllBelow L after left
  jz_below [] after held left h d one none = absurd d
  jz_below (c ∷ rest) after held left h d one none =
      let here : AllBelow L (c ∷ rest) (L.bottom ∷ []) = subst (λ l. AllBelow L (c ∷ rest) l) one h in
      subst (λ l. AllBelow L after l) (sym none) (subst (λ l. AllBelow L l []) (sym d) here.3)

  module _ (classes slots : List ℕ) (all : All (IsClass L) classes) (others : All (IsClass L) slots)
      (below : AllBelow L classes slots) (count : length slots ≡ length classes) where
    -- An instruction that takes no higher classes leaves no higher ones.
    pub leads_below : (i : Instr) (now after held left : List ℕ) → IfSome (slot_of i) (λ k. k < length classes)
        → AllBelow L now held → Leads L classes i now after → Passes L slots i held left → AllBelow L after left
    leads_below (Push n) now after held left lt h d p =
        let here : AllBelow L (L.bottom ∷ now) (L.bottom ∷ held) =
        (laws.bottom_within, laws.bottom_within, laws.reflexive L.bottom laws.bottom_within, h) in
        subst (λ l. AllBelow L after l) (sym p) (subst (λ l. AllBelow L l (L.bottom ∷ held)) (sym d) here)
    leads_below (Load k) now after held left lt h d p =
        let there : k < length slots = omega (arith, lt, count) in
        let here : AllBelow L (slice_index classes k ∷ now) (slice_index slots k ∷ held) = (
          All-get_or (IsClass L) classes k 0 lt all,
          All-get_or (IsClass L) slots k 0 there others,
          below_at L classes slots k below lt,
          h,
        ) in
        subst (λ l. AllBelow L after l) (sym p)
        (subst (λ l. AllBelow L l (slice_index slots k ∷ held)) (sym d) here)
    leads_below (Store k) now after held left lt h d p =
        drops_below (slice_index slots k) now after held left h d p
    leads_below Add now after held left lt h d p = joins_below now after held left h d p
    leads_below Sub now after held left lt h d p = joins_below now after held left h d p
    leads_below Mul now after held left lt h d p = joins_below now after held left h d p
    leads_below Eq now after held left lt h d p = joins_below now after held left h d p
    leads_below Lt now after held left lt h d p = joins_below now after held left h d p
    leads_below (Jz t) now after held left lt h d p = jz_below now after held left h d p.0 p.1
    leads_below (Jmp t) now after held left lt h d p =
        subst (λ l. AllBelow L after l) (sym p.1)
        (subst (λ l. AllBelow L l []) (sym d) (subst (λ l. AllBelow L now l) p.0 h))
    leads_below Halt now after held left lt h d p =
        subst (λ l. AllBelow L after l) (sym p.1)
        (subst (λ l. AllBelow L l []) (sym d) (subst (λ l. AllBelow L now l) p.0 h))

    -- A STORE that passes with higher classes passes with these, unless its slot is one that rises.
    stores_found : (n k : ℕ) (now held left : List ℕ) → k < length classes
        → ((j : ℕ) → j < n → slice_index slots j ≡ slice_index classes j)
        → AllBelow L now held → Stores L (slice_index slots k) held left
        → (n ≤ k → OnTop (λ c. Below L c (slice_index classes k)) now)
        → OnTop (λ c. Below L c (slice_index classes k)) now
    stores_found n k [] [] left lt same h s raised = absurd s
    stores_found n k [] (x ∷ xs) left lt same h s raised = absurd h
    stores_found n k (c ∷ rest) [] left lt same h s raised = absurd s
    stores_found n k (c ∷ rest) (x ∷ xs) left lt same h s raised =
        let there : k < length slots = omega (arith, lt, count) in
        let class : IsClass L (slice_index slots k) = All-get_or (IsClass L) slots k 0 there others in
        elim (cases_lt k n) [
          | inr above ↦ raised above
          | inl global ↦
              subst (λ x. Below L c x) (same k global)
              (laws.transitive c x (slice_index slots k) h.0 h.1 class h.2 s.0)
        ]

    -- A JZ that finds the bottom class among higher classes finds it among these.
    jz_found : (now held : List ℕ) → AllBelow L now held → held ≡ L.bottom ∷ [] → OnTop (λ c. c ≡ L.bottom) now
    jz_found [] held h one = absurd (subst (λ l. AllBelow L [] l) one h)
    jz_found (c ∷ rest) held h one =
        let here : AllBelow L (c ∷ rest) (L.bottom ∷ []) = subst (λ l. AllBelow L (c ∷ rest) l) one h in
        laws.antisymmetric c L.bottom here.0 laws.bottom_within here.2 (laws.bottom_least c here.0)

    -- An instruction that passes with higher classes finds the classes it requires among these.
    pub found_below : (n : ℕ) (i : Instr) (now held left : List ℕ) → IfSome (slot_of i) (λ k. k < length classes)
        → ((j : ℕ) → j < n → slice_index slots j ≡ slice_index classes j)
        → AllBelow L now held → FindsRaised L n classes i now → Passes L slots i held left → Finds L classes i now
    found_below n (Push m) now held left lt same h r p = tt
    found_below n (Load k) now held left lt same h r p = tt
    found_below n (Store k) now held left lt same h r p = stores_found n k now held left lt same h p r
    found_below n Add now held left lt same h r p = tt
    found_below n Sub now held left lt same h r p = tt
    found_below n Mul now held left lt same h r p = tt
    found_below n Eq now held left lt same h r p = tt
    found_below n Lt now held left lt same h r p = tt
    found_below n (Jz t) now held left lt same h r p = jz_found now held h p.0
    found_below n (Jmp t) now held left lt same h r p = tt
    found_below n Halt now held left lt same h r p = tt

    -- A slot that a STORE raises rises no higher.
    store_rises : (k : ℕ) (now held left raised : List ℕ) → k < length classes → AllBelow L now held
        → Stores L (slice_index slots k) held left → OnTop (λ c. Rises L classes k c raised) now
        → AllBelow L raised slots
    store_rises k [] held left raised lt h s r = absurd r
    store_rises k (c ∷ rest) [] left raised lt h s r = absurd s
    store_rises k (c ∷ rest) (x ∷ xs) left raised lt h s r =
        let there : k < length slots = omega (arith, lt, count) in
        let class : IsClass L (slice_index slots k) = All-get_or (IsClass L) slots k 0 there others in
        let up : Below L c (slice_index slots k) =
        laws.transitive c x (slice_index slots k) h.0 h.1 class h.2 s.0 in
        subst (λ l. AllBelow L l slots) (sym r.set)
        (below_set L classes slots k r.join below lt r.is_join.within
        (r.is_join.least (slice_index slots k) class (below_at L classes slots k below lt) up))

    -- A class that an instruction raises rises no higher.
    pub rises_below : (i : Instr) (now held left raised : List ℕ) → IfSome (slot_of i) (λ k. k < length classes)
        → AllBelow L now held → Passes L slots i held left → RisesBy L classes i now raised → AllBelow L raised slots
    rises_below (Push n) now held left raised lt h p r = absurd r
    rises_below (Load k) now held left raised lt h p r = absurd r
    rises_below (Store k) now held left raised lt h p r = store_rises k now held left raised lt h p r
    rises_below Add now held left raised lt h p r = absurd r
    rises_below Sub now held left raised lt h p r = absurd r
    rises_below Mul now held left raised lt h p r = absurd r
    rises_below Eq now held left raised lt h p r = absurd r
    rises_below Lt now held left raised lt h p r = absurd r
    rises_below (Jz t) now held left raised lt h p r = absurd r
    rises_below (Jmp t) now held left raised lt h p r = absurd r
    rises_below Halt now held left raised lt h p r = absurd r

  -- The distance to the top falls if a class rises.
  rises_nearer : (classes : List ℕ) (k c : ℕ) (raised : List ℕ) → All (IsClass L) classes → k < length classes
      → Rises L classes k c raised → distance L.leq L.count raised < distance L.leq L.count classes
  rises_nearer classes k c raised all lt r =
      let own : IsClass L (slice_index classes k) = All-get_or (IsClass L) classes k 0 lt all in
      let j = r.join in
      distance_falls L.leq L.count classes raised k j lt r.set r.is_join.within
      (elim (cases_Bool (L.leq j (slice_index classes k))) [
        | inl t ↦ absurd (both_ways _ r.higher
            (laws.transitive c j (slice_index classes k) r.within r.is_join.within own r.is_join.right t))
        | inr f ↦ f
      ])
      (laws.reflexive j r.is_join.within)
      (λ x lx low. laws.transitive x (slice_index classes k) j lx own r.is_join.within low r.is_join.left)

  -- It falls if a STORE raises a class.
  store_nearer : (classes : List ℕ) (k : ℕ) (now raised : List ℕ) → All (IsClass L) classes → k < length classes
      → OnTop (λ c. Rises L classes k c raised) now
      → distance L.leq L.count raised < distance L.leq L.count classes
  store_nearer classes k [] raised all lt r = absurd r
  store_nearer classes k (c ∷ rest) raised all lt r = rises_nearer classes k c raised all lt r

  -- It falls if an instruction raises a class.
  pub instr_nearer : (classes : List ℕ) (i : Instr) (now raised : List ℕ) → All (IsClass L) classes
      → IfSome (slot_of i) (λ k. k < length classes) → RisesBy L classes i now raised
      → distance L.leq L.count raised < distance L.leq L.count classes
  instr_nearer classes (Push n) now raised all lt r = absurd r
  instr_nearer classes (Load k) now raised all lt r = absurd r
  instr_nearer classes (Store k) now raised all lt r = store_nearer classes k now raised all lt r
  instr_nearer classes Add now raised all lt r = absurd r
  instr_nearer classes Sub now raised all lt r = absurd r
  instr_nearer classes Mul now raised all lt r = absurd r
  instr_nearer classes Eq now raised all lt r = absurd r
  instr_nearer classes Lt now raised all lt r = absurd r
  instr_nearer classes (Jz t) now raised all lt r = absurd r
  instr_nearer classes (Jmp t) now raised all lt r = absurd r
  instr_nearer classes Halt now raised all lt r = absurd r
