-- Two runs of a steady image, from their start on.
use Rattle.std.proofs.Common.{◌≡◌, ℕ, zero, suc, ◌+◌, ◌-◌, ◌<◌, ◌≤◌, List, [], ◌∷◌, ◌++◌, length, take, drop, get_or, Some, None, Bool, true, false, refl, sym, ap, subst, ◌∙◌, arith, inl, inr, option_and_then, fold, replicate}
use Rattle.std.specs.Prelude.{slice_get, slice_index, IfSome, IsSomeAnd, IsTrue, ℤ, pos}
use Rattle.std.specs.Option.{option_map_or}
use Rattle.std.proofs.lemmas.Bool.{cases_lt, false≢true}
use Rattle.std.proofs.lemmas.List.{drop_more, get_or_append_left, get_or-append_right, get_or-replicate, get_or-take, length-append, length-map, length-replicate}
use Rattle.std.proofs.lemmas.Option.{slice_get-get_or, slice_get_within, same_Some}
use Rattle.vsi_lattice.specs.Order.{Lattice, IsLattice, IsClass, Below}
use Rattle.vsi_image.specs.declared.instr.Instr.{Instr}
use Rattle.vsi_image.specs.declared.instr.Instr.TheVariants.{Push, Load, Store, Add, Sub, Mul, Eq, Lt, Jz, Jmp, Halt}
use Rattle.vsi_image.specs.declared.instr.Image.{Image}
use Rattle.vsi_image.specs.Effects.{slot_of, leaves_none, goes_off, depth_after, depth_at}
use Rattle.vsi_image.specs.Fields.{global, globals}
use Rattle.vsi_image.specs.Valid.{IsValid}
use Rattle.vsi_image.specs.Meaning.{State, acted, after, ended, stepped}
use Rattle.vsi_machine.specs.Sound.{IsSound}
use Rattle.vsi_machine.proofs.Steps.{Moved, moved, sound_on}
use Rattle.vsi_lattice.specs.Known.{Known}
use Rattle.vsi_store.specs.View.{is_seen}
use Rattle.vsi_steady.specs.Steady.{Operates, Stores, Passes, GoesThrough, IsSteady}
use Rattle.vsi_compiler.specs.Observation.{AgreeAt}
use Rattle.vsi_steady.specs.Laws.{AgreeBelow, is_slot_seen, write_to, write_of, next_write, writes, StandAlike, SteadyRunsAlike}
use Rattle.vsi_steady.proofs.Alike.{SameOperands, SameSlots, both_pass}

-- ---- the operands at a place.

-- An operator leaves one operand fewer.
operates_depth : (L : Lattice) (held rest : List ℕ) → Operates L held rest → length rest ≡ length held - 2 + 1
operates_depth L [] rest p = absurd p
operates_depth L (b ∷ []) rest p = absurd p
operates_depth L (b ∷ a ∷ held) rest p = omega (arith, ap length p.4)

-- A STORE leaves one operand fewer.
stores_depth : (L : Lattice) (slot : ℕ) (held rest : List ℕ) → Stores L slot held rest → length rest + 1 ≡ length held
stores_depth L slot [] rest p = absurd p
stores_depth L slot (c ∷ held) rest p = omega (arith, ap length p.1)

-- An instruction leaves as many operands as the verifier computes.
passes_depth : (L : Lattice) (slots : List ℕ) (i : Instr) (held rest : List ℕ) → Passes L slots i held rest
    → length rest ≡ depth_after (length held) i
passes_depth L slots (Push n) held rest p = omega (arith, ap length p)
passes_depth L slots (Load k) held rest p = omega (arith, ap length p)
passes_depth L slots (Store k) held rest p = omega (arith, stores_depth L (slice_index slots k) held rest p)
passes_depth L slots Add held rest p = operates_depth L held rest p
passes_depth L slots Sub held rest p = operates_depth L held rest p
passes_depth L slots Mul held rest p = operates_depth L held rest p
passes_depth L slots Eq held rest p = operates_depth L held rest p
passes_depth L slots Lt held rest p = operates_depth L held rest p
passes_depth L slots (Jz t) held rest p = omega (arith, ap length p.0, ap length p.1)
passes_depth L slots (Jmp t) held rest p = ap length p.1
passes_depth L slots Halt held rest p = ap length p.1

-- An instruction that may leave no operand leaves none.
none_left : (L : Lattice) (slots : List ℕ) (i : Instr) (held rest : List ℕ) → Passes L slots i held rest
    → leaves_none i ≡ true → rest ≡ []
none_left L slots (Push n) held rest p h = absurd (false≢true h)
none_left L slots (Load k) held rest p h = absurd (false≢true h)
none_left L slots (Store k) held rest p h = absurd (false≢true h)
none_left L slots Add held rest p h = absurd (false≢true h)
none_left L slots Sub held rest p h = absurd (false≢true h)
none_left L slots Mul held rest p h = absurd (false≢true h)
none_left L slots Eq held rest p h = absurd (false≢true h)
none_left L slots Lt held rest p h = absurd (false≢true h)
none_left L slots (Jz t) held rest p h = p.1
none_left L slots (Jmp t) held rest p h = p.1
none_left L slots Halt held rest p h = p.1

-- The code continues at each of its places with as many operands as the verifier computes.
held_at : (L : Lattice) (slots : List ℕ) (is : List Instr) (held : List ℕ) (t : ℕ) → GoesThrough L slots is held
    → t < length is
    → (h : List ℕ) × GoesThrough L slots (drop t is) h × (length h ≡ fold depth_after (length held) (take t is))
held_at L slots is held zero goes lt = (held, goes, refl)
held_at L slots [] held (suc t) goes lt = absurd (omega (arith, lt))
held_at L slots (i ∷ is) held (suc t) goes lt =
    let on = held_at L slots is goes.0 t goes.2 (omega (arith, lt)) in
    (on.0, on.1, on.2 ∙ ap (λ n. fold depth_after n (take t is)) (passes_depth L slots i held goes.0 goes.1))

-- A list of length 0 is empty.
none_there : (l : List ℕ) → length l ≡ 0 → l ≡ []
none_there [] e = refl
none_there (x ∷ l) e = absurd (omega (arith, e))

-- A list with a last element is not empty.
some_code : (code : List Instr) → IsSomeAnd (slice_get code (length code - 1)) (λ i. IsTrue (goes_off i))
    → 0 < length code
some_code [] ends = absurd ends
some_code (i ∷ is) ends = omega arith

module _ (known : Known) (L : Lattice) (image : Image) (laws : IsLattice L) (valid : IsValid image)
    (steady : IsSteady known L image) (a : ℕ) (class : IsClass L a) where
  -- Two runs are at this place with these operands and slots, and agree.
  record Alike (pc : ℕ) (o o' m m' : List ℤ) : Type 0 where
    pub sound : IsSound image pc (length o) (length m)
    pub full : length m' ≡ image.slots
    pub held : List ℕ
    pub goes : GoesThrough L steady.slots (drop pc image.code.items) held
    pub operands : SameOperands L a held o o'
    pub words : SameSlots L a steady.slots m m'

  -- The code continues at the place to which an instruction leads.
  goes_next : (i : Instr) (pc : ℕ) (held rest : List ℕ) (o m : List ℤ) (st : State)
      → slice_get image.code.items pc ≡ Some i → GoesThrough L steady.slots (drop pc image.code.items) held
      → Passes L steady.slots i held rest → GoesThrough L steady.slots (drop (pc + 1) image.code.items) rest
      → Moved i pc o m st → GoesThrough L steady.slots (drop st.pc image.code.items) rest
  goes_next i pc held rest o m st e here p on v =
      let code = image.code.items in
      elim v.place [
        | inl q ↦ subst (λ n. GoesThrough L steady.slots (drop n code) rest) (sym q.0) on
        | inr w ↦ elim w [
          | inl q ↦
              let target : (st.pc < length code) × (depth_at code st.pc ≡ 0) =
              subst (λ t. IfSome t (λ t. (t < length code) × (depth_at code t ≡ 0))) q.0 (valid.each pc i e).target in
              let there = held_at L steady.slots code [] st.pc steady.code target.0 in
              let none : there.0 ≡ rest =
              none_there there.0 (there.2 ∙ target.1) ∙ sym (none_left L steady.slots i held rest p q.1) in
              subst (λ h. GoesThrough L steady.slots (drop st.pc code) h) none there.1
          | inr q ↦
              let none : (held ≡ []) × (rest ≡ []) = subst (λ x. Passes L steady.slots x held rest) q.1 p in
              subst (λ n. GoesThrough L steady.slots (drop n code) rest) (sym q.0)
              (subst (λ h. GoesThrough L steady.slots (drop pc code) h) (none.0 ∙ sym none.1) here)
        ]
      ]

  -- A global that the class sees has a class at or below it.
  seen_below : (k : ℕ) → is_slot_seen known L a image k ≡ true → Below L (slice_index steady.slots k) a
  seen_below k h =
      elim (slice_get (globals image.globals.items) k) as (λ o. slice_get (globals image.globals.items) k ≡ o
      → option_map_or (λ g. is_seen known L a g.1) o false ≡ true → Below L (slice_index steady.slots k) a) [
        | None ↦ λ e s. absurd (false≢true s)
        | Some g ↦ λ e s.
            subst (λ c. option_map_or (λ c. L.leq c a) c false ≡ true) (steady.have.globals k g e) s
      ] refl h

  -- A stored word is the same in both runs if the class sees the slot.
  write_same : (k : ℕ) (held rest : List ℕ) (o o' : List ℤ) (seen : Bool) → k < length steady.slots
      → Stores L (slice_index steady.slots k) held rest → SameOperands L a held o o'
      → (seen ≡ true → Below L (slice_index steady.slots k) a) → write_to seen k o ≡ write_to seen k o'
  write_same k [] rest o o' seen lt p same low = absurd p
  write_same k (c ∷ held) rest [] o' seen lt p same low = absurd same
  write_same k (c ∷ held) rest (v ∷ o) [] seen lt p same low = absurd same
  write_same k (c ∷ held) rest (v ∷ o) (w ∷ o') false lt p same low = refl
  write_same k (c ∷ held) rest (v ∷ o) (w ∷ o') true lt p same low =
      let slot : IsClass L (slice_index steady.slots k) = steady.have.classes k 0 lt in
      ap (λ x. (k, x) ∷ [])
      (same.1 (laws.transitive c (slice_index steady.slots k) a same.0 slot class p.0 (low refl)))

  -- Every write of an instruction is the same in both runs.
  writes_same : (i : Instr) (held rest : List ℕ) (o o' : List ℤ) → Passes L steady.slots i held rest
      → IfSome (slot_of i) (λ k. k < length steady.slots) → SameOperands L a held o o'
      → write_of known L a image o i ≡ write_of known L a image o' i
  writes_same (Push n) held rest o o' p lt same = refl
  writes_same (Load k) held rest o o' p lt same = refl
  writes_same (Store k) held rest o o' p lt same =
      write_same k held rest o o' (is_slot_seen known L a image k) lt p same (seen_below k)
  writes_same Add held rest o o' p lt same = refl
  writes_same Sub held rest o o' p lt same = refl
  writes_same Mul held rest o o' p lt same = refl
  writes_same Eq held rest o o' p lt same = refl
  writes_same Lt held rest o o' p lt same = refl
  writes_same (Jz t) held rest o o' p lt same = refl
  writes_same (Jmp t) held rest o o' p lt same = refl
  writes_same Halt held rest o o' p lt same = refl

  -- The next states of two runs that agree.
  record Next (pc : ℕ) (o o' m m' : List ℤ) : Type 0 where
    pub place : ℕ
    pub halted : Bool
    pub rest : List ℤ
    pub rest' : List ℤ
    pub slots : List ℤ
    pub slots' : List ℤ
    pub did : stepped image.code.items (ended pc false o m) ≡ Some (ended place halted rest slots)
    pub did' : stepped image.code.items (ended pc false o' m') ≡ Some (ended place halted rest' slots')
    pub alike : Alike place rest rest' slots slots'
    pub write : next_write known L a image (ended pc false o m) ≡ next_write known L a image (ended pc false o' m')

  -- Two runs that agree have such next states.
  next : (pc : ℕ) (o o' m m' : List ℤ) → Alike pc o o' m m' → Next pc o o' m m'
  next pc o o' m m' h =
      let code = image.code.items in
      let i = get_or code pc (Push (pos 0)) in
      let e : slice_get code pc ≡ Some i = slice_get-get_or code pc (Push (pos 0)) h.sound.within in
      let here : GoesThrough L steady.slots (i ∷ drop (pc + 1) code) h.held =
      subst (λ l. GoesThrough L steady.slots l h.held) (drop_more code pc (Push (pos 0)) h.sound.within) h.goes in
      let slot : IfSome (slot_of i) (λ k. k < length steady.slots) =
      subst (λ n. IfSome (slot_of i) (λ k. k < n)) (sym steady.have.count) (valid.each pc i e).slot in
      let b = both_pass L laws a class steady.slots steady.have.classes i pc h.held here.0 o o' m m' here.1 slot
      (h.sound.all_slots ∙ sym steady.have.count) (h.full ∙ sym steady.have.count) h.operands h.words in
      let st = ended b.place b.halted b.rest b.slots in
      let st' = ended b.place b.halted b.rest' b.slots' in
      let v = moved i pc o m st b.did in
      let v' = moved i pc o' m' st' b.did' in
      record {
        place = b.place;
        halted = b.halted;
        rest = b.rest;
        rest' = b.rest';
        slots = b.slots;
        slots' = b.slots';
        did = ap (option_and_then (λ i. acted i pc o m)) e ∙ b.did;
        did' = ap (option_and_then (λ i. acted i pc o' m')) e ∙ b.did';
        alike = record {
          sound = sound_on image pc i o m st h.sound e v;
          full = v'.count ∙ h.full;
          held = here.0;
          goes = goes_next i pc h.held here.0 o m st e h.goes here.1 here.2 v;
          operands = b.operands;
          words = b.words;
        };
        write = ap (λ x. option_map_or (write_of known L a image o) x []) e
            ∙ writes_same i h.held here.0 o o' here.1 slot h.operands
            ∙ sym (ap (λ x. option_map_or (write_of known L a image o') x []) e);
      }

  -- The states of two runs that agree, after n instructions.
  record Later (n pc : ℕ) (halted : Bool) (o o' m m' : List ℤ) : Type 0 where
    pub place : ℕ
    pub is_halted : Bool
    pub rest : List ℤ
    pub rest' : List ℤ
    pub slots : List ℤ
    pub slots' : List ℤ
    pub reached : after image.code.items n (ended pc halted o m) ≡ Some (ended place is_halted rest slots)
    pub reached' : after image.code.items n (ended pc halted o' m') ≡ Some (ended place is_halted rest' slots')
    pub alike : Alike place rest rest' slots slots'
    pub write : writes known L a image n (ended pc halted o m) ≡ writes known L a image n (ended pc halted o' m')

  -- One instruction is followed by n others.
  one_more : (n pc : ℕ) (o o' m m' : List ℤ) (x : Next pc o o' m m')
      → Later n x.place x.halted x.rest x.rest' x.slots x.slots' → Later (suc n) pc false o o' m m'
  one_more n pc o o' m m' x y =
      let code = image.code.items in
      let first = next_write known L a image (ended pc false o m) in
      let first' = next_write known L a image (ended pc false o' m') in
      record {
        place = y.place;
        is_halted = y.is_halted;
        rest = y.rest;
        rest' = y.rest';
        slots = y.slots;
        slots' = y.slots';
        reached = ap (option_and_then (after code n)) x.did ∙ y.reached;
        reached' = ap (option_and_then (after code n)) x.did' ∙ y.reached';
        alike = y.alike;
        write = ap (λ s. first ++ option_map_or (writes known L a image n) s []) x.did
            ∙ ap (λ l. first ++ l) y.write
            ∙ ap (λ l. l ++ writes known L a image n (ended x.place x.halted x.rest' x.slots')) x.write
            ∙ sym (ap (λ s. first' ++ option_map_or (writes known L a image n) s []) x.did');
      }

  -- Two runs that agree still agree after any number of instructions.
  later : (n pc : ℕ) (halted : Bool) (o o' m m' : List ℤ) → Alike pc o o' m m' → Later n pc halted o o' m m'
  later zero pc halted o o' m m' h =
      record {
        place = pc;
        is_halted = halted;
        rest = o;
        rest' = o';
        slots = m;
        slots' = m';
        reached = refl;
        reached' = refl;
        alike = h;
        write = refl;
      }
  later (suc n) pc true o o' m m' h =
      let y = later n pc true o o' m m' h in
      record {
        place = y.place;
        is_halted = y.is_halted;
        rest = y.rest;
        rest' = y.rest';
        slots = y.slots;
        slots' = y.slots';
        reached = y.reached;
        reached' = y.reached';
        alike = y.alike;
        write = y.write;
      }
  later (suc n) pc false o o' m m' h =
      let x = next pc o o' m m' h in
      one_more n pc o o' m m' x (later n x.place x.halted x.rest x.rest' x.slots x.slots' x.alike)

  -- The words of an image's slots at the start.
  begun : List ℤ → List ℤ
  begun m = m ++ replicate (image.slots - length m) (pos 0)

  -- There is one for each slot.
  begun_count : (m : List ℤ) → length m ≡ length image.globals.items → length (begun m) ≡ image.slots
  unfolding begun
  begun_count m full =
      let few : length m ≤ image.slots =
      omega (arith, full, valid.allowed.slots_above, length-map image.globals.items global) in
      length-append m _ ∙ omega (arith, few, length-replicate (image.slots - length m) (pos 0))

  -- The words after those of the globals are 0.
  begun_zero : (m : List ℤ) (k : ℕ) → length m ≤ k → k < image.slots → get_or (begun m) k (pos 0) ≡ pos 0
  unfolding begun
  begun_zero m k past lt =
      get_or-append_right m (replicate (image.slots - length m) (pos 0)) (length m) k (pos 0) refl past
      ∙ get_or-replicate (image.slots - length m) (k - length m) (pos 0) (pos 0) (omega (arith, past, lt))

  -- The starts from two stores that agree are alike.
  begun_alike : (m m' : List ℤ) → AgreeBelow known L image a m m' → SameSlots L a steady.slots (begun m) (begun m')
  unfolding begun
  begun_alike m m' h k lt below =
      elim (cases_lt k (length m)) [
        | inl near ↦
            let count = length-map image.globals.items global in
            let within : k < length (globals image.globals.items) = omega (arith, near, h.full, count) in
            let g = get_or (globals image.globals.items) k ([], []) in
            let e : slice_get (globals image.globals.items) k ≡ Some g =
            slice_get-get_or (globals image.globals.items) k ([], []) within in
            get_or_append_left m _ (pos 0) k near
            ∙ h.agree k g (slice_index steady.slots k) e (steady.have.globals k g e) below
            ∙ sym (get_or_append_left m' _ (pos 0) k (omega (arith, near, h.full, h.full')))
        | inr far ↦
            begun_zero m k far (omega (arith, lt, steady.have.count))
            ∙ sym (begun_zero m' k (omega (arith, far, h.full, h.full')) (omega (arith, lt, steady.have.count)))
      ]

  -- If slots are alike, the globals agree.
  agree_last : (m m' : List ℤ) → SameSlots L a steady.slots m m'
      → AgreeAt known L image a (take (length image.globals.items) m) (take (length image.globals.items) m')
  agree_last m m' words i g c at is below =
      let count = length-map image.globals.items global in
      let near : i < length image.globals.items =
      omega (arith, count, slice_get_within (globals image.globals.items) i g at) in
      let lt : i < length steady.slots = omega (arith, near, count, valid.allowed.slots_above, steady.have.count) in
      let same : c ≡ slice_index steady.slots i = same_Some _ _ (sym is ∙ steady.have.globals i g at) in
      get_or-take (length image.globals.items) m i (pos 0) near
      ∙ words i lt (subst (λ c. Below L c a) same below)
      ∙ sym (get_or-take (length image.globals.items) m' i (pos 0) near)

  -- Two runs from stores that agree are alike after any number of instructions.
  pub stand_alike : (m m' : List ℤ) (n : ℕ) → AgreeBelow known L image a m m' → StandAlike known L image a m m' n
  unfolding begun
  stand_alike m m' n h =
      let count = begun_count m h.full in
      let first : Alike 0 [] [] (begun m) (begun m') =
      record {
        sound = record {
          valid = valid;
          within = some_code image.code.items valid.ends;
          at_depth = refl;
          all_slots = count;
        };
        full = begun_count m' h.full';
        held = [];
        goes = steady.code;
        operands = tt;
        words = begun_alike m m' h;
      } in
      let y = later n 0 false [] [] (begun m) (begun m') first in
      record {
        state = ended y.place y.is_halted y.rest y.slots;
        state' = ended y.place y.is_halted y.rest' y.slots';
        reached = y.reached;
        reached' = y.reached';
        place = refl;
        halted = refl;
        agree = agree_last y.slots y.slots' y.alike.words;
        writes = y.write;
      }

-- The law of runs.
pub steady_runs_alike : SteadyRunsAlike
steady_runs_alike known L image laws valid steady a m m' n h =
    stand_alike known L image laws valid steady a h.class m m' n h
