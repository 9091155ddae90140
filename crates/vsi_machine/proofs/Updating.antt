-- Lists that are updated from start to end.
use Rattle.std.proofs.Common.{◌≡◌, ◌≢◌, ℕ, zero, suc, ◌+◌, ◌<◌, ◌≤◌, ◌⊎◌, inl, inr, ℤ, List, [], ◌∷◌, length, get_or, Some, Bool, true, false, refl, sym, ap, ◌∙◌, subst, arith, length-set, length-append, ◌++◌}
use Rattle.std.specs.Prelude.{Contains, slice_get, slice_set}
use Rattle.std.proofs.lemmas.Option.{slice_get-get_or, slice_get_within, get_or_from_slice_get}
use Rattle.std.proofs.lemmas.Bool.{cases_lt}
use Rattle.std.proofs.lemmas.List.Elements.{Contains-append_left, Contains-push, Contains-push_cases}
use Rattle.vsi_image.specs.declared.instr.Instr.{Instr}
use Rattle.vsi_image.specs.declared.instr.Instr.TheVariants.{Store}
use Rattle.vsi_machine.specs.declared.loops.Known.{Known}
use Rattle.vsi_machine.specs.declared.loops.Known.TheVariants.{Number, Same, Moved, Below, Above, Any}
use Rattle.vsi_machine.specs.Facts.{AreSame}
use Rattle.vsi_machine.specs.Loops.{Enters, IsEntry, Keeps, Remains, Meets}
use Rattle.vsi_machine.proofs.Slots.{set_same, set_other}

-- The first facts of a list are updated, and the others are unchanged.
pub record Updated (R : ℕ → Known → Type 0) (initial xs : List Known) (i : ℕ) : Type 0 where
  pub count : length xs ≡ length initial
  pub before : (k : ℕ) (f : Known) → k < i → slice_get xs k ≡ Some f → R k f
  pub after : (k : ℕ) → i ≤ k → slice_get xs k ≡ slice_get initial k

-- At first no fact is updated.
pub updated_none : (R : ℕ → Known → Type 0) (initial : List Known) → Updated R initial initial 0
updated_none R initial = record {
  count = refl;
  before = λ k f lt s. absurd (omega (arith, lt));
  after = λ k le. refl;
}

-- The next fact is unchanged.
pub updated_next : (R : ℕ → Known → Type 0) (initial xs : List Known) (i : ℕ) (d : Known) → Updated R initial xs i
    → i < length xs → slice_get initial i ≡ Some (get_or xs i d)
updated_next R initial xs i d u lt = sym (u.after i (omega arith)) ∙ slice_get-get_or xs i d lt

-- The next fact is updated.
pub updated_more : (R : ℕ → Known → Type 0) (initial xs : List Known) (i : ℕ) (y : Known) → Updated R initial xs i
    → i < length xs → R i y → Updated R initial (slice_set xs i y) (i + 1)
updated_more R initial xs i y u lt r = record {
  count = length-set xs i y ∙ u.count;
  before = λ k f l s. elim (cases_lt k i) [
    | inl less ↦ let other : k ≢ i = omega (arith, less) in u.before k f less (sym (set_other xs i k y other) ∙ s)
    | inr ge ↦ let same : k ≡ i = omega (arith, l, ge) in by k f same s
  ];
  after = λ k le. let other : k ≢ i = omega (arith, le) in
      set_other xs i k y other ∙ u.after k (omega (arith, le));
}
  where
    some_is : (a b : Known) → Some a ≡ Some b → a ≡ b
    some_is a b e = cc

    by : (k : ℕ) (f : Known) → k ≡ i → slice_get (slice_set xs i y) k ≡ Some f → R k f
    by k f same s =
        let e : y ≡ f = some_is y f (sym (set_same xs i y lt) ∙ ap (slice_get (slice_set xs i y)) (sym same) ∙ s) in
        subst (λ n. R n f) (sym same) (subst (R i) e r)

-- In the end every fact is updated.
pub updated_all : (R : ℕ → Known → Type 0) (initial xs : List Known) (i : ℕ) → Updated R initial xs i → length xs ≤ i
    → (k : ℕ) (f : Known) → slice_get xs k ≡ Some f → R k f
updated_all R initial xs i u le k f s = u.before k f (omega (arith, slice_get_within xs k f s, le)) s

-- Equal stores are into the same slot.
pub store_same : (a b : ℕ) → Store a ≡ Store b → a ≡ b
store_same a b e = cc

-- One more instruction that doesn't store into a slot leaves its fact.
enters_more : (body : List Instr) (i : Instr) (facts : List Known) (k : ℕ) (f : Known) → i ≢ Store k
    → Enters body facts k f → Enters (body ++ i ∷ []) facts k f
enters_more body i facts k (Number n) ne e = (
  e.0,
  λ c. elim (Contains-push_cases body i (Store k) c) [
    | inl before ↦ e.1 before
    | inr same ↦ ne same
  ],
)
enters_more body i facts k (Same j) ne e =
    (e.0, λ n s. Contains-append_left body (i ∷ []) (Store k) (e.1 n s))
enters_more body i facts k (Moved j d) ne e = absurd e
enters_more body i facts k (Below j n) ne e = absurd e
enters_more body i facts k (Above j n) ne e = absurd e
enters_more body i facts k Any ne e = absurd e

-- One more instruction that stores into no slot.
pub unforgotten : (body : List Instr) (i : Instr) (facts entry : List Known)
    → ((k : ℕ) → k < length entry → i ≢ Store k) → IsEntry body facts entry → IsEntry (body ++ i ∷ []) facts entry
unforgotten body i facts entry ne e = record {
  count = e.count;
  each = λ k f s. enters_more body i facts k f (ne k (slice_get_within entry k f s)) (e.each k f s);
}

-- A slot whose number is forgotten.
pub forgotten : (body : List Instr) (facts entry : List Known) (slot : ℕ) → slot < length entry
    → IsEntry body facts entry → IsEntry (body ++ Store slot ∷ []) facts (slice_set entry slot (Same slot))
forgotten body facts entry slot lt e = record {
  count = length-set entry slot (Same slot) ∙ e.count;
  each = λ k f s. elim (cases_lt k slot) [
    | inl less ↦ let other : k ≢ slot = omega (arith, less) in apart k f other s
    | inr ge ↦ elim (cases_lt slot k) [
      | inl more ↦ let other : k ≢ slot = omega (arith, more) in apart k f other s
      | inr le ↦ let same : k ≡ slot = omega (arith, ge, le) in by k f same s
    ]
  ];
}
  where
    some_is : (a b : Known) → Some a ≡ Some b → a ≡ b
    some_is a b e = cc

    apart : (k : ℕ) (f : Known) → k ≢ slot → slice_get (slice_set entry slot (Same slot)) k ≡ Some f
        → Enters (body ++ Store slot ∷ []) facts k f
    apart k f other s =
        enters_more body (Store slot) facts k f (λ x. other (sym (store_same slot k x)))
        (e.each k f (sym (set_other entry slot k (Same slot) other) ∙ s))

    by : (k : ℕ) (f : Known) → k ≡ slot → slice_get (slice_set entry slot (Same slot)) k ≡ Some f
        → Enters (body ++ Store slot ∷ []) facts k f
    by k f same s =
        let x : Same slot ≡ f = some_is (Same slot) f (sym (set_same entry slot (Same slot) lt)
        ∙ ap (slice_get (slice_set entry slot (Same slot))) (sym same) ∙ s) in
        subst (Enters (body ++ Store slot ∷ []) facts k) x (
          sym same,
          λ n s. subst (λ (j : ℕ). Contains (body ++ Store slot ∷ []) (Store j)) (sym same)
              (Contains-push body (Store slot)),
        )

-- The first facts are kept.
abbrev pub KeepsBefore : ℕ → List Known → List Known → Type 0
KeepsBefore i entry turned =
    (k : ℕ) (n : ℤ) → k < i → slice_get entry k ≡ Some (Number n) → slice_get turned k ≡ Some (Number n)

-- One more fact is kept.
pub keeps_more : (entry turned : List Known) (i : ℕ) (d : Known) → KeepsBefore i entry turned → i < length entry
    → length turned ≡ length entry
    → ((n : ℤ) → get_or entry i d ≡ Number n → get_or turned i d ≡ Number n) → KeepsBefore (i + 1) entry turned
keeps_more entry turned i d h lt same is k n l s = elim (cases_lt k i) [
  | inl less ↦ h k n less s
  | inr ge ↦ let e : k ≡ i = omega (arith, l, ge) in
      let within : i < length turned = omega (arith, lt, same) in
      subst (λ j. slice_get turned j ≡ Some (Number n)) (sym e)
      (slice_get-get_or turned i d within ∙ ap Some (is n (get_or_from_slice_get entry i (Number n) d
      (ap (slice_get entry) (sym e) ∙ s))))
]

-- In the end all facts are kept.
pub keeps_all : (entry turned : List Known) (i : ℕ) → KeepsBefore i entry turned → length entry ≤ i
    → Keeps entry turned
keeps_all entry turned i h le k n s = h k n (omega (arith, slice_get_within entry k (Number n) s, le)) s

-- A fact that isn't kept shows that not all are.
pub keeps_not : (entry turned : List Known) (i : ℕ) (d : Known) (n : ℤ) → i < length entry
    → length turned ≡ length entry → get_or entry i d ≡ Number n → get_or turned i d ≢ Number n
    → Keeps entry turned → ⊥
keeps_not entry turned i d n lt same is other keeps =
    let within : i < length turned = omega (arith, lt, same) in
    other (some_fact (get_or turned i d) (Number n) (sym (slice_get-get_or turned i d within)
    ∙ keeps i n (slice_get-get_or entry i d lt ∙ ap Some is)))
  where
    some_fact : (a b : Known) → Some a ≡ Some b → a ≡ b
    some_fact a b e = cc

-- Equal items that are there are equal facts.
some_same : (a b : Known) → Some a ≡ Some b → a ≡ b
some_same a b e = cc

-- Facts that differ are at positions that do.
apart : (xs ys : List Known) (k : ℕ) (d : Known) → k < length xs → k < length ys → get_or xs k d ≢ get_or ys k d
    → slice_get xs k ≢ slice_get ys k
apart xs ys k d lt lt' ne e =
    ne (some_same (get_or xs k d) (get_or ys k d)
    (sym (slice_get-get_or xs k d lt) ∙ e ∙ slice_get-get_or ys k d lt'))

-- A slot after a loop.
pub remains_as : (facts entry turned : List Known) (slot k : ℕ) (last given : ℤ) (before d result : Known)
    (is_same : Bool)
    → ((k ≡ slot) × (result ≡ Number given)) ⊎ (((k ≢ slot) × (is_same ≡ true) × (result ≡ before))
    ⊎ ((k ≢ slot) × (is_same ≡ false) × (result ≡ Any)))
    → slice_get facts k ≡ Some before → (is_same ≡ true → get_or entry k d ≡ get_or turned k d)
    → (is_same ≡ false → get_or entry k d ≢ get_or turned k d) → k < length entry → k < length turned
    → given ≡ last → Remains facts entry turned slot last k result
remains_as facts entry turned slot k last given before d result is_same (inl p) at s o lt lt' g =
    inl (p.0, p.1 ∙ ap Number g)
remains_as facts entry turned slot k last given before d result is_same (inr (inl p)) at s o lt lt' g =
    inr (inl (
      p.0,
      at ∙ ap Some (sym p.2),
      slice_get-get_or entry k d lt ∙ ap Some (s p.1) ∙ sym (slice_get-get_or turned k d lt'),
    ))
remains_as facts entry turned slot k last given before d result is_same (inr (inr p)) at s o lt lt' g =
    inr (inr (p.0, p.2, apart entry turned k d lt lt' (o p.1)))

-- A slot at which two branches meet.
pub meets_as : (first second : List Known) (k : ℕ) (a d result : Known)
    → ((result ≡ a) × (result ≡ get_or second k d)) ⊎ ((result ≡ Any) × (a ≢ get_or second k d))
    → slice_get first k ≡ Some a → k < length second → Meets first second k result
meets_as first second k a d result (inl p) at lt =
    inl (at ∙ ap Some (sym p.0), slice_get-get_or second k d lt ∙ ap Some (sym p.1))
meets_as first second k a d result (inr p) at lt =
    inr (p.0, λ e. p.1 (some_same a (get_or second k d) (sym at ∙ e ∙ slice_get-get_or second k d lt)))

-- A property of each fact, and of one more.
push_each : (R : ℕ → Known → Type 0) (xs : List Known) (y : Known)
    → ((k : ℕ) (f : Known) → slice_get xs k ≡ Some f → R k f) → R (length xs) y
    → (k : ℕ) (f : Known) → slice_get (xs ++ y ∷ []) k ≡ Some f → R k f
push_each R [] y h r zero f s = let e : y ≡ f = cc in subst (R 0) e r
push_each R [] y h r (suc k) f s = absurd cc
push_each R (x ∷ xs) y h r zero f s = h zero f s
push_each R (x ∷ xs) y h r (suc k) f s = push_each (λ j. R (suc j)) xs y (λ k f s. h (suc k) f s) r k f s

-- One more slot.
pub fresh_more : (slots : ℕ) (facts left : List Known) → AreSame slots facts → left ≡ facts ++ Same slots ∷ []
    → AreSame (slots + 1) left
fresh_more slots facts left a e = record {
  count = ap length e ∙ (let long = length-append facts (Same slots ∷ []) in omega (arith, long, a.count));
  each = λ k f s. push_each (λ k f. f ≡ Same k) facts (Same slots) a.each (ap Same (sym a.count)) k f
      (ap (λ l. slice_get l k) (sym e) ∙ s);
}
