-- The classes of the globals, one after another.
use Rattle.std.proofs.Common.{◌≡◌, ℕ, zero, suc, ◌+◌, ◌<◌, List, [], ◌∷◌, ◌++◌, drop, take, get_or, length, Some, None, true, refl, sym, ap, subst, ◌∙◌, arith, inl, inr}
use Rattle.std.specs.Prelude.{slice_get, slice_index}
use Rattle.std.specs.List.{All}
use Rattle.std.specs.Option.{option_map}
use Rattle.std.specs.Global.{Vec}
use Rattle.std.specs.Prelude.{replicate, ◌≤◌, ◌-◌, if◌then◌else◌, is_some}
use Rattle.std.proofs.lemmas.Bool.{cases_eq}
use Rattle.std.proofs.lemmas.List.{drop_more, get_or_append_left, get_or_push, take_all, length_push, length-append, length-map, length-replicate}
use Rattle.std.proofs.lemmas.List.Elements.{All-push, All-append, All-replicate}
use Rattle.std.proofs.lemmas.Option.{none-some, slice_get-map, slice_get-get_or, slice_get_within, same_Some}
use Rattle.vsi_image.specs.declared.instr.Image.{Image}
use Rattle.vsi_image.specs.Fields.{Global, global, globals}
use Rattle.vsi_lattice.specs.Order.{Lattice, IsLattice, IsClass, Below}
use Rattle.vsi_lattice.specs.Known.{Known}
use Rattle.vsi_store.specs.View.{first_unknown}
use Rattle.vsi_steady.specs.Least.{AllBelow, AreLeast}
use Rattle.vsi_steady.specs.Refusal.{Refuses}
use Rattle.vsi_steady.specs.Steady.{HaveClasses, IsSteady}
use Rattle.vsi_steady.specs.declared.check.SteadyError.{SteadyError}
use Rattle.vsi_steady.specs.declared.check.SteadyError.TheVariants.{UnknownClass, Flow, Memory}

-- These are the classes of the first n globals, and no class name so far is unknown.
pub record FirstClasses (known : Known) (L : Lattice) (gs : List (Vec ℕ × Vec ℕ)) (n : ℕ)
    (classes : List ℕ) : Type 0 where
  pub count : length classes ≡ n
  pub within : All (IsClass L) classes
  pub named : (i : ℕ) (g : Global) → i < n → slice_get (globals gs) i ≡ Some g
      → known g.1 ≡ Some (slice_index classes i)
  pub unknown : first_unknown known n (globals (drop n gs)) ≡ first_unknown known 0 (globals gs)

-- The classes are extended by the next one.
pub first_more : (known : Known) (L : Lattice) (gs : List (Vec ℕ × Vec ℕ)) (n : ℕ) (classes : List ℕ) (c : ℕ)
    (d : Vec ℕ × Vec ℕ) → FirstClasses known L gs n classes → n < length gs → known (global (get_or gs n d)).1 ≡ Some c
    → IsClass L c → FirstClasses known L gs (n + 1) (classes ++ c ∷ [])
first_more known L gs n classes c d f lt is class =
    let g = get_or gs n d in
    let cut : drop n gs ≡ g ∷ drop (n + 1) gs = drop_more gs n d lt in
    let pass : first_unknown known n (globals (g ∷ drop (n + 1) gs))
    ≡ first_unknown known (n + 1) (globals (drop (n + 1) gs)) =
    ap (λ o. if is_some o then first_unknown known (n + 1) (globals (drop (n + 1) gs)) else Some n) is in
    record {
      count = length_push classes c ∙ ap (λ k. k + 1) f.count;
      within = All-push (IsClass L) classes c f.within class;
      named = λ i h near at.
          elim (cases_eq i n) [
            | inl e ↦
                let there : slice_get (globals gs) n ≡ Some (global g) =
                slice_get-map global gs n ∙ ap (option_map global) (slice_get-get_or gs n d lt) in
                let same : h ≡ global g = same_Some h (global g) (sym at ∙ ap (slice_get (globals gs)) e ∙ there) in
                ap (λ x. known x.1) same ∙ is ∙ ap Some (sym (get_or_push classes c 0 i (f.count ∙ sym e)))
            | inr e ↦
                f.named i h (omega (arith, near, e)) at
                ∙ ap Some (sym (get_or_append_left classes (c ∷ []) 0 i (omega (arith, near, e, f.count))))
          ];
      unknown = sym pass ∙ sym (ap (λ l. first_unknown known n (globals l)) cut) ∙ f.unknown;
    }

-- The classes of all globals are extended by the bottom class for each other slot.
pub first_all : (known : Known) (L : Lattice) (image : Image) (gs : List (Vec ℕ × Vec ℕ)) (n bottom len : ℕ)
    (classes : List ℕ)
    → FirstClasses known L gs n classes → gs ≡ image.globals.items → n ≡ length gs
    → length image.globals.items ≤ image.slots → IsClass L bottom → len ≡ length classes
    → HaveClasses known L image (take image.slots classes ++ replicate (image.slots - len) bottom)
first_all known L image gs n bottom len classes f same all room class full =
    let count : length classes ≡ length image.globals.items = f.count ∙ all ∙ ap length same in
    let rest = replicate (image.slots - len) bottom in
    let whole : take image.slots classes ≡ classes = take_all image.slots classes (omega (arith, count, room)) in
    subst (λ l. HaveClasses known L image (l ++ rest)) (sym whole)
    (record {
      count = length-append classes rest ∙
          omega (arith, count, room, full, length-replicate (image.slots - len) bottom);
      classes = All-append (IsClass L) classes rest f.within
          (All-replicate (IsClass L) (image.slots - len) bottom class);
      globals = λ i g at.
          let there : slice_get (globals gs) i ≡ Some g = ap (λ l. slice_get (globals l) i) same ∙ at in
          let near : i < n = omega (arith, all, slice_get_within (globals gs) i g there, length-map gs global) in
          f.named i g near there ∙ ap Some (sym (get_or_append_left classes rest 0 i (omega (arith, near, f.count))));
    })

-- Two assignments of classes to the slots give a global the same class.
pub same_global : (known : Known) (L : Lattice) (image : Image) (classes slots : List ℕ)
    → HaveClasses known L image classes → HaveClasses known L image slots → (j : ℕ) → j < length image.globals.items
    → slice_index slots j ≡ slice_index classes j
same_global known L image classes slots have others j lt =
    let gs = globals image.globals.items in
    let within : j < length gs = omega (arith, lt, length-map image.globals.items global) in
    let g : Global = get_or gs j ([], []) in
    let at : slice_get gs j ≡ Some g = slice_get-get_or gs j ([], []) within in
    same_Some (slice_index slots j) (slice_index classes j) (sym (others.globals j g at) ∙ have.globals j g at)

-- The bottom class is at or below every class.
bottoms_below : (L : Lattice) → IsLattice L → (n : ℕ) (ys : List ℕ) → length ys ≡ n → All (IsClass L) ys
    → AllBelow L (replicate n L.bottom) ys
bottoms_below L laws zero [] e all = tt
bottoms_below L laws zero (y ∷ ys) e all = absurd (omega (arith, e))
bottoms_below L laws (suc n) [] e all = absurd (omega (arith, e))
bottoms_below L laws (suc n) (y ∷ ys) e all =
    let class : IsClass L y = all 0 0 (omega arith) in (
      laws.bottom_within,
      class,
      laws.bottom_least y class,
      bottoms_below L laws n ys (omega (arith, e)) (λ k d lt. all (suc k) d (omega (arith, lt))),
    )

-- The same classes followed by bottom classes are at or below.
filled_below : (L : Lattice) → IsLattice L → (n : ℕ) (xs ys : List ℕ) → length ys ≡ length xs + n
    → All (IsClass L) xs → All (IsClass L) ys
    → ((j : ℕ) → j < length xs → slice_index ys j ≡ slice_index xs j) → AllBelow L (xs ++ replicate n L.bottom) ys
filled_below L laws n [] ys e all others same = bottoms_below L laws n ys (omega (arith, e)) others
filled_below L laws n (x ∷ xs) [] e all others same = absurd (omega (arith, e))
filled_below L laws n (x ∷ xs) (y ∷ ys) e all others same =
    let class : IsClass L x = all 0 0 (omega arith) in (
      class,
      others 0 0 (omega arith),
      subst (λ z. Below L x z) (sym (same 0 (omega arith))) (laws.reflexive x class),
      filled_below L laws n xs ys (omega (arith, e)) (λ k d lt. all (suc k) d (omega (arith, lt)))
          (λ k d lt. others (suc k) d (omega (arith, lt))) (λ j lt. same (suc j) (omega (arith, lt))),
    )

-- The classes of the globals, followed by bottom classes, are the least.
pub first_least : (known : Known) (L : Lattice) (image : Image) (n : ℕ) (classes : List ℕ) → IsLattice L
    → HaveClasses known L image (classes ++ replicate n L.bottom) → All (IsClass L) classes
    → length classes ≡ length image.globals.items
    → AreLeast known L image (classes ++ replicate n L.bottom)
first_least known L image n classes laws have all count s =
    let rest = replicate n L.bottom in
    filled_below L laws n classes s.slots
    (omega (arith, s.have.count, have.count, length-append classes rest, length-replicate n L.bottom)) all
    s.have.classes
    (λ j lt. same_global known L image (classes ++ rest) s.slots have s.have j (omega (arith, lt, count))
    ∙ get_or_append_left classes rest 0 j lt)

-- The resized classes are also the least.
pub first_resized : (known : Known) (L : Lattice) (image : Image) (gs : List (Vec ℕ × Vec ℕ)) (n bottom len : ℕ)
    (classes : List ℕ) → IsLattice L → FirstClasses known L gs n classes → gs ≡ image.globals.items → n ≡ length gs
    → length image.globals.items ≤ image.slots → bottom ≡ L.bottom
    → HaveClasses known L image (take image.slots classes ++ replicate (image.slots - len) bottom)
    → AreLeast known L image (take image.slots classes ++ replicate (image.slots - len) bottom)
first_resized known L image gs n bottom len classes laws f same all room is have =
    let count : length classes ≡ length image.globals.items = f.count ∙ all ∙ ap length same in
    let whole : take image.slots classes ≡ classes = take_all image.slots classes (omega (arith, count, room)) in
    let here : take image.slots classes ++ replicate (image.slots - len) bottom
    ≡ classes ++ replicate (image.slots - len) L.bottom =
    ap (λ l. l ++ replicate (image.slots - len) bottom) whole
    ∙ ap (λ b. classes ++ replicate (image.slots - len) b) is in
    subst (λ l. AreLeast known L image l) (sym here)
    (first_least known L image (image.slots - len) classes laws (subst (λ l. HaveClasses known L image l) here have)
    f.within count)

-- If each class name denotes a class, none is unknown.
none_unknown : (known : Known) (n : ℕ) (gs : List Global)
    → ((i : ℕ) (g : Global) → slice_get gs i ≡ Some g → is_some (known g.1) ≡ true) → first_unknown known n gs ≡ None
none_unknown known n [] each = refl
none_unknown known n (g ∷ gs) each =
    ap (λ b. if b then first_unknown known (n + 1) gs else Some n) (each 0 g refl)
    ∙ none_unknown known (n + 1) gs (λ i h at. each (suc i) h at)

-- A steady image is refused only for lack of memory.
pub only_memory : (known : Known) (L : Lattice) (image : Image) (e : SteadyError) → Refuses known L image e
    → IsSteady known L image → e ≡ Memory
only_memory known L image (UnknownClass i) h s =
    let none = none_unknown known 0 (globals image.globals.items)
    (λ k g at. ap is_some (s.have.globals k g at)) in
    absurd (none-some i (sym none ∙ h))
only_memory known L image (Flow place) h s = absurd (h s)
only_memory known L image Memory h s = refl
