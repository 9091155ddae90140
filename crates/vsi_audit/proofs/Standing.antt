-- The relation of a program that was read back to its image.
use Rattle.std.proofs.Common.{◌≡◌, ℕ, ◌-◌, ◌<◌, true, bytes_eq, eqb, List, [], ◌∷◌, ◌++◌, Vec, Global as Heap, length, replicate, get_or, pos, refl, sym, ap, subst, ◌∙◌, Option, Some, None, IfSome, All, slice_get, unwrap_or}
use Rattle.std.specs.Option.{option_map}
use Rattle.std.proofs.lemmas.Bool.{eqb-true}
use Rattle.std.proofs.lemmas.List.Elements.{All-nil, All-cons, All-head, All-tail}
use Rattle.std.proofs.lemmas.Option.{slice_get-map, slice_get_read}
use Rattle.vsi_image.specs.declared.instr.Image.{Image}
use Rattle.vsi_image.specs.Fields as image
use Rattle.vsi_image.specs.Fields.{Fields, fields, global, globals}
use Rattle.vsi_image.specs.Meaning.{State, after, going}
use Rattle.vsi_image.proofs.Numbers.{both_true}
use Rattle.vsi_scope.specs.Language.{Command}
use Rattle.vsi_scope.specs.Meaning.{Store}
use Rattle.vsi_scope.specs.declared.resolved.Entry.{Entry}
use Rattle.vsi_scope.specs.declared.resolved.Global.{Global}
use Rattle.vsi_scope.specs.Program.{Resolved}
use Rattle.vsi_code.specs.Behaves.{Halts, Behaves}
use Rattle.vsi_code.specs.Names.{named_global, all_named}
use Rattle.vsi_lattice.specs.Known.{Known}
use Rattle.vsi_audit.specs.Refusal.{IsUnknownAt}
use Rattle.vsi_audit.specs.Standing.{HaveClasses, HasKnownClasses, StandsFor}

-- The state after a budget, from the fields alone.
reached_by : ℕ → Store → Fields → Option State
reached_by budget m f = after f.code budget (going 0 [] (m ++ replicate (f.slots - length m) (pos 0)))

-- A run of an image is a run of every image with the same fields.
halts_same : (a b : Image) → fields a ≡ fields b → (k : ℕ) (m m' : Store) (budget : ℕ) → Halts a k m budget m' →
    Halts b k m budget m'
unfolding reached_by
halts_same a b same k m m' budget h =
    record {
      state = h.state;
      reached = ap (reached_by budget m) (sym same) ∙ h.reached;
      halted = h.halted;
      words = h.words;
    }

-- An image behaves like every image with the same fields.
pub behaves_same : (a b : Image) → fields a ≡ fields b → (k : ℕ) (c : Command) → Behaves k c a → Behaves k c b
behaves_same a b same k c behaves =
    record {
      sound = λ m m' budget len h. behaves.sound m m' budget len (halts_same b a (sym same) k m m' budget h);
      complete = λ m m' len e.
          let p = behaves.complete m m' len e in
          (p.0, λ budget le. halts_same a b same k m m' budget (p.1 budget le));
    }

-- Texts that compare as equal are the same.
pub same_bytes : (xs ys : List ℕ) → bytes_eq xs ys ≡ true → xs ≡ ys
same_bytes [] [] h = refl
same_bytes [] (y ∷ ys) h = absurd cc
same_bytes (x ∷ xs) [] h = absurd cc
same_bytes (x ∷ xs) (y ∷ ys) h =
    let p = both_true (eqb x y) (bytes_eq xs ys) h in
    ap (λ (n : ℕ). n ∷ xs) (eqb-true x y p.0) ∙ ap (λ (zs : List ℕ). y ∷ zs) (same_bytes xs ys p.1)

-- A global's class name is unknown.
pub unknown_at : (known : Known) (gs : List (Vec ℕ Heap × Vec ℕ Heap)) (i : ℕ) (g : Vec ℕ Heap × Vec ℕ Heap) →
    i < length gs → g ≡ get_or gs i g → known g.1.items ≡ None → IsUnknownAt known (globals gs) i
unknown_at known gs i g lt is none =
    (global g, slice_get-map global gs i ∙ ap (option_map global) (slice_get_read gs (length gs) i g refl lt is), none)

-- A letvar without a declared class has none that is too large.
no_class : (n : ℕ) (o : Option ℕ) → o ≡ None → IfSome o (λ c. c < n)
no_class n o h = subst (λ x. IfSome x (λ c. c < n)) (sym h) tt

-- Letvars without declared classes have none that is too large.
pub classless_below : (n : ℕ) (es : List Entry) → All (λ e. e.class ≡ None) es → All (λ e. IfSome e.class (λ c. c < n)) es
classless_below n [] h = All-nil (λ (e : Entry). IfSome e.class (λ c. c < n))
classless_below n (e ∷ es) h =
    All-cons (λ (x : Entry). IfSome x.class (λ c. c < n)) e es
    (no_class n e.class (All-head (λ (x : Entry). x.class ≡ None) e es h))
    (classless_below n es (All-tail (λ (x : Entry). x.class ≡ None) e es h))

-- The globals of the image have the program's names.
pub names_stand : (r : Resolved) (im : Image) → StandsFor r im → globals im.globals.items ≡ all_named r.globals
names_stand r im stands = ap (λ (f : Fields). f.globals) stands

-- If a program's global has the names of an image's global, that class name is known.
known_at : (known : Known) (o : Option Global) (g : image.Global) → option_map named_global o ≡ Some g →
    ((x : Global) → o ≡ Some x → known x.class_name.now ≡ Some x.class) →
    (c : ℕ) × (known g.1 ≡ Some c)
known_at known None g h has = absurd cc
known_at known (Some x) g h has =
    let same : named_global x ≡ g = ap (λ o. unwrap_or o g) h in
    (x.class, ap (λ (y : image.Global). known y.1) (sym same) ∙ has x refl)

-- Each class name of an image is known if the class name of each global of its program is.
pub known_classes : (known : Known) (r : Resolved) (im : Image) → HaveClasses known r.globals → StandsFor r im →
    HasKnownClasses known im
known_classes known r im has stands i g h =
    known_at known (slice_get r.globals i) g
    (sym (slice_get-map named_global r.globals i) ∙ ap (λ gs. slice_get gs i) (sym (names_stand r im stands)) ∙ h)
    (has i)
