-- The names of globals.
use Rattle.std.proofs.Common.{◌≡◌, ℕ, zero, suc, ◌+◌, ◌-◌, ◌<◌, true, cond, nat_lt, List, [], ◌∷◌, Vec, Global as Heap, length, map, get_or, slice_index_or, sym, ap, ◌∙◌, arith}
use Rattle.std.proofs.lemmas.List.{length-map}
use Rattle.std.proofs.lemmas.Bool.Decides.{nat_tests}
use Rattle.vsi_image.specs.Fields.{global, globals}
use Rattle.vsi_audit.specs.declared.names.Form.{Form}
use Rattle.vsi_audit.specs.MadeNames.{made}
use Rattle.vsi_audit.specs.Telling.{local_name, class_name}

-- The name at a place is the name of the global there.
name_at : (gs : List (Vec ℕ Heap × Vec ℕ Heap)) (i : ℕ) (g : Vec ℕ Heap × Vec ℕ Heap) →
    i < length gs → g ≡ get_or gs i g → slice_index_or (map (λ x. x.0) (globals gs)) i [] ≡ g.0.items
name_at [] i g lt e = absurd (omega (arith, lt))
name_at (x ∷ xs) zero g lt e = ap (λ (y : Vec ℕ Heap × Vec ℕ Heap). y.0.items) (sym e)
name_at (x ∷ xs) (suc i) g lt e = name_at xs i g (omega (arith, lt)) e

-- The class name at a place is the class name of the global there.
pub class_at : (gs : List (Vec ℕ Heap × Vec ℕ Heap)) (i : ℕ) (g : Vec ℕ Heap × Vec ℕ Heap) →
    i < length gs → g ≡ get_or gs i g → class_name (globals gs) i ≡ g.1.items
class_at [] i g lt e = absurd (omega (arith, lt))
class_at (x ∷ xs) zero g lt e = ap (λ (y : Vec ℕ Heap × Vec ℕ Heap). y.1.items) (sym e)
class_at (x ∷ xs) (suc i) g lt e = class_at xs i g (omega (arith, lt)) e

-- If a number is below another, the test says so.
is_below : (m n : ℕ) → m < n → nat_lt m n ≡ true
is_below m n lt = grind (arith, nat_tests)

-- A variable that is a global has its name.
pub named_global : (gs : List (Vec ℕ Heap × Vec ℕ Heap)) (f : Form) (i : ℕ) (g : Vec ℕ Heap × Vec ℕ Heap) →
    i < length gs → g ≡ get_or gs i g → local_name (globals gs) f i ≡ g.0.items
named_global gs f i g lt e =
    let short = length-map gs global in
    ap (λ b. cond b (slice_index_or (map (λ x. x.0) (globals gs)) i []) (made f (i - length (globals gs) + 1)))
    (ap (nat_lt i) short ∙ is_below i (length gs) lt) ∙ name_at gs i g lt e
