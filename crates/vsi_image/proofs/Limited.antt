-- No limit is found exactly if everything is allowed.
use Rattle.std.proofs.Common.{◌≡◌, ℕ, ◌+◌, ◌<◌, List, [], ◌∷◌, ◌++◌, length, All, Option, Some, None, Bool, true, false, sym, refl, arith, nat_lt, if◌then◌else◌, ◌&&◌}
use Rattle.std.specs.Global.{Vec}
use Rattle.std.specs.List.{AllByRecursion}
use Rattle.std.proofs.lemmas.Option.{none-some}
use Rattle.std.proofs.lemmas.Bool.Decides.{nat_tests}
use Rattle.std.proofs.lemmas.List.Elements.{All-from_recursion}
use Rattle.vsi_image.specs.declared.encoder.Limit.{Limit}
use Rattle.vsi_image.specs.declared.encoder.Limit.TheVariants.{Name, Class}
use Rattle.vsi_syntax.specs.Words.{is_name}
use Rattle.vsi_image.specs.Fields.{Global, Fields, globals, is_taken, AreGlobals, IsAllowed}
use Rattle.vsi_image.specs.Limits.{globals_limit, first_limit}
use Rattle.vsi_image.proofs.Globals.{name_short}

-- The checks of a global in turn.
abbrev judged : (a b c : Bool) (x y : Limit) → Option Limit → Option Limit
judged a b c x y rest =
    if a && (if b then false else true) then (if c then rest else Some x) else Some y

-- If the checks of a global find nothing, each was passed.
judged-none :
    (a b c : Bool) (x y : Limit) (rest : Option Limit) → judged a b c x y rest ≡ None
    → (a ≡ true) × (b ≡ false) × (c ≡ true) × (rest ≡ None)
judged-none true false true x y rest h = (refl, refl, refl, h)
judged-none true false false x y rest h = absurd (none-some _ (sym h))
judged-none true true c x y rest h = absurd (none-some _ (sym h))
judged-none false b c x y rest h = absurd (none-some _ (sym h))

-- If no global exceeds a limit, each is allowed.
names_from : (n : ℕ) (before gs : List Global) → globals_limit n before gs ≡ None → AreGlobals before gs
names_from n before [] h = tt
names_from n before (g ∷ gs) h =
    let rest = globals_limit (n + 1) (before ++ g ∷ []) gs in
    let p = judged-none (is_name g.0) (is_taken before g.0) (is_name g.1) (Class n) (Name n) rest h in
    (record { name = p.0; unlike = p.1; class = p.2 }, names_from (n + 1) (before ++ g ∷ []) gs p.3)

-- If every global is allowed, none exceeds a limit.
no_name_limit : (n : ℕ) (before gs : List Global) → AreGlobals before gs → globals_limit n before gs ≡ None
no_name_limit n before [] h = refl
no_name_limit n before (g ∷ gs) h =
    rw (h.0.name, h.0.unlike, h.0.class) (no_name_limit (n + 1) (before ++ g ∷ []) gs h.1)

-- The five checks of an image's numbers in turn.
abbrev tested : (a b c d e : Bool) (w x y z u : Limit) → Option Limit → Option Limit
tested a b c d e w x y z u o =
    if a then Some w else if b then Some x else if c then Some y else if d then Some z else if e then Some u else o

-- If the checks of the numbers find nothing, each was passed.
tested-none :
    (a b c d e : Bool) (w x y z u : Limit) (o : Option Limit) → tested a b c d e w x y z u o ≡ None
    → (a ≡ false) × (b ≡ false) × (c ≡ false) × (d ≡ false) × (e ≡ false) × (o ≡ None)
tested-none true b c d e w x y z u o h = absurd (none-some _ (sym h))
tested-none false true c d e w x y z u o h = absurd (none-some _ (sym h))
tested-none false false true d e w x y z u o h = absurd (none-some _ (sym h))
tested-none false false false true e w x y z u o h = absurd (none-some _ (sym h))
tested-none false false false false true w x y z u o h = absurd (none-some _ (sym h))
tested-none false false false false false w x y z u o h = (refl, refl, refl, refl, refl, h)

-- If every check of the numbers is passed, they find nothing.
tested-clear :
    (a b c d e : Bool) (w x y z u : Limit) (o : Option Limit)
    → a ≡ false → b ≡ false → c ≡ false → d ≡ false → e ≡ false → o ≡ None
    → tested a b c d e w x y z u o ≡ None
tested-clear a b c d e w x y z u o ha hb hc hd he ho = rw (ha, hb, hc, hd, he) ho

-- An image that exceeds no limit is allowed.
pub limits : (f : Fields) → first_limit f ≡ None → IsAllowed f
limits f h =
    let p =
    tested-none (nat_lt 256 (length f.globals)) (nat_lt f.slots (length f.globals)) (nat_lt 512 f.slots)
    (nat_lt 256 f.stack) (nat_lt 65535 (length f.code)) _ _ _ _ _ (globals_limit 0 [] f.globals) h in
    let a = p.0 in
    let b = p.1 in
    let c = p.2 in
    let d = p.3 in
    let e = p.4 in
    record {
      globals = grind (arith, nat_tests, a);
      slots_above = grind (arith, nat_tests, b);
      slots = grind (arith, nat_tests, c);
      stack = grind (arith, nat_tests, d);
      count = grind (arith, nat_tests, e);
      names = names_from 0 [] f.globals p.5;
    }

-- An image that is allowed exceeds no limit.
pub no_limits : (f : Fields) → IsAllowed f → first_limit f ≡ None
no_limits f a =
    let p = a.globals in
    let q = a.slots_above in
    let r = a.slots in
    let s = a.stack in
    let t = a.count in
    tested-clear (nat_lt 256 (length f.globals)) (nat_lt f.slots (length f.globals)) (nat_lt 512 f.slots)
    (nat_lt 256 f.stack) (nat_lt 65535 (length f.code)) _ _ _ _ _ _
    (grind (arith, nat_tests, p)) (grind (arith, nat_tests, q)) (grind (arith, nat_tests, r))
    (grind (arith, nat_tests, s)) (grind (arith, nat_tests, t)) (no_name_limit 0 [] f.globals a.names)

-- The lengths of a global's names each fit in a byte.
abbrev pub IsShort : Vec ℕ × Vec ℕ → Type 0
IsShort g = (length g.0.items < 256) × (length g.1.items < 256)

-- Names that are allowed are short, one by one.
short_by_recursion :
    (before : List Global) (gs : List (Vec ℕ × Vec ℕ)) → AreGlobals before (globals gs)
    → AllByRecursion IsShort gs
short_by_recursion before [] h = tt
short_by_recursion before (g ∷ gs) h =
    let a = (name_short g.0.items h.0.name).1 in
    let b = (name_short g.1.items h.0.class).1 in
    ((omega arith, omega arith), short_by_recursion (before ++ (g.0.items, g.1.items) ∷ []) gs h.1)

-- Names that are allowed are short.
pub all_short : (gs : List (Vec ℕ × Vec ℕ)) → AreGlobals [] (globals gs) → All IsShort gs
all_short gs h = All-from_recursion IsShort gs (short_by_recursion [] gs h)
