-- The names of a resolved program's globals are allowed in an image.
use Rattle.std.proofs.Common.{◌≡◌, ℕ, ◌+◌, ◌<◌, List, [], ◌∷◌, ◌++◌, length, take, get_or, map, All, bytes_eq, Bool, true, false, refl, sym, ap, ◌∙◌}
use Rattle.std.specs.Prelude.{◌||◌}
use Rattle.std.specs.Global.{Vec}
use Rattle.std.specs.List.{AllByRecursion, IsDistinct}
use Rattle.std.proofs.lemmas.List.{take_more, map-append, length-map}
use Rattle.std.proofs.lemmas.List.Elements.{recursion_from_All}
use Rattle.vsi_scope.specs.declared.resolved.Global.{Global}
use Rattle.vsi_scope.specs.Program.{IsNamed}
use Rattle.vsi_image.specs.Fields as image
use Rattle.vsi_image.specs.Fields.{is_taken, AreGlobals}
use Rattle.vsi_code.specs.Names.{named_global, all_named}

-- A name that none of these globals has, nor the next one, isn't taken by any of them.
not_taken : (before : List image.Global) (g : image.Global) (name : List ℕ) →
    is_taken before name ≡ false → bytes_eq g.0 name ≡ false → is_taken (before ++ g ∷ []) name ≡ false
not_taken [] g name free apart = ap (λ b. b || false) apart
not_taken (x ∷ before) g name free apart =
    neither (bytes_eq x.0 name) (is_taken before name) free (λ h. not_taken before g name h apart)
  where
    neither : (a b : Bool) → (a || b) ≡ false → (b ≡ false → is_taken (before ++ g ∷ []) name ≡ false) →
        (a || is_taken (before ++ g ∷ []) name) ≡ false
    neither false b free rest = rest free
    neither true b free rest = free

-- Names that are free after some globals and differ from the next one are free after it too.
still_free : (before : List image.Global) (g : Global) (gs : List Global) →
    AllByRecursion (λ x. is_taken before x.name.now ≡ false) gs →
    AllByRecursion (λ y. bytes_eq g.name.now y ≡ false) (map (λ x. x.name.now) gs) →
    AllByRecursion (λ x. is_taken (before ++ named_global g ∷ []) x.name.now ≡ false) gs
still_free before g [] free apart = tt
still_free before g (x ∷ gs) free apart =
    (not_taken before (named_global g) x.name.now free.0 apart.0, still_free before g gs free.1 apart.1)

-- Distinct names that are free after some globals are names of later globals.
globals_behind : (before : List image.Global) (gs : List Global) →
    AllByRecursion IsNamed gs → AllByRecursion (λ x. is_taken before x.name.now ≡ false) gs →
    IsDistinct bytes_eq (map (λ x. x.name.now) gs) → AreGlobals before (all_named gs)
unfolding IsDistinct
globals_behind before [] names free distinct = tt
globals_behind before (g ∷ gs) names free distinct =
    let rest = still_free before g gs free.1 distinct.0 in (
      record { name = names.0.0; unlike = free.0; class = names.0.1 },
      globals_behind (before ++ named_global g ∷ []) gs names.1 rest distinct.1,
    )

-- Every name is free if there is no global.
all_free : (gs : List Global) → AllByRecursion (λ x. is_taken [] x.name.now ≡ false) gs
all_free [] = tt
all_free (g ∷ gs) = (refl, all_free gs)

-- Globals with distinct, well-formed names and with class names are allowed.
pub are_globals : (gs : List Global) → All IsNamed gs → IsDistinct bytes_eq (map (λ x. x.name.now) gs) →
    AreGlobals [] (all_named gs)
are_globals gs names distinct =
    globals_behind [] gs (recursion_from_All IsNamed gs names) (all_free gs) distinct

-- One more copy of a global's name and class name.
pub copied_more : (copies : List (Vec ℕ × Vec ℕ)) (gs : List Global) (i : ℕ) (g : Global) →
    i < length gs → g ≡ get_or gs i g → image.globals copies ≡ all_named (take i gs) →
    (name class : Vec ℕ) → name.items ≡ g.name.now → class.items ≡ g.class_name.now →
    image.globals (copies ++ (name, class) ∷ []) ≡ all_named (take (i + 1) gs)
copied_more copies gs i g lt e h name class hn hc =
    map-append image.global copies ((name, class) ∷ [])
    ∙ ap (λ l. l ++ (name.items, class.items) ∷ []) h
    ∙ ap (λ n. all_named (take i gs) ++ (n, class.items) ∷ []) hn
    ∙ ap (λ n. all_named (take i gs) ++ (g.name.now, n) ∷ []) hc
    ∙ ap (λ x. all_named (take i gs) ++ named_global x ∷ []) e
    ∙ sym (ap all_named (take_more gs i g lt) ∙ map-append named_global (take i gs) (get_or gs i g ∷ []))

-- There are as many copies as globals.
pub copies_long : (copies : List (Vec ℕ × Vec ℕ)) (gs : List Global) →
    image.globals copies ≡ all_named gs → length copies ≡ length gs
copies_long copies gs h = sym (length-map copies image.global) ∙ ap length h ∙ length-map gs named_global
