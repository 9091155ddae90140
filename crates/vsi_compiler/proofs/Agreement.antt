-- Agreement by class names is agreement by the classes of the globals.
use Rattle.std.proofs.Common.{◌≡◌, ℕ, List, map, sym, ap, subst, ◌∙◌, Some, None, slice_get, slice_index, inl, inr, arith, unwrap_or}
use Rattle.std.specs.Option.{option_map}
use Rattle.std.proofs.lemmas.Option.{slice_get-map, slice_get_cases, get_or_from_slice_get}
use Rattle.std.proofs.lemmas.List.{length-map}
use Rattle.vsi_image.specs.declared.instr.Image.{Image}
use Rattle.vsi_image.specs.Fields as image
use Rattle.vsi_lattice.specs.Order.{Lattice, Below}
use Rattle.vsi_scope.specs.declared.resolved.Global.{Global}
use Rattle.vsi_scope.specs.Meaning.{Store}
use Rattle.vsi_types.specs.Security.{Agree}
use Rattle.vsi_code.specs.Names.{named_global, all_named}
use Rattle.vsi_lattice.specs.Known.{Known}
use Rattle.vsi_compiler.specs.Observation.{AgreeAt}

-- Each global's class is the class that its class name denotes.
abbrev pub HaveClasses : Known → List Global → Type 0
HaveClasses known gs = (i : ℕ) (g : Global) → slice_get gs i ≡ Some g → known g.class_name.now ≡ Some g.class

-- The class of each global.
abbrev pub classes : List Global → List ℕ
classes gs = map (λ g. g.class) gs

-- The class at the position of a global.
class_at : (gs : List Global) (i : ℕ) (g : Global) → slice_get gs i ≡ Some g → slice_index (classes gs) i ≡ g.class
class_at gs i g h =
    get_or_from_slice_get (classes gs) i g.class 0
    (slice_get-map (λ (x : Global). x.class) gs i ∙ ap (option_map (λ (x : Global). x.class)) h)

-- The names at the position of a global.
named_at : (gs : List Global) (i : ℕ) (g : Global) → slice_get gs i ≡ Some g → slice_get (all_named gs) i
    ≡ Some (named_global g)
named_at gs i g h = slice_get-map named_global gs i ∙ ap (option_map named_global) h

-- Two values of one option are equal.
some_is : {X : Type 0} {x y : X} → Some x ≡ Some y → x ≡ y
some_is {x = x} h = ap (λ o. unwrap_or o x) h

-- None is no value.
none_is : {X : Type 0} {x : X} → None ≡ Some x → ⊥
none_is h = cc

module _ (known : Known) (L : Lattice) (gs : List Global) (im : Image) (has : HaveClasses known gs)
    (names : image.globals im.globals.items ≡ all_named gs) (a : ℕ) (m m' : Store) where
  -- If the classes of the names agree, so do the classes of the globals.
  pub agree_typed : AgreeAt known L im a m m' → Agree L (classes gs) a m m'
  agree_typed h l lt below = elim ((slice_get_cases gs l).1) [
    | inl p ↦
        let g = p.0 in
        let at = p.2 in
        h l (named_global g) g.class (ap (λ x. slice_get x l) names ∙ named_at gs l g at) (has l g at)
        (subst (λ c. Below L c a) (class_at gs l g at) below)
    | inr p ↦ absurd (omega (arith, lt, p.0, length-map gs (λ (x : Global). x.class)))
  ]

  -- If the classes of the globals agree, so do the classes of the names.
  pub agree_named : Agree L (classes gs) a m m' → AgreeAt known L im a m m'
  agree_named h i g c at is below = elim ((slice_get_cases gs i).1) [
    | inl p ↦
        let found = p.0 in
        let named_is : named_global found ≡ g =
        some_is (sym (named_at gs i found p.2) ∙ ap (λ x. slice_get x i) (sym names) ∙ at) in
        let class_is : found.class ≡ c =
        some_is (sym (has i found p.2) ∙ ap (λ (x : image.Global). known x.1) named_is ∙ is) in
        h i (omega (arith, p.1, length-map gs (λ (x : Global). x.class)))
        (subst (λ d. Below L d a) (sym (class_at gs i found p.2 ∙ class_is)) below)
    | inr p ↦
        absurd (none_is
        (sym (slice_get-map named_global gs i ∙ ap (option_map named_global) p.1)
        ∙ ap (λ x. slice_get x i) (sym names) ∙ at))
  ]
