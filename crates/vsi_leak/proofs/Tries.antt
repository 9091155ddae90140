-- How many pairs of runs several searches try.
use Rattle.std.proofs.Common.{◌≡◌, ℕ, ◌+◌, ◌-◌, ◌*◌, ◌^◌, ◌≤◌, ◌<◌, Bool, true, false, List, [], ◌∷◌, length, drop, get_or, min, Option, Some, None, is_some, if◌then◌else◌, ap, sym, subst, arith, ◌∙◌}
use Rattle.std.proofs.Math.Nat.{mul-add, mul-one}
use Rattle.std.proofs.lemmas.List.{at_drop_more}
use Rattle.vsi_lattice.specs.Order.{Lattice}
use Rattle.vsi_leak.specs.declared.check.Finding.{Finding}
use Rattle.vsi_leak.specs.declared.check.Sign.{Sign}
use Rattle.vsi_leak.specs.declared.whole.Wanted.{Wanted}
use Rattle.vsi_leak.specs.Leaks.{TellsAtMost, class_count, most_pairs, sign_count}

-- The number of signs that are wanted among these.
pub wanted_in : List (Sign × Bool) → ℕ
wanted_in [] = 0
wanted_in (sign ∷ signs) = (if sign.1 then 1 else 0) + wanted_in signs

-- The first search has the tries of all signs before it.
pub at_first : (each : ℕ) (wanted : Wanted) (first second third : Sign) →
    0 + each * wanted_in (drop 0 ((first, true) ∷ (second, wanted.endings) ∷ (third, wanted.steps) ∷ []))
    ≤ each * sign_count wanted
unfolding wanted_in
at_first each wanted first second third =
    let signs = (first, true) ∷ (second, wanted.endings) ∷ (third, wanted.steps) ∷ [] in
    let all : wanted_in signs ≡ sign_count wanted = omega arith in
    let same : each * wanted_in (drop 0 signs) ≡ each * sign_count wanted = ap (λ n. each * n) all in
    omega (arith, same)

module _ (each done pairs total i : ℕ) (signs : List (Sign × Bool)) (d : Sign × Bool) (within : i < length signs)
    (before : done + each * wanted_in (drop i signs) ≤ total) where
  -- A sign and those after it.
  counted : wanted_in (drop i signs) ≡ (if (get_or signs i d).1 then 1 else 0) + wanted_in (drop (i + 1) signs)
  unfolding wanted_in
  counted = at_drop_more wanted_in signs i d within

  -- A search by a wanted sign leaves the tries of those after it.
  pub after_wanted : (get_or signs i d).1 ≡ true → pairs ≤ each →
      min (done + pairs) (2 ^ 64 - 1) + each * wanted_in (drop (i + 1) signs) ≤ total
  after_wanted is few =
      let one : wanted_in (drop i signs) ≡ 1 + wanted_in (drop (i + 1) signs) =
      counted ∙ ap (λ b. (if b then 1 else 0) + wanted_in (drop (i + 1) signs)) is in
      let more : each * wanted_in (drop i signs) ≡ each + each * wanted_in (drop (i + 1) signs) =
      ap (λ n. each * n) one ∙ mul-add each 1 (wanted_in (drop (i + 1) signs))
      ∙ ap (λ n. n + each * wanted_in (drop (i + 1) signs)) (mul-one each) in
      omega (arith, more, few, before)

  -- A sign that isn't wanted takes no tries.
  pub after_unwanted : (get_or signs i d).1 ≡ false → done + each * wanted_in (drop (i + 1) signs) ≤ total
  after_unwanted is =
      let none : wanted_in (drop i signs) ≡ 0 + wanted_in (drop (i + 1) signs) =
      counted ∙ ap (λ b. (if b then 1 else 0) + wanted_in (drop (i + 1) signs)) is in
      let same : each * wanted_in (drop i signs) ≡ each * wanted_in (drop (i + 1) signs) =
      ap (λ n. each * n) (omega (arith, none)) in
      omega (arith, same, before)

module _ (L : Lattice) (wanted : Wanted) (f : Finding) (n : ℕ)
    (told : TellsAtMost (wanted.effort.tries * n * sign_count wanted) f) where
  counted_classes : n ≡ class_count L wanted → TellsAtMost (most_pairs L wanted) f
  counted_classes e = subst (λ k. TellsAtMost (wanted.effort.tries * k * sign_count wanted) f) e told

  -- A search at the requested class.
  pub at_one : (a : ℕ) → wanted.class ≡ Some a → n ≡ 1 → TellsAtMost (most_pairs L wanted) f
  at_one a is one = counted_classes (one ∙ sym (ap (λ (o : Option ℕ). if is_some o then 1 else L.count) is))

  -- A search at each class of the lattice.
  pub at_each : wanted.class ≡ None → n ≡ L.count → TellsAtMost (most_pairs L wanted) f
  at_each is all = counted_classes (all ∙ sym (ap (λ (o : Option ℕ). if is_some o then 1 else L.count) is))
