-- If a bad walk exists, no choice is typable.
use Rattle.std.proofs.Common.{◌≡◌, ℕ, ◌-◌, ◌<◌, ◌≤◌, Bool, true, false, cond, List, [], ◌∷◌, ◌++◌, length, Option, Some, None, refl, sym, ap, ◌∙◌, subst, ⊎_elim, arith}
use Rattle.std.specs.Prelude.{slice_index, slice_index_or, ◌==◌, nat_lt}
use Rattle.std.specs.List.{All}
use Rattle.std.proofs.lemmas.List.{get_or_append_left, get_or-append_right, get_or_past}
use Rattle.std.proofs.lemmas.List.Elements.{All-head, All-tail, All-contains}
use Rattle.std.proofs.lemmas.Option.{none-some}
use Rattle.std.proofs.lemmas.Bool.{cases_lt}
use Rattle.std.proofs.lemmas.Bool.Decides.{nat_tests}
use Rattle.vsi_lattice.specs.Order.{Lattice, IsLattice, IsClass, Below}
use Rattle.vsi_types.specs.declared.rules.Step.{Step}
use Rattle.vsi_types.specs.Steps.{sink, IsInOrder}
use Rattle.vsi_types.specs.Security.{class_of, Keeps, Program, IsChoice, steps_of}
use Rattle.vsi_types.specs.Walks.{declared_class, IsChain, last_target, BadWalksRefute}
use Rattle.vsi_types.proofs.Choosing.{kept_at}
use Rattle.vsi_types.proofs.Programs.{steps_decide, within}

-- Numbers in equal options are equal.
pub some_same : (a b : ℕ) → Some a ≡ Some b → a ≡ b
some_same a b e = ap (λ o. elim o as (λ _. ℕ) [ None ↦ a | Some x ↦ x ]) e

-- A declared class is the chosen one.
kept : (d : Option ℕ) (t a : ℕ) → Keeps d t → d ≡ Some a → t ≡ a
kept None t a h e = absurd (none-some a e)
kept (Some c) t a h e = h ∙ some_same c a e

module _ (L : Lattice) (p : Program) (s : List ℕ) (choice : IsChoice p s) where
  -- The class of each declaration.
  cls : ℕ → ℕ
  cls v = class_of L (p.globals ++ s) v

  -- The chosen class of a letvar is its declared one.
  of_letvar : (i a : ℕ) → slice_index_or p.declared i None ≡ Some a → slice_index s i ≡ a
  of_letvar i a e =
      ⊎_elim
      (λ lt. kept (slice_index_or p.declared i None) (slice_index s i) a (kept_at p.declared s i choice lt) e)
      (λ le. absurd (none-some a (sym (get_or_past p.declared i None le) ∙ e)))
      (cases_lt i (length p.declared))

  -- The class of a variable is its declared one, by cases.
  of_declared : (v : ℕ) (x y : Bool) (a : ℕ) → (y ≡ true → v < length p.globals) →
      (y ≡ false → length p.globals ≤ v) → cond x (Some L.bottom)
      (cond y (Some (slice_index p.globals v)) (slice_index_or p.declared (v - length p.globals) None)) ≡ Some a →
      cond x L.bottom (slice_index (p.globals ++ s) v) ≡ a
  of_declared v true y a f g e = some_same L.bottom a e
  of_declared v false true a f g e = get_or_append_left p.globals s 0 v (f refl)
      ∙ some_same (slice_index p.globals v) a e
  of_declared v false false a f g e = get_or-append_right p.globals s (length p.globals) v 0 refl (g refl)
      ∙ of_letvar (v - length p.globals) a e

  -- The class of a variable is its declared one, if it has one.
  pub class_declared : (v a : ℕ) → declared_class L p v ≡ Some a → class_of L (p.globals ++ s) v ≡ a
  class_declared v a e = of_declared v (v == sink) (nat_lt v (length p.globals)) a (λ h. grind (arith, nat_tests))
      (λ h. grind (arith, nat_tests)) e

module _ (L : Lattice) (laws : IsLattice L) (classes : ℕ → ℕ) (within' : (v : ℕ) → IsClass L (classes v)) where
  -- If the steps of a chain are in order, the classes go up from the first source to the last target.
  chain_up : (s : Step) (rest : List Step) → IsInOrder L classes s → All (IsInOrder L classes) rest →
      IsChain s rest → Below L (classes s.source) (classes (last_target s rest))
  chain_up s [] h all c = h
  chain_up s (t ∷ rest) h all c =
      laws.transitive (classes s.source) (classes s.target) (classes (last_target t rest)) (within' _) (within' _)
      (within' _) h
      (subst (λ v. Below L (classes v) (classes (last_target t rest))) (sym c.0)
      (chain_up t rest (All-head (IsInOrder L classes) t rest all) (All-tail (IsInOrder L classes) t rest all) c.1))

-- The law of bad walks.
pub bad_walks_refute : BadWalksRefute
bad_walks_refute L P p [] s laws res bad typed = bad
bad_walks_refute L P p (t ∷ rest) s laws res bad typed =
    let cls = class_of L (p.globals ++ s) in
    let ordered = (steps_decide L P p s laws res typed.1).0 typed in
    let each : All (IsInOrder L (class_of L (p.globals ++ s))) (t ∷ rest) =
    λ k d lt. All-contains (IsInOrder L (class_of L (p.globals ++ s))) (steps_of P p) _ ordered.1
    (bad.steps k d lt) in
    let up = chain_up L laws (class_of L (p.globals ++ s)) (within L laws P p s res typed.1) t rest
    (All-head (IsInOrder L (class_of L (p.globals ++ s))) t rest each)
    (All-tail (IsInOrder L (class_of L (p.globals ++ s))) t rest each) bad.chain in
    bad.down (subst (λ x. Below L x bad.high) (class_declared L p s typed.0 t.source bad.low bad.source)
    (subst (Below L (class_of L (p.globals ++ s) t.source))
    (class_declared L p s typed.0 (last_target t rest) bad.high bad.target) up))
