-- A program is typable exactly if its steps go up.
use Rattle.std.proofs.Common.{◌≡◌, ℕ, zero, suc, ◌+◌, ◌<◌, ◌≤◌, Bool, true, false, cond, List, [], ◌∷◌, ◌++◌, map, length, get_or, refl, sym, ap, ◌∙◌, subst, ⊎_elim, arith, append_assoc}
use Rattle.std.specs.Prelude.{slice_index, ◌==◌}
use Rattle.std.specs.List.{All}
use Rattle.std.proofs.lemmas.List.{get_or_at, get_or_past, length_push}
use Rattle.std.proofs.lemmas.List.Elements.{All-append, All-get_or}
use Rattle.std.proofs.lemmas.Bool.{cases_lt}
use Rattle.vsi_lattice.specs.Order.{Lattice, IsLattice, IsClass}
use Rattle.vsi_scope.specs.Language.{HasPlaces}
use Rattle.vsi_types.specs.declared.rules.Profile.{Profile}
use Rattle.vsi_types.specs.Typing.{HasCmd}
use Rattle.vsi_types.specs.Steps.{sink, IsInOrder}
use Rattle.vsi_types.specs.Security.{class_of, count_from, Program, IsWellFormed, steps_of, StepsDecide}
use Rattle.vsi_types.proofs.Orders.{each_from_all, all_from_each}
use Rattle.vsi_types.proofs.Flow.{typed_ordered, ordered_typed}

-- Counting k numbers gives k numbers.
pub length_count : (n k : ℕ) → length (count_from n k) ≡ k
length_count n zero = refl
length_count n (suc k) = ap suc (length_count (suc n) k)

module _ (L : Lattice) (laws : IsLattice L) where
  -- An element of a list of classes, or the default 0, is a class.
  index_within : (xs : List ℕ) → All (IsClass L) xs → (v : ℕ) → IsClass L (slice_index xs v)
  index_within xs all v = ⊎_elim (λ lt. All-get_or (IsClass L) xs v 0 lt all)
      (λ le. subst (IsClass L) (sym (get_or_past xs v 0 le)) (omega (arith, laws.bottom_within)))
      (cases_lt v (length xs))

  -- One of two classes is a class.
  cond_within : (b : Bool) (x y : ℕ) → IsClass L x → IsClass L y → IsClass L (cond b x y)
  cond_within true x y h k = h
  cond_within false x y h k = k

  -- The class of each declaration is a class of the lattice.
  pub class_within : (xs : List ℕ) → All (IsClass L) xs → (v : ℕ) → IsClass L (class_of L xs v)
  class_within xs all v = cond_within (v == sink) L.bottom (slice_index xs v) laws.bottom_within
      (index_within xs all v)

  -- The sink has the bottom class.
  pub class_at_sink : (xs : List ℕ) → class_of L xs sink ≡ L.bottom
  class_at_sink xs = refl

  -- A smaller number is not the sink.
  not_sink : (v : ℕ) → v < 65535 → (v == sink) ≡ false
  not_sink v lt = grind arith

  -- A declaration has its class in the table.
  class_below : (xs : List ℕ) (v : ℕ) → v < 65535 → class_of L xs v ≡ slice_index xs v
  class_below xs v lt = ap (λ b. cond b L.bottom (slice_index xs v)) (not_sink v lt)

  -- The classes of counted declarations are those of the table.
  map_count : (pre xs rest : List ℕ) → length pre + length xs ≤ 1024 →
      map (class_of L (pre ++ xs ++ rest)) (count_from (length pre) (length xs)) ≡ xs
  map_count pre [] rest le = refl
  map_count pre (x ∷ xs) rest le =
      let split = append_assoc pre (x ∷ []) (xs ++ rest) in
      let flat = append_assoc pre (x ∷ xs) rest in
      let all : (pre ++ x ∷ []) ++ xs ++ rest ≡ pre ++ (x ∷ xs) ++ rest = append_assoc (pre ++ x ∷ []) xs rest
      ∙ split ∙ sym flat in
      let here : class_of L (pre ++ (x ∷ xs) ++ rest) (length pre) ≡ x =
      class_below (pre ++ (x ∷ xs) ++ rest) (length pre) (omega arith) ∙ ap (λ l. get_or l (length pre) 0) flat
      ∙ get_or_at pre x (xs ++ rest) 0 (length pre) refl in
      let push : length (pre ++ x ∷ []) ≡ suc (length pre) = omega (arith, length_push pre x) in
      let rest_is = map_count (pre ++ x ∷ []) xs rest (omega (arith, push)) in
      let moved = subst (λ l. map (class_of L l) (count_from (length (pre ++ x ∷ [])) (length xs)) ≡ xs)
      all rest_is in
      let there = subst (λ n. map (class_of L (pre ++ (x ∷ xs) ++ rest)) (count_from n (length xs)) ≡ xs)
      push moved in
      ap (λ y. y ∷ map (class_of L (pre ++ (x ∷ xs) ++ rest)) (count_from (suc (length pre)) (length xs))) here
      ∙ ap (λ ys. x ∷ ys) there

  module _ (P : Profile) (p : Program) (s : List ℕ) (res : IsWellFormed L p) (cls : All (IsClass L) s) where
    -- The class of each declaration.
    table : List ℕ
    table = p.globals ++ s

    -- The class of each declaration is one of the lattice.
    pub within : (v : ℕ) → IsClass L (class_of L (p.globals ++ s) v)
    within = class_within (p.globals ++ s) (All-append (IsClass L) p.globals s res.classes cls)

    -- The classes of the globals are those of their variables.
    pub same : p.globals ≡ map (class_of L (p.globals ++ s)) (count_from 0 (length p.globals))
    same = sym (map_count [] p.globals s (omega (arith, res.limit)))

    -- The steps of a typed program are in order.
    typable_ordered : (t : ℕ) → HasCmd L P (class_of L (p.globals ++ s)) p.globals (length p.globals) p.body t →
        All (IsInOrder L (class_of L (p.globals ++ s))) (steps_of P p)
    typable_ordered t d =
        all_from_each _ (steps_of P p)
        (typed_ordered L laws p.names (class_of L (p.globals ++ s)) within (class_at_sink (p.globals ++ s))
        P p.globals (count_from 0 (length p.globals)) same (length p.globals) p.body t d [] tt)

    -- A program whose steps are in order has a type.
    ordered_typable : All (IsInOrder L (class_of L (p.globals ++ s))) (steps_of P p) → (t : ℕ)
        × HasCmd L P (class_of L (p.globals ++ s)) p.globals (length p.globals) p.body t
    ordered_typable all =
        let places = subst (λ k. HasPlaces k p.body) (sym (length_count 0 (length p.globals))) res.places in
        let d = ordered_typed L laws p.names (class_of L (p.globals ++ s)) within (class_at_sink (p.globals ++ s)) P
        (count_from 0 (length p.globals)) (length p.globals) p.body [] places (λ on. tt)
        (each_from_all _ (steps_of P p) all) in
        subst (λ q. (t : ℕ) × HasCmd L P (class_of L (p.globals ++ s)) q (length p.globals) p.body t) (sym same)
        (_, d)

-- The law of steps.
pub steps_decide : StepsDecide
steps_decide L P p s laws res cls = (
  λ h. (h.0, typable_ordered L laws P p s res cls h.2.0 h.2.1),
  λ h. (h.0, cls, ordered_typable L laws P p s res cls h.1),
)
