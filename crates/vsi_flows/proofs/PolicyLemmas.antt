-- If each variable has the class that reaches it, these classes are the least policy.
use Rattle.std.proofs.Common.{◌≡◌, ℕ, suc, ◌+◌, ◌-◌, ◌<◌, ◌≤◌, inl, inr, cond, Bool, List, [], ◌∷◌, ◌++◌, take, drop, length, get_or, Option, Some, None, refl, sym, ap, ◌∙◌, subst, arith, ne_eqb, eq-eqb}
use Rattle.std.specs.Prelude.{slice_index, unwrap_or, ◌==◌}
use Rattle.std.specs.List.{All, AllZip, Contains}
use Rattle.std.proofs.lemmas.Bool.{cases_lt}
use Rattle.std.proofs.lemmas.List.{length-drop, take-append-drop}
use Rattle.std.proofs.lemmas.List.Elements.{All-contains, All-contains_itself, All-drop, All-from_get_or, All-weaker}
use Rattle.vsi_lattice.specs.Order.{Lattice, IsLattice, IsClass, Below}
use Rattle.vsi_types.specs.declared.rules.Profile.{Profile}
use Rattle.vsi_types.specs.declared.rules.Step.{Step}
use Rattle.vsi_types.specs.Steps.{sink, IsInOrder, AreInOrder}
use Rattle.vsi_types.specs.Security.{Program, Keeps, class_of, IsChoice, IsTypable, IsWellFormed, steps_of}
use Rattle.vsi_types.specs.Walks.{declared_class}
use Rattle.vsi_types.proofs.Programs.{steps_decide, within}
use Rattle.vsi_types.proofs.Walking.{class_declared}
use Rattle.vsi_infer.specs.Flowing.{size_of, variable_at, AreFlowsOf}
use Rattle.vsi_infer.specs.Inference.{AreClasses}
use Rattle.vsi_infer.specs.Paths.{IsPath}
use Rattle.vsi_infer.proofs.Bridge.{at_place}
use Rattle.vsi_infer.proofs.PathLemmas.{path_push}
use Rattle.vsi_infer.proofs.ShortestLemmas.{source_within, step_flow}
use Rattle.vsi_flows.specs.Table.{HasChoice}
use Rattle.vsi_flows.specs.Policy.{under, all_replaced, IsAtOrAbove, IsAtOrBelow, IsLeastPolicy, IsHopeless}
use Rattle.vsi_flows.specs.Reaching.{floor, IsReached, IsQuiet}
use Rattle.vsi_flows.proofs.UnderLemmas.{keeps_replaced, under_globals, steps_under, declared_under, well_formed}

module _ (L : Lattice) (laws : IsLattice L) (P : Profile) (p : Program) (res : IsWellFormed L p) where
  module _ (policy : List ℕ) (above : IsAtOrAbove L p policy) (t : List ℕ)
      (typed : IsTypable L P (under policy p) t) where
    -- The class that each variable has under the policy.
    abbrev chosen : ℕ → ℕ
    chosen v = class_of L (take (length p.globals) policy ++ t) v

    -- The program under the policy is well formed.
    formed : IsWellFormed L (under policy p)
    formed = well_formed L p res.limit policy above.len res above.classes

    -- Each variable's class is a class of the lattice.
    chosen_within : (v : ℕ) → IsClass L (chosen v)
    chosen_within = within L laws P (under policy p) t formed typed.1

    -- The steps are in order.
    ordered : AreInOrder L chosen (steps_of P p)
    ordered = subst (AreInOrder L chosen)
        (steps_under L p res.limit policy above.len P)
        ((steps_decide L P (under policy p) t laws formed typed.1).0 typed).1

    -- A declared variable has the class of the policy.
    chosen_declared : (v c : ℕ) → v < size_of p → declared_class L p v ≡ Some c
        → chosen v ≡ get_or policy v 0
    chosen_declared v c lt e = class_declared L (under policy p) t typed.0 v (get_or policy v 0)
        (declared_under L p res.limit policy above.len v c lt e)

    -- Classes go up along walks.
    path_up : (a b : ℕ) (w : List Step) → IsPath (steps_of P p) a w b
        → Below L (chosen a) (chosen b)
    path_up a b [] e = subst (λ (x : ℕ). Below L (chosen a) (chosen x)) e
        (laws.reflexive (chosen a) (chosen_within a))
    path_up a b (s ∷ rest) w =
        let one : Below L (chosen s.source) (chosen s.target) =
        All-contains (IsInOrder L chosen) (steps_of P p) s ordered w.1 in
        laws.transitive (chosen a) (chosen s.target) (chosen b) (chosen_within a) (chosen_within s.target)
        (chosen_within b) (subst (λ (x : ℕ). Below L (chosen x) (chosen s.target)) w.0 one)
        (path_up s.target b rest w.2)

    -- The floor of a variable is at or below its class.
    floor_up : (v : ℕ) → v < size_of p → Below L (floor L p v) (chosen v)
    floor_up v lt = by (declared_class L p v) refl
      where
        by : (o : Option ℕ) → declared_class L p v ≡ o → Below L (unwrap_or o L.bottom) (chosen v)
        by None e = laws.bottom_least (chosen v) (chosen_within v)
        by (Some c) e = subst (Below L c) (sym (chosen_declared v c lt e)) (above.above v c lt e)

    -- The floor of a variable is at or below the class of every variable that it reaches.
    floor_path : (inside : (x : ℕ) → x < size_of p → IsClass L (floor L p x)) (a b : ℕ) (w : List Step) → a < size_of p
        → IsPath (steps_of P p) a w b → Below L (floor L p a) (chosen b)
    floor_path inside a b w lt path = laws.transitive (floor L p a) (chosen a) (chosen b) (inside a lt)
        (chosen_within a) (chosen_within b) (floor_up a lt) (path_up a b w path)

    -- The class that reaches a variable is at or below the variable's class.
    reached_below : (inside : (x : ℕ) → x < size_of p → IsClass L (floor L p x)) (b c : ℕ) → IsReached L P p b c
        → Below L c (chosen b)
    reached_below inside b c r = r.least (chosen b) (chosen_within b) (λ a w lt path. floor_path inside a b w lt path)

  -- If a variable whose floor isn't the bottom reaches the ending of loops, no policy helps.
  pub hopeless : (inside : (x : ℕ) → x < size_of p → IsClass L (floor L p x)) (a : ℕ) (w : List Step) → a < size_of p
      → IsPath (steps_of P p) a w sink → (Below L (floor L p a) L.bottom → ⊥) → IsHopeless L P p
  hopeless inside a w lt path high policy above (t, typed) =
      high (floor_path policy above t typed inside a sink w lt path)

  module _ (ds : AreClasses L p.declared) (flows : ℕ → ℕ → Bool) (are : AreFlowsOf P p flows)
      (inside : (x : ℕ) → x < size_of p → IsClass L (floor L p x)) (policy : List ℕ) (len : length policy ≡ size_of p)
      (reached : (b : ℕ) → b < size_of p → IsReached L P p b (get_or policy b 0)) (quiet : IsQuiet L P p) where
    -- The policy consists of classes.
    classes : All (IsClass L) policy
    classes = All-from_get_or (IsClass L) policy 0 (λ i lt. (reached i (omega (arith, lt, len))).within)

    -- The policy is at or above the declared one.
    is_above : IsAtOrAbove L p policy
    is_above = record {
      len = len;
      classes = classes;
      above = λ v c lt e. subst (λ o. Below L (unwrap_or o L.bottom) (get_or policy v 0)) e
          ((reached v lt).above v [] lt refl);
    }

    -- The class of a variable.
    class_there : (v : ℕ) → v < size_of p → class_of L policy v ≡ get_or policy v 0
    class_there v lt = ap (λ t. cond t L.bottom (slice_index policy v))
        (ne_eqb v sink (λ e. omega (arith, lt, e, res.limit)))

    -- A step's source is at or below its target.
    step_up : (s : Step) → Contains (steps_of P p) s → IsInOrder L (class_of L policy) s
    step_up s there =
        let from = source_within L laws P p res ds flows are s there in
        let f = step_flow L laws P p res ds flows are s there in
        subst (λ (x : ℕ). Below L x (class_of L policy s.target)) (sym (class_there s.source from))
        (elim (cases_lt f.0 (size_of p)) [
          | inl lt ↦ (let e : s.target ≡ f.0 = f.2 ∙ at_place L p res.entries res.limit f.0 lt in
              subst (Below L (get_or policy s.source 0)) (sym (ap (class_of L policy) e ∙ class_there f.0 lt))
              ((reached s.source from).least (get_or policy f.0 0) (reached f.0 lt).within
              (λ a w la path. (reached f.0 lt).above a (w ++ s ∷ []) la
              (subst (IsPath (steps_of P p) a (w ++ s ∷ [])) e
              (path_push (steps_of P p) a s.source w s path refl there)))))
          | inr ge ↦ (let k : f.0 ≡ size_of p = omega (arith, ge, f.1) in
              let e : s.target ≡ sink = f.2 ∙ ap (λ t. cond t sink f.0) (eq-eqb f.0 (size_of p) k) in
              subst (Below L (get_or policy s.source 0)) (sym (ap (class_of L policy) e))
              ((reached s.source from).least L.bottom laws.bottom_within
              (λ a w la path. quiet a (w ++ s ∷ []) la (subst (IsPath (steps_of P p) a (w ++ s ∷ [])) e
              (path_push (steps_of P p) a s.source w s path refl there)))))
        ])

    -- The program is accepted under the policy.
    is_accepted : HasChoice L P (under policy p)
    is_accepted =
        let rest : List ℕ = drop (length p.globals) policy in
        let all = All-drop (IsClass L) (length p.globals) policy classes in
        let size : length (drop (length p.globals) policy) ≡ length p.declared =
        omega (arith, length-drop (length p.globals) policy, len, res.entries) in
        let steps : AreInOrder L (class_of L (take (length p.globals) policy ++ drop (length p.globals) policy))
        (steps_of P (under policy p)) =
        subst (λ l. AreInOrder L (class_of L l) (steps_of P (under policy p)))
        (sym (take-append-drop (length p.globals) policy))
        (subst (AreInOrder L (class_of L policy)) (sym (steps_under L p res.limit policy len P))
        (All-weaker (Contains (steps_of P p)) (IsInOrder L (class_of L policy)) step_up (steps_of P p)
        (All-contains_itself (steps_of P p)))) in (
          rest,
          (steps_decide L P (under policy p) rest laws (well_formed L p res.limit policy len res classes) all).1
              (keeps_replaced p.declared (drop (length p.globals) policy) size, steps),
        )

    -- The policy is the least one.
    pub is_least : IsLeastPolicy L P p policy
    is_least = record {
      above = is_above;
      accepted = is_accepted;
      least = λ other above h v c lt e. subst (Below L (get_or policy v 0))
          (chosen_declared other above h.0 h.1 v c lt e)
          (reached_below other above h.0 h.1 inside v (get_or policy v 0) (reached v lt));
    }
