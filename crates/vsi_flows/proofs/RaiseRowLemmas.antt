-- The classes that reach variables, from rows of distances.
use Rattle.std.proofs.Common.{◌≡◌, ℕ, suc, ◌+◌, ◌<◌, ◌≤◌, inl, inr, cond, Bool, List, [], ◌∷◌, ◌++◌, length, get_or, Option, Some, None, refl, sym, ap, ◌∙◌, subst, arith, ne_eqb, eq-eqb}
use Rattle.std.specs.Prelude.{unwrap_or, ◌==◌, MatchOption, Result, Ok, Err, IfOk}
use Rattle.std.specs.List.{All, Contains}
use Rattle.std.proofs.lemmas.Bool.{cases_lt}
use Rattle.std.proofs.lemmas.List.{get_or_append_left, get_or_at, length_push}
use Rattle.std.proofs.lemmas.List.Elements.{All-nil, All-push}
use Rattle.vsi_lattice.specs.Order.{Lattice, IsLattice, IsClass, Below}
use Rattle.vsi_types.specs.declared.rules.Profile.{Profile}
use Rattle.vsi_types.specs.declared.rules.Step.{Step}
use Rattle.vsi_types.specs.Steps.{sink}
use Rattle.vsi_types.specs.Security.{Program, IsWellFormed, steps_of}
use Rattle.vsi_types.specs.Walks.{declared_class}
use Rattle.vsi_infer.specs.Distances.{AreLeast}
use Rattle.vsi_infer.specs.Flowing.{size_of, variable_at, AreFlowsOf}
use Rattle.vsi_infer.specs.Inference.{AreClasses}
use Rattle.vsi_infer.specs.Paths.{IsPath}
use Rattle.vsi_infer.specs.Shortest.{FindsWalks, IsArrived, LeadsDown}
use Rattle.vsi_infer.specs.declared.shortest.WalksTo.{WalksTo}
use Rattle.vsi_infer.proofs.Bridge.{at_place}
use Rattle.vsi_infer.proofs.PathLemmas.{path_bad}
use Rattle.vsi_flows.specs.declared.table.Pair.{Pair}
use Rattle.vsi_flows.specs.Rows.{IsRowTo}
use Rattle.vsi_flows.specs.Table.{IsTold}
use Rattle.vsi_flows.specs.Text.{IsWalkOf}
use Rattle.vsi_flows.specs.Walks.{FindsPair}
use Rattle.vsi_flows.proofs.RowLemmas.{row_is}
use Rattle.vsi_flows.proofs.VerdictLemmas.{declared_within}
use Rattle.vsi_flows.proofs.WalkLemmas.{found_at}
use Rattle.vsi_flows.specs.declared.least.Raise.{Raise}
use Rattle.vsi_flows.specs.Raising.{Change, change, change_at, change_of, IsForced, IsFinal}
use Rattle.vsi_flows.specs.Reaching.{floor, AreFloors, IsJoined, IsOver, AreUnder, IsReached, IsQuiet, IsSettled}
use Rattle.vsi_flows.proofs.PolicyLemmas.{hopeless}

-- One change.
abbrev one : ℕ → ℕ → ℕ → List Change
one v old new = record { variable = v; old = old; new = new } ∷ []

-- The floors of the first n declarations.
pub record AreFirstFloors (L : Lattice) (p : Program) (n : ℕ) (floors : List ℕ) : Type 0 where
  pub len : length floors ≡ n
  pub each : (v : ℕ) → v < n → get_or floors v 0 ≡ floor L p v
  pub classes : All (IsClass L) floors

module _ (L : Lattice) (laws : IsLattice L) (p : Program) (gs : All (IsClass L) p.globals)
    (ds : AreClasses L p.declared) where
  -- A floor is a class of the lattice.
  pub floor_within : (v : ℕ) → IsClass L (floor L p v)
  floor_within v = by (declared_class L p v) refl
    where
      by : (o : Option ℕ) → declared_class L p v ≡ o → IsClass L (unwrap_or o L.bottom)
      by None e = laws.bottom_within
      by (Some c) e = declared_within L laws p gs ds v c e

  -- A variable whose floor isn't at or below a class has a declared class.
  pub floor_declared : (v c : ℕ) → IsClass L c → (Below L (floor L p v) c → ⊥)
      → declared_class L p v ≡ Some (floor L p v)
  floor_declared v c here high = by (declared_class L p v) refl high
    where
      by : (o : Option ℕ) → declared_class L p v ≡ o → (Below L (unwrap_or o L.bottom) c → ⊥)
          → declared_class L p v ≡ Some (unwrap_or o L.bottom)
      by None e n = absurd (n (laws.bottom_least c here))
      by (Some x) e n = e

  -- The state before the first floor.
  pub floors_start : (floors : List ℕ) → floors ≡ [] → AreFirstFloors L p 0 floors
  floors_start floors e = record {
    len = ap length e;
    each = λ v lt. absurd (omega (arith, lt));
    classes = subst (All (IsClass L)) (sym e) (All-nil (IsClass L));
  }

  -- One more floor.
  pub floors_more : (n : ℕ) (floors after : List ℕ) (c : ℕ) → AreFirstFloors L p n floors → c ≡ floor L p n
      → after ≡ floors ++ c ∷ [] → AreFirstFloors L p (n + 1) after
  floors_more n floors after c f e is = subst (AreFirstFloors L p (n + 1)) (sym is) (record {
    len = length_push floors c ∙ ap (λ (m : ℕ). m + 1) f.len;
    each = λ v lt. elim (cases_lt v n) [
      | inl l ↦ get_or_append_left floors (c ∷ []) 0 v (omega (arith, l, f.len)) ∙ f.each v l
      | inr ge ↦ (let k : v ≡ n = omega (arith, lt, ge) in
          get_or_at floors c [] 0 v (f.len ∙ sym k) ∙ e ∙ ap (floor L p) (sym k))
    ];
    classes = All-push (IsClass L) floors c f.classes (subst (IsClass L) (sym e) (floor_within n));
  })

module _ (L : Lattice) (laws : IsLattice L) (P : Profile) (p : Program) (res : IsWellFormed L p)
    (ds : AreClasses L p.declared) (flows : ℕ → ℕ → Bool) (are : AreFlowsOf P p flows) (floors : List ℕ)
    (fl : AreFloors L p floors) (b : ℕ) (lb : b ≤ size_of p) (row : List ℕ)
    (d : AreLeast flows (size_of p + 1) b row) where
  -- The row has the fewest steps.
  fewest : IsRowTo P p (variable_at (size_of p) b) row
  fewest = row_is L laws P p res ds flows are b row lb d

  -- From a position with a distance, a walk leads to the row's variable.
  pub near_path : (a : ℕ) → a < size_of p → get_or row a 0 < 65535
      → (w : List Step) × IsPath (steps_of P p) a w (variable_at (size_of p) b)
  near_path a la near =
      let r = fewest.walk a (omega (arith, la)) near in (
        r.0,
        subst (λ (x : ℕ). IsPath (steps_of P p) x r.0 (variable_at (size_of p) b))
            (at_place L p res.entries res.limit a la) r.1,
      )

  -- A position from which a walk leads to the row's variable has a distance.
  pub path_near : (a : ℕ) (w : List Step) → a < size_of p
      → IsPath (steps_of P p) a w (variable_at (size_of p) b) → get_or row a 0 < 65535
  path_near a w la path = (fewest.fewest a w (omega (arith, la))
      (subst (λ (x : ℕ). IsPath (steps_of P p) x w (variable_at (size_of p) b))
      (sym (at_place L p res.entries res.limit a la)) path)).0

  -- The joined floors are the class that reaches the variable.
  pub joined_reached : (n c : ℕ) → n ≡ length floors → IsJoined L floors row n c
      → IsReached L P p (variable_at (size_of p) b) c
  joined_reached n c is j = record {
    within = j.within;
    above = λ a w la path. subst (λ (x : ℕ). Below L x c) (fl.each a la)
        (j.above a (omega (arith, la, fl.len, is)) (path_near a w la path));
    least = λ x here h. j.least x here (λ a lt near.
        let la : a < size_of p = omega (arith, lt, fl.len, is) in
        let w = near_path a la near in
        subst (λ (y : ℕ). Below L y x) (sym (fl.each a la)) (h a w.0 la w.1));
  }

  -- If the floors of all positions with a distance are at or below a class, so are the floors of all variables that
  -- reach the row's variable.
  pub under_all : (c : ℕ) → AreUnder L floors row c → (a : ℕ) (w : List Step) → a < size_of p
      → IsPath (steps_of P p) a w (variable_at (size_of p) b) → Below L (floor L p a) c
  under_all c under a w la path = subst (λ (x : ℕ). Below L x c) (fl.each a la)
      (under a (omega (arith, la, fl.len)) (path_near a w la path))

  -- A position with a floor over a class is a declared variable that reaches the row's variable.
  pub over_path : (c a : ℕ) → IsOver L floors row c a → (a < size_of p)
      × ((w : List Step) × IsPath (steps_of P p) a w (variable_at (size_of p) b)) × (Below L (floor L p a) c → ⊥)
  over_path c a o =
      let la : a < size_of p = omega (arith, o.within, fl.len) in
      (la, near_path a la o.near, λ below. o.high (subst (λ (x : ℕ). Below L x c) (sym (fl.each a la)) below))

module _ (L : Lattice) (laws : IsLattice L) (P : Profile) (p : Program) (res : IsWellFormed L p)
    (ds : AreClasses L p.declared) (flows : ℕ → ℕ → Bool) (are : AreFlowsOf P p flows) (floors : List ℕ)
    (fl : AreFloors L p floors) (v : ℕ) (lt : v < size_of p) (row : List ℕ)
    (d : AreLeast flows (size_of p + 1) v row) (new : ℕ) (n : ℕ) (is : n ≡ length floors)
    (j : IsJoined L floors row n new) where
  -- The class reaches the variable.
  reached : IsReached L P p v new
  reached = subst (λ (x : ℕ). IsReached L P p x new) (at_place L p res.entries res.limit v lt)
      (joined_reached L laws P p res ds flows are floors fl v (omega (arith, lt)) row d n new is j)

  -- An omitted class is settled.
  pub settled_omitted : declared_class L p v ≡ None → IsSettled L P p v new None
  settled_omitted e = record { reached = reached; changed = ap (λ o. change_at v o new) e }

  module _ (old : ℕ) (e : declared_class L p v ≡ Some old) where
    -- The old class is at or below the new one.
    old_below : Below L old new
    old_below = subst (λ o. Below L (unwrap_or o L.bottom) new) e (reached.above v [] lt refl)

    -- The old class is a class of the lattice.
    old_within : IsClass L old
    old_within = declared_within L laws p res.classes ds v old e

    -- A class stays if no floor that reaches the variable is over it.
    pub settled_same : AreUnder L floors row old → IsSettled L P p v new None
    settled_same under =
        let below : Below L new old = reached.least old old_within (λ a w la path.
        under_all L laws P p res ds flows are floors fl v (omega (arith, lt)) row d old under a w la
        (subst (IsPath (steps_of P p) a w) (sym (at_place L p res.entries res.limit v lt)) path)) in
        let same : old ≡ new = laws.antisymmetric old new old_within reached.within old_below below in
        record {
          reached = reached;
          changed = ap (λ o. change_at v o new) e
              ∙ ap (λ t. cond t [] (one v old new)) (eq-eqb old new same);
        }

    -- A class rises if some floor that reaches the variable is over it.
    pub settled_raised : (a : ℕ) → IsOver L floors row old a → (r : Raise) → r.variable ≡ v → r.old ≡ old
        → r.new ≡ new → r.cause ≡ a → IsSettled L P p v new (Some r)
    settled_raised a over r rv ro rn rc =
        let o = over_path L laws P p res ds flows are floors fl v (omega (arith, lt)) row d old a over in
        let path : IsPath (steps_of P p) a o.1.0 v = subst (IsPath (steps_of P p) a o.1.0)
        (at_place L p res.entries res.limit v lt) o.1.1 in
        let differ : (old ≡ new → ⊥) = λ same. o.2 (subst (Below L (floor L p a)) (sym same)
        (reached.above a o.1.0 o.0 path)) in
        record {
          reached = reached;
          changed = (
            ap (λ o. change_at v o new) e
                ∙ ap (λ t. cond t [] (one v old new)) (ne_eqb old new differ)
                ∙ ap (λ (x : ℕ). one x old new) (sym rv)
                ∙ ap (λ (x : ℕ). one r.variable x new) (sym ro)
                ∙ ap (λ (x : ℕ). one r.variable r.old x) (sym rn),
            record {
              within = subst (λ (x : ℕ). x < size_of p) (sym rc) o.0;
              class = floor L p a;
              declared = ap (declared_class L p) rc
                  ∙ floor_declared L laws p res.classes ds a old old_within o.2;
              high = λ below. o.2 (subst (Below L (floor L p a)) ro below);
              walk = o.1.0;
              path = subst (λ (x : ℕ). IsPath (steps_of P p) x o.1.0 r.variable) (sym rc)
                  (subst (IsPath (steps_of P p) a o.1.0) (sym rv) path);
            },
          );
        }

module _ (L : Lattice) (laws : IsLattice L) (P : Profile) (p : Program) (res : IsWellFormed L p)
    (ds : AreClasses L p.declared) (flows : ℕ → ℕ → Bool) (are : AreFlowsOf P p flows) (row : List ℕ)
    (d : AreLeast flows (size_of p + 1) (size_of p) row) where
  -- The last position is the ending of loops.
  last_sink : variable_at (size_of p) (size_of p) ≡ sink
  last_sink = ap (λ t. cond t sink (size_of p)) (eq-eqb (size_of p) (size_of p) refl)

  -- The row has the fewest steps to the ending of loops.
  to_sink : IsRowTo P p sink row
  to_sink = subst (λ (x : ℕ). IsRowTo P p x row) last_sink
      (row_is L laws P p res ds flows are (size_of p) row (omega arith) d)

  -- If no position's floor is over the bottom, only variables at the bottom reach the ending of loops.
  pub quiet : (floors : List ℕ) → AreFloors L p floors → AreUnder L floors row L.bottom → IsQuiet L P p
  quiet floors fl under a w la path =
      under_all L laws P p res ds flows are floors fl (size_of p) (omega arith) row d L.bottom under a w la
      (subst (IsPath (steps_of P p) a w) (sym last_sink) path)

  module _ (a : ℕ) (la : a < size_of p) (near : get_or row a 0 < 65535)
      (high : Below L (floor L p a) L.bottom → ⊥) where
    -- The pair of the variable and the ending of loops.
    abbrev pub pair : Pair
    pair = record {
      source = a;
      target = sink;
      allowed = L.leq (floor L p a) L.bottom;
      steps = get_or row a 0;
    }

    -- The declared class.
    declared : declared_class L p a ≡ Some (floor L p a)
    declared = floor_declared L laws p res.classes ds a L.bottom laws.bottom_within high

    -- The variable isn't the ending of loops.
    apart : a ≡ sink → ⊥
    apart e = omega (arith, e, la, res.limit)

    -- A walk of the fewest steps.
    walk : (w : List Step) × IsPath (steps_of P p) a w sink × (length w ≡ get_or row a 0)
    walk =
        let w = to_sink.walk a (omega (arith, la)) near in
        (w.0, subst (λ (x : ℕ). IsPath (steps_of P p) x w.0 sink) (at_place L p res.entries res.limit a la) w.1, w.2)

    -- It has a step.
    some : 0 < get_or row a 0
    some = by walk.0 walk.1 walk.2
      where
        by : (w : List Step) → IsPath (steps_of P p) a w sink → length w ≡ get_or row a 0 → 0 < get_or row a 0
        by [] path n = absurd (apart path)
        by (s ∷ rest) path n = omega (arith, n)

    -- The facts that the pair states.
    told : IsTold L P p pair
    told = record {
      apart = apart;
      low = floor L p a;
      high = L.bottom;
      source = declared;
      target = refl;
      verdict = refl;
      steps = record {
        walk = walk.0;
        path = walk.1;
        count = walk.2;
        fewest = λ other q. (to_sink.fewest a other (omega (arith, la))
            (subst (λ (x : ℕ). IsPath (steps_of P p) x other sink) (sym (at_place L p res.entries res.limit a la)) q)).1;
      };
    }

    -- The finder of walks down the row finds the walk of the pair.
    pub finds : (w : WalksTo) → FindsWalks (steps_of P p) (size_of p) row w → FindsPair (steps_of P p) pair w
    finds w f = found_at L laws P p res ds flows are (size_of p) row d (omega arith) pair (sym last_sink) la told some w f

    -- A walk to the ending of loops is final.
    pub is_final : (w : List Step) → IsPath (steps_of P p) a w sink → IsFinal L P p w
    is_final [] path = absurd (apart path)
    is_final (s ∷ rest) path = record {
      bad = path_bad L P p s rest sink (floor L p a) L.bottom
          (subst (λ (x : ℕ). IsPath (steps_of P p) x (s ∷ rest) sink) (sym path.0) path)
          (ap (declared_class L p) path.0 ∙ declared) refl high;
      from = a;
      ends = path;
      hopeless = hopeless L laws P p res (λ x lt. floor_within L laws p res.classes ds x) a (s ∷ rest) la path high;
    }

  module _ (floors : List ℕ) (fl : AreFloors L p floors) (a : ℕ) (over : IsOver L floors row L.bottom a) (w : WalksTo)
      (f : FindsWalks (steps_of P p) (size_of p) row w) where
    -- The position is a declaration.
    from_within : a < size_of p
    from_within = omega (arith, over.within, fl.len)

    -- Its floor isn't the bottom.
    from_high : Below L (floor L p a) L.bottom → ⊥
    from_high below = over.high (subst (λ (x : ℕ). Below L x L.bottom) (sym (fl.each a from_within)) below)

    -- The walks down the row lead down.
    pub over_down : LeadsDown (steps_of P p) w.last w.row.now
    over_down = (finds a from_within over.near from_high w f).down

    -- The walk that arrives is final.
    pub over_final : (count : ℕ) → get_or row a 0 ≡ count → (steps : List Step)
        → IsArrived (steps_of P p) w.last w.row.now a count steps → IsFinal L P p steps
    over_final count is steps r =
        let h = finds a from_within over.near from_high w f in
        let e : r.end ≡ sink = h.arrives steps r.end r.path (r.size ∙ sym is) r.level in
        is_final a from_within over.near from_high steps (subst (IsPath (steps_of P p) a steps) e r.path)
