-- Each pair has a walk down the row of its target.
use Rattle.std.proofs.Common.{◌≡◌, ℕ, suc, ◌+◌, ◌<◌, ◌≤◌, Bool, List, [], ◌∷◌, ◌++◌, length, get_or, Option, Some, None, refl, sym, ap, ◌∙◌, subst, arith, inl, inr, map, take, drop}
use Rattle.std.specs.Prelude.{◌↔◌, Result, Ok, Err, IfOk}
use Rattle.std.specs.List.{All, Contains, flat_map, slice_get}
use Rattle.std.specs.Option.{MatchOption, IsSomeAnd}
use Rattle.std.proofs.lemmas.Bool.{cases_lt}
use Rattle.std.proofs.lemmas.List.{get_or_past, map_push, map-append, take_more, take-append-drop, append_assoc, append-nil}
use Rattle.std.proofs.lemmas.List.Elements.{All-nil, All-push, All-weaker, All-append, All-head, All-tail, All-drop}
use Rattle.std.proofs.lemmas.Grind.{flat_map-append}
use Rattle.std.proofs.lemmas.Option.{slice_get-get_or, slice_get_read, slice_get_within, get_or_from_slice_get}
use Rattle.std.proofs.lemmas.Slice.Zip.{AllZip-left}
use Rattle.vsi_lattice.specs.Order.{Lattice, IsLattice}
use Rattle.vsi_types.specs.declared.rules.Profile.{Profile}
use Rattle.vsi_types.specs.declared.rules.Step.{Step}
use Rattle.vsi_types.specs.Security.{Program, IsWellFormed, program, steps_of}
use Rattle.vsi_types.specs.Walks.{declared_class}
use Rattle.vsi_lattice.specs.declared.lattice.Lattice as lattices
use Rattle.vsi_lattice.specs.LatticeView.{order}
use Rattle.vsi_compiler.specs.SourceView.{source_of, IsSource}
use Rattle.vsi_scope.specs.Program.{Resolved}
use Rattle.vsi_infer.specs.Explanation.{step_line}
use Rattle.vsi_infer.specs.Distances.{Leads, AreLeast}
use Rattle.vsi_infer.specs.Flowing.{size_of, variable_at, AreFlowsOf}
use Rattle.vsi_infer.specs.Inference.{AreClasses}
use Rattle.vsi_infer.specs.Paths.{IsPath}
use Rattle.vsi_infer.specs.Shortest.{row_of, LeadsDown, IsArrived, FindsWalks}
use Rattle.vsi_infer.specs.declared.shortest.WalksTo.{WalksTo}
use Rattle.vsi_infer.proofs.Bridge.{step_there, at_place}
use Rattle.vsi_infer.proofs.ShortestLemmas.{row_back, row_plain, source_within, path_place}
use Rattle.vsi_flows.specs.declared.table.Pair.{Pair}
use Rattle.vsi_flows.specs.Rows.{AreRowsOf}
use Rattle.vsi_flows.specs.Table.{AreAllowed, HasChoice, IsTold, IsTable}
use Rattle.vsi_flows.specs.Text.{Walked, IsWalkOf, pair_line, walked_lines, AddsLines, DecideAcceptance, IsWalksText, ShowDependence}
use Rattle.vsi_flows.specs.Walks.{IsUnreached, FindWalks, FindsPair, IsFound, AreWalkLines}
use Rattle.vsi_flows.proofs.RowLemmas.{row_is}
use Rattle.vsi_flows.proofs.TextLemmas.{decides, shows_dependence}

-- One more row.
pub find_more : (ss : List Step) (last : ℕ) (rows : List (List ℕ)) (found : List (Option WalksTo)) (row : List ℕ)
    (o : Option WalksTo) → FindWalks ss last rows found → MatchOption o (IsUnreached row) (FindsWalks ss last row)
    → FindWalks ss last (rows ++ row ∷ []) (found ++ o ∷ [])
find_more ss last [] [] row o h q = (q, tt)
find_more ss last [] (x ∷ found) row o h q = absurd h
find_more ss last (r ∷ rows) [] row o h q = absurd h
find_more ss last (r ∷ rows) (x ∷ found) row o h q = (h.0, find_more ss last rows found row o h.1 q)

module _ (L : Lattice) (laws : IsLattice L) (P : Profile) (p : Program) (res : IsWellFormed L p)
    (ds : AreClasses L p.declared) (flows : ℕ → ℕ → Bool) (are : AreFlowsOf P p flows) where
  -- In a row of fewest steps, a step leads down from each position but the last.
  module _ (b : ℕ) (row : List ℕ) (d : AreLeast flows (size_of p + 1) b row) where
    -- From each position but the last, a step of the program leads down.
    down_at : (i n : ℕ) → get_or row i 0 ≡ suc n → suc n < 65535 → (i < size_of p)
        × ((s : Step) × Contains (steps_of P p) s × (s.source ≡ i) × (get_or row (row_of (size_of p) s.target) 0 ≡ n))
    down_at i n e lt =
        let there : i < length row = elim (cases_lt i (length row))
        [ inl l ↦ l | inr ge ↦ absurd (omega (arith, e, get_or_past row i 0 ge)) ] in
        let w : Leads flows (suc n) i b =
        subst (λ (m : ℕ). Leads flows m i b) e (d.sound i (omega (arith, there, d.len)) (omega (arith, e, lt))) in
        let v = w.0 in
        let fits = are.within i v w.1 in
        let near = d.least n v w.2 in
        let far = d.least (suc (get_or row v 0)) i
        (v, w.1, d.sound v (omega (arith, fits.1)) near.0) in
        let q : get_or row v 0 ≡ n = omega (arith, near.1, far.1, e) in
        let s = step_there (steps_of P p) i (variable_at (size_of p) v) (sym (are.flow i v fits.1) ∙ w.1) in (
          fits.0,
          (
            s.0,
            s.1,
            s.2,
            ap (λ (t : ℕ). get_or row (row_of (size_of p) t) 0) s.3
                ∙ ap (λ (t : ℕ). get_or row t 0) (row_back L laws P p res ds flows are v fits.1) ∙ q,
          ),
        )

    -- The row leads down by steps of the program.
    leads_down : LeadsDown (steps_of P p) (size_of p) row
    leads_down v n e lt =
        let r = down_at (row_of (size_of p) v) n e lt in
        (r.1.0, r.1.1, r.1.2 ∙ row_plain L laws P p res ds flows are v r.0, r.1.3)

    -- A walk without a further step has reached the position.
    arrives : b ≤ size_of p → (a e : ℕ) (s : Step) (rest : List Step) → IsPath (steps_of P p) a (s ∷ rest) e
        → get_or row (row_of (size_of p) e) 0 ≡ 0 → e ≡ variable_at (size_of p) b
    arrives lb a e s rest w z =
        let i = path_place L laws P p res ds flows are a e s rest w in
        let at : get_or row i.0 0 ≡ (let x : ℕ = 0 in x) =
        ap (λ (u : ℕ). get_or row u 0) (sym (ap (row_of (size_of p)) i.2
        ∙ row_back L laws P p res ds flows are i.0 i.1)) ∙ z in
        let same : i.0 ≡ b = subst (λ (n : ℕ). Leads flows n i.0 b) at
        (d.sound i.0 (omega (arith, i.1)) (omega (arith, at))) in
        i.2 ∙ ap (variable_at (size_of p)) same

    -- The row of a pair's target has the pair's number of steps at its source.
    told_at : b ≤ size_of p → (r : Pair) → r.target ≡ variable_at (size_of p) b → r.source < size_of p
        → IsTold L P p r → (get_or row r.source 0 ≡ r.steps) × (get_or row r.source 0 < 65535)
    told_at lb r to from told =
        let k = size_of p in
        let is = row_is L laws P p res ds flows are b row lb d in
        let here : variable_at k r.source ≡ r.source = at_place L p res.entries res.limit r.source from in
        let path : IsPath (steps_of P p) (variable_at k r.source) told.steps.walk (variable_at k b) =
        subst (λ (x : ℕ). IsPath (steps_of P p) x told.steps.walk (variable_at k b)) (sym here)
        (subst (IsPath (steps_of P p) r.source told.steps.walk) to told.steps.path) in
        let near = is.fewest r.source told.steps.walk (omega (arith, from)) path in
        let u = is.walk r.source (omega (arith, from)) near.0 in
        let far = told.steps.fewest u.0 (subst (IsPath (steps_of P p) r.source u.0) (sym to)
        (subst (λ (x : ℕ). IsPath (steps_of P p) x u.0 (variable_at k b)) here u.1)) in
        (omega (arith, near.1, far, told.steps.count, u.2), near.0)

    -- The finder of walks down a row finds the walk of a pair whose target has this row.
    pub found_at : b ≤ size_of p → (r : Pair) → r.target ≡ variable_at (size_of p) b → r.source < size_of p
        → IsTold L P p r → 0 < r.steps → (w : WalksTo) → FindsWalks (steps_of P p) (size_of p) row w
        → FindsPair (steps_of P p) r w
    found_at lb r to from told some w f =
        let k = size_of p in
        let here : variable_at k r.source ≡ r.source = at_place L p res.entries res.limit r.source from in
        let place : row_of k r.source ≡ r.source =
        ap (row_of k) (sym here) ∙ row_back L laws P p res ds flows are r.source (omega (arith, from)) in
        let at = told_at lb r to from told in
        record {
          known = f.known;
          down = subst (LeadsDown (steps_of P p) w.last) (sym f.same_row)
              (subst (λ (n : ℕ). LeadsDown (steps_of P p) n row) (sym f.same_last) leads_down);
          away = ap (λ l. get_or l (row_of w.last r.source) 0) f.same_row
              ∙ ap (λ (n : ℕ). get_or row (row_of n r.source) 0) f.same_last
              ∙ ap (λ (n : ℕ). get_or row n 0) place ∙ at.0;
          small = omega (arith, at.0, at.1);
          arrives = λ t e q n z. come t e q n
              (sym (ap (λ l. get_or l (row_of w.last e) 0) f.same_row
              ∙ ap (λ (n : ℕ). get_or row (row_of n e) 0) f.same_last) ∙ z);
        }
      where
        come : (u : List Step) (e : ℕ) → IsPath (steps_of P p) r.source u e → length u ≡ r.steps
            → get_or row (row_of (size_of p) e) 0 ≡ 0 → e ≡ r.target
        come [] e q n z = absurd (omega (arith, n, some))
        come (s ∷ rest) e q n z = arrives lb r.source e s rest q z ∙ sym to

  module _ (rows : List (List ℕ)) (found : List (Option WalksTo)) (find : FindWalks (steps_of P p) (size_of p) rows found) where
    -- The item at a position of a row that is reached.
    at_row : (b : ℕ) (row : List ℕ) → get_or rows b [] ≡ row → (a : ℕ) → 0 < get_or row a 0 → get_or row a 0 < 65535
        → (w : WalksTo) × (slice_get found b ≡ Some (Some w)) × FindsWalks (steps_of P p) (size_of p) row w
    at_row b row is a some small = by (slice_get found b) refl here
      where
        R : List ℕ → Option WalksTo → Type 0
        R r o = MatchOption o (IsUnreached r) (FindsWalks (steps_of P p) (size_of p) r)

        lt : b < length rows
        lt = elim (cases_lt b (length rows)) [
          | inl l ↦ l
          | inr ge ↦ absurd (let e : row ≡ [] = sym is ∙ get_or_past rows b [] ge in
              omega (arith, ap (λ r. get_or r a 0) e, some))
        ]

        here : IsSomeAnd (slice_get found b) (R row)
        here = subst (λ o. MatchOption o (Unit {0}) (λ x. IsSomeAnd (slice_get found b) (R x)))
            (slice_get-get_or rows b [] lt ∙ ap Some is) (AllZip-left R rows found find b)

        by : (o : Option (Option WalksTo)) → slice_get found b ≡ o → IsSomeAnd o (R row)
            → (w : WalksTo) × (slice_get found b ≡ Some (Some w)) × FindsWalks (steps_of P p) (size_of p) row w
        by None e h = absurd h
        by (Some None) e h = absurd (h a some small)
        by (Some (Some w)) e h = (w, e, h)

    -- A pair of the table has a finder for its walk.
    found_told : (b : ℕ) → b ≤ size_of p → AreLeast flows (size_of p + 1) b (get_or rows b []) → (r : Pair)
        → r.target ≡ variable_at (size_of p) b → r.source < size_of p → IsTold L P p r → 0 < r.steps
        → IsFound (steps_of P p) (size_of p) found r
    found_told b lb d r to from told some =
        let row = get_or rows b [] in
        let fewest = told_at b row d lb r to from told in
        let at = at_row b row refl r.source (omega (arith, fewest.0, some)) fewest.1 in (
          at.0,
          ap (slice_get found) (ap (row_of (size_of p)) to ∙ row_back L laws P p res ds flows are b lb) ∙ at.1,
          found_at b row d lb r to from told some at.0 at.2,
        )

    -- If the finder of a pair's row is found, so is the pair's walk.
    found_one : ((b c : ℕ) → b ≤ size_of p → declared_class L p (variable_at (size_of p) b) ≡ Some c
        → AreLeast flows (size_of p + 1) b (get_or rows b [])) → (r : Pair) → IsTold L P p r
        → IsFound (steps_of P p) (size_of p) found r
    found_one least r told = by told.steps.walk told.steps.path told.steps.count
      where
        by : (w : List Step) → IsPath (steps_of P p) r.source w r.target → length w ≡ r.steps
            → IsFound (steps_of P p) (size_of p) found r
        by [] q n = absurd (told.apart q)
        by (s ∷ rest) q n =
            let lt = source_within L laws P p res ds flows are s q.1 in
            let i = path_place L laws P p res ds flows are r.source r.target s rest q in
            found_told i.0 i.1 (least i.0 told.high i.1 (ap (declared_class L p) (sym i.2) ∙ told.target)) r i.2
            (omega (arith, lt, q.0)) told (omega (arith, n))

-- Each pair of the table has a finder for its walk.
pub found_all : (L : Lattice) → IsLattice L → (P : Profile) (p : Program) → IsWellFormed L p
    → AreClasses L p.declared → (rows : List (List ℕ)) → AreRowsOf L P p rows → (found : List (Option WalksTo))
    → FindWalks (steps_of P p) (size_of p) rows found → (pairs : List Pair) → IsTable L P p pairs
    → All (IsFound (steps_of P p) (size_of p) found) pairs
found_all L laws P p res ds rows are found find pairs table =
    All-weaker (IsTold L P p) (IsFound (steps_of P p) (size_of p) found)
    (found_one L laws P p res ds are.flows are.same rows found find are.least) pairs table.told

-- Two finders at one position are equal.
pub same_walks : (w v : WalksTo) → Some (Some w) ≡ Some (Some v) → w ≡ v
same_walks w v e = ap (λ o. elim o as (λ _. WalksTo) [
  | None ↦ w
  | Some x ↦ elim x as (λ _. WalksTo) [ None ↦ w | Some y ↦ y ]
]) e

-- The finder that is read at a pair's position finds its walk.
pub finds_there : (ss : List Step) (last : ℕ) (found : List (Option WalksTo)) (pair : Pair)
    → IsFound ss last found pair → (i : ℕ) → i ≡ row_of last pair.target → (o : Option WalksTo) (w : WalksTo)
    → o ≡ Some w → i < length found → o ≡ get_or found i o → FindsPair ss pair w
finds_there ss last found pair h i e o w is lt at =
    let got = slice_get_read found (length found) i o refl lt at in
    subst (FindsPair ss pair)
    (same_walks h.0 w (sym h.1 ∙ ap (slice_get found) (sym e) ∙ got ∙ ap Some is)) h.2

-- A walk that arrived is a walk of the pair.
pub arrived_walk : {V E : Type 0} (ss : List Step) (pair : Pair) (w : WalksTo) → FindsPair ss pair w
    → (f : V → List Step) (o : Result V E)
    → IfOk o (λ v. IsArrived ss w.last w.row.now pair.source pair.steps (f v))
    → IfOk o (λ v. IsWalkOf ss pair (f v))
arrived_walk ss pair w h f (Ok v) a = record {
  path = subst (IsPath ss pair.source (f v)) (h.arrives (f v) a.end a.path a.size a.level) a.path;
  count = a.size;
}
arrived_walk ss pair w h f (Err e) a = tt

module _ (l : lattices.Lattice) (ss : List Step) (source : List ℕ) (r : Resolved) where
  -- The empty list of pairs has no lines.
  pub lines_none : (text : List ℕ) → text ≡ [] → AreWalkLines l ss source r [] text
  lines_none text e = record {
    walked = [];
    pairs_kept = refl;
    walks = All-nil (λ w. IsWalkOf ss w.pair w.walk);
    lines = e;
  }

  -- One more pair.
  pub lines_more : (pairs : List Pair) (text with more : List ℕ) (pair : Pair) (walk : List Step)
      → AreWalkLines l ss source r pairs text → IsWalkOf ss pair walk → with ≡ text ++ pair_line l r pair
      → more ≡ with ++ flat_map (step_line source r) walk → AreWalkLines l ss source r (pairs ++ pair ∷ []) more
  lines_more pairs text with more pair walk a h e f =
      let one : Walked = record { pair = pair; walk = walk } in
      record {
        walked = a.walked ++ one ∷ [];
        pairs_kept = map_push (λ w. w.pair) a.walked one ∙ ap (λ ps. ps ++ pair ∷ []) a.pairs_kept;
        walks = All-push (λ w. IsWalkOf ss w.pair w.walk) a.walked one a.walks h;
        lines = f ∙ ap (λ t. t ++ flat_map (step_line source r) walk) (e ∙ ap (λ t. t ++ pair_line l r pair) a.lines)
            ∙ joined (flat_map (walked_lines l source r) a.walked) (pair_line l r pair)
            (flat_map (step_line source r) walk)
            ∙ sym (flat_map-append (walked_lines l source r) a.walked (one ∷ []));
      }
    where
      joined : (x y z : List ℕ) → (x ++ y) ++ z ≡ x ++ ((y ++ z) ++ [])
      joined x y z = append_assoc x y z ∙ ap (λ t. x ++ t) (sym (append-nil (y ++ z)))

  -- The lines of one list of pairs and then those of another are the lines of both.
  pub lines_both : (pairs more : List Pair) (text with : List ℕ) → AreWalkLines l ss source r pairs text
      → AreWalkLines l ss source r more with → AreWalkLines l ss source r (pairs ++ more) (text ++ with)
  lines_both pairs more text with a b = record {
    walked = a.walked ++ b.walked;
    pairs_kept = map-append (λ w. w.pair) a.walked b.walked ∙ ap (λ ps. ps ++ map (λ w. w.pair) b.walked) a.pairs_kept
        ∙ ap (λ ps. pairs ++ ps) b.pairs_kept;
    walks = All-append (λ w. IsWalkOf ss w.pair w.walk) a.walked b.walked a.walks b.walks;
    lines = ap (λ t. t ++ with) a.lines ∙ ap (λ t. flat_map (walked_lines l source r) a.walked ++ t) b.lines
        ∙ sym (flat_map-append (walked_lines l source r) a.walked b.walked);
  }

  -- The line of a pair and then those of its walk have been added.
  pub adds_lines : (pairs : List Pair) (number : ℕ) (pair : Pair) (walk : List Step) (old with new : List ℕ)
      → number < length pairs → pair ≡ get_or pairs number pair → IsWalkOf ss pair walk
      → with ≡ old ++ pair_line l r pair → new ≡ with ++ flat_map (step_line source r) walk
      → AddsLines l ss source r pairs number old new
  adds_lines pairs number pair walk old with new lt is h e f = record {
    walked = record { pair = pair; walk = walk };
    there = slice_get-get_or pairs number pair lt ∙ ap Some (sym is);
    walk = h;
    lines = f ∙ ap (λ t. t ++ flat_map (step_line source r) walk) e
        ∙ append_assoc old (pair_line l r pair) (flat_map (step_line source r) walk);
  }

  -- The lines of the next pair have been added to those of the pairs before it, of which some may be elsewhere.
  pub lines_next : (pairs : List Pair) (number : ℕ) (before old new : List ℕ)
      → AreWalkLines l ss source r (take number pairs) (before ++ old)
      → AddsLines l ss source r pairs number old new
      → AreWalkLines l ss source r (take (number + 1) pairs) (before ++ new)
  lines_next pairs number before old new a h =
      let pair = h.walked.pair in
      let inside : number < length pairs = slice_get_within pairs number pair h.there in
      let more : take (number + 1) pairs ≡ take number pairs ++ pair ∷ [] =
      take_more pairs number pair inside
      ∙ ap (λ x. take number pairs ++ x ∷ []) (get_or_from_slice_get pairs number pair pair h.there) in
      subst (λ ps. AreWalkLines l ss source r ps (before ++ new)) (sym more)
      (lines_more (take number pairs) (before ++ old) ((before ++ old) ++ pair_line l r pair) (before ++ new) pair
      h.walked.walk a h.walk refl
      (ap (λ t. before ++ t) h.lines
      ∙ joined before old (pair_line l r pair) (flat_map (step_line source r) h.walked.walk)))
    where
      joined : (w x y z : List ℕ) → w ++ (x ++ (y ++ z)) ≡ ((w ++ x) ++ y) ++ z
      joined w x y z =
          sym (append_assoc (w ++ x) y z ∙ append_assoc w x (y ++ z))

-- The text consists of the lines of a table's pairs, each with a walk.
pub walks_text : (l : lattices.Lattice) (P : Profile) (text : List ℕ) (r : Resolved)
    → IsSource (source_of l text r) → (pairs : List Pair) → IsTable (order l) P (program r) pairs
    → (AreAllowed pairs ↔ HasChoice (order l) P (program r)) → (out : List ℕ) → AreWalkLines l (steps_of P (program r)) text r pairs out → IsWalksText l P text out
walks_text l P text r is pairs table verdict out a = record {
  resolved = r;
  stands = is.stands;
  walked = a.walked;
  table = subst (IsTable (order l) P (program r)) (sym a.pairs_kept) table;
  walks = a.walks;
  lines = a.lines;
  verdict = subst (DecideAcceptance l P text) (sym a.pairs_kept) (decides l P text r is.stands pairs verdict);
  dependence = subst (ShowDependence l text r) (sym a.pairs_kept) (shows_dependence l P text r is pairs table);
}

-- Pairs that are true have lines.
pub some_lines : (l : lattices.Lattice) (P : Profile) (source : List ℕ) (r : Resolved) (pairs : List Pair)
    → All (IsTold (order l) P (program r)) pairs
    → (out : List ℕ) × AreWalkLines l (steps_of P (program r)) source r pairs out
some_lines l P source r [] told = ([], lines_none l (steps_of P (program r)) source r [] refl)
some_lines l P source r (pair ∷ pairs) told =
    let ss = steps_of P (program r) in
    let steps = (All-head (IsTold (order l) P (program r)) pair pairs told).steps in
    let rest = some_lines l P source r pairs (All-tail (IsTold (order l) P (program r)) pair pairs told) in
    let walk = steps.walk in
    let first : IsWalkOf ss pair walk = record { path = steps.path; count = steps.count } in
    let one = lines_more l ss source r [] [] (pair_line l r pair)
    (pair_line l r pair ++ flat_map (step_line source r) walk) pair walk (lines_none l ss source r [] refl) first refl
    refl in (
      (pair_line l r pair ++ flat_map (step_line source r) walk) ++ rest.0,
      lines_both l ss source r (pair ∷ []) pairs (pair_line l r pair ++ flat_map (step_line source r) walk) rest.0 one
          rest.1,
    )

-- The lines of a table's first pairs begin a text with the lines of all.
pub lines_begin : (l : lattices.Lattice) (P : Profile) (source : List ℕ) (r : Resolved)
    → IsSource (source_of l source r) → (pairs : List Pair) → IsTable (order l) P (program r) pairs
    → (AreAllowed pairs ↔ HasChoice (order l) P (program r)) → (number : ℕ) (part : List ℕ) → AreWalkLines l (steps_of P (program r)) source r (take number pairs) part
    → (rest : List ℕ) × IsWalksText l P source (part ++ rest)
lines_begin l P source r is pairs table verdict number part a =
    let ss = steps_of P (program r) in
    let rest = some_lines l P source r (drop number pairs)
    (All-drop (IsTold (order l) P (program r)) number pairs table.told) in (
      rest.0,
      walks_text l P source r is pairs table verdict (part ++ rest.0)
          (subst (λ ps. AreWalkLines l ss source r ps (part ++ rest.0)) (take-append-drop number pairs)
          (lines_both l ss source r (take number pairs) (drop number pairs) part rest.0 a rest.1)),
    )
