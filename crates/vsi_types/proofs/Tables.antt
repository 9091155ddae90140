-- Tables built by a loop.
use Rattle.std.proofs.Common.{◌≡◌, ℕ, zero, suc, ◌+◌, ◌<◌, List, [], ◌∷◌, ◌++◌, ◌≤◌, map, take, length, get_or, refl, sym, ap, ◌∙◌, subst, arith}
use Rattle.std.proofs.lemmas.List.{take_more, map-append, length-map}
use Rattle.std.specs.Prelude.{⊤, Result, Ok, Err, OnOk, IfErr}
use Rattle.std.specs.List.{All}
use Rattle.vsi_lattice.specs.Order.{Lattice, IsLattice, IsClass}
use Rattle.vsi_scope.specs.Language.{letvars, HasPlaces}
use Rattle.vsi_scope.specs.View.{sequence}
use Rattle.vsi_scope.specs.Program.{Resolved, IsResolved}
use Rattle.vsi_types.specs.declared.rules.CheckError.{CheckError}
use Rattle.vsi_types.specs.declared.rules.CheckError.TheVariants.{Memory, WrongChoice, Flow}
use Rattle.vsi_types.specs.declared.rules.FlowFault.{FlowFault}
use Rattle.vsi_types.specs.declared.rules.Profile.{Profile}
use Rattle.vsi_types.specs.declared.rules.Step.{Step}
use Rattle.vsi_types.specs.Steps.{IsInOrder, AreInOrder, IsFirstFault}
use Rattle.vsi_types.specs.Checking.{TellsFault, TellsWhy, Judged}
use Rattle.vsi_types.specs.Walker.{Place}
use Rattle.vsi_types.proofs.Orders.{Each, each_from_all, each_back}
use Rattle.vsi_types.specs.Security.{class_of, count_from, Program, program, IsChoice, IsTypable, IsWellFormed, steps_of}
use Rattle.vsi_types.proofs.Programs.{steps_decide}
use Rattle.vsi_types.proofs.Places.{place, at_place}

-- Counting one more number.
pub count_more : (n k : ℕ) → count_from n (k + 1) ≡ count_from n k ++ (n + k) ∷ []
count_more n zero = let e : n ≡ n + 0 = omega arith in ap (λ m. m ∷ []) e
count_more n (suc k) =
    let e : suc n + k ≡ n + suc k = omega arith in
    let f : suc k + 1 ≡ suc (k + 1) = omega arith in
    ap (count_from n) f ∙ ap (λ l. n ∷ l) (count_more (suc n) k ∙ ap (λ m. count_from (suc n) k ++ m ∷ []) e)

-- The table with one more entry.
pub map_more : {X Y : Type 0} (f : X → Y) (xs : List X) (i : ℕ) (x : X) → i < length xs → x ≡ get_or xs i x →
    map f (take (i + 1) xs) ≡ map f (take i xs) ++ f x ∷ []
map_more f xs i x lt is = ap (map f) (take_more xs i x lt) ∙ map-append f (take i xs) (get_or xs i x ∷ [])
    ∙ ap (λ y. map f (take i xs) ++ f y ∷ []) (sym is)

-- A resolved program gives a well-formed one.
pub resolved_program : (L : Lattice) (r : Resolved) → All (IsClass L) (program r).globals → IsResolved r →
    IsWellFormed L (program r)
resolved_program L r classes res =
    let n = length-map r.globals (λ g. g.class) in
    record {
      classes = classes;
      entries = length-map r.letvars (λ e. e.class) ∙ res.entries;
      places = subst (λ k. HasPlaces k (sequence r.body)) (sym n) res.places;
      limit = subst (λ k. k + letvars (sequence r.body) ≤ 1024) (sym n) res.few_declarations;
    }

-- A list of steps that are in order has no fault.
no_fault : (L : Lattice) (classes : ℕ → ℕ) (ss : List Step) (f : FlowFault) → AreInOrder L classes ss →
    IsFirstFault L classes ss f → ⊥
no_fault L classes ss f up h =
    let each = each_from_all (IsInOrder L classes) ss up in
    let split = subst (Each (IsInOrder L classes)) h.whole each in
    h.down (each_back (IsInOrder L classes) h.before (h.step ∷ h.after) split).0

-- If the steps are in order, the only error is lack of memory.
no_tale : (L : Lattice) (classes : ℕ → ℕ) (ss : List Step) (e : CheckError) → AreInOrder L classes ss →
    TellsFault L classes ss e → e ≡ Memory
no_tale L classes ss Memory up h = refl
no_tale L classes ss WrongChoice up h = absurd h
no_tale L classes ss (Flow f) up h = absurd (no_fault L classes ss f up h)

-- The meaning for a program of an answer at the start of its body.
module _ (L : Lattice) (laws : IsLattice L) (P : Profile) (p : Program) (s : List ℕ) (res : IsWellFormed L p)
    (cls : All (IsClass L) s) (table : List ℕ) (t : table ≡ p.globals ++ s) (a b : Place)
    (sc : a.scope ≡ count_from 0 (length p.globals)) (gu : a.guards ≡ []) (ne : a.next ≡ length p.globals) where
  -- The answer for a walk that begins at the start as it is defined.
  abbrev StartJudged : Result ⊤ CheckError → Type 0
  StartJudged r =
      Judged L P (class_of L (p.globals ++ s)) (place (count_from 0 (length p.globals)) [] (length p.globals))
      p.body b r

  -- An answer at the start of the walk is one at the start as it is defined.
  at_start : (r : Result ⊤ CheckError) → Judged L P (class_of L table) a p.body b r → StartJudged r
  at_start r h =
      subst (λ l. Judged L P (class_of L l) (place (count_from 0 (length p.globals)) [] (length p.globals))
      p.body b r) t
      (at_place L P (class_of L table) a.scope (count_from 0 (length p.globals)) a.guards [] a.next (length p.globals)
      b p.body r sc gu ne h)

  -- If the answer is Ok, the program is typable.
  typable_answer : IsChoice p s → (r : Result ⊤ CheckError) → Judged L P (class_of L table) a p.body b r →
      OnOk r (IsTypable L P p s)
  typable_answer kept (Err e) h = tt
  typable_answer kept (Ok u) h = (steps_decide L P p s laws res cls).1 (kept, (at_start (Ok u) h).3 p.names)

  -- A typable program is refused only if memory runs out.
  complete_answer : (r : Result ⊤ CheckError) → Judged L P (class_of L table) a p.body b r →
      IsTypable L P p s → IfErr r (λ e. e ≡ Memory)
  complete_answer (Ok u) h typed = tt
  complete_answer (Err e) h typed =
      no_tale L (class_of L (p.globals ++ s)) (steps_of P p) e ((steps_decide L P p s laws res cls).0 typed).1
      (at_start (Err e) h p.names)

  -- An error is about the steps of the program.
  refused_answer : (r : Result ⊤ CheckError) → Judged L P (class_of L table) a p.body b r →
      IfErr r (TellsFault L (class_of L (p.globals ++ s)) (steps_of P p))
  refused_answer (Ok u) h = tt
  refused_answer (Err e) h = at_start (Err e) h p.names

  -- The meaning of an answer for the program, in both cases.
  pub program_answer : IsChoice p s → (r : Result ⊤ CheckError) → Judged L P (class_of L table) a p.body b r →
      OnOk r (IsTypable L P p s) × (IsTypable L P p s → IfErr r (λ e. e ≡ Memory))
      × IfErr r (TellsFault L (class_of L (p.globals ++ s)) (steps_of P p))
  program_answer kept r h = (typable_answer kept r h, complete_answer r h, refused_answer r h)

-- The meaning of a flow's fault once the choice is valid.
pub tells_why : (L : Lattice) (P : Profile) (p : Program) (s : List ℕ) → IsChoice p s → (r : Result ⊤ CheckError) →
    IfErr r (TellsFault L (class_of L (p.globals ++ s)) (steps_of P p)) → IfErr r (TellsWhy L P p s)
tells_why L P p s kept (Ok u) h = tt
tells_why L P p s kept (Err Memory) h = tt
tells_why L P p s kept (Err WrongChoice) h = absurd h
tells_why L P p s kept (Err (Flow f)) h = (kept, h)
