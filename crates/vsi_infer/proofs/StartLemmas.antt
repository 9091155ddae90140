-- A walk over a whole program has the room it needs at its start.
use Rattle.std.proofs.Common.{◌≡◌, ℕ, List, [], length, sym, ap, ◌∙◌, subst, arith}
use Rattle.std.proofs.lemmas.List.{length-map}
use Rattle.vsi_scope.specs.declared.program.Cmd.{Cmd}
use Rattle.vsi_scope.specs.declared.resolved.Entry.{Entry}
use Rattle.vsi_scope.specs.Language.{HasPlaces}
use Rattle.vsi_scope.specs.View.{sequence}
use Rattle.vsi_scope.specs.Program.{Resolved, IsResolved}
use Rattle.std.specs.Prelude.{false}
use Rattle.std.specs.List.{list_any}
use Rattle.vsi_types.specs.declared.rules.Profile.{Profile}
use Rattle.vsi_types.specs.declared.rules.Step.{Step}
use Rattle.vsi_types.specs.Steps.{steps}
use Rattle.vsi_types.specs.Security.{count_from, program, name_place, steps_of}
use Rattle.vsi_types.proofs.Places.{place}
use Rattle.vsi_types.proofs.Programs.{length_count}
use Rattle.vsi_infer.specs.FirstSteps.{HasRoom}
use Rattle.vsi_infer.specs.Membership.{IsFor, same_step, passes}
use Rattle.vsi_infer.proofs.PathLemmas.{steps_pass}

module _ (r : Resolved) (res : IsResolved r) where
  -- The body's locations exist at its beginning.
  at_start : HasPlaces (length (count_from 0 (length r.globals))) (sequence r.body)
  at_start = subst (λ n. HasPlaces n (sequence r.body)) (sym (length_count 0 (length r.globals))) res.places

  -- The body has room at its beginning.
  whole_room : HasRoom (length r.globals) (length r.letvars) (place (count_from 0 (length r.globals)) []
      (length r.globals)) (sequence r.body)
  whole_room = record {
    places = at_start;
    after = omega arith;
    limit = omega (arith, res.entries);
    small = omega (arith, res.entries, res.few_declarations);
  }

  -- The body fits its place at the beginning.
  whole_for : IsFor (length r.globals) (length r.letvars) (record
      { scope = count_from 0 (length r.globals); next = length r.globals }) (sequence r.body)
  whole_for = record {
    places = at_start;
    after = omega arith;
    limit = omega (arith, res.entries);
    small = omega (arith, res.entries, res.few_declarations);
    room = omega (arith, length_count 0 (length r.globals), res.few_globals, res.nested);
  }

  module _ (scope : List ℕ) (n : ℕ) (entries : List Entry) (body : List Cmd) (s : scope ≡ count_from 0 n)
      (g : n ≡ length r.globals) (ls : entries ≡ r.letvars) (b : body ≡ r.body) where
    -- A start with the same globals has that room.
    pub start_room : HasRoom n (length entries) (place scope [] n) (sequence body)
    start_room =
        subst (λ t. HasRoom n (length entries) (place t [] n) (sequence body)) (sym s)
        (subst (λ (m : ℕ). HasRoom m (length entries) (place (count_from 0 m) [] m) (sequence body)) (sym g)
        (subst (λ l. HasRoom (length r.globals) (length l) (place (count_from 0 (length r.globals)) []
        (length r.globals)) (sequence body)) (sym ls)
        (subst (λ l. HasRoom (length r.globals) (length r.letvars)
        (place (count_from 0 (length r.globals)) [] (length r.globals)) (sequence l)) (sym b) whole_room)))

    -- A start with the same globals fits the body.
    pub start_for : IsFor n (length entries) (record { scope = scope; next = n }) (sequence body)
    start_for =
        subst (λ t. IsFor n (length entries) (record { scope = t; next = n }) (sequence body)) (sym s)
        (subst (λ (m : ℕ). IsFor m (length entries) (record { scope = count_from 0 m; next = m }) (sequence body))
        (sym g)
        (subst (λ l. IsFor (length r.globals) (length l) (record
        { scope = count_from 0 (length r.globals); next = length r.globals }) (sequence body)) (sym ls)
        (subst (λ l. IsFor (length r.globals) (length r.letvars)
        (record { scope = count_from 0 (length r.globals); next = length r.globals }) (sequence l))
        (sym b) whole_for)))

    -- From that start, the steps are those of the program.
    pub start_steps : (P : Profile) → steps P (name_place entries n) [] scope n (sequence body) ≡ steps_of P
        (program r)
    start_steps P =
        let m : n ≡ length (program r).globals = g ∙ sym (length-map r.globals (λ x. x.class)) in
        ap (λ t. steps P (name_place entries n) [] t n (sequence body)) s
        ∙ ap (λ l. steps P (name_place l n) [] (count_from 0 n) n (sequence body)) ls
        ∙ ap (λ l. steps P (name_place r.letvars n) [] (count_from 0 n) n (sequence l)) b
        ∙ ap (λ (k : ℕ). steps P (name_place r.letvars k) [] (count_from 0 n) n (sequence r.body)) g
        ∙ ap (λ (k : ℕ). steps P (name_place r.letvars (length r.globals)) [] (count_from 0 k) k (sequence r.body)) m

    -- From that start, a step passes if it is one of the program's steps.
    pub start_passes : (x : Step) (P : Profile) → passes x P (name_place entries n) false scope n
        (sequence body) ≡ list_any (same_step x) (steps_of P (program r))
    start_passes x P = sym (steps_pass x P (name_place entries n) [] scope n (sequence body))
        ∙ ap (list_any (same_step x)) (start_steps P)
