-- The monitored run of a program.
use Rattle.std.proofs.Common.{◌≡◌, ℕ, ◌+◌, ◌<◌, List, ◌++◌, length, take, get_or, sym, ap, ◌∙◌, subst, arith}
use Rattle.std.specs.Prelude.{◌≢◌, ◌==◌, cond, slice_index, ⊤, Result, Ok, Err, IfErr, IsErrAnd}
use Rattle.std.specs.List.{All}
use Rattle.std.proofs.lemmas.List.{length-map, length-take-le, take_at}
use Rattle.std.proofs.lemmas.List.Elements.{All-get_or, All-take}
use Rattle.vsi_lattice.specs.Order.{Lattice, IsLattice, IsClass}
use Rattle.vsi_scope.specs.declared.program.Cmd.{Cmd}
use Rattle.vsi_scope.specs.Language.{letvars, HasPlaces}
use Rattle.vsi_scope.specs.Meaning.{Store}
use Rattle.vsi_scope.specs.Program.{Resolved, IsResolved}
use Rattle.vsi_scope.specs.View.{sequence}
use Rattle.vsi_types.specs.declared.rules.Profile.{Profile}
use Rattle.vsi_types.specs.Security.{IsTypable, class_of, program}
use Rattle.vsi_types.specs.Steps.{sink}
use Rattle.vsi_types.specs.Typing.{Locations}
use Rattle.vsi_types.proofs.Tables.{resolved_program}
use Rattle.vsi_steps.specs.declared.labels.Rule.{Rule}
use Rattle.vsi_steps.specs.declared.watch.Stop.{Stop}
use Rattle.vsi_steps.specs.declared.watch.Unfinished.{Unfinished}
use Rattle.vsi_steps.specs.declared.watch.Unfinished.TheVariants as ends
use Rattle.vsi_steps.specs.declared.watch.Watched as watch
use Rattle.vsi_steps.specs.Monitor.{Outcome, Halted, Stopped, Monitored}
use Rattle.vsi_steps.specs.Labels.{labelling}
use Rattle.vsi_steps.specs.Watched.{Held, IsReady, Goes, RunEnds}
use Rattle.vsi_steps.proofs.Marks.{labels_class, labels_bottom}
use Rattle.vsi_steps.proofs.Passing.{typable_passes}

-- A run that isn't finished because memory is refused isn't stopped.
memory_not_stopped : (x : Stop) → ◌≡◌ {A = Unfinished} ends.Memory (ends.Stopped x) → ⊥
memory_not_stopped x e = cc

-- A run that comes to its limit isn't stopped.
limit_not_stopped : (x : Stop) → ◌≡◌ {A = Unfinished} ends.Limit (ends.Stopped x) → ⊥
limit_not_stopped x e = cc

module _ (R : Rule) (L : Lattice) (laws : IsLattice L) (table : List ℕ) (r : Resolved) (kept : IsResolved r)
    (all : All (IsClass L) table) (each : length table ≡ length r.globals + letvars (sequence r.body)) where
  -- The classes of the globals.
  abbrev firsts : List ℕ
  firsts = take (length r.globals) table

  -- The classes of declarations are the same among the labels.
  same_classes : class_of (labelling R L) table ≡ class_of L table
  same_classes = ap (λ b v. cond (v == sink) b (slice_index table v)) (labels_bottom R L)

  -- There is one for each global.
  length_firsts : length firsts ≡ length r.globals
  length_firsts = length-take-le (length r.globals) table (omega (arith, each))

  module _ (cs : List Cmd) (is : cs ≡ r.body) (n : ℕ) (count : n ≡ length r.globals) where
    module _ (pc : ℕ) (low : pc ≡ L.bottom) (m : Store) (long : length m ≡ length r.globals) (a : Held)
        (words : a.words ≡ m) (labels : a.labels ≡ firsts) (variables : a.variables ≡ firsts) where
      -- Its body can be run from a store whose words have the classes of their globals as labels.
      pub whole_ready : IsReady (labelling R L) table pc n (sequence cs) a
      whole_ready =
          let size : length a.variables ≡ length r.globals = ap length variables ∙ length_firsts in record {
            table_classes = λ i x lt. labels_class R L (get_or table i x) (all i x lt);
            entries = omega (arith, each, count, ap (λ l. letvars (sequence l)) is);
            few = omega (arith, count, ap (λ l. letvars (sequence l)) is, kept.few_declarations);
            held = record {
              labelled = record {
                words = ap length words ∙ long ∙ sym size;
                labels = ap length (labels ∙ sym variables);
                classes = λ l lt. labels_class R L (get_or a.labels l 0) (All-get_or (IsClass L) a.labels l 0
                    (subst (λ k. l < k) (ap length (variables ∙ sym labels)) lt)
                    (subst (All (IsClass L)) (sym labels) (All-take (IsClass L) (length r.globals) table all)));
              };
              variables = λ i x lt. labels_class R L (get_or a.variables i x) (subst (All (IsClass L)) (sym variables)
                  (All-take (IsClass L) (length r.globals) table all) i x lt);
            };
            counter = labels_class R L pc (subst (IsClass L) (sym low) laws.bottom_within);
            places = subst (λ k. HasPlaces k (sequence cs)) (sym size)
                (subst (λ l. HasPlaces (length r.globals) (sequence l)) (sym is) kept.places);
          }

      -- The run of the body is that of the program.
      whole_run : (o : Outcome) →
          Monitored R (labelling R L) (class_of (labelling R L) table) a.variables pc n (sequence cs) a.words a.labels
          o →
          Monitored R (labelling R L) (class_of L table) firsts L.bottom (length r.globals) (sequence r.body) m firsts o
      whole_run o d =
          let M = labelling R L in
          let k = length r.globals in
          subst (λ l. Monitored R M (class_of L table) firsts L.bottom k (sequence l) m firsts o) is
          (subst (λ y. Monitored R M (class_of L table) firsts L.bottom y (sequence cs) m firsts o) count
          (subst (λ y. Monitored R M (class_of L table) firsts y n (sequence cs) m firsts o) low
          (subst (λ y. Monitored R M (class_of L table) firsts pc n (sequence cs) y firsts o) words
          (subst (λ y. Monitored R M (class_of L table) firsts pc n (sequence cs) a.words y o) labels
          (subst (λ y. Monitored R M (class_of L table) y pc n (sequence cs) a.words a.labels o) variables
          (subst (λ y. Monitored R M y a.variables pc n (sequence cs) a.words a.labels o) same_classes d))))))

      -- A body that isn't finished ends the run.
      pub whole_stop : (b : Held) (res : Result watch.Watched Unfinished) (e : Unfinished) → IsErrAnd res (λ x. x ≡ e) →
          Goes R L table pc n (sequence cs) a b (Err e) → RunEnds R L table r m res
      whole_stop b (Ok w) e is' h = absurd is'
      whole_stop b (Err x) ends.Memory is' h = subst (λ y. RunEnds R L table r m (Err y)) (sym is') tt
      whole_stop b (Err x) ends.Limit is' h = subst (λ y. RunEnds R L table r m (Err y)) (sym is') tt
      whole_stop b (Err x) (ends.Stopped s) is' h =
          subst (λ y. RunEnds R L table r m (Err y)) (sym is') (whole_run (Stopped s) h)

      -- A body that halts gives the last words and labels.
      pub whole_halts : (b : Held) (w : watch.Watched) (u : ⊤) → w.words.items ≡ b.words → w.labels.items ≡ b.labels →
          Goes R L table pc n (sequence cs) a b (Ok u) → RunEnds R L table r m (Ok w)
      whole_halts b w u words' labels' h =
          let M = labelling R L in
          whole_run (Halted w.words.items w.labels.items)
          (subst (λ y. Monitored R M (class_of M table) a.variables pc n (sequence cs) a.words a.labels
          (Halted w.words.items y)) (sym labels')
          (subst (λ y. Monitored R M (class_of M table) a.variables pc n (sequence cs) a.words a.labels
          (Halted y b.labels)) (sym words') h.0))

  -- A run for which memory runs out.
  pub no_memory : (m : Store) (res : Result watch.Watched Unfinished) → IsErrAnd res (λ e. e ≡ ends.Memory) →
      RunEnds R L table r m res
  no_memory m (Ok w) is = absurd is
  no_memory m (Err x) is = subst (λ y. RunEnds R L table r m (Err y)) (sym is) tt

  -- A typable program isn't stopped.
  pub not_stopped : (m : Store) (res : Result watch.Watched Unfinished) → RunEnds R L table r m res → (P : Profile)
      (s : Locations) → table ≡ (program r).globals ++ s → IsTypable L P (program r) s →
      IfErr res (λ e. (x : Stop) → e ≢ ends.Stopped x)
  not_stopped m (Ok w) h P s is typed = tt
  not_stopped m (Err ends.Memory) h P s is typed = memory_not_stopped
  not_stopped m (Err ends.Limit) h P s is typed = limit_not_stopped
  not_stopped m (Err (ends.Stopped y)) h P s is typed =
      let size = length-map r.globals (λ g. g.class) in
      let firsts_are : firsts ≡ (program r).globals =
      ap (take (length r.globals)) is ∙ take_at (program r).globals s (length r.globals) size in
      let classes = subst (All (IsClass L)) firsts_are (All-take (IsClass L) (length r.globals) table all) in
      absurd (typable_passes R L P (program r) s laws (resolved_program L r classes kept) typed m (Stopped y)
      (subst (λ k. Monitored R (labelling R L) (class_of L ((program r).globals ++ s)) (program r).globals L.bottom k
      (sequence r.body) m (program r).globals (Stopped y)) (sym size)
      (subst (λ l. Monitored R (labelling R L) (class_of L ((program r).globals ++ s)) l L.bottom (length r.globals)
      (sequence r.body) m l (Stopped y)) firsts_are
      (subst (λ l. Monitored R (labelling R L) (class_of L l) firsts L.bottom (length r.globals) (sequence r.body) m
      firsts (Stopped y)) is h))))
