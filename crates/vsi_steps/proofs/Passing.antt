-- By either rule, a typable program is never stopped.
use Rattle.std.proofs.Common.{◌≡◌, ℕ, ◌+◌, ◌<◌, [], ◌∷◌, ◌++◌, length, take, set, get_or, refl, sym, ap, ◌∙◌, subst, ⊎_elim, inl, inr}
use Rattle.std.specs.Prelude.{slice_index}
use Rattle.std.specs.List.{All}
use Rattle.std.proofs.lemmas.List.{set-get_or, take_at}
use Rattle.std.proofs.lemmas.List.Elements.{All-push, All-get_or}
use Rattle.vsi_lattice.specs.Order.{Lattice, IsLattice, IsClass, Below, IsJoin}
use Rattle.vsi_syntax.specs.declared.token.Span.{Span}
use Rattle.vsi_scope.specs.Language.{Expression, Number, Location, Operator, Command, Skip, Assign, Sequence, If, While, Letvar, letvars}
use Rattle.vsi_scope.specs.Meaning.{Store, value}
use Rattle.vsi_types.specs.declared.rules.Profile.{Profile}
use Rattle.vsi_types.specs.declared.rules.Profile.TheVariants.{Base, Strict}
use Rattle.vsi_types.specs.Typing.{Locations, LoopType, VARLOC, HasData, INT, R_VAL, ARITH, SUBTYPE, HasCmd, EMPTY, ASSIGN, COMPOSE, IF, WHILE, LETVAR, SUBTYPE_CMD}
use Rattle.vsi_types.specs.Security.{IsReadIn, class_of}
use Rattle.vsi_types.proofs.Secure.{at_location, data_class, cmd_class, all_more, simple_security}
use Rattle.vsi_types.proofs.Programs.{within}
use Rattle.vsi_steps.specs.declared.labels.Rule.{Rule}
use Rattle.vsi_steps.specs.Labels.{HasLabel, IsStored, IsMark, ReadsMarkAt, labelling}
use Rattle.vsi_steps.specs.Monitor.{Outcome, Halted, Stopped, MayReplace, Monitored}
use Rattle.vsi_steps.specs.Monitor as run
use Rattle.vsi_steps.specs.MonitorLaws.{HaltsWith, TypablePasses}
use Rattle.vsi_steps.proofs.Marks.{labels_lattice, labels_class, labels_below, labels_bottom, class_clean}

module _ (L : Lattice) (laws : IsLattice L) (P : Profile) (classes : ℕ → ℕ) (each : (v : ℕ) → IsClass L (classes v))
  where
    -- The types of the parts of a typed command.
    abbrev pub Typed : Locations → ℕ → Command → ℕ → Type 0
    Typed f n Skip t = Unit {0}
    Typed f n (Assign l s e) t =
        (l < length f) × Below L t (slice_index f l) × HasData L f e (slice_index f l)
    Typed f n (Sequence a b) t = HasCmd L P classes f n a t × HasCmd L P classes f (n + letvars a) b t
    Typed f n (If e a b) t =
        (u : ℕ) × Below L t u × HasData L f e u × HasCmd L P classes f n a u
        × HasCmd L P classes f (n + letvars a) b u
    Typed f n (While e c) t =
        (u : ℕ) × Below L t u × HasData L f e u × HasCmd L P classes f n c u × HasCmd L P classes f n (While e c) u
    Typed f n (Letvar e c) t = HasData L f e (classes n) × HasCmd L P classes (f ++ classes n ∷ []) (n + 1) c t

    -- A command has its parts at a lower type.
    typed_down : (f : Locations) → All (IsClass L) f → (n : ℕ) (c : Command) (t t' : ℕ) → IsClass L t →
        IsClass L t' → Below L t t' → Typed f n c t' → Typed f n c t
    typed_down f all n Skip t t' w w' le h = tt
    typed_down f all n (Assign l s e) t t' w w' le h =
        (h.0, laws.transitive t t' (slice_index f l) w w' (at_location L laws f all l h.0) le h.1, h.2)
    typed_down f all n (Sequence a b) t t' w w' le h = (SUBTYPE_CMD le w h.0, SUBTYPE_CMD le w h.1)
    typed_down f all n (If e a b) t t' w w' le h =
        (h.0, laws.transitive t t' h.0 w w' (data_class L laws f all e h.0 h.2) le h.1, h.2, h.3, h.4)
    typed_down f all n (While e c) t t' w w' le h =
        (h.0, laws.transitive t t' h.0 w w' (data_class L laws f all e h.0 h.2) le h.1, h.2, h.3, h.4)
    typed_down f all n (Letvar e c) t t' w w' le h = (h.0, SUBTYPE_CMD le w h.1)

    -- A typed command has its parts.
    typed : (f : Locations) → All (IsClass L) f → (n : ℕ) (c : Command) (t : ℕ) → HasCmd L P classes f n c t →
        Typed f n c t
    typed f all n c t (EMPTY w) = tt
    typed f all n c t (ASSIGN (VARLOC {l = l} lt) d) =
        (lt, laws.reflexive (slice_index f l) (at_location L laws f all l lt), d)
    typed f all n c t (COMPOSE d d') = (d, d')
    typed f all n c t (IF {e = e} dg d d') = (t, laws.reflexive t (data_class L laws f all e t dg), dg, d, d')
    typed f all n c t (WHILE {e = e} is dg d) =
        (t, laws.reflexive t (data_class L laws f all e t dg), dg, d, WHILE is dg d)
    typed f all n c t (LETVAR dg d) = (dg, d)
    typed f all n c t (SUBTYPE_CMD {t' = t'} le w d) =
        typed_down f all n c t t' w (cmd_class L laws P classes each f all n c t' d) le (typed f all n c t' d)

    -- The label of an expression is at or below every class above all that it reads.
    label_below : (f : Locations) (e : Expression) (t u : ℕ) → IsClass L t →
        ((l : ℕ) → IsReadIn e l → Below L (slice_index f l) t) → HasLabel L f e u → Below L u t
    label_below f (Number z) t u w h is = subst (λ x. Below L x t) (sym is) (laws.bottom_least t w)
    label_below f (Location l s) t u w h is = subst (λ x. Below L x t) (sym is) (h l refl)
    label_below f (Operator o a b) t u w h is =
        is.4.least t w (label_below f a t is.0 w (λ l r. h l (inl r)) is.2)
        (label_below f b t is.1 w (λ l r. h l (inr r)) is.3)

    -- The label of an expression is at or below its type.
    label_typed : (f : Locations) → All (IsClass L) f → (e : Expression) (t u : ℕ) → HasData L f e t →
        HasLabel L f e u → Below L u t
    label_typed f all e t u d is =
        label_below f e t u (data_class L laws f all e t d) (simple_security L f e t laws all d).0 is

    -- A word stored in a variable has the variable's class as its label.
    stored_same : (class t pc v : ℕ) → IsClass L class → Below L t class → Below L pc class →
        IsStored L t pc class v → v ≡ class
    stored_same class t pc v w le up is =
        laws.antisymmetric v class is.within w (is.least class w le up (laws.reflexive class w)) is.variable

    -- A new location has its class as the label.
    new_same : (class t v : ℕ) → IsClass L class → Below L t class → IsJoin L.count (Below L) t class v → v ≡ class
    new_same class t v w le is =
        laws.antisymmetric v class is.within w (is.least class w le (laws.reflexive class w)) is.right

    -- The counter in a branch is at or below the type of its guard.
    inside : (f q : Locations) → All (IsClass L) f → q ≡ f → (e : Expression) (pc t t' u k : ℕ) → IsClass L pc →
        IsClass L t → Below L pc t → Below L t t' → HasData L f e t' → HasLabel L q e k →
        IsJoin L.count (Below L) pc k u → Below L u t'
    inside f q all same e pc t t' u k w w' le up d has is =
        let kt = data_class L laws f all e t' d in
        is.least t' kt (laws.transitive pc t t' w w' kt le up)
        (label_typed f all e t' k d (subst (λ x. HasLabel L x e k) same has))

-- A loop has the same types among the labels.
loop_labels : (R : Rule) (L : Lattice) (P : Profile) (t : ℕ) → LoopType L P t → LoopType (labelling R L) P t
loop_labels R L Base t h = tt
loop_labels R L Strict t h = h ∙ sym (labels_bottom R L)

module _ (R : Rule) (L : Lattice) (laws : IsLattice L) where
  -- An expression has its types among the labels.
  data_labels : (f : Locations) → All (IsClass L) f → (e : Expression) (t : ℕ) → HasData L f e t →
      HasData (labelling R L) f e t
  data_labels f all e t (INT w) = INT (labels_class R L t w)
  data_labels f all e t (R_VAL v) = R_VAL v
  data_labels f all e t (ARITH {a = a} {b = b} d d') = ARITH (data_labels f all a t d) (data_labels f all b t d')
  data_labels f all e t (SUBTYPE {t = t₁} le w d) =
      SUBTYPE (labels_below R L t₁ t (data_class L laws f all e t₁ d) w le) (labels_class R L t w)
      (data_labels f all e t₁ d)

  module _ (P : Profile) (classes : ℕ → ℕ) (each : (v : ℕ) → IsClass L (classes v)) where
    -- A command has its types among the labels.
    cmd_labels : (f : Locations) → All (IsClass L) f → (n : ℕ) (c : Command) (t : ℕ) → HasCmd L P classes f n c t →
        HasCmd (labelling R L) P classes f n c t
    cmd_labels f all n c t (EMPTY w) = EMPTY (labels_class R L t w)
    cmd_labels f all n c t (ASSIGN {e = e} v d) = ASSIGN v (data_labels f all e t d)
    cmd_labels f all n c t (COMPOSE {a = a} {b = b} d d') =
        COMPOSE (cmd_labels f all n a t d) (cmd_labels f all (n + letvars a) b t d')
    cmd_labels f all n c t (IF {e = e} {a = a} {b = b} dg d d') =
        IF (data_labels f all e t dg) (cmd_labels f all n a t d) (cmd_labels f all (n + letvars a) b t d')
    cmd_labels f all n c t (WHILE {e = e} {c = b} is dg d) =
        WHILE (loop_labels R L P t is) (data_labels f all e t dg) (cmd_labels f all n b t d)
    cmd_labels f all n c t (LETVAR {e = e} {c = b} dg d) =
        LETVAR (data_labels f all e (classes n) dg)
        (cmd_labels (f ++ classes n ∷ []) (all_more L laws P classes each f all n) (n + 1) b t d)
    cmd_labels f all n c t (SUBTYPE_CMD {t' = t'} le w d) =
        SUBTYPE_CMD (labels_below R L t t' w (cmd_class L laws P classes each f all n c t' d) le) (labels_class R L t w)
        (cmd_labels f all n c t' d)

-- A label that is not the mark.
abbrev IsClean : Rule → Lattice → ℕ → Type 0
IsClean R L t = IsMark R L t → ⊥

module _ (R : Rule) (L : Lattice) (laws : IsLattice L) (P : Profile) (classes : ℕ → ℕ)
    (each : (v : ℕ) → IsClass L (classes v)) (none : (v : ℕ) → IsClean R L (classes v)) where
  -- A typed expression reads no word with the mark, if no location has the mark.
  clean_read : (f : Locations) → All (IsClean R L) f → (e : Expression) (t : ℕ) (s : Span) → HasData L f e t →
      ReadsMarkAt R L f e s → ⊥
  clean_read f clean e t s (INT w) reads = reads
  clean_read f clean e t s (R_VAL (VARLOC {l = l} lt)) reads = All-get_or (IsClean R L) f l 0 lt clean reads.0
  clean_read f clean e t s (ARITH {a = a} {b = b} d d') reads =
      ⊎_elim (clean_read f clean a t s d) (λ r. clean_read f clean b t s d' r.1) reads
  clean_read f clean e t s (SUBTYPE {t = t₁} le w d) reads = clean_read f clean e t₁ s d reads

  -- The present word of the variable of a typed assignment may be replaced.
  replaceable : (f q : Locations) → All (IsClass L) f → All (IsClean R L) f → q ≡ f → (pc n l : ℕ) (s : Span)
      (e : Expression) (t : ℕ) → IsClass L pc → Below L pc t → HasCmd L P classes f n (Assign l s e) t →
      MayReplace R L pc (slice_index q l)
  replaceable f q all clean same pc n l s e t w le d =
      let h = typed L laws P classes each f all n (Assign l s e) t d in (
        subst (λ x. Below L pc (get_or x l 0)) (sym same) (laws.transitive pc t (slice_index f l) w
            (cmd_class L laws P classes each f all n (Assign l s e) t d) (at_location L laws f all l h.0) le h.1),
        λ mark. absurd (All-get_or (IsClean R L) f l 0 h.0 clean (subst (λ x. IsMark R L (get_or x l 0)) same mark)),
      )

  -- A run of a typed command, whose labels are the classes of its variables, halts with these labels.
  passes : (f : Locations) → All (IsClass L) f → All (IsClean R L) f → (pc n : ℕ) (c : Command) (m : Store)
      (q : Locations) (r : Outcome) → q ≡ f → (t : ℕ) → IsClass L pc → Below L pc t → HasCmd L P classes f n c t →
      Monitored R L classes f pc n c m q r → HaltsWith f r
  passes f all clean pc n c m q r same t w le d run.NOTHING = same
  passes f all clean pc n c m q r same t w le d (run.ASSIGN {l = l} {t = t'} {v = v} {s = s} {e = e} up has is) =
      let h = typed L laws P classes each f all n (Assign l s e) t d in
      let at = at_location L laws f all l h.0 in
      let below = laws.transitive pc t (slice_index f l) w (cmd_class L laws P classes each f all n c t d) at le h.1 in
      let label = label_typed L laws P classes each f all e (slice_index f l) t' h.2
      (subst (λ x. HasLabel L x e t') same has) in
      ap (λ x. set x l v) same
      ∙ ap (set f l) (stored_same L laws P classes each (slice_index f l) t' pc v at label below is) ∙ set-get_or f l 0
  passes f all clean pc n c m q r same t w le d (run.UPGRADE {l = l} {s = s} {e = e} by not) =
      not (replaceable f q all clean same pc n l s e t w le d)
  passes f all clean pc n c m q r same t w le d (run.MARK {l = l} {s = s} {e = e} by not) =
      absurd (not (replaceable f q all clean same pc n l s e t w le d))
  passes f all clean pc n c m q r same t w le d (run.COMPOSE {q₁ = q₁} {a = a} {b = b} {m₁ = m₁} x y) =
      let h = typed L laws P classes each f all n (Sequence a b) t d in
      passes f all clean pc (n + letvars a) b m₁ q₁ r
      (passes f all clean pc n a m q (Halted m₁ q₁) same t w le h.0 x) t w le h.1 y
  passes f all clean pc n c m q r same t w le d (run.COMPOSE_STOP {a = a} {b = b} {x = stop} x) =
      passes f all clean pc n a m q (Stopped stop) same t w le
      (typed L laws P classes each f all n (Sequence a b) t d).0 x
  passes f all clean pc n c m q r same t w le d (run.IF_TRUE {t = k} {u = u} {e = e} {a = a} {b = b} z bare has is x) =
      let h = typed L laws P classes each f all n (If e a b) t d in
      let up = inside L laws P classes each f q all same e pc t h.0 u k w
      (cmd_class L laws P classes each f all n c t d) le h.1 h.2 has is in
      passes f all clean u n a m q r same h.0 is.within up h.3 x
  passes f all clean pc n c m q r same t w le d (run.IF_FALSE {t = k} {u = u} {e = e} {a = a} {b = b} z bare has is x) =
      let h = typed L laws P classes each f all n (If e a b) t d in
      let up = inside L laws P classes each f q all same e pc t h.0 u k w
      (cmd_class L laws P classes each f all n c t d) le h.1 h.2 has is in
      passes f all clean u (n + letvars a) b m q r same h.0 is.within up h.4 x
  passes f all clean pc n c m q r same t w le d (run.IF_MARK {e = e} {a = a} {b = b} {s = s} reads) =
      let h = typed L laws P classes each f all n (If e a b) t d in
      clean_read f clean e h.0 s h.2 (subst (λ x. ReadsMarkAt R L x e s) same reads)
  passes f all clean pc n c m q r same t w le d
      (run.WHILE_TRUE {q₁ = q₁} {t = k} {u = u} {e = e} {c = c'} {m₁ = m₁} z bare has is x y) =
      let h = typed L laws P classes each f all n (While e c') t d in
      let up = inside L laws P classes each f q all same e pc t h.0 u k w
      (cmd_class L laws P classes each f all n c t d) le h.1 h.2 has is in
      passes f all clean u n (While e c') m₁ q₁ r
      (passes f all clean u n c' m q (Halted m₁ q₁) same h.0 is.within up h.3 x) h.0 is.within up h.4 y
  passes f all clean pc n c m q r same t w le d
      (run.WHILE_STOP {t = k} {u = u} {e = e} {c = c'} {x = stop} z bare has is x) =
      let h = typed L laws P classes each f all n (While e c') t d in
      let up = inside L laws P classes each f q all same e pc t h.0 u k w
      (cmd_class L laws P classes each f all n c t d) le h.1 h.2 has is in
      passes f all clean u n c' m q (Stopped stop) same h.0 is.within up h.3 x
  passes f all clean pc n c m q r same t w le d (run.WHILE_FALSE z bare) = same
  passes f all clean pc n c m q r same t w le d (run.WHILE_MARK {e = e} {c = c'} {s = s} reads) =
      let h = typed L laws P classes each f all n (While e c') t d in
      clean_read f clean e h.0 s h.2 (subst (λ x. ReadsMarkAt R L x e s) same reads)
  passes f all clean pc n c m q r same t w le d
      (run.LETVAR {q₁ = q₁} {t = k} {v = v} {e = e} {c = c'} {m₁ = m₁} has is x) =
      let h = typed L laws P classes each f all n (Letvar e c') t d in
      let label = label_typed L laws P classes each f all e (classes n) k h.0
      (subst (λ y. HasLabel L y e k) same has) in
      let longer = ap (λ y. y ++ v ∷ []) same
      ∙ ap (λ y. f ++ y ∷ []) (new_same L laws P classes each (classes n) k v (each n) label is) in
      let inner = passes (f ++ classes n ∷ []) (all_more L laws P classes each f all n)
      (All-push (IsClean R L) f (classes n) clean (none n)) pc (n + 1) c'
      (m ++ value e m ∷ []) (q ++ v ∷ []) (Halted m₁ q₁) longer t w le h.1 x in
      ap (take (length q)) inner ∙ ap (λ y. take (length y) (f ++ classes n ∷ [])) same
      ∙ take_at f (classes n ∷ []) (length f) refl
  passes f all clean pc n c m q r same t w le d
      (run.LETVAR_STOP {t = k} {v = v} {e = e} {c = c'} {x = stop} has is x) =
      let h = typed L laws P classes each f all n (Letvar e c') t d in
      let label = label_typed L laws P classes each f all e (classes n) k h.0
      (subst (λ y. HasLabel L y e k) same has) in
      let longer = ap (λ y. y ++ v ∷ []) same
      ∙ ap (λ y. f ++ y ∷ []) (new_same L laws P classes each (classes n) k v (each n) label is) in
      passes (f ++ classes n ∷ []) (all_more L laws P classes each f all n)
      (All-push (IsClean R L) f (classes n) clean (none n)) pc (n + 1) c'
      (m ++ value e m ∷ []) (q ++ v ∷ []) (Stopped stop) longer t w le h.1 x

-- The law that by either rule a typable program is never stopped.
pub typable_passes : TypablePasses
typable_passes R L P p s laws res typed' m r d =
    let classes = class_of L (p.globals ++ s) in
    let each = within L laws P p s res typed'.1 in
    let f = p.globals in
    let t = typed'.2.0 in
    let kt = cmd_class L laws P classes each f res.classes (length f) p.body t typed'.2.1 in
    passes R (labelling R L) (labels_lattice R L laws) P classes (λ v. labels_class R L (classes v) (each v))
    (λ v. class_clean R L (classes v) (each v)) f
    (λ i x lt. labels_class R L (get_or f i x) (res.classes i x lt))
    (λ i x lt. class_clean R L (get_or f i x) (res.classes i x lt)) L.bottom (length f) p.body m f r refl t
    (labels_class R L L.bottom laws.bottom_within)
    (labels_below R L L.bottom t laws.bottom_within kt (laws.bottom_least t kt))
    (cmd_labels R L laws P classes each f res.classes (length f) p.body t typed'.2.1) d
