-- A run that halts by no-sensitive-upgrade halts by permissive upgrade.
use Rattle.std.proofs.Common.{◌≡◌, ℕ, ◌+◌, ◌<◌, [], ◌∷◌, ◌++◌, length, refl, sym, ap, ◌∙◌, subst, ⊎_elim}
use Rattle.std.specs.Prelude.{slice_index}
use Rattle.std.specs.List.{All}
use Rattle.std.proofs.lemmas.List.{length_push}
use Rattle.std.proofs.lemmas.List.Elements.{All-push}
use Rattle.vsi_lattice.specs.Order.{Lattice, IsLattice, IsClass}
use Rattle.vsi_scope.specs.Language.{Expression, Number, Location, Operator, Command, Sequence, If, While, letvars, HasLocations, HasPlaces}
use Rattle.vsi_scope.specs.Meaning.{Store, value}
use Rattle.vsi_types.specs.Typing.{Locations}
use Rattle.vsi_types.specs.Security.{IsReadIn}
use Rattle.vsi_types.proofs.Secure.{at_location}
use Rattle.vsi_steps.specs.declared.labels.Rule.TheVariants.{NoSensitiveUpgrade, PermissiveUpgrade}
use Rattle.vsi_steps.specs.Labels.{HasLabel, IsLabelled, with_mark, ReadsNoMark}
use Rattle.vsi_steps.specs.Monitor.{Outcome, Halted, Monitored, NOTHING, ASSIGN, UPGRADE, MARK, COMPOSE, COMPOSE_STOP, IF_TRUE, IF_FALSE, IF_MARK, WHILE_TRUE, WHILE_STOP, WHILE_FALSE, WHILE_MARK, LETVAR, LETVAR_STOP}
use Rattle.vsi_steps.specs.MonitorLaws.{StopsFewer}
use Rattle.vsi_steps.proofs.Computing.{IfHalted, if_halted_more}
use Rattle.vsi_steps.proofs.Labelled.{label_class, fit_more, kept}
use Rattle.vsi_steps.proofs.Marks.{top_mark, class_clean, below_more, join_more, stored_more}

-- A location that is read exists.
read_within : (k : ℕ) (e : Expression) (l : ℕ) → HasLocations k e → IsReadIn e l → l < k
read_within k (Number z) l has read = absurd read
read_within k (Location i s) l has read = subst (λ x. x < k) (sym read) has
read_within k (Operator o a b) l has read =
    ⊎_elim (λ r. read_within k a l has.0 r) (λ r. read_within k b l has.1 r) read

module _ (L : Lattice) (laws : IsLattice L) where
  module _ (k : ℕ) (m : Store) (q : Locations) (fit : IsLabelled L k m q) where
    -- An expression has its label among the labels.
    label_more : (e : Expression) (t : ℕ) → HasLocations k e → HasLabel L q e t → HasLabel (with_mark L) q e t
    label_more (Number z) t has is = is
    label_more (Location l s) t has is = is
    label_more (Operator o a b) t has is = (
      is.0,
      is.1,
      label_more a is.0 has.0 is.2,
      label_more b is.1 has.1 is.3,
      join_more L laws is.0 is.1 t (label_class L laws k m q fit a is.0 has.0 is.2)
          (label_class L laws k m q fit b is.1 has.1 is.3) is.4,
    )

    -- An expression whose locations have classes as labels reads no mark.
    classes_read : (e : Expression) → HasLocations k e → ReadsNoMark PermissiveUpgrade (with_mark L) q e
    classes_read e has = λ l read mark.
        class_clean PermissiveUpgrade L (slice_index q l) (fit.classes l (read_within k e l has read)) mark

  module _ (classes : ℕ → ℕ) (each : (v : ℕ) → IsClass L (classes v)) where
    -- A run that halts by no-sensitive-upgrade halts by permissive upgrade.
    permits : (f : Locations) → All (IsClass L) f → (k : ℕ) → k ≡ length f → (pc n : ℕ) (c : Command) (m : Store)
        (q : Locations) (r : Outcome) → HasPlaces k c → IsLabelled L k m q → IsClass L pc →
        Monitored NoSensitiveUpgrade L classes f pc n c m q r →
        IfHalted r (λ m' q'. Monitored PermissiveUpgrade (with_mark L) classes f pc n c m q (Halted m' q'))
    permits f all k long pc n c m q r has fit w NOTHING = NOTHING
    permits f all k long pc n c m q r has fit w (ASSIGN {l = l} {t = t} {v = v} {e = e} up is st) =
        let kl = fit.classes l has.0 in
        let class = at_location L laws f all l (subst (λ x. l < x) long has.0) in
        ASSIGN (
          below_more L pc (slice_index q l) w kl up.0,
          λ mark. absurd (class_clean PermissiveUpgrade L (slice_index q l) kl mark),
        )
        (label_more k m q fit e t has.1 is)
        (stored_more L laws t pc (slice_index f l) v (label_class L laws k m q fit e t has.1 is) w class st)
    permits f all k long pc n c m q r has fit w (UPGRADE by not) = tt
    permits f all k long pc n c m q r has fit w (MARK by not) = absurd (top_mark NoSensitiveUpgrade L by)
    permits f all k long pc n c m q r has fit w (COMPOSE {q₁ = q₁} {a = a} {b = b} {m₁ = m₁} d d') =
        let first = permits f all k long pc n a m q (Halted m₁ q₁) has.0 fit w d in
        let fit₁ = kept NoSensitiveUpgrade L laws classes f k pc n a m q (Halted m₁ q₁) has.0 fit d in
        if_halted_more r
        (λ m' q'. Monitored PermissiveUpgrade (with_mark L) classes f pc (n + letvars a) b m₁ q₁ (Halted m' q'))
        (λ m' q'. Monitored PermissiveUpgrade (with_mark L) classes f pc n (Sequence a b) m q (Halted m' q'))
        (λ m' q' h. COMPOSE first h) (permits f all k long pc (n + letvars a) b m₁ q₁ r has.1 fit₁ w d')
    permits f all k long pc n c m q r has fit w (COMPOSE_STOP d) = tt
    permits f all k long pc n c m q r has fit w (IF_TRUE {t = t} {u = u} {e = e} {a = a} {b = b} z bare is j d) =
        let kt = label_class L laws k m q fit e t has.0 is in
        if_halted_more r
        (λ m' q'. Monitored PermissiveUpgrade (with_mark L) classes f u n a m q (Halted m' q'))
        (λ m' q'. Monitored PermissiveUpgrade (with_mark L) classes f pc n (If e a b) m q (Halted m' q'))
        (λ m' q' h. IF_TRUE z (classes_read k m q fit e has.0) (label_more k m q fit e t has.0 is)
        (join_more L laws pc t u w kt j) h) (permits f all k long u n a m q r has.1 fit j.within d)
    permits f all k long pc n c m q r has fit w (IF_FALSE {t = t} {u = u} {e = e} {a = a} {b = b} z bare is j d) =
        let kt = label_class L laws k m q fit e t has.0 is in
        if_halted_more r
        (λ m' q'. Monitored PermissiveUpgrade (with_mark L) classes f u (n + letvars a) b m q (Halted m' q'))
        (λ m' q'. Monitored PermissiveUpgrade (with_mark L) classes f pc n (If e a b) m q (Halted m' q'))
        (λ m' q' h. IF_FALSE z (classes_read k m q fit e has.0) (label_more k m q fit e t has.0 is)
        (join_more L laws pc t u w kt j) h) (permits f all k long u (n + letvars a) b m q r has.2 fit j.within d)
    permits f all k long pc n c m q r has fit w (IF_MARK reads) = tt
    permits f all k long pc n c m q r has fit w
        (WHILE_TRUE {q₁ = q₁} {t = t} {u = u} {e = e} {c = b} {m₁ = m₁} z bare is j d d') =
        let kt = label_class L laws k m q fit e t has.0 is in
        let first = permits f all k long u n b m q (Halted m₁ q₁) has.1 fit j.within d in
        let fit₁ = kept NoSensitiveUpgrade L laws classes f k u n b m q (Halted m₁ q₁) has.1 fit d in
        if_halted_more r
        (λ m' q'. Monitored PermissiveUpgrade (with_mark L) classes f u n (While e b) m₁ q₁ (Halted m' q'))
        (λ m' q'. Monitored PermissiveUpgrade (with_mark L) classes f pc n (While e b) m q (Halted m' q'))
        (λ m' q' h. WHILE_TRUE z (classes_read k m q fit e has.0) (label_more k m q fit e t has.0 is)
        (join_more L laws pc t u w kt j) first h) (permits f all k long u n (While e b) m₁ q₁ r has fit₁ j.within d')
    permits f all k long pc n c m q r has fit w (WHILE_STOP z bare is j d) = tt
    permits f all k long pc n c m q r has fit w (WHILE_FALSE {e = e} z bare) =
        WHILE_FALSE z (classes_read k m q fit e has.0)
    permits f all k long pc n c m q r has fit w (WHILE_MARK reads) = tt
    permits f all k long pc n c m q r has fit w
        (LETVAR {q₁ = q₁} {t = t} {v = v} {e = e} {c = b} {m₁ = m₁} is j d) =
        let kt = label_class L laws k m q fit e t has.0 is in
        LETVAR (label_more k m q fit e t has.0 is) (join_more L laws t (classes n) v kt (each n) j)
        (permits (f ++ classes n ∷ []) (All-push (IsClass L) f (classes n) all (each n)) (k + 1)
        (ap (λ x. x + 1) long ∙ sym (length_push f (classes n))) pc (n + 1) b (m ++ value e m ∷ []) (q ++ v ∷ [])
        (Halted m₁ q₁) has.1 (fit_more L laws k m q fit (value e m) v j.within) w d)
    permits f all k long pc n c m q r has fit w (LETVAR_STOP is j d) = tt

-- The law that permissive upgrade stops fewer runs.
pub stops_fewer : StopsFewer
stops_fewer L classes f pc n c laws each all w has m m' q q' fit d =
    permits L laws classes each f all (length f) refl pc n c m q (Halted m' q') has fit w d
