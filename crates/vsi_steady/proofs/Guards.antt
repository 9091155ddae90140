-- If a choice of classes types a program strictly with loops in place of choices, it also types the program itself.
use Rattle.std.proofs.Common.{◌≡◌, ℕ, ◌+◌, Bool, true, false, ◌||◌, List, [], ◌∷◌, ◌++◌, map, slice_index, refl, sym, ap, ◌∙◌, subst, arith, append_assoc}
use Rattle.std.proofs.lemmas.List.{map-append}
use Rattle.vsi_lattice.specs.Order.{Lattice, IsLattice, Below}
use Rattle.vsi_syntax.specs.declared.token.Span.{Span}
use Rattle.vsi_scope.specs.Language.{Command, Skip, Assign, Sequence, If, While, Letvar, letvars, has_loop}
use Rattle.vsi_types.specs.declared.rules.Profile.{Profile}
use Rattle.vsi_types.specs.declared.rules.Profile.TheVariants.{Strict}
use Rattle.vsi_types.specs.declared.rules.Rule.{Rule}
use Rattle.vsi_types.specs.declared.rules.Rule.TheVariants as typing
use Rattle.vsi_types.specs.declared.rules.Read.{Read}
use Rattle.vsi_types.specs.declared.rules.Guard.{Guard}
use Rattle.vsi_types.specs.declared.rules.Step.{Step}
use Rattle.vsi_types.specs.Steps.{reads, guarded, flow, flows, endings, steps, IsInOrder}
use Rattle.vsi_types.specs.Security.{Program, IsTypable, IsWellFormed, class_of, steps_of}
use Rattle.vsi_types.proofs.Orders.{Each, each_append, each_front, each_back, each_map, each_unmap, each_from_all, all_from_each}
use Rattle.vsi_types.proofs.Programs.{steps_decide}
use Rattle.vsi_opt.specs.Folding.{append}
use Rattle.vsi_steady.specs.Looped.{looped, looped_program}
use Rattle.vsi_steady.proofs.Watching.{looped_letvars, looped_places}

-- The reads of guards.
abbrev read_by : List Guard → List Read
read_by gs = map (λ g. g.read) gs

-- Guards made of reads and a rule have those reads.
read_guarded : (rule : Rule) (rs : List Read) → read_by (guarded rule rs) ≡ rs
read_guarded rule [] = refl
read_guarded rule (r ∷ rs) = ap (λ l. r ∷ l) (read_guarded rule rs)

-- Guards with equal reads still have equal reads after others with equal reads.
read_more : (xs ys gs gs' : List Guard) → read_by xs ≡ read_by ys → read_by gs ≡ read_by gs' →
    read_by (xs ++ gs) ≡ read_by (ys ++ gs')
read_more xs ys gs gs' e f =
    map-append (λ (g : Guard). g.read) xs gs
    ∙ ap (λ l. l ++ read_by gs) e
    ∙ ap (λ l. read_by ys ++ l) f
    ∙ sym (map-append (λ (g : Guard). g.read) ys gs')

module _ (P : Profile) (names : ℕ → Span) (gs : List Guard) (scope : List ℕ) where
  -- The steps of two joined sequences are the steps of both.
  append_steps : (a b : Command) (n : ℕ) →
      steps P names gs scope n (append a b)
      ≡ steps P names gs scope n a ++ steps P names gs scope (n + letvars a) b
  append_steps Skip b n = ap (λ k. steps P names gs scope k b) (omega arith)
  append_steps (Assign l s e) b n = refl
  append_steps (Sequence a c) b n =
      ap (λ l. steps P names gs scope n a ++ l) (append_steps c b (n + letvars a))
      ∙ sym (append_assoc (steps P names gs scope n a) (steps P names gs scope (n + letvars a) c)
      (steps P names gs scope (n + letvars a + letvars c) b))
      ∙ ap (λ k. (steps P names gs scope n a ++ steps P names gs scope (n + letvars a) c)
      ++ steps P names gs scope k b) (omega arith)
  append_steps (If e a c) b n = refl
  append_steps (While e c) b n = refl
  append_steps (Letvar e c) b n = refl

module _ (L : Lattice) (classes : ℕ → ℕ) (names : ℕ → Span) where
  -- A step is in order.
  abbrev InOrder : Step → Type 0
  InOrder s = IsInOrder L classes s

  -- The read variable may flow to a target.
  abbrev MayFlow : ℕ → Read → Type 0
  MayFlow target r = Below L (classes r.variable) (classes target)

  -- If guards have equal reads, their flows are in order alike.
  flows_alike : (target : ℕ) (s : Span) (gs gs' : List Guard) → read_by gs ≡ read_by gs' →
      Each InOrder (flows target s gs') → Each InOrder (flows target s gs)
  flows_alike target s gs gs' e h =
      let there = each_unmap InOrder (flow target s) gs' h in
      let read = each_map (MayFlow target) (λ (g : Guard). g.read) gs' there in
      let here = subst (Each (MayFlow target)) (sym e) read in
      each_map InOrder (flow target s) gs (each_unmap (MayFlow target) (λ (g : Guard). g.read) gs here)

  -- If the endings of a loop are in order, the endings of a command are in order whether it loops or not.
  endings_fewer : (b : Bool) (rs : List Read) → Each InOrder (endings Strict true rs) →
      Each InOrder (endings Strict b rs)
  endings_fewer true rs h = h
  endings_fewer false rs h = tt

  -- The steps of a command are in order if those of the command with loops are, under guards with equal reads.
  unlooped : (c : Command) (gs gs' : List Guard) (scope : List ℕ) (n : ℕ) → read_by gs ≡ read_by gs' →
      Each InOrder (steps Strict names gs' scope n (looped c)) → Each InOrder (steps Strict names gs scope n c)
  unlooped Skip gs gs' scope n e h = tt
  unlooped (Assign l s x) gs gs' scope n e h =
      let own = guarded typing.Assign (reads scope x) in
      flows_alike (slice_index scope l) s (own ++ gs) (own ++ gs') (read_more own own gs gs' refl e) h
  unlooped (Sequence a b) gs gs' scope n e h =
      let first = steps Strict names gs' scope n (looped a) in
      let second = steps Strict names gs' scope (n + letvars (looped a)) (looped b) in
      each_append InOrder (steps Strict names gs scope n a) (steps Strict names gs scope (n + letvars a) b)
      (unlooped a gs gs' scope n e (each_front InOrder first second h))
      (unlooped b gs gs' scope (n + letvars a) e
      (subst (λ k. Each InOrder (steps Strict names gs' scope (n + k) (looped b))) (looped_letvars a)
      (each_back InOrder first second h)))
  unlooped (If x a b) gs gs' scope n e h =
      let rs = reads scope x in
      let inner = gs ++ guarded typing.If rs in
      let inner' = gs' ++ guarded typing.While rs in
      let same = read_more gs gs' (guarded typing.If rs) (guarded typing.While rs) e
      (read_guarded typing.If rs ∙ sym (read_guarded typing.While rs)) in
      let both = steps Strict names inner' scope n (append (looped a) (looped b)) in
      let first = steps Strict names inner' scope n (looped a) in
      let second = steps Strict names inner' scope (n + letvars (looped a)) (looped b) in
      let parts = subst (Each InOrder) (append_steps Strict names inner' scope (looped a) (looped b) n)
      (each_back InOrder (endings Strict true rs) both h) in
      each_append InOrder (endings Strict (has_loop a || has_loop b) rs)
      (steps Strict names inner scope n a ++ steps Strict names inner scope (n + letvars a) b)
      (endings_fewer (has_loop a || has_loop b) rs (each_front InOrder (endings Strict true rs) both h))
      (each_append InOrder (steps Strict names inner scope n a) (steps Strict names inner scope (n + letvars a) b)
      (unlooped a inner inner' scope n same (each_front InOrder first second parts))
      (unlooped b inner inner' scope (n + letvars a) same
      (subst (λ k. Each InOrder (steps Strict names inner' scope (n + k) (looped b))) (looped_letvars a)
      (each_back InOrder first second parts))))
  unlooped (While x c) gs gs' scope n e h =
      let rs = reads scope x in
      let own = guarded typing.While rs in
      let rest = steps Strict names (gs' ++ own) scope n (looped c) in
      each_append InOrder (endings Strict true rs) (steps Strict names (gs ++ own) scope n c)
      (each_front InOrder (endings Strict true rs) rest h)
      (unlooped c (gs ++ own) (gs' ++ own) scope n (read_more gs gs' own own e refl)
      (each_back InOrder (endings Strict true rs) rest h))
  unlooped (Letvar x c) gs gs' scope n e h =
      let own = flows n (names n) (guarded typing.Letvar (reads scope x)) in
      let rest = steps Strict names gs' (scope ++ n ∷ []) (n + 1) (looped c) in
      each_append InOrder own (steps Strict names gs (scope ++ n ∷ []) (n + 1) c)
      (each_front InOrder own rest h)
      (unlooped c gs gs' (scope ++ n ∷ []) (n + 1) e (each_back InOrder own rest h))

-- The program with loops is well formed if the program is.
pub looped_formed : (L : Lattice) (p : Program) → IsWellFormed L p → IsWellFormed L (looped_program p)
looped_formed L p w = record {
  classes = w.classes;
  entries = w.entries ∙ sym (looped_letvars p.body);
  places = looped_places p.body _ w.places;
  limit = omega (arith, w.limit, looped_letvars p.body);
}

-- A choice of classes that types the program with loops types the program.
pub unlooped_typable : (L : Lattice) (p : Program) (s : List ℕ) → IsLattice L → IsWellFormed L p →
    IsTypable L Strict (looped_program p) s → IsTypable L Strict p s
unlooped_typable L p s laws formed typed =
    let classes = class_of L (p.globals ++ s) in
    let ordered = (steps_decide L Strict (looped_program p) s laws (looped_formed L p formed) typed.1).0 typed in
    (steps_decide L Strict p s laws formed typed.1).1 (
      ordered.0,
      all_from_each (IsInOrder L classes) (steps_of Strict p)
          (unlooped L classes p.names p.body [] [] _ _ refl
          (each_from_all (IsInOrder L classes) (steps_of Strict (looped_program p)) ordered.1)),
    )
