-- The properties of a command that don't change if a loop replaces each choice.
use Rattle.std.proofs.Common.{◌≡◌, ℕ, ◌+◌, ◌<◌, ◌≤◌, max, List, [], ◌∷◌, ◌++◌, length, get_or, drop, Vec, Global, refl, sym, ap, ◌∙◌, subst, arith}
use Rattle.std.proofs.lemmas.List.{drop_more, drop_all}
use Rattle.vsi_scope.specs.declared.program.Ex.{Ex}
use Rattle.vsi_scope.specs.declared.program.Cmd.{Cmd}
use Rattle.vsi_scope.specs.declared.program.Cmd.TheViews as view
use Rattle.vsi_scope.specs.declared.resolved.Entry.{Entry}
use Rattle.vsi_scope.specs.Language.{Command, Skip, Assign, Sequence, If, While, Letvar, letvars, HasPlaces, size, nesting, expressions_depth}
use Rattle.vsi_scope.specs.Program.{Resolved, IsResolved, resolved_of}
use Rattle.vsi_scope.specs.View.{expression, command, sequence}
use Rattle.vsi_scope.proofs.Views.{command_If, command_While, command_Letvar}
use Rattle.vsi_opt.specs.Folding.{one, append}
use Rattle.vsi_opt.proofs.Kept.{append_letvars}
use Rattle.vsi_opt.proofs.Sequences.{append_append, append_nothing, pushed}
use Rattle.vsi_steady.specs.Looped.{looped, IsLooped}

-- The size of two joined sequences is the sum of both sizes.
append_size : (a b : Command) → size (append a b) ≡ size a + size b
append_size Skip b = omega arith
append_size (Assign l s e) b = refl
append_size (Sequence a c) b = omega (arith, append_size c b)
append_size (If e a c) b = refl
append_size (While e c) b = refl
append_size (Letvar e c) b = refl

-- Two joined sequences are nested no deeper than the deeper one.
append_nesting : (a b : Command) → nesting (append a b) ≤ max (nesting a) (nesting b)
append_nesting Skip b = omega arith
append_nesting (Assign l s e) b = omega arith
append_nesting (Sequence a c) b = omega (arith, append_nesting c b)
append_nesting (If e a c) b = omega arith
append_nesting (While e c) b = omega arith
append_nesting (Letvar e c) b = omega arith

-- The expressions of two joined sequences are no deeper than those of both.
append_depth : (a b : Command) →
    expressions_depth (append a b) ≤ max (expressions_depth a) (expressions_depth b)
append_depth Skip b = omega arith
append_depth (Assign l s e) b = omega arith
append_depth (Sequence a c) b = omega (arith, append_depth c b)
append_depth (If e a c) b = omega arith
append_depth (While e c) b = omega arith
append_depth (Letvar e c) b = omega arith

-- Two joined sequences use the locations of both.
append_places : (k : ℕ) (a b : Command) → HasPlaces k a → HasPlaces k b → HasPlaces k (append a b)
append_places k Skip b x y = y
append_places k (Assign l s e) b x y = (x, y)
append_places k (Sequence a c) b x y = (x.0, append_places k c b x.1 y)
append_places k (If e a c) b x y = (x, y)
append_places k (While e c) b x y = (x, y)
append_places k (Letvar e c) b x y = (x, y)

-- The number of letvars is the same.
pub looped_letvars : (c : Command) → letvars (looped c) ≡ letvars c
looped_letvars Skip = refl
looped_letvars (Assign l s e) = refl
looped_letvars (Sequence a b) = omega (arith, looped_letvars a, looped_letvars b)
looped_letvars (If e a b) =
    omega (arith, append_letvars (looped a) (looped b), looped_letvars a, looped_letvars b)
looped_letvars (While e c) = looped_letvars c
looped_letvars (Letvar e c) = omega (arith, looped_letvars c)

-- The size is the same.
looped_size : (c : Command) → size (looped c) ≡ size c
looped_size Skip = refl
looped_size (Assign l s e) = refl
looped_size (Sequence a b) = omega (arith, looped_size a, looped_size b)
looped_size (If e a b) = omega (arith, append_size (looped a) (looped b), looped_size a, looped_size b)
looped_size (While e c) = omega (arith, looped_size c)
looped_size (Letvar e c) = omega (arith, looped_size c)

-- Letvars are nested no deeper.
looped_nesting : (c : Command) → nesting (looped c) ≤ nesting c
looped_nesting Skip = omega arith
looped_nesting (Assign l s e) = omega arith
looped_nesting (Sequence a b) = omega (arith, looped_nesting a, looped_nesting b)
looped_nesting (If e a b) =
    omega (arith, append_nesting (looped a) (looped b), looped_nesting a, looped_nesting b)
looped_nesting (While e c) = omega (arith, looped_nesting c)
looped_nesting (Letvar e c) = omega (arith, looped_nesting c)

-- No expression is deeper.
looped_depth : (c : Command) → expressions_depth (looped c) ≤ expressions_depth c
looped_depth Skip = omega arith
looped_depth (Assign l s e) = omega arith
looped_depth (Sequence a b) = omega (arith, looped_depth a, looped_depth b)
looped_depth (If e a b) = omega (arith, append_depth (looped a) (looped b), looped_depth a, looped_depth b)
looped_depth (While e c) = omega (arith, looped_depth c)
looped_depth (Letvar e c) = omega (arith, looped_depth c)

-- The locations that are used exist.
pub looped_places : (c : Command) (k : ℕ) → HasPlaces k c → HasPlaces k (looped c)
looped_places Skip k x = tt
looped_places (Assign l s e) k x = x
looped_places (Sequence a b) k x = (looped_places a k x.0, looped_places b k x.1)
looped_places (If e a b) k x =
    (x.0, append_places k (looped a) (looped b) (looped_places a k x.1) (looped_places b k x.2))
looped_places (While e c) k x = (x.0, looped_places c k x.1)
looped_places (Letvar e c) k x = (x.0, looped_places c (k + 1) x.1)

-- A program with such a body satisfies the conditions of a resolved program.
pub looped_resolved : (p : Resolved) (cs : List Cmd) → IsResolved p → sequence cs ≡ looped (sequence p.body) →
    IsResolved (resolved_of p.globals p.letvars cs)
looped_resolved p cs r is =
    let c = sequence p.body in
    record {
      entries = omega (arith, r.entries, looped_letvars c, ap letvars is);
      places = subst (HasPlaces (length p.globals)) (sym is) (looped_places c (length p.globals) r.places);
      few_globals = r.few_globals;
      few_declarations = omega (arith, r.few_declarations, looped_letvars c, ap letvars is);
      small = omega (arith, r.small, looped_size c, ap size is);
      nested = omega (arith, r.nested, looped_nesting c, ap nesting is);
      shallow = omega (arith, r.shallow, looped_depth c, ap expressions_depth is);
      distinct = r.distinct;
      named = r.named;
    }

-- A program rebuilt with such a body is the program with loops.
pub looped_rebuilt : (p r : Resolved) (ls : List Entry) (cs : List Cmd) → r ≡ resolved_of p.globals ls cs →
    ls ≡ p.letvars → sequence cs ≡ looped (sequence p.body) → IsLooped p r
looped_rebuilt p r ls cs is same body =
    record {
      globals = ap (λ x. x.globals) is;
      letvars = ap (λ x. x.letvars) is ∙ same;
      body = ap (λ x. sequence x.body) is ∙ body;
    }

-- A loop over both branches replaces a choice.
pub looped_if : (c : Cmd) (e v : Ex) (y n b : Vec Cmd Global) → c ≡ view.If e y n → expression v ≡ expression e →
    sequence b.items ≡ append (looped (sequence y.items)) (looped (sequence n.items)) →
    command (view.While v b) ≡ looped (command c)
looped_if c e v y n b is p f =
    command_While v b
    ∙ ap (λ x. While x (sequence b.items)) p
    ∙ ap (While (expression e)) f
    ∙ sym (ap (λ x. looped (command x)) is ∙ ap looped (command_If e y n))

-- A loop remains a loop.
pub looped_while : (c : Cmd) (e v : Ex) (d b : Vec Cmd Global) → c ≡ view.While e d → expression v ≡ expression e →
    sequence b.items ≡ looped (sequence d.items) → command (view.While v b) ≡ looped (command c)
looped_while c e v d b is p f =
    command_While v b
    ∙ ap (λ x. While x (sequence b.items)) p
    ∙ ap (While (expression e)) f
    ∙ sym (ap (λ x. looped (command x)) is ∙ ap looped (command_While e d))

-- A letvar remains a letvar.
pub looped_letvar : (c : Cmd) (e v : Ex) (d b : Vec Cmd Global) → c ≡ view.Letvar e d →
    expression v ≡ expression e → sequence b.items ≡ looped (sequence d.items) →
    command (view.Letvar v b) ≡ looped (command c)
looped_letvar c e v d b is p f =
    command_Letvar v b
    ∙ ap (λ x. Letvar x (sequence b.items)) p
    ∙ ap (Letvar (expression e)) f
    ∙ sym (ap (λ x. looped (command x)) is ∙ ap looped (command_Letvar e d))

-- One more command is replaced.
pub looped_more : (cs out out' : List Cmd) (i : ℕ) (c d : Cmd) → i < length cs → c ≡ get_or cs i c →
    out' ≡ out ++ d ∷ [] → command d ≡ looped (command c) →
    append (sequence out') (looped (sequence (drop (i + 1) cs)))
    ≡ append (sequence out) (looped (sequence (drop i cs)))
looped_more cs out out' i c d lt is push e =
    ap (λ x. append x (looped (sequence (drop (i + 1) cs))))
    (pushed out out' d (one (looped (command c))) push (ap one e))
    ∙ append_append (sequence out) (one (looped (command c))) (looped (sequence (drop (i + 1) cs)))
    ∙ ap (λ x. append (sequence out) (Sequence (looped (command x)) (looped (sequence (drop (i + 1) cs))))) is
    ∙ ap (λ l. append (sequence out) (looped (sequence l))) (sym (drop_more cs i c lt))

-- At the end of a list nothing is left to replace.
pub looped_end : (cs out : List Cmd) (i : ℕ) → length cs ≤ i →
    append (sequence out) (looped (sequence (drop i cs))) ≡ sequence out
looped_end cs out i le =
    ap (λ l. append (sequence out) (looped (sequence l))) (drop_all i cs le) ∙ append_nothing out
