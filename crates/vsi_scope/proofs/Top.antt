-- A whole program.
use Rattle.std.proofs.Common.{Bor, length-append, ◌≡◌, ℕ, ◌+◌, ◌<◌, ◌≤◌, nat_lt, List, [], ◌∷◌, ◌++◌, length, map, refl, sym, ap, subst, ◌∙◌, arith, Option, Some, None, Result, Ok, Err, IfErr, Bool, true, false, bytes_eq, if◌then◌else◌}
use Rattle.std.specs.Option.{option_or}
use Rattle.std.specs.List.{All, IsDistinct}
use Rattle.std.proofs.lemmas.List.{length-map}
use Rattle.std.proofs.lemmas.List.Elements.{All-nil, All-cons}
use Rattle.vsi_syntax.specs.Tree as tree
use Rattle.vsi_syntax.specs.Spelling.{IsGlobalsSpelled}
use Rattle.vsi_syntax.specs.Words.{is_name}
use Rattle.vsi_scope.specs.declared.program.Cmd.{Cmd}
use Rattle.vsi_scope.specs.declared.resolved.Global.{Global}
use Rattle.vsi_scope.specs.declared.resolution.command.Resolver.{Resolver}
use Rattle.vsi_scope.specs.declared.resolution.ScopeError.{ScopeError}
use Rattle.vsi_scope.specs.declared.resolution.ScopeError.TheVariants as errors
use Rattle.vsi_scope.specs.Language.{Command, size, letvars, nesting, depth, HasPlaces}
use Rattle.vsi_scope.specs.View.{command, sequence}
use Rattle.vsi_scope.specs.Program.{resolved_of, IsNamed, IsResolved}
use Rattle.vsi_scope.specs.Scopes.{DoesAll, in_sequence}
use Rattle.vsi_scope.specs.Places.{place_of, all_commands}
use Rattle.vsi_lattice.specs.Known.{Known}
use Rattle.vsi_scope.specs.Faults.{Mark, Local, Class, Use, marks, all_marks, all_locals, global_marks, global_names, program_marks, fault_at, first_fault, if_absent, if_there, Refuses}
use Rattle.vsi_scope.specs.Faults as marked
use Rattle.vsi_scope.specs.Resolving.{Shown, shown, global_of, variable, all_variables, IsResolution, Resolves, IsTooLarge, ExplainsScope}
use Rattle.vsi_scope.specs.Resolver.{WalkedAll, IsWithin, scope_of, declared, fault_in_all}
use Rattle.vsi_scope.proofs.Faulty.{refuses_first, refuses_behind, none_in_both}
use Rattle.vsi_scope.proofs.Views.{sequence_in}
use Rattle.vsi_scope.proofs.Walks.{all_counted}
use Rattle.vsi_scope.proofs.Meaning.{does_all, all_places, all_letvars, not_none}
use Rattle.vsi_scope.proofs.Complete.{does_all_one}
use Rattle.vsi_scope.proofs.Limits.{all_nested, all_shallow, expressions_within}
use Rattle.vsi_scope.proofs.Clean.{names_distinct, globals_few, globals_known, globals_clean, all_keep, body_clean}

-- The fault is not that the program is too large.
abbrev Small : Option ScopeError → Type 0
Small None = Unit {0}
Small (Some errors.TooLarge) = ⊥
Small (Some _) = Unit {0}

-- The fault of a missing name is not that the program is too large.
small_absent : (o : Option ℕ) (e : ScopeError) → Small (Some e) → Small (if_absent o e)
small_absent None e s = s
small_absent (Some l) e s = tt

-- The fault of a duplicate name is not that the program is too large.
small_there : (o : Option ℕ) (e : ScopeError) (q : Option ScopeError) → Small (Some e) → Small q →
    Small (if_there o e q)
small_there None e q s r = r
small_there (Some l) e q s r = s

-- The fault of a number is not that the program is too large.
small_if : (b : Bool) (e : ScopeError) → Small (Some e) → Small (if b then None else Some e)
small_if true e s = tt
small_if false e s = s

-- If neither of two faults is that the program is too large, the first of them isn't either.
small_both : (a b : Option ScopeError) → Small a → Small b → Small (option_or a b)
small_both None b s r = r
small_both (Some e) b s r = s

-- The fault at a mark is not that the program is too large.
small_at : (k : Known) (m : Mark) → Small (fault_at k m)
small_at k (marked.Global above x) =
    small_there (place_of above x.text) (errors.Duplicate x.span) _ tt
    (small_if (nat_lt (length above) 256) (errors.TooManyGlobals x.span) tt)
small_at k (Local n x) = small_if (nat_lt n 1024) (errors.TooManyDeclarations x.span) tt
small_at k (Class x) = small_absent (k x.text) (errors.UnknownClass x.span) tt
small_at k (Use s x) = small_absent (place_of s x.text) (errors.Unbound x.span) tt

-- The first fault of marks is not that the program is too large.
small : (k : Known) (ms : List Mark) → Small (first_fault k ms)
small k [] = tt
small k (m ∷ ms) = small_both (fault_at k m) (first_fault k ms) (small_at k m) (small k ms)

-- An error for the first fault explains the refusal.
pub explains : (k : Known) (p : tree.Whole) (e : ScopeError) → Refuses e (first_fault k (program_marks p)) →
    ExplainsScope k p e
explains k p errors.Memory r = tt
explains k p (errors.Duplicate s) r = r
explains k p (errors.UnknownClass s) r = r
explains k p (errors.Unbound s) r = r
explains k p (errors.TooManyGlobals s) r = r
explains k p (errors.TooManyDeclarations s) r = r
explains k p errors.TooLarge r = absurd (subst Small r (small k (program_marks p)))

-- ---- a program that has a resolution within the limits is refused only if memory runs out.

-- No program with a resolution within the limits has a fault.
pub resolution_clean : (k : Known) (p : tree.Whole) (cs : List Command) → IsResolution k p cs →
    first_fault k (program_marks p) ≡ None
resolution_clean k p cs r =
    none_in_both k (global_marks [] p.globals) (all_marks (global_names p.globals) (length p.globals) p.body)
    (globals_clean k p.globals r.distinct r.few_globals r.global_classes)
    (body_clean k (global_names p.globals) (length p.globals) p.body cs r.body r.classes r.few_declarations)

-- No program with a resolution within the limits is too large.
pub resolution_small : (k : Known) (p : tree.Whole) (cs : List Command) → IsResolution k p cs → IsTooLarge k p → ⊥
resolution_small k p cs r t =
    let same = does_all_one (global_names p.globals) p.body cs r.body
    ∙ sym (does_all_one (global_names p.globals) p.body t.commands t.body) in
    omega (arith, r.small, t.large, ap (λ l. size (in_sequence l)) same)

-- A first fault and a resolution within the limits exclude each other.
contradicts : {A : Type 0} (k : Known) (p : tree.Whole) (cs : List Command) (e : ScopeError) → IsResolution k p cs →
    first_fault k (program_marks p) ≡ Some e → A
contradicts k p cs e r q = not_none e (sym q ∙ resolution_clean k p cs r)

-- The only explanation for refusing a program that has a resolution is lack of memory.
complete : (k : Known) (p : tree.Whole) (cs : List Command) → IsResolution k p cs → (e : ScopeError) →
    ExplainsScope k p e → e ≡ errors.Memory
complete k p cs r errors.Memory q = refl
complete k p cs r (errors.Duplicate s) q = contradicts k p cs _ r q
complete k p cs r (errors.UnknownClass s) q = contradicts k p cs _ r q
complete k p cs r (errors.Unbound s) q = contradicts k p cs _ r q
complete k p cs r (errors.TooManyGlobals s) q = contradicts k p cs _ r q
complete k p cs r (errors.TooManyDeclarations s) q = contradicts k p cs _ r q
complete k p cs r errors.TooLarge q = absurd (resolution_small k p cs r q)

-- An answer whose errors are explained refuses a program that has a resolution only if memory runs out.
pub exact : {X : Type 0} (k : Known) (p : tree.Whole) (r : Result X ScopeError) → IfErr r (λ e. ExplainsScope k p e) →
    (cs : List Command) → IsResolution k p cs → IfErr r (λ e. e ≡ errors.Memory)
exact k p (Ok x) h cs s = tt
exact k p (Err e) h cs s = complete k p cs s e h

-- ---- the names of globals.

-- Equal lists begin with equal globals.
first_shown : {x y : Shown} {xs ys : List Shown} → (x ∷ xs) ≡ (y ∷ ys) → x ≡ y
first_shown {x} e = ap (λ l. elim l as (λ _. Shown) [ [] ↦ x | z ∷ zs ↦ z ]) e

-- Equal lists have equal tails.
others_shown : {x y : Shown} {xs ys : List Shown} → (x ∷ xs) ≡ (y ∷ ys) → xs ≡ ys
others_shown e = ap (λ l. elim l as (λ _. List Shown) [ [] ↦ [] | z ∷ zs ↦ zs ]) e

-- A list with a global isn't empty.
none_shown : {A : Type 0} {x : Shown} {xs : List Shown} → (x ∷ xs) ≡ [] → A
none_shown e = absurd (subst (λ l. elim l as (λ _. Type 0) [ [] ↦ ⊥ | z ∷ zs ↦ Unit {0} ]) e tt)

-- Globals whose declarations have valid names have valid names.
all_named : (k : Known) (list : List Global) (gs : List tree.Declared) → map shown list ≡ map (global_of k) gs →
    IsGlobalsSpelled gs → All IsNamed list
all_named k [] gs e s = All-nil IsNamed
all_named k (x ∷ xs) [] e s = none_shown e
all_named k (x ∷ xs) (g ∷ gs) e s =
    let h = first_shown e in
    All-cons IsNamed x xs
    (ap (λ (z : Shown). is_name z.name) h ∙ s.0, ap (λ (z : Shown). is_name z.class_name) h ∙ s.1)
    (all_named k xs gs (others_shown e) s.2)

-- Globals have the names of their declarations.
same_names : (k : Known) (list : List Global) (gs : List tree.Declared) → map shown list ≡ map (global_of k) gs →
    map (λ g. g.name.now) list ≡ global_names gs
same_names k [] [] e = refl
same_names k [] (g ∷ gs) e = none_shown (sym e)
same_names k (x ∷ xs) [] e = none_shown e
same_names k (x ∷ xs) (g ∷ gs) e =
    ap (λ n. n ∷ map (λ z. z.name.now) xs) (ap (λ (z : Shown). z.name) (first_shown e))
    ∙ ap (λ ns. g.name.text ∷ ns) (same_names k xs gs (others_shown e))

-- ---- the walk.

-- A fault of the globals explains the refusal.
pub globals_refuse : (k : Known) (p : tree.Whole) (e : ScopeError) →
    Refuses e (first_fault k (global_marks [] p.globals)) → ExplainsScope k p e
globals_refuse k p e r =
    explains k p e
    (refuses_first e k (global_marks [] p.globals) (all_marks (global_names p.globals) (length p.globals) p.body) r)

-- The globals are read, and the walk begins.
pub record Begun (k : Known) (p : tree.Whole) (list : List Global) (w : Resolver) : Type 0 where
  pub outer : w.names.locals.items ≡ []
  pub named : scope_of w ≡ global_names p.globals
  pub listed : map shown list ≡ map (global_of k) p.globals
  pub letvars : w.letvars.items ≡ []
  -- The program has no fault.
  pub faultless : first_fault k (global_marks [] p.globals) ≡ None
  pub spelled : IsGlobalsSpelled p.globals
  pub shallow : tree.body_depth p.body ≤ 200

-- The walk has passed the body and found no fault.
pub record Over (k : Known) (p : tree.Whole) (w new : Resolver) (after : List Cmd) : Type 0 where
  pub walked : WalkedAll k w new [] after p.body
  pub none : fault_in_all k w p.body ≡ None

module _ (k : Known) (p : tree.Whole) (list : List Global) (w : Resolver) (b : Begun k p list w) where
  -- The number of globals read is the number declared.
  globals_counted : length list ≡ length p.globals
  globals_counted = sym (length-map list shown) ∙ ap length b.listed ∙ length-map p.globals (global_of k)

  -- There are as many names of globals as globals.
  named_counted : length w.names.globals.keys ≡ length p.globals
  named_counted =
      let names = map (λ (x : Bor (List ℕ)). x.now) w.names.globals.keys in
      omega (
        arith,
        ap length b.named,
        length-append names (map (λ x. x.now) w.names.locals.items),
        length-map w.names.globals.keys (λ (x : Bor (List ℕ)). x.now),
        length-map w.names.locals.items (λ (x : Bor (List ℕ)). x.now),
        ap length b.outer,
        length-map p.globals (λ g. g.name.text),
      )

  -- At the beginning the globals are declared.
  begun_declared : declared w ≡ length p.globals
  begun_declared = omega (arith, named_counted, ap length b.letvars)

  -- There are as many names as globals.
  begun_names : length (global_names p.globals) ≡ length p.globals
  begun_names = length-map p.globals (λ g. g.name.text)

  -- The number of globals is within the limit.
  few_globals : length p.globals ≤ 256
  few_globals = omega (arith, globals_few k [] p.globals (omega arith) b.faultless)

  -- The walk begins within the limits.
  pub begun_within : IsWithin w
  begun_within = record {
    locals = omega (arith, ap length b.outer);
    few = omega (arith, begun_declared, few_globals);
  }

  -- A fault of the body explains the refusal.
  pub body_refuses : (e : ScopeError) → Refuses e (fault_in_all k w p.body) → ExplainsScope k p e
  body_refuses e r =
      explains k p e
      (refuses_behind e k (global_marks [] p.globals) (all_marks (global_names p.globals) (length p.globals) p.body)
      b.faultless (rw (b.named, begun_declared) at r))

  module _ (new : Resolver) (after : List Cmd) (over : Over k p w new after) where
    -- The body has no fault.
    none_there : first_fault k (all_marks (global_names p.globals) (length p.globals) p.body) ≡ None
    none_there = rw (b.named, begun_declared) at over.none

    -- The program has no fault.
    pub faultless : first_fault k (program_marks p) ≡ None
    faultless =
        none_in_both k (global_marks [] p.globals) (all_marks (global_names p.globals) (length p.globals) p.body)
        b.faultless none_there

    -- The commands are those that the function gives.
    commands : map command after ≡ all_commands (global_names p.globals) p.body
    commands = over.walked.body ∙ ap (λ s. all_commands s p.body) b.named

    -- The body is the sequence of the commands that the function gives.
    sequence_is : sequence after ≡ in_sequence (all_commands (global_names p.globals) p.body)
    sequence_is = sequence_in after ∙ ap in_sequence commands

    -- The entries are the letvars of the tree.
    variables : map variable new.letvars.items ≡ all_variables k p.body
    variables = over.walked.letvars ∙ ap (λ l. map variable l ++ all_variables k p.body) b.letvars

    -- There are as many entries as letvars in the tree.
    entries : length new.letvars.items ≡ all_locals p.body
    entries = sym (length-map new.letvars.items variable) ∙ ap length variables ∙ all_counted k p.body

    -- There are as many letvars in the body as in the tree.
    counted : letvars (sequence after) ≡ all_locals p.body
    counted = ap letvars sequence_is ∙ all_letvars (global_names p.globals) p.body

    -- The number of declarations is within the limit.
    few_declarations : length p.globals + all_locals p.body ≤ 1024
    few_declarations =
        (all_keep k (global_names p.globals) (length p.globals) p.body none_there).few (omega (arith, few_globals))

    -- The commands are the body over locations.
    does : DoesAll (global_names p.globals) p.body (map command after)
    does =
        subst (DoesAll (global_names p.globals) p.body) (sym commands)
        (does_all k (global_names p.globals) (length p.globals) p.body none_there)

    -- The locations of the body exist.
    placed : HasPlaces (length list) (sequence after)
    placed =
        subst (HasPlaces (length list)) (sym sequence_is)
        (subst (λ n. HasPlaces n (in_sequence (all_commands (global_names p.globals) p.body)))
        (begun_names ∙ sym globals_counted)
        (all_places k (global_names p.globals) (length p.globals) p.body none_there))

    -- The body over locations is too large.
    pub too_large : 65534 < size (sequence after) → IsTooLarge k p
    too_large large = record {
      commands = map command after;
      faultless = faultless;
      body = does;
      large = subst (λ c. 65534 < size c) (sequence_in after) large;
    }

    -- The body is no deeper than the tree.
    pub no_deeper : depth (sequence after) ≤ 200
    no_deeper = omega (arith, ap depth sequence_is, all_shallow (global_names p.globals) p.body, b.shallow)

    -- The program satisfies the invariant of a resolved program.
    pub is_resolved : size (sequence after) ≤ 65534 → IsResolved (resolved_of list new.letvars.items after)
    is_resolved fits = record {
      entries = entries ∙ sym counted;
      places = placed;
      few_globals = omega (arith, globals_counted, few_globals);
      few_declarations = omega (arith, counted, globals_counted, few_declarations);
      small = fits;
      nested = omega (arith, ap nesting sequence_is, all_nested (global_names p.globals) p.body, b.shallow);
      shallow = omega (arith, expressions_within (sequence after), no_deeper);
      distinct =
          subst (IsDistinct bytes_eq) (sym (same_names k list p.globals b.listed))
          (names_distinct k [] p.globals b.faultless);
      named = all_named k list p.globals b.listed b.spelled;
    }

    -- The program is the resolution of its tree.
    pub resolves : size (sequence after) ≤ 65534 → Resolves k p (resolved_of list new.letvars.items after)
    resolves fits = record {
      faultless = faultless;
      globals = b.listed;
      letvars = variables;
      resolution = record {
        distinct = names_distinct k [] p.globals b.faultless;
        few_globals = few_globals;
        few_declarations = few_declarations;
        global_classes = globals_known k [] p.globals b.faultless;
        classes = (all_keep k (global_names p.globals) (length p.globals) p.body none_there).known;
        body = does;
        small = subst (λ c. size c ≤ 65534) (sequence_in after) fits;
      };
    }
