-- The program that is typed is the tree's program.
use Rattle.std.proofs.Common.{◌≡◌, ℕ, suc, ◌+◌, ◌-◌, ◌≤◌, List, [], ◌∷◌, map, length, refl, sym, ap, subst, ◌∙◌, Option, Some, None, unwrap_or, slice_get, slice_index_or, IfSome}
use Rattle.std.specs.Option.{option_map}
use Rattle.std.specs.List.{All, AllZip}
use Rattle.std.proofs.lemmas.List.{length-map}
use Rattle.std.proofs.lemmas.List.Elements.{All-map}
use Rattle.std.proofs.lemmas.Option.{slice_get-map}
use Rattle.vsi_syntax.specs.declared.token.Span.{Span}
use Rattle.vsi_syntax.specs.Tree.{Whole, Declared}
use Rattle.vsi_lattice.specs.Order.{Lattice, IsClass}
use Rattle.vsi_scope.specs.declared.resolved.Global.{Global}
use Rattle.vsi_scope.specs.declared.resolved.Entry.{Entry}
use Rattle.vsi_lattice.specs.Known.{Known}
use Rattle.vsi_scope.specs.Language.{Command, HasPlaces, letvars}
use Rattle.vsi_scope.specs.Program.{Resolved}
use Rattle.vsi_scope.specs.Program as scope
use Rattle.vsi_scope.specs.Resolving.{Shown, shown, global_of, Variable, variable, all_variables, Resolves, HasClassesBelow}
use Rattle.vsi_scope.specs.Scopes.{in_sequence}
use Rattle.vsi_scope.specs.View.{command, sequence}
use Rattle.vsi_scope.proofs.Views.{sequence_in}
use Rattle.vsi_types.specs.Security.{Program, program, name_place}
use Rattle.vsi_types.specs.Security as types
use Rattle.vsi_infer.specs.Inference.{AreClasses}
use Rattle.vsi_code.specs.Names.{all_named}
use Rattle.vsi_compiler.specs.Acceptance.{program_of}
use Rattle.vsi_compiler.specs.Headline.{declared_global}
use Rattle.vsi_compiler.proofs.Agreement.{HaveClasses}

-- A function of another list's images is a function of the list.
seen : {X Y Z : Type 0} (f : Y → Z) (g : X → Y) (xs : List X) → map f (map g xs) ≡ map (λ x. f (g x)) xs
seen f g [] = refl
seen f g (x ∷ xs) = ap (λ l. f (g x) ∷ l) (seen f g xs)

-- If two lists have equal images, they have equal images under every later function.
alike : {X Y Z W : Type 0} (f : Z → W) (g : X → Z) (h : Y → Z) (xs : List X) (ys : List Y) → map g xs ≡ map h ys →
    map (λ x. f (g x)) xs ≡ map (λ y. f (h y)) ys
alike f g h xs ys e = sym (seen f g xs) ∙ ap (map f) e ∙ seen f h ys

-- The program with these parts.
made : List ℕ → List (Option ℕ) → (ℕ → Span) → Command → Program
made globals declared names body = record { globals = globals; declared = declared; names = names; body = body }

-- The position of a declaration's name among spans.
at_place : List Span → ℕ → ℕ → Span
at_place spans globals v = slice_index_or spans (v - globals) (record { start = 0; stop = 0 })

module _ (known : Known) (tree : Whole) (r : Resolved) (resolves : Resolves known tree r) where
  -- The classes of the globals.
  globals_are : map (λ (g : Global). g.class) r.globals ≡ map (λ (g : Declared). unwrap_or (known g.class.text) 0)
      tree.globals
  globals_are = alike (λ (s : Shown). unwrap_or s.class 0) shown (global_of known) r.globals tree.globals
      resolves.globals

  -- The classes of the letvars.
  declared_are : map (λ (e : Entry). e.class) r.letvars ≡ map (λ (v : Variable). v.class)
      (all_variables known tree.body)
  declared_are =
      sym (seen (λ (v : Variable). v.class) variable r.letvars) ∙ ap (map (λ (v : Variable). v.class))
      resolves.letvars

  -- The spans of the letvars' names.
  spans_are : map (λ (e : Entry). e.span) r.letvars ≡ map (λ (v : Variable). v.span) (all_variables known tree.body)
  spans_are =
      sym (seen (λ (v : Variable). v.span) variable r.letvars) ∙ ap (map (λ (v : Variable). v.span)) resolves.letvars

  -- The number of globals.
  pub count_is : length r.globals ≡ length tree.globals
  count_is =
      sym (length-map r.globals shown) ∙ ap length resolves.globals ∙ length-map tree.globals (global_of known)

  -- The body.
  pub body_is : sequence r.body ≡ in_sequence (map command r.body)
  body_is = sequence_in r.body

  -- The program of the resolved commands is that of the tree.
  pub program_is : program r ≡ program_of known tree (map command r.body)
  unfolding made at_place
  program_is =
      ap (λ gs. made gs (map (λ (e : Entry). e.class) r.letvars)
      (at_place (map (λ (e : Entry). e.span) r.letvars) (length r.globals)) (sequence r.body)) globals_are
      ∙ ap (λ ds. made (map (λ (g : Declared). unwrap_or (known g.class.text) 0) tree.globals) ds
      (at_place (map (λ (e : Entry). e.span) r.letvars) (length r.globals)) (sequence r.body)) declared_are
      ∙ ap (λ ss. made (map (λ (g : Declared). unwrap_or (known g.class.text) 0) tree.globals)
      (map (λ (v : Variable). v.class) (all_variables known tree.body)) (at_place ss (length r.globals))
      (sequence r.body)) spans_are
      ∙ ap (λ n. made (map (λ (g : Declared). unwrap_or (known g.class.text) 0) tree.globals)
      (map (λ (v : Variable). v.class) (all_variables known tree.body))
      (at_place (map (λ (v : Variable). v.span) (all_variables known tree.body)) n) (sequence r.body)) count_is
      ∙ ap (λ c. made (map (λ (g : Declared). unwrap_or (known g.class.text) 0) tree.globals)
      (map (λ (v : Variable). v.class) (all_variables known tree.body))
      (at_place (map (λ (v : Variable). v.span) (all_variables known tree.body)) (length tree.globals)) c) body_is

  -- The names of the image's globals.
  pub names_are : all_named r.globals ≡ map declared_global tree.globals
  names_are = alike (λ (s : Shown). (s.name, s.class_name)) shown (global_of known) r.globals tree.globals
      resolves.globals

  -- Each global's class is the class that its class name denotes.
  pub have_classes : HaveClasses known r.globals
  have_classes i g h =
      let here : slice_get (map shown r.globals) i ≡ Some (shown g) =
      slice_get-map shown r.globals i ∙ ap (option_map shown) h in
      declared_class (slice_get tree.globals i)
      (sym (slice_get-map (global_of known) tree.globals i) ∙ ap (λ l. slice_get l i) (sym resolves.globals) ∙ here)
    where
      declared_class : (o : Option Declared) → option_map (global_of known) o ≡ Some (shown g) →
          known g.class_name.now ≡ Some g.class
      declared_class None e = absurd cc
      declared_class (Some d) e =
          let same : global_of known d ≡ shown g = ap (λ o. unwrap_or o (shown g)) e in
          ap known (ap (λ (s : Shown). s.class_name) (sym same)) ∙ ap (λ (s : Shown). s.class) same

-- The requirements of typing hold for a resolved program.
pub typing_ready : (L : Lattice) (r : Resolved) → scope.IsResolved r → HasClassesBelow L.count r →
    types.IsWellFormed L (program r)
typing_ready L r kept below =
    let count = length-map r.globals (λ (g : Global). g.class) in
    record {
      classes = All-map (IsClass L) (λ (g : Global). g.class) r.globals below.globals;
      entries = length-map r.letvars (λ (e : Entry). e.class) ∙ kept.entries;
      places = subst (λ n. HasPlaces n (sequence r.body)) (sym count) kept.places;
      limit = subst (λ n. n + letvars (sequence r.body) ≤ 1024) (sym count) kept.few_declarations;
    }

-- The declared classes of the letvars are classes.
pub declared_classes : (L : Lattice) (r : Resolved) → HasClassesBelow L.count r → AreClasses L (program r).declared
declared_classes L r below = All-map (λ d. IfSome d (IsClass L)) (λ (e : Entry). e.class) r.letvars below.letvars

-- The classes of the globals are classes.
pub global_classes : (L : Lattice) (r : Resolved) → HasClassesBelow L.count r → All (IsClass L) (program r).globals
global_classes L r below = All-map (IsClass L) (λ (g : Global). g.class) r.globals below.globals

-- Lists that are related element by element have equal lengths.
pub zip_length : {A B : Type 0} (R : A → B → Type 0) (xs : List A) (ys : List B) → AllZip R xs ys →
    length xs ≡ length ys
zip_length R [] [] h = refl
zip_length R [] (y ∷ ys) h = absurd h
zip_length R (x ∷ xs) [] h = absurd h
zip_length R (x ∷ xs) (y ∷ ys) h = ap suc (zip_length R xs ys h.1)
