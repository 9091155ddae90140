-- Compiled images have the code of commands.
use Rattle.std.proofs.Common.{◌≡◌, ◌∙◌, ℕ, ◌+◌, ◌<◌, ◌≤◌, List, [], ◌∷◌, ◌++◌, length, map, ap, sym, subst, arith, length-append}
use Rattle.std.proofs.lemmas.List.{length-map}
use Rattle.vsi_syntax.specs.Tree as tree
use Rattle.vsi_scope.specs.Language.{Expression, Command, Location, Operator, Number, Assign, If, While, Letvar, HasLocations, HasPlaces, depth, letvars}
use Rattle.vsi_scope.specs.Scopes.{Text, Scope, StandsFor, Means, Does, DoesAll, in_sequence}
use Rattle.vsi_scope.specs.Faults.{global_names}
use Rattle.vsi_scope.proofs.Complete.{does_all_one}
use Rattle.vsi_scope.proofs.Limits.{all_shallow}
use Rattle.vsi_scope.proofs.Meaning.{all_letvars}
use Rattle.vsi_image.specs.declared.instr.Image.{Image}
use Rattle.vsi_image.specs.Fields.{Fields, fields, global}
use Rattle.vsi_opt.specs.Folding.{fold}
use Rattle.vsi_opt.specs.Optimised.{globals_alone, optimised}
use Rattle.vsi_opt.proofs.Depths.{optimised_depth}
use Rattle.vsi_opt.proofs.Kept.{fold_letvars, kept_live_letvars, places_kept}
use Rattle.vsi_code.specs.Layout.{whole_code}
use Rattle.vsi_compiler.specs.Headline.{declared_global}
use Rattle.vsi_audit.specs.Laws.{CompiledHasCommands}

-- A position that a name denotes exists.
place_within : (s : Scope) (x : Text) (l : ℕ) → StandsFor s x l → l < length s
place_within s x l h = omega (arith, ap length h.splits, length-append h.before (x ∷ h.after), h.place)

-- The locations of an expression's form exist.
located : (s : Scope) (e : tree.Tree) (p : Expression) → Means s e p → HasLocations (length s) p
located s (tree.Number n) p m = subst (HasLocations (length s)) (sym m) tt
located s (tree.Name x) p m = subst (HasLocations (length s)) (sym m.2) (place_within s x.text m.0 m.1)
located s (tree.Bracket e) p m = located s e p m
located s (tree.Binary op a b) p m =
    subst (HasLocations (length s)) (sym m.4) (located s a m.0 m.2, located s b m.1 m.3)

-- The locations of two joined lists exist if those of each list do.
both_placed : (k : ℕ) (xs ys : List Command) → HasPlaces k (in_sequence xs) → HasPlaces k (in_sequence ys) →
    HasPlaces k (in_sequence (xs ++ ys))
both_placed k [] ys p q = q
both_placed k (x ∷ xs) ys p q = (p.0, both_placed k xs ys p.1 q)

mutual
  -- The locations of a command's form exist.
  placed : (s : Scope) (c : tree.Command) (cs : List Command) → Does s c cs → HasPlaces (length s) (in_sequence cs)
  placed s (tree.Assign x e) cs m =
      subst (λ z. HasPlaces (length s) (in_sequence z)) (sym m.4)
      ((place_within s x.text m.0 m.2, located s e m.1 m.3), tt)
  placed s (tree.If e c d) cs m =
      subst (λ z. HasPlaces (length s) (in_sequence z)) (sym m.6)
      ((located s e m.0 m.3, placed s c m.1 m.4, placed s d m.2 m.5), tt)
  placed s (tree.While e c) cs m =
      subst (λ z. HasPlaces (length s) (in_sequence z)) (sym m.4)
      ((located s e m.0 m.2, placed s c m.1 m.3), tt)
  placed s (tree.Letvar x class e c) cs m =
      let inner = subst (λ (n : ℕ). HasPlaces n (in_sequence m.1)) (length-append s (x.text ∷ []))
      (placed (s ++ x.text ∷ []) c m.1 m.3) in
      subst (λ z. HasPlaces (length s) (in_sequence z)) (sym m.4) ((located s e m.0 m.2, inner), tt)
  placed s (tree.Block b) cs m = all_placed s b cs m

  -- The locations of a sequence's form exist.
  all_placed : (s : Scope) (b : tree.Body) (cs : List Command) → DoesAll s b cs →
      HasPlaces (length s) (in_sequence cs)
  all_placed s tree.Done cs m = subst (λ z. HasPlaces (length s) (in_sequence z)) (sym m) tt
  all_placed s (tree.Then c rest) cs m =
      subst (λ z. HasPlaces (length s) (in_sequence z)) (sym m.4)
      (both_placed (length s) m.0 m.1 (placed s c m.0 m.2) (all_placed s rest m.1 m.3))

-- The optimised body has no more letvars.
no_more : (c : Command) (g : ℕ) → letvars (optimised g c) ≤ letvars c
no_more c g = omega (arith, kept_live_letvars (fold c) g g (globals_alone g), fold_letvars c)

-- An image with the fields of a compiled one has the code of commands.
pub compiled_has_commands : CompiledHasCommands
compiled_has_commands known L P text im image compiled same =
    let a = compiled.accepted in
    let res = a.resolution in
    let body = a.tree.body in
    let names = global_names a.tree.globals in
    let g = length a.tree.globals in
    let c = in_sequence a.commands in
    let is = same ∙ compiled.image a.tree a.commands a.reads res in
    let many : length (map declared_global a.tree.globals) ≡ g = length-map a.tree.globals declared_global in
    let count : length image.globals.items ≡ g =
    sym (length-map image.globals.items global) ∙ ap (λ (f : Fields). length f.globals) is ∙ many in
    let given = ap in_sequence (does_all_one names body a.commands res.body) in
    let named : length names ≡ g = length-map a.tree.globals (λ x. x.name.text) in
    let there : HasPlaces g c = subst (λ (n : ℕ). HasPlaces n c) named (all_placed names body a.commands res.body) in
    record {
      commands = optimised g c;
      code = ap (λ (f : Fields). f.code) is
          ∙ ap (λ n. whole_code n (optimised g c)) (many ∙ sym count);
      places = subst (λ (n : ℕ). HasPlaces n (optimised g c)) (sym count) (places_kept c g there);
      few = omega (arith, no_more c g, ap letvars given, all_letvars names body, res.few_declarations, count);
      shallow = omega (arith, optimised_depth c g, ap depth given, all_shallow names body, a.reads.program.1);
    }
