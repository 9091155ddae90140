-- Every class of a resolved program is a class of the lattice.
use Rattle.std.proofs.Common.{ℕ, ◌<◌, List, [], ◌∷◌, map, sym, subst, Option, Some, None, IfSome}
use Rattle.std.specs.List.{All}
use Rattle.std.proofs.lemmas.List.Elements.{All-nil, All-cons, All-append, All-head, All-tail}
use Rattle.vsi_syntax.specs.Tree as tree
use Rattle.vsi_lattice.specs.Known.{Known}
use Rattle.vsi_scope.specs.Program.{Resolved}
use Rattle.vsi_scope.specs.Resolving.{Shown, shown, global_of, Variable, variable, variables, all_variables, letvar, class_of, Resolves, AreBelow, HasClassesBelow}

-- A property of all images of a function is a property of its value at every element.
All-of_map : {X Y : Type 0} (P : Y → Type 0) (f : X → Y) (xs : List X) → All P (map f xs) → All (λ x. P (f x)) xs
All-of_map P f [] a = All-nil (λ x. P (f x))
All-of_map P f (x ∷ xs) a =
    All-cons (λ x. P (f x)) x xs (All-head P (f x) (map f xs) a) (All-of_map P f xs (All-tail P (f x) (map f xs) a))

module _ (k : Known) (n : ℕ) (below : AreBelow n k) where
  -- The class is below the number, if there is one.
  abbrev IsBelow : Option ℕ → Type 0
  IsBelow o = IfSome o (λ c. c < n)

  -- A class that is written is below the number.
  written_below : (c : Option tree.Named) → IsBelow (class_of k c)
  written_below None = tt
  written_below (Some x) = below x.text

  -- The classes of globals are below the number.
  globals_below : (gs : List tree.Declared) → All (λ (s : Shown). IsBelow s.class) (map (global_of k) gs)
  globals_below [] = All-nil (λ (s : Shown). IsBelow s.class)
  globals_below (g ∷ gs) =
      All-cons (λ (s : Shown). IsBelow s.class) (global_of k g) (map (global_of k) gs)
      (below g.class.text) (globals_below gs)

  mutual
    -- The classes of a command's letvars are below the number.
    variables_below : (c : tree.Command) → All (λ (v : Variable). IsBelow v.class) (variables k c)
    variables_below (tree.Assign x e) = All-nil (λ (v : Variable). IsBelow v.class)
    variables_below (tree.If e c d) =
        All-append (λ (v : Variable). IsBelow v.class) (variables k c) (variables k d)
        (variables_below c) (variables_below d)
    variables_below (tree.While e c) = variables_below c
    variables_below (tree.Letvar x class e c) =
        All-cons (λ (v : Variable). IsBelow v.class) (letvar x (class_of k class)) (variables k c)
        (written_below class) (variables_below c)
    variables_below (tree.Block b) = all_variables_below b

    -- The classes of a sequence's letvars are below the number.
    all_variables_below : (b : tree.Body) → All (λ (v : Variable). IsBelow v.class) (all_variables k b)
    all_variables_below tree.Done = All-nil (λ (v : Variable). IsBelow v.class)
    all_variables_below (tree.Then c rest) =
        All-append (λ (v : Variable). IsBelow v.class) (variables k c) (all_variables k rest)
        (variables_below c) (all_variables_below rest)

  -- The classes of a resolved program are below the number.
  pub classes_below : (p : tree.Whole) (r : Resolved) → Resolves k p r → HasClassesBelow n r
  classes_below p r s = record {
    globals =
        All-of_map (λ (s : Shown). IsBelow s.class) shown r.globals
        (subst (All (λ (s : Shown). IsBelow s.class)) (sym s.globals) (globals_below p.globals));
    letvars =
        All-of_map (λ (v : Variable). IsBelow v.class) variable r.letvars
        (subst (All (λ (v : Variable). IsBelow v.class)) (sym s.letvars) (all_variables_below p.body));
  }
