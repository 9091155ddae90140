-- The first fault of each form of command.
use Rattle.std.proofs.Common.{rules, ◌≡◌, ℕ, suc, ◌+◌, ◌<◌, nat_lt, List, [], ◌∷◌, ◌++◌, ap, ◌∙◌, Option, Some, None, true, if◌then◌else◌}
use Rattle.std.specs.Option.{option_or}
use Rattle.vsi_syntax.specs.Tree as tree
use Rattle.vsi_scope.specs.declared.resolution.ScopeError.{ScopeError}
use Rattle.vsi_scope.specs.declared.resolution.ScopeError.TheVariants as errors
use Rattle.vsi_scope.specs.Scopes.{Scope}
use Rattle.vsi_lattice.specs.Known.{Known}
use Rattle.vsi_scope.specs.Faults.{Mark, Local, uses, marks, locals, class_marks, first_fault, fault_at, Refuses}
use Rattle.vsi_scope.proofs.Faulty.{refuses_first, refuses_behind, refuses_as, none_in_both}

-- A number below the limit passes its test.
lt_true : (n : ℕ) → n < 1024 → nat_lt n 1024 ≡ true
lt_true n lt = search rules

module _ (known : Known) (s : Scope) (n : ℕ) (e : tree.Tree) where
  -- The error is for the first fault.
  abbrev Bad : ScopeError → List Mark → Type 0
  Bad x ms = Refuses x (first_fault known ms)

  -- There is no fault.
  abbrev Good : List Mark → Type 0
  Good ms = first_fault known ms ≡ None

  module _ (c d : tree.Command) where
    -- A fault of the guard is a fault of the choice.
    pub choose_guard : (x : ScopeError) → Bad x (uses s e) → Bad x (marks s n (tree.If e c d))
    choose_guard x p = refuses_first x known (uses s e) (marks s n c ++ marks s (n + locals c) d) p

    -- A fault of the first branch is a fault of the choice if the guard has none.
    pub choose_first : (x : ScopeError) → Good (uses s e) → Bad x (marks s n c) →
        Bad x (marks s n (tree.If e c d))
    choose_first x g p =
        refuses_behind x known (uses s e) (marks s n c ++ marks s (n + locals c) d) g
        (refuses_first x known (marks s n c) (marks s (n + locals c) d) p)

    -- A fault of the second branch is a fault of the choice if no part before it has one.
    pub choose_second : (x : ScopeError) → Good (uses s e) → Good (marks s n c) → Bad x (marks s (n + locals c) d) →
        Bad x (marks s n (tree.If e c d))
    choose_second x g h p =
        refuses_behind x known (uses s e) (marks s n c ++ marks s (n + locals c) d) g
        (refuses_behind x known (marks s n c) (marks s (n + locals c) d) h p)

    -- A choice has no fault if no part has one.
    pub choose_none : Good (uses s e) → Good (marks s n c) → Good (marks s (n + locals c) d) →
        Good (marks s n (tree.If e c d))
    choose_none g h p =
        none_in_both known (uses s e) (marks s n c ++ marks s (n + locals c) d) g (none_in_both known (marks s n c)
        (marks s (n + locals c) d) h p)

  module _ (c : tree.Command) where
    -- A fault of the guard is a fault of the loop.
    pub loop_guard : (x : ScopeError) → Bad x (uses s e) → Bad x (marks s n (tree.While e c))
    loop_guard x p = refuses_first x known (uses s e) (marks s n c) p

    -- A fault of the body is a fault of the loop if the guard has none.
    pub loop_body : (x : ScopeError) → Good (uses s e) → Bad x (marks s n c) → Bad x (marks s n (tree.While e c))
    loop_body x g p = refuses_behind x known (uses s e) (marks s n c) g p

    -- A loop has no fault if no part has one.
    pub loop_none : Good (uses s e) → Good (marks s n c) → Good (marks s n (tree.While e c))
    loop_none g p = none_in_both known (uses s e) (marks s n c) g p

    module _ (y : tree.Named) (class : Option tree.Named) where
      -- The name of a letvar has no fault if the number of declarations is within the limit.
      few : n < 1024 → fault_at known (Local n y) ≡ None
      few lt = ap (λ b. if b then None else Some (errors.TooManyDeclarations y.span)) (lt_true n lt)

      -- The first fault of a letvar is the one after its name if the number of declarations is within the limit.
      local_behind : n < 1024 → first_fault known (marks s n (tree.Letvar y class e c)) ≡ first_fault known
          (class_marks class ++ (uses s e ++ marks (s ++ y.text ∷ []) (suc n) c))
      local_behind lt =
          ap (λ o. option_or o (first_fault known (class_marks class ++ (uses s e ++ marks (s ++ y.text ∷ [])
          (suc n) c)))) (few lt)

      -- A fault of the initial value is a fault of the letvar if no part before it has one.
      pub local_value : (x : ScopeError) → n < 1024 → Good (class_marks class) → Bad x (uses s e) →
          Bad x (marks s n (tree.Letvar y class e c))
      local_value x lt k p =
          refuses_as x _ _ (λ z f. local_behind lt ∙ f)
          (refuses_behind x known (class_marks class) (uses s e ++ marks (s ++ y.text ∷ []) (suc n) c) k
          (refuses_first x known (uses s e) (marks (s ++ y.text ∷ []) (suc n) c) p))

      -- A fault of the body is a fault of the letvar if no part before it has one.
      pub local_body : (x : ScopeError) → n < 1024 → Good (class_marks class) → Good (uses s e) →
          Bad x (marks (s ++ y.text ∷ []) (suc n) c) → Bad x (marks s n (tree.Letvar y class e c))
      local_body x lt k g p =
          refuses_as x _ _ (λ z f. local_behind lt ∙ f)
          (refuses_behind x known (class_marks class) (uses s e ++ marks (s ++ y.text ∷ []) (suc n) c) k
          (refuses_behind x known (uses s e) (marks (s ++ y.text ∷ []) (suc n) c) g p))

      -- A letvar has no fault if no part has one.
      pub local_none : n < 1024 → Good (class_marks class) → Good (uses s e) →
          Good (marks (s ++ y.text ∷ []) (suc n) c) → Good (marks s n (tree.Letvar y class e c))
      local_none lt k g p =
          local_behind lt ∙ none_in_both known (class_marks class) (uses s e ++ marks (s ++ y.text ∷ []) (suc n) c) k
          (none_in_both known (uses s e) (marks (s ++ y.text ∷ []) (suc n) c) g p)
