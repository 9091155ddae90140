-- If the relation holds, all names are in scope and the function gives the same result.
use Rattle.std.proofs.Common.{◌≡◌, ℕ, List, [], ◌∷◌, ◌++◌, length, refl, sym, ap, ◌∙◌, Option, Some, None, Bool, true, false, bytes_eq, if◌then◌else◌}
use Rattle.std.specs.Option.{option_or}
use Rattle.std.proofs.lemmas.Slice.Eq.{bytes_eq-Decides}
use Rattle.vsi_syntax.specs.Tree as tree
use Rattle.vsi_scope.specs.declared.resolution.ScopeError.TheVariants as errors
use Rattle.vsi_scope.specs.Language.{Expression, Location, Operator, Command, Assign, If, While, Letvar}
use Rattle.vsi_scope.specs.Scopes.{Text, Scope, IsAbsent, StandsFor, Means, Does, DoesAll, in_sequence}
use Rattle.vsi_scope.specs.Places.{place_of, next_place, or_zero, place, expression_of, commands_of, all_commands}
use Rattle.vsi_lattice.specs.Known.{Known}
use Rattle.vsi_scope.specs.Faults.{uses, first_fault, if_absent}
use Rattle.vsi_scope.proofs.Faulty.{none_in_both}

-- The first position if a test succeeds.
abbrev here : Bool → Option ℕ
here b = if b then Some 0 else None

-- A test that fails gives no position.
no_match : (b : Bool) → (b ≡ true → ⊥) → here b ≡ None
no_match true f = absurd (f refl)
no_match false f = refl

-- A test that succeeds gives the first position.
match_here : (b : Bool) → b ≡ true → here b ≡ Some 0
match_here b e = ap here e

-- A name that is absent has no position.
pub gone : (s : Scope) (x : Text) → IsAbsent s x → place_of s x ≡ None
gone [] x a = refl
gone (y ∷ ys) x a =
    ap (λ o. next_place o (if bytes_eq y x then Some 0 else None)) (gone ys x a.1)
    ∙ no_match (bytes_eq y x) (λ e. a.0 ((bytes_eq-Decides y x).0 e))

-- If a name is absent after its position, that position is its last.
at_last : (before after : Scope) (x : Text) → IsAbsent after x →
    place_of (before ++ x ∷ after) x ≡ Some (length before)
at_last [] after x a =
    ap (λ o. next_place o (if bytes_eq x x then Some 0 else None)) (gone after x a)
    ∙ match_here (bytes_eq x x) ((bytes_eq-Decides x x).1 refl)
at_last (y ∷ ys) after x a = ap (λ o. next_place o (if bytes_eq y x then Some 0 else None)) (at_last ys after x a)

-- The position that a name denotes is its last.
pub place_is : (s : Scope) (x : Text) (l : ℕ) → StandsFor s x l → place_of s x ≡ Some l
place_is s x l r = ap (λ z. place_of z x) r.splits ∙ at_last r.before r.after x r.last ∙ ap Some r.place

-- An expression that is related to a tree is the one that the function gives.
pub means_one : (s : Scope) (e : tree.Tree) (p : Expression) → Means s e p → p ≡ expression_of s e
means_one s (tree.Number n) p m = m
means_one s (tree.Name x) p m = m.2 ∙ ap (λ l. Location l x.span) (sym (ap or_zero (place_is s x.text m.0 m.1)))
means_one s (tree.Bracket e) p m = means_one s e p m
means_one s (tree.Binary op a b) p m =
    m.4 ∙ ap (λ q. Operator op q m.1) (means_one s a m.0 m.2)
    ∙ ap (Operator op (expression_of s a)) (means_one s b m.1 m.3)

-- An expression that has a form over locations has no fault.
pub means_clean : (k : Known) (s : Scope) (e : tree.Tree) (p : Expression) → Means s e p → first_fault k (uses s e)
    ≡ None
means_clean k s (tree.Number n) p m = refl
means_clean k s (tree.Name x) p m =
    ap (λ o. option_or (if_absent o (errors.Unbound x.span)) None) (place_is s x.text m.0 m.1)
means_clean k s (tree.Bracket e) p m = means_clean k s e p m
means_clean k s (tree.Binary op a b) p m =
    none_in_both k (uses s a) (uses s b) (means_clean k s a m.0 m.2) (means_clean k s b m.1 m.3)

mutual
  -- Commands that are related to a command are those that the function gives.
  pub does_one : (s : Scope) (c : tree.Command) (cs : List Command) → Does s c cs → cs ≡ commands_of s c
  does_one s (tree.Assign x e) cs m =
      m.4 ∙ ap (λ l. Assign l x.span m.1 ∷ []) (sym (ap or_zero (place_is s x.text m.0 m.2)))
      ∙ ap (λ p. Assign (place s x.text) x.span p ∷ []) (means_one s e m.1 m.3)
  does_one s (tree.If e c d) cs m =
      m.6 ∙ ap (λ p. If p (in_sequence m.1) (in_sequence m.2) ∷ []) (means_one s e m.0 m.3)
      ∙ ap (λ q. If (expression_of s e) (in_sequence q) (in_sequence m.2) ∷ []) (does_one s c m.1 m.4)
      ∙ ap (λ q. If (expression_of s e) (in_sequence (commands_of s c)) (in_sequence q) ∷ []) (does_one s d m.2 m.5)
  does_one s (tree.While e c) cs m =
      m.4 ∙ ap (λ p. While p (in_sequence m.1) ∷ []) (means_one s e m.0 m.2)
      ∙ ap (λ q. While (expression_of s e) (in_sequence q) ∷ []) (does_one s c m.1 m.3)
  does_one s (tree.Letvar x class e c) cs m =
      m.4 ∙ ap (λ p. Letvar p (in_sequence m.1) ∷ []) (means_one s e m.0 m.2)
      ∙ ap (λ q. Letvar (expression_of s e) (in_sequence q) ∷ []) (does_one (s ++ x.text ∷ []) c m.1 m.3)
  does_one s (tree.Block b) cs m = does_all_one s b cs m

  -- Commands that are related to a sequence are those that the function gives.
  pub does_all_one : (s : Scope) (b : tree.Body) (cs : List Command) → DoesAll s b cs → cs ≡ all_commands s b
  does_all_one s tree.Done cs m = m
  does_all_one s (tree.Then c rest) cs m =
      m.4 ∙ ap (λ x. x ++ m.1) (does_one s c m.0 m.2) ∙ ap (λ x. commands_of s c ++ x) (does_all_one s rest m.1 m.3)
