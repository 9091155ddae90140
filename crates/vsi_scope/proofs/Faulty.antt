-- The first fault of marks in two parts.
use Rattle.std.proofs.Common.{◌≡◌, List, [], ◌∷◌, ◌++◌, refl, sym, ap, subst, ◌∙◌, Option, Some, None, Result, Ok, Err, IsErrAnd}
use Rattle.std.specs.Option.{option_or}
use Rattle.vsi_scope.specs.declared.resolution.ScopeError.{ScopeError}
use Rattle.vsi_scope.specs.declared.resolution.ScopeError.TheVariants as errors
use Rattle.vsi_lattice.specs.Known.{Known}
use Rattle.vsi_scope.specs.Faults.{Mark, first_fault, fault_at, Refuses, Judged}

-- Taking the first of three faults is associative.
option_or_more : (a b c : Option ScopeError) → option_or a (option_or b c) ≡ option_or (option_or a b) c
option_or_more (Some e) b c = refl
option_or_more None b c = refl

-- The first fault of two parts is that of the first part, else that of the second.
pub first_of_both : (k : Known) (xs ys : List Mark) →
    first_fault k (xs ++ ys) ≡ option_or (first_fault k xs) (first_fault k ys)
first_of_both k [] ys = refl
first_of_both k (x ∷ xs) ys =
    ap (option_or (fault_at k x)) (first_of_both k xs ys) ∙ option_or_more (fault_at k x) (first_fault k xs)
    (first_fault k ys)

-- A fault in the first part is the first of both.
pub fault_first : (k : Known) (xs ys : List Mark) (e : ScopeError) → first_fault k xs ≡ Some e →
    first_fault k (xs ++ ys) ≡ Some e
fault_first k xs ys e p = first_of_both k xs ys ∙ ap (λ o. option_or o (first_fault k ys)) p

-- The first fault of both parts is that of the second if the first has none.
pub fault_behind : (k : Known) (xs ys : List Mark) → first_fault k xs ≡ None →
    first_fault k (xs ++ ys) ≡ first_fault k ys
fault_behind k xs ys p = first_of_both k xs ys ∙ ap (λ o. option_or o (first_fault k ys)) p

-- An error for one fault is an error for an equal fault.
pub refuses_as : (e : ScopeError) (o q : Option ScopeError) → ((x : ScopeError) → o ≡ Some x → q ≡ Some x) →
    Refuses e o → Refuses e q
refuses_as errors.Memory o q f p = tt
refuses_as (errors.Duplicate s) o q f p = f _ p
refuses_as (errors.UnknownClass s) o q f p = f _ p
refuses_as (errors.Unbound s) o q f p = f _ p
refuses_as (errors.TooManyGlobals s) o q f p = f _ p
refuses_as (errors.TooManyDeclarations s) o q f p = f _ p
refuses_as errors.TooLarge o q f p = f _ p

-- An error for the first fault of the first part is one for the first fault of both.
pub refuses_first : (e : ScopeError) (k : Known) (xs ys : List Mark) → Refuses e (first_fault k xs) →
    Refuses e (first_fault k (xs ++ ys))
refuses_first e k xs ys p = refuses_as e _ _ (fault_first k xs ys) p

-- An error for the first fault of the second part is one for the first fault of both if the first has none.
pub refuses_behind : (e : ScopeError) (k : Known) (xs ys : List Mark) → first_fault k xs ≡ None →
    Refuses e (first_fault k ys) → Refuses e (first_fault k (xs ++ ys))
refuses_behind e k xs ys n p = refuses_as e _ _ (λ x q. fault_behind k xs ys n ∙ q) p

-- An error that is passed on unchanged is judged in the same way.
pub judged_passed : {X : Type 0} (r : Result X ScopeError) (e : ScopeError) (o : Option ScopeError) →
    IsErrAnd r (λ y. y ≡ e) → Refuses e o → Judged r o
judged_passed (Ok x) e o h p = absurd h
judged_passed (Err y) e o h p = subst (λ z. Refuses z o) (sym h) p

-- Two parts without a fault have none together.
pub none_in_both : (k : Known) (xs ys : List Mark) → first_fault k xs ≡ None → first_fault k ys ≡ None →
    first_fault k (xs ++ ys) ≡ None
none_in_both k xs ys p q = fault_behind k xs ys p ∙ q
