-- Equations between options of pairs, and chains of options.
use Rattle.std.proofs.Common.{◌≡◌, Bool, true, false, cond, ◌⊎◌, inl, inr, List, Option, Some, None, refl, ap}
use Rattle.vsi_syntax.specs.declared.tree.Op.{Op}
use Rattle.vsi_syntax.specs.Tree.{Lexeme}
use Rattle.vsi_syntax.specs.Parsing.{◌>>=◌, go}

-- Two values as a pair.
abbrev pub pair : {A B : Type 0} → A → B → A × B
pair a b = (a, b)

-- The values in equal options are equal.
pub some_is : {A : Type 0} (x y : A) → Some x ≡ Some y → x ≡ y
some_is x y h = cc

-- Equal options of pairs have equal first parts.
pub some_left : {A B : Type 0} (a c : A) (b d : B) → Some (pair a b) ≡ Some (pair c d) → a ≡ c
some_left {A} {B} a c b d h = ap (λ (p : A × B). p.0) (some_is (pair a b) (pair c d) h)

-- Equal options of pairs have equal second parts.
pub some_right : {A B : Type 0} (a c : A) (b d : B) → Some (pair a b) ≡ Some (pair c d) → b ≡ d
some_right {A} {B} a c b d h = ap (λ (p : A × B). p.1) (some_is (pair a b) (pair c d) h)

-- If a chain found something, its first reader found something and the second continued from it.
pub bind_some : {A B : Type 0} (r : Option A) (f : A → Option B) (y : B) → (r >>= f) ≡ Some y → (x : A) × (r ≡ Some x)
    × (f x ≡ Some y)
bind_some (Some x) f y e = (x, refl, e)
bind_some None f y e = absurd cc

-- If a guarded option found something, the guard held.
pub guard_some : {A : Type 0} (b : Bool) (o : Option A) (y : A) → cond b o None ≡ Some y → (b ≡ true) × (o ≡ Some y)
guard_some true o y e = (refl, e)
guard_some false o y e = absurd cc

-- Either no operator continued and the answer is the one for that case, or one did and the answer is made from it.
pub go_cases : {X : Type 0} (stop : X) (f : Op → List Lexeme → X) (o : Option (Op × List Lexeme)) (x : X) →
    go stop f o ≡ x → ((o ≡ None) × (stop ≡ x)) ⊎ ((p : Op × List Lexeme) × (o ≡ Some p) × (f p.0 p.1 ≡ x))
go_cases stop f None x h = inl (refl, h)
go_cases stop f (Some p) x h = inr (p, refl, h)
