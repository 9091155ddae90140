-- The typing rules of Volpano, Smith and Irvine, over locations.
use Rattle.std.specs.Prelude.{◌≡◌, ℕ, ◌+◌, ◌<◌, List, [], ◌∷◌, ◌++◌, length, slice_index, ℤ}
use Rattle.vsi_lattice.specs.Order.{Lattice, IsClass, Below}
use Rattle.vsi_syntax.specs.declared.tree.Op.{Op}
use Rattle.vsi_syntax.specs.declared.token.Span.{Span}
use Rattle.vsi_scope.specs.Language.{Expression, Number, Location, Operator, Command, Skip, Assign, Sequence, If, While, Letvar, letvars}
use Rattle.vsi_types.specs.declared.rules.Profile.{Profile}
use Rattle.vsi_types.specs.declared.rules.Profile.TheVariants.{Base, Strict}

-- A location typing gives each location its class.
abbrev pub Locations : Type 0
Locations = List ℕ

-- A derivation that location l has the type t var.
pub data HasVar (q : Locations) : ℕ → ℕ → Type 0 where
  VARLOC : {l : ℕ} → l < length q → HasVar q l (slice_index q l)

-- A derivation that an expression has the data type t.
pub data HasData (L : Lattice) (q : Locations) : Expression → ℕ → Type 0 where
  INT : {z : ℤ} {t : ℕ} → IsClass L t → HasData L q (Number z) t
  R_VAL : {l : ℕ} {s : Span} {t : ℕ} → HasVar q l t → HasData L q (Location l s) t
  ARITH : {o : Op} {a b : Expression} {t : ℕ} → HasData L q a t → HasData L q b t → HasData L q (Operator o a b) t
  SUBTYPE : {e : Expression} {t t' : ℕ} → Below L t t' → IsClass L t' → HasData L q e t → HasData L q e t'

-- A loop has the type t cmd for any t, and under the strict profile only for the bottom class.
abbrev pub LoopType : Lattice → Profile → ℕ → Type 0
LoopType L Base t = Unit {0}
LoopType L Strict t = t ≡ L.bottom

-- A derivation that a command has the type t cmd, with n declarations before it and the class classes v for each v.
pub data HasCmd (L : Lattice) (P : Profile) (classes : ℕ → ℕ) : Locations → ℕ → Command → ℕ → Type 0 where
  EMPTY : {q : Locations} {n t : ℕ} → IsClass L t → HasCmd L P classes q n Skip t
  ASSIGN : {q : Locations} {n l : ℕ} {s : Span} {e : Expression} {t : ℕ} →
      HasVar q l t → HasData L q e t → HasCmd L P classes q n (Assign l s e) t
  COMPOSE : {q : Locations} {n : ℕ} {a b : Command} {t : ℕ} →
      HasCmd L P classes q n a t → HasCmd L P classes q (n + letvars a) b t → HasCmd L P classes q n (Sequence a b) t
  IF : {q : Locations} {n : ℕ} {e : Expression} {a b : Command} {t : ℕ} →
      HasData L q e t → HasCmd L P classes q n a t → HasCmd L P classes q (n + letvars a) b t →
      HasCmd L P classes q n (If e a b) t
  WHILE : {q : Locations} {n : ℕ} {e : Expression} {c : Command} {t : ℕ} →
      LoopType L P t → HasData L q e t → HasCmd L P classes q n c t → HasCmd L P classes q n (While e c) t
  LETVAR : {q : Locations} {n : ℕ} {e : Expression} {c : Command} {t : ℕ} →
      HasData L q e (classes n) → HasCmd L P classes (q ++ classes n ∷ []) (n + 1) c t →
      HasCmd L P classes q n (Letvar e c) t
  SUBTYPE_CMD : {q : Locations} {n : ℕ} {c : Command} {t t' : ℕ} →
      Below L t t' → IsClass L t → HasCmd L P classes q n c t' → HasCmd L P classes q n c t
