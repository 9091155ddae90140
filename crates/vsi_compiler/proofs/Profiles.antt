-- A program typed under the strict profile is typed under the base profile, and a text has one image under both.
use Rattle.std.proofs.Common.{ℕ, ◌+◌, [], ◌∷◌, ◌++◌, List, sym, ◌∙◌}
use Rattle.vsi_lattice.specs.Order.{Lattice}
use Rattle.vsi_scope.specs.Language.{Command, letvars}
use Rattle.vsi_types.specs.declared.rules.Profile.TheVariants.{Base, Strict}
use Rattle.vsi_types.specs.Typing.{Locations, HasCmd, EMPTY, ASSIGN, COMPOSE, IF, WHILE, LETVAR, SUBTYPE_CMD}
use Rattle.vsi_types.specs.Security.{Program, IsTypable}
use Rattle.vsi_compiler.specs.Acceptance.{program_of}
use Rattle.vsi_compiler.specs.Laws.{OneImage, StrictImpliesBase}

-- A derivation under the strict profile is one under the base profile, in which a loop may have any type.
base_derivation : (L : Lattice) (classes : ℕ → ℕ) (q : Locations) (n : ℕ) (c : Command) (t : ℕ) →
    HasCmd L Strict classes q n c t → HasCmd L Base classes q n c t
base_derivation L classes q n c t (EMPTY within) = EMPTY within
base_derivation L classes q n c t (ASSIGN l e) = ASSIGN l e
base_derivation L classes q n c t (COMPOSE {a = a} {b = b} d d') =
    COMPOSE (base_derivation L classes q n a t d) (base_derivation L classes q (n + letvars a) b t d')
base_derivation L classes q n c t (IF {a = a} {b = b} e d d') =
    IF e (base_derivation L classes q n a t d) (base_derivation L classes q (n + letvars a) b t d')
base_derivation L classes q n c t (WHILE {c = body} is e d) = WHILE tt e (base_derivation L classes q n body t d)
base_derivation L classes q n c t (LETVAR {c = body} e d) =
    LETVAR e (base_derivation L classes (q ++ classes n ∷ []) (n + 1) body t d)
base_derivation L classes q n c t (SUBTYPE_CMD {t' = t'} below within d) =
    SUBTYPE_CMD below within (base_derivation L classes q n c t' d)

-- A program that is typable under the strict profile is typable under the base profile.
base_typable : (L : Lattice) (p : Program) (s : List ℕ) → IsTypable L Strict p s → IsTypable L Base p s
base_typable L p s typable =
    (typable.0, typable.1, (typable.2.0, base_derivation L _ _ _ p.body typable.2.0 typable.2.1))

-- The law that the base profile accepts every text that the strict profile accepts.
pub strict_implies_base : StrictImpliesBase
strict_implies_base known L text a =
    record {
      tree = a.tree;
      commands = a.commands;
      reads = a.reads;
      resolution = a.resolution;
      choice = a.choice;
      typable = base_typable L (program_of known a.tree a.commands) a.choice a.typable;
    }

-- The law that all images of one text are equal.
pub one_image : OneImage
one_image known L P Q text a b first other =
    let is = first.accepted in
    first.image is.tree is.commands is.reads is.resolution
    ∙ sym (other.image is.tree is.commands is.reads is.resolution)
