-- Documents about source texts.
use Rattle.std.proofs.Common.{◌≡◌, ℕ, Bool, List, subst}
use Rattle.vsi_lattice.specs.declared.lattice.Lattice.{Lattice}
use Rattle.vsi_conform.specs.declared.interface.Judgement.{Judgement}
use Rattle.vsi_types.specs.declared.rules.Profile.{Profile}
use Rattle.vsi_documents.specs.Classes.{TellsClasses}
use Rattle.vsi_documents.specs.Flows.{TellsFlows}
use Rattle.vsi_documents.specs.Checking.{TellsDocument}

-- A document about a text by one judgement is that of the same text by the same judgement.
pub sarif_so : (l : Lattice) (j k : Judgement) (path text source : List ℕ) (b : Bool) (out : List ℕ) → j ≡ k →
    text ≡ source → TellsDocument l j path text b out → TellsDocument l k path source b out
sarif_so l j k path text source b out e f tells =
    subst (λ s. TellsDocument l k path s b out) f (subst (λ m. TellsDocument l m path text b out) e tells)

-- The classes of a text are those of the same text by the same profile.
pub classes_so : (l : Lattice) (P Q : Profile) (text source : List ℕ) (b : Bool) (out : List ℕ) → P ≡ Q →
    text ≡ source → TellsClasses l P text b out → TellsClasses l Q source b out
classes_so l P Q text source b out e f tells =
    subst (λ s. TellsClasses l Q s b out) f (subst (λ p. TellsClasses l p text b out) e tells)

-- Its flows are, too.
pub flows_so : (l : Lattice) (P Q : Profile) (text source : List ℕ) (b : Bool) (out : List ℕ) → P ≡ Q →
    text ≡ source → TellsFlows l P text b out → TellsFlows l Q source b out
flows_so l P Q text source b out e f tells =
    subst (λ s. TellsFlows l Q s b out) f (subst (λ p. TellsFlows l p text b out) e tells)
