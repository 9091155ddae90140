-- Whether a source text conforms to an interface, and under which lattice.
use Rattle.std.proofs.Common.{◌≡◌, ℕ, List, Bool, true, false, Option, Some, None, Err, IfSome, refl, sym, subst}
use Rattle.std.specs.Global.{Vec}
use Rattle.std.proofs.lemmas.Bool.{false≢true}
use Rattle.vsi_lattice.specs.declared.lattice.Lattice.{Lattice}
use Rattle.vsi_conform.specs.Conforms.{Conforms, IsUnbounded}
use Rattle.vsi_conform.specs.declared.interface.Interface.{Interface}
use Rattle.vsi_conform.specs.declared.reader.Policy.{Policy}
use Rattle.vsi_conform.specs.declared.reader.Policy.TheVariants.{File, Tables}
use Rattle.vsi_answers.specs.Judged.{Declares}
use Rattle.vsi_answers.specs.Requests.{ReadsLattice}
use Rattle.vsi_answers.specs.declared.unanswered.Unanswered.{Unanswered}
use Rattle.vsi_subject.specs.Filed.{policy_bytes}
use Rattle.vsi_subject.specs.Holding.{Holding}
use Rattle.vsi_subject.specs.Interfaces.{ArePolicyBytes, IsPolicyAt}
use Rattle.vsi_subject.specs.Performed.{IsVerdict}
use Rattle.vsi_subject.specs.Undriven.{RefusesPolicy}

-- A Boolean that is true exactly if a text conforms, where no line is about its bound, gives its verdict.
pub is_verdict : (conforms : Bool) (line : Option (Vec ℕ)) (l : Lattice) (source : List ℕ) (i : Interface) →
    (conforms ≡ true → Conforms l source i) → (Conforms l source i → line ≡ None → conforms ≡ true) →
    IfSome line (λ found. IsUnbounded l source i found.items) → IsVerdict conforms line l source i
is_verdict true line l source i is exact unbounded = is refl
is_verdict false None l source i is exact unbounded = λ conforms. false≢true (exact conforms refl)
is_verdict false (Some line) l source i is exact unbounded = unbounded

-- The lattice that an interface's bytes declare is that of the interface.
pub policy_at : (holds : Holding) (interface : List ℕ) (p : Policy) (l : Lattice) (bytes : List ℕ) →
    ArePolicyBytes holds interface p bytes → Declares bytes l → IsPolicyAt holds interface p l
policy_at holds interface (File path) l bytes are declared = record { policy = bytes; read = are; declared = declared }
policy_at holds interface (Tables text) l bytes are declared = subst (λ b. Declares b l) are declared

-- Its bytes are these.
pub policy_bytes_at : (holds : Holding) (interface : List ℕ) (p : Policy) (l : Lattice) (bytes : List ℕ) →
    (are : ArePolicyBytes holds interface p bytes) → (declared : Declares bytes l) →
    policy_bytes holds interface p l (policy_at holds interface p l bytes are declared) ≡ bytes
unfolding policy_at
policy_bytes_at holds interface (File path) l bytes are declared = refl
policy_bytes_at holds interface (Tables text) l bytes are declared = sym are

-- The lattice of an interface is refused if its bytes are.
pub refuses_policy : (holds : Holding) (interface : List ℕ) (p : Policy) (bytes : List ℕ) (reason : Unanswered) →
    ArePolicyBytes holds interface p bytes → ReadsLattice bytes (Err reason) → RefusesPolicy holds interface p reason
refuses_policy holds interface (File path) bytes reason are is = record { bytes = bytes; read = are; is = is }
refuses_policy holds interface (Tables text) bytes reason are is = subst (λ b. ReadsLattice b (Err reason)) are is
