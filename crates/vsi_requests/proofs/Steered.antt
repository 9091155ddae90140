-- The class that drives or views an image, the reasons why none does, and the tables of classes.
use Rattle.std.proofs.Common.{◌≡◌, ◌⊎◌, ℕ, List, ◌∷◌, Result, false, map, sym, subst}
use Rattle.std.specs.Prelude.{Bool, Option, IfErr, IfOk, bytes_eq, option_map}
use Rattle.std.specs.Borrow.{Bor}
use Rattle.vsi_conform.specs.Reading.{ClassBoundary, cycle}
use Rattle.vsi_conform.specs.declared.keys.Cycle.{Cycle}
use Rattle.vsi_answers.specs.declared.unanswered.Unanswered.{Unanswered}
use Rattle.vsi_arguments.specs.declared.request.DrivePolicy.{DrivePolicy}
use Rattle.vsi_arguments.specs.declared.request.DrivePolicy.TheVariants as policy
use Rattle.vsi_arguments.specs.declared.request.NameLists.{NameLists}
use Rattle.vsi_subject.specs.declared.failure.Failure.{Failure}
use Rattle.vsi_requests.specs.declared.steering.Steering.{Steering}
use Rattle.vsi_subject.specs.Boundaries.{boundary_for, bound_by, table_of}
use Rattle.vsi_subject.specs.Holding.{Holding}
use Rattle.vsi_subject.specs.Refusals.{LacksClassAt, RefusesImage, RefusesLattice, FailsBy}
use Rattle.vsi_subject.specs.Steering.{IsGoverned, IsSteeredBy}
use Rattle.vsi_subject.specs.Undriven.{LacksGoverned, LacksPolicy, RefusesAsked, RefusesSteering}

-- The lattice of an interface is refused, or an image.
abbrev pub WhyGoverned : Holding → List ℕ → List ℕ → Unanswered → Type 0
WhyGoverned holds interface image reason = RefusesAsked holds interface reason ⊎ RefusesImage holds image reason

-- ---- the tables of classes.

-- Behind the table of another class, the first table of the class is the same.
pub later_table : (left rest : List Cycle) (c : Cycle) (class : List ℕ) (found : Option ClassBoundary) →
    left ≡ c ∷ rest → bytes_eq c.class.items class ≡ false → table_of (map cycle left) class ≡ found →
    table_of (map cycle rest) class ≡ found
later_table left rest c class found is other same =
    let first : table_of (map cycle (c ∷ rest)) class ≡ found =
    subst (λ cs. table_of (map cycle cs) class ≡ found) is same in
    rw other at first

-- ---- the class of a drive or of a view.

-- The class that an interface gives drives by the policy that names the interface.
pub steered_governed : (holds : Holding) (class : List ℕ) (p : DrivePolicy) (path : Bor (List ℕ)) (is_unbounded : Bool)
    (result : Result Steering Failure) → p ≡ policy.Interface path →
    IfOk result (λ s. IsGoverned holds path.now class is_unbounded s.lattice s.driver s.verified
    (bound_by (option_map cycle s.cycle))) →
    IfOk result (λ s. IsSteeredBy holds class p is_unbounded s.lattice s.driver s.verified (boundary_for p s.cycle))
steered_governed holds class p path is_unbounded result is governed =
    subst
    (λ q. IfOk result (λ s. IsSteeredBy holds class q is_unbounded s.lattice s.driver s.verified (boundary_for q s.cycle)))
    (sym is) governed

-- Why no class drives by a lattice file is why none drives by the policy that names the file.
pub unsteered_listed : (holds : Holding) (class image : List ℕ) (p : DrivePolicy) (path : Bor (List ℕ))
    (lists : NameLists) (is_unbounded : Bool) (result : Result Steering Failure) → p ≡ policy.Lattice path lists →
    IfErr result (FailsBy (λ reason. RefusesLattice holds path.now reason ⊎ RefusesImage holds image reason)
    (LacksClassAt holds path.now class)) →
    IfErr result (FailsBy (λ reason. RefusesSteering holds p reason ⊎ RefusesImage holds image reason)
    (LacksPolicy holds class image p is_unbounded))
unsteered_listed holds class image p path lists is_unbounded result is failed =
    subst (λ q. IfErr result (FailsBy (λ reason. RefusesSteering holds q reason ⊎ RefusesImage holds image reason)
    (LacksPolicy holds class image q is_unbounded)))
    (sym is) failed

-- Why no class drives by an interface is why none drives by the policy that names the interface.
pub unsteered_governed : (holds : Holding) (class image : List ℕ) (p : DrivePolicy) (path : Bor (List ℕ))
    (is_unbounded : Bool) (result : Result Steering Failure) → p ≡ policy.Interface path →
    IfErr result (FailsBy (WhyGoverned holds path.now image) (LacksGoverned holds path.now class image is_unbounded)) →
    IfErr result (FailsBy (λ reason. RefusesSteering holds p reason ⊎ RefusesImage holds image reason)
    (LacksPolicy holds class image p is_unbounded))
unsteered_governed holds class image p path is_unbounded result is failed =
    subst (λ q. IfErr result (FailsBy (λ reason. RefusesSteering holds q reason ⊎ RefusesImage holds image reason)
    (LacksPolicy holds class image q is_unbounded)))
    (sym is) failed
