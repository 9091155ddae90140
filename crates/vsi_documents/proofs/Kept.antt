-- The objects of steps, one after another.
use Rattle.std.proofs.Common.{◌≡◌, ◌∙◌, ℕ, List, [], ◌∷◌, ◌++◌, ap, sym}
use Rattle.std.proofs.lemmas.List.{append_assoc}
use Rattle.serde_json.specs.Data.{Data, Members, object}
use Rattle.vsi_scope.specs.Program.{Resolved}
use Rattle.vsi_types.specs.declared.rules.Step.{Step}
use Rattle.vsi_documents.specs.Steps as steps

-- One more object, of the first of the remaining steps, leaves the objects and those of the remaining steps the same.
pub objects_kept : (uri source : List ℕ) (r : Resolved) (s : Step) (at rest all : List Step) (old new : List Data)
    (made : Members) → at ≡ s ∷ rest → new ≡ old ++ object made ∷ [] → made ≡ steps.step_members uri source r s →
    old ++ steps.step_objects uri source r at ≡ steps.step_objects uri source r all →
    new ++ steps.step_objects uri source r rest ≡ steps.step_objects uri source r all
objects_kept uri source r s at rest all old new made next pushed is so =
    let objects = steps.step_objects uri source r in
    ap (λ ds. ds ++ objects rest) pushed ∙ append_assoc old (object made ∷ []) (objects rest)
    ∙ ap (λ m. old ++ object m ∷ objects rest) is ∙ ap (λ ss. old ++ objects ss) (sym next) ∙ so
