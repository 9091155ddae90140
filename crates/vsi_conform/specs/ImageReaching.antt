-- The globals of an image that the released outputs of an interface can depend on.
use Rattle.std.specs.Prelude.{◌≡◌, ◌≢◌, ◌⊎◌, true, List, map, Option, Some, None, []}
use Rattle.vsi_lattice.specs.LatticeView.{class_named, order}
use Rattle.vsi_lattice.specs.declared.lattice.Lattice.{Lattice}
use Rattle.vsi_types.specs.declared.rules.Profile.{Profile}
use Rattle.vsi_image.specs.Fields.{globals}
use Rattle.vsi_image.specs.declared.instr.Image.{Image}
use Rattle.vsi_audit.specs.Flows.{IsTableOfImage}
use Rattle.vsi_audit.specs.Refusal.{Refuses}
use Rattle.vsi_audit.specs.declared.flow.AuditError.{AuditError}
use Rattle.vsi_audit.specs.declared.flow.AuditError.TheVariants as audit
use Rattle.vsi_flows.specs.declared.table.Pair.{Pair}
use Rattle.vsi_conform.specs.declared.interface.Judgement.{Judgement}
use Rattle.vsi_conform.specs.Reading.{ClassBoundary}
use Rattle.vsi_conform.specs.Reaching.{AreReleased, Flowing, Released, profile_of, releases}

-- The audit refuses the image for a reason other than memory, so there is no table.
pub record LacksTable (l : Lattice) (P : Profile) (image : Image) : Type 0 where
  pub error : AuditError
  pub other : error ≢ audit.Memory
  pub refused : Refuses (class_named l) (order l) P image error

-- The table of flows of the image's program, or none if the audit reads no program back.
abbrev pub IsTableIn : Lattice → Profile → Image → Option (List Pair) → Type 0
IsTableIn l P image None = LacksTable l P image
IsTableIn l P image (Some pairs) = IsTableOfImage (class_named l) (order l) P image pairs

-- The flows are those of the image's program: the names of its globals and its table.
pub record AreFlowsOf (l : Lattice) (P : Profile) (image : Image) (f : Flowing) : Type 0 where
  pub names : f.names ≡ map (λ g. g.0) (globals image.globals.items)
  pub table : IsTableIn l P image f.table

-- The released outputs of boundaries, by the flows of an image under the profile of an interface; or there are none.
abbrev pub AreImageReleased : Lattice → Judgement → Image → List ClassBoundary → List Released → Type 0
AreImageReleased l j image bs found =
    ((releases bs ≡ true → ⊥) × (found ≡ []))
    ⊎ AreReleased (AreFlowsOf l (profile_of j) image) bs found
