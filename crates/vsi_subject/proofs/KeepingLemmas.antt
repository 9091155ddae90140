-- The content of the store's file after a drive that fails.
use Rattle.std.proofs.Common.{◌≡◌, ◌-◌, ◌∙◌, ℕ, ℤ, List, Some, None, inl, inr, refl, subst}
use Rattle.std.specs.Prelude.{Option}
use Rattle.std.specs.Borrow.{Bor}
use Rattle.std.proofs.KnownBytes.{Keeps-refl}
use Rattle.vsi_lattice.specs.declared.lattice.Lattice.{Lattice}
use Rattle.vsi_image.specs.declared.instr.Image.{Image}
use Rattle.vsi_drive.specs.Boundary.{Boundary}
use Rattle.vsi_drive.specs.BoundaryFaults.{boundary_fault}
use Rattle.vsi_drive.specs.Control.{Control, controlled}
use Rattle.vsi_arguments.specs.declared.request.Driving.{Driving}
use Rattle.vsi_subject.specs.Admitted.{IsAdmitted}
use Rattle.vsi_subject.specs.Beginning.{IsBegun, IsBegunFrom}
use Rattle.vsi_subject.specs.Files.{IsBudgetOf, IsFullAt, IsStoredAt}
use Rattle.vsi_subject.specs.Holding.{Delivers, Holding, IsImageAt}
use Rattle.vsi_subject.specs.Saved.{CutsInput, LeavesState, SavesInput}
use Rattle.vsi_subject.specs.State.{HoldsState, StaysAt, StaysBeside, Touches, state_text}
use Rattle.vsi_subject.specs.Steering.{IsSteered}
use Rattle.vsi_subject.proofs.Cut.{StaysAt-same, Touches-same, Touches-trans, cut_saves}

-- A text that was put into the requested file is there.
delivered_state : (save : Option (Bor (List ℕ))) (text : List ℕ) (old new : Holding) → Delivers save text old new →
    HoldsState save text new
delivered_state None text old new done = tt
delivered_state (Some path) text old new done = done.filled

-- A text that is put into the requested file, after others were, is put into it.
pub delivered_after : (save : Option (Bor (List ℕ))) (text : List ℕ) (h g k : Holding) → Touches save h g →
    Delivers save text g k → Delivers save text h k
delivered_after None text h g k touched done = done ∙ touched
delivered_after (Some path) text h g k touched done = record {
  filled = done.filled;
  others = λ other away beside. done.others other away beside ∙ touched other away beside;
}

-- Where no file has changed, none but the one beside the requested one has.
pub beside_same : (out : Option (Bor (List ℕ))) (holds : Holding) → StaysBeside out holds holds
beside_same out holds = (StaysAt-same out holds holds refl, Touches-same out holds holds refl)

-- A drive begins with the words of the file at a path that it begins from.
pub words_begun : (holds : Holding) (d : Driving) (image : Image) (words : List ℤ)
    (path : Option (Bor (List ℕ))) → IsBegunFrom holds d path → IsStoredAt holds path image words →
    IsFullAt holds path image d.is_full → IsBegun holds d image words
words_begun holds d image words path from stored full =
    record { path = path; from = from; stored = stored; full = full }

-- A drive that hasn't begun leaves every file.
pub early_state : (holds : Holding) (d : Driving) (given : Option (List ℕ)) (old : Option (List ℕ)) →
    LeavesState holds d given holds old old
early_state holds d given old = record {
  touches = Touches-same d.save holds holds refl;
  state = inl (StaysAt-same d.save holds holds refl, Keeps-refl old);
}

-- A drive whose first store can't be saved leaves the file as it was.
pub first_state : (holds : Holding) (d : Driving) (given : Option (List ℕ)) (left : Holding)
    (old : Option (List ℕ)) → Touches d.save holds left → StaysAt d.save holds left →
    LeavesState holds d given left old old
first_state holds d given left old touched stays =
    record { touches = touched; state = inl (stays, Keeps-refl old) }

-- A drive that is cut short leaves the store after some of the lines.
pub driven_state : (holds h left : Holding) (d : Driving) (given old new : Option (List ℕ)) (l : Lattice)
    (driver : ℕ) (image : Image) (b : Boundary) (first : List ℤ) (budget most : ℕ) (k : Control) →
    IsBudgetOf d.execution.budget image budget → IsSteered holds d l driver image b →
    IsImageAt holds d.execution.image.now image → IsBegun holds d image first →
    k ≡ controlled l driver image budget b → IsAdmitted d.is_unbounded l image budget →
    boundary_fault k ≡ None →
    Touches d.save holds h → Delivers d.save (state_text image first) holds h → Touches d.save h left →
    most ≡ d.every - 1 → CutsInput d.save image k first most given old new h left →
    LeavesState holds d given left old new
driven_state holds h left d given old new l driver image b first budget most k within steered held begun same
    admitted sound saving saved touched is cut = record {
      touches = Touches-trans d.save holds h left saving touched;
      state = inr (record {
        lattice = l;
        driver = driver;
        image = image;
        boundary = b;
        steered = steered;
        held = held;
        first = first;
        begun = begun;
        budget = budget;
        within = within;
        admitted = admitted;
        sound = subst (λ c. boundary_fault c ≡ None) same sound;
        saves = subst (λ c. SavesInput d.save image c first d.every given old new left) same
            (cut_saves d.save image k first most d.every given old new h left is
            (delivered_state d.save (state_text image first) holds h saved) cut);
      });
    }
