-- How a run begins: from a store file, and from globals that are set after it.
use Rattle.std.specs.Prelude.{◌≡◌, ℕ, ◌+◌, ℤ, Bool, true, List, [], ◌∷◌, ◌++◌, Option, Some, None, Result, Ok, Err, if◌then◌else◌, codes, slice_set}
use Rattle.vsi_image.specs.declared.instr.Image.{Image}
use Rattle.vsi_image.specs.Fields.{globals}
use Rattle.vsi_store.specs.File.{Tells, Names}
use Rattle.vsi_drive.specs.declared.settings.LineFault.{LineFault}
use Rattle.vsi_drive.specs.declared.settings.LineFault.TheVariants.{BadSetting}
use Rattle.vsi_drive.specs.declared.boundary.StartFault.{StartFault}
use Rattle.vsi_drive.specs.declared.boundary.StartFault.TheVariants as fault
use Rattle.vsi_drive.specs.BoundaryFaults.{boundary_fault_name}
use Rattle.vsi_drive.specs.Fields.{fields_of}
use Rattle.vsi_drive.specs.Settings.{Setting, Settable, any_of, applied, fault_name, in_front, numbered, setting}

-- The setting that the three fields of a text form.
abbrev pub one_setting : Settable → ℕ → List (List ℕ) → Result Setting LineFault
one_setting s n [] = Err (BadSetting n)
one_setting s n (x ∷ []) = Err (BadSetting n)
one_setting s n (x ∷ y ∷ []) = Err (BadSetting n)
one_setting s n (x ∷ y ∷ z ∷ []) = setting s n x y z
one_setting s n (x ∷ y ∷ z ∷ w ∷ fields) = Err (BadSetting n)

-- The settings that texts form, one each, the first of which has this number.
abbrev pub settings_each : Settable → ℕ → List (List ℕ) → Result (List Setting) LineFault
settings_each s n [] = Ok []
settings_each s n (t ∷ ts) = in_front (one_setting s n (fields_of t)) (settings_each s (n + 1) ts)

-- The globals that are named, counting those that are set.
abbrev pub marked : List Setting → List Bool → List Bool
marked [] named = named
marked (s ∷ ss) named = marked ss (slice_set named s.0 true)

-- The words after settings, and which globals are in the file or set.
pub record Start : Type 0 where
  pub words : List ℤ
  pub named : List Bool

-- The start with these words, in which these globals are named.
abbrev pub start : List ℤ → List Bool → Start
start words named = record { words = words; named = named }

-- The start after settings are made, or their fault.
abbrev pub set_behind : Result (List Setting) LineFault → Start → Result Start LineFault
set_behind (Err f) m = Err f
set_behind (Ok ss) m = Ok (start (applied ss m.words) (marked ss m.named))

-- The number of the first global that isn't named, where these have numbers from n on.
abbrev pub first_unnamed : ℕ → List Bool → Option ℕ
first_unnamed n [] = None
first_unnamed n (b ∷ bs) = if b then first_unnamed (n + 1) bs else Some n

-- The fault of a start if every global must be named: the first that isn't.
abbrev pub unnamed_in : Bool → List Bool → Option ℕ
unnamed_in is_full named = if is_full then first_unnamed 0 named else None

-- The store file gives these words and names these globals.
pub record IsFile (image : Image) (file : List ℕ) (m : Start) : Type 0 where
  pub tells : Tells file (globals image.globals.items) m.words
  pub names : Names file (globals image.globals.items) m.named

-- A run begins with these words: those of the store file, with the globals that the texts set.
pub record Begins (image : Image) (file : List ℕ) (texts : List (List ℕ)) (is_full : Bool)
    (words : List ℤ) : Type 0 where
  pub first : Start
  pub behind : Start
  pub told : IsFile image file first
  pub set : set_behind (settings_each (any_of image) 0 texts) first ≡ Ok behind
  pub full : unnamed_in is_full behind.named ≡ None
  pub is : words ≡ behind.words

-- The global with this number is the first that must be named and isn't.
pub record Lacks (image : Image) (file : List ℕ) (texts : List (List ℕ)) (is_full : Bool) (i : ℕ) : Type 0 where
  pub first : Start
  pub behind : Start
  pub told : IsFile image file first
  pub set : set_behind (settings_each (any_of image) 0 texts) first ≡ Ok behind
  pub lacks : unnamed_in is_full behind.named ≡ Some i

-- Why a run doesn't begin: the first faulty setting, or a global that must be named. Its globals have no boundary.
abbrev pub IsStartFault : Image → List ℕ → List (List ℕ) → Bool → StartFault → Type 0
IsStartFault image file texts is_full (fault.Setting f) = settings_each (any_of image) 0 texts ≡ Err f
IsStartFault image file texts is_full (fault.Boundary f) = ⊥
IsStartFault image file texts is_full (fault.Unnamed i) = Lacks image file texts is_full i

-- The number, the name and the field of a fault.
abbrev pub start_fault_name : StartFault → List ℕ
start_fault_name (fault.Setting f) = fault_name f
start_fault_name (fault.Boundary f) = boundary_fault_name f
start_fault_name (fault.Unnamed i) = numbered (codes "56 GlobalNotNamed") i

-- The line of a fault.
abbrev pub start_fault_line : StartFault → List ℕ
start_fault_line f = codes "refused: " ++ start_fault_name f ++ codes "\n"
