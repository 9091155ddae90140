-- The settings of a view by an interface, which set inputs alone.
use Rattle.std.specs.Prelude.{◌≡◌, ℕ, ◌+◌, List, [], ◌∷◌, All, IsOk, Option, Some, None, Result, Ok, Err}
use Rattle.std.specs.Option.{option_or}
use Rattle.vsi_lattice.specs.NamePlaces.{texts}
use Rattle.vsi_lattice.specs.declared.lattice.Lattice.{Lattice}
use Rattle.vsi_image.specs.declared.instr.Image.{Image}
use Rattle.vsi_drive.specs.Boundary.{Boundary}
use Rattle.vsi_drive.specs.Control.{Control, controlled}
use Rattle.vsi_drive.specs.Settings.{Setting, settings_of}
use Rattle.vsi_drive.specs.declared.settings.LineFault.{LineFault}
use Rattle.vsi_drive.specs.declared.settings.LineFault.TheVariants.{TooLong, BadSetting, UnknownGlobal, AboveClass, NotAnInput, NotANumber}
use Rattle.vsi_drive.specs.declared.boundary.StartFault.{StartFault}
use Rattle.vsi_drive.specs.declared.boundary.StartFault.TheVariants as start
use Rattle.vsi_answers.specs.Answers.{Because}
use Rattle.vsi_answers.specs.Judged.{TellsStartFault}
use Rattle.vsi_answers.specs.declared.unanswered.Unanswered.{Unanswered}
use Rattle.vsi_arguments.specs.declared.request.DrivePolicy.{DrivePolicy}
use Rattle.vsi_arguments.specs.declared.request.DrivePolicy.TheVariants as policy
use Rattle.vsi_arguments.specs.declared.request.InitialStore.{InitialStore}

-- Each of these settings is one that a line of the controller may make: it sets an input at or below the class.
abbrev pub AreInputs : Control → List (List ℕ) → Type 0
AreInputs c settings = All (λ setting. IsOk (settings_of c setting)) settings

-- By an interface a class may make each of these settings as a line of a drive. By a lattice file it may make all.
abbrev pub AreFed : DrivePolicy → Lattice → ℕ → Image → Boundary → List (List ℕ) → Type 0
AreFed (policy.Lattice path lists) l viewer image b settings = Unit {0}
AreFed (policy.Interface path) l viewer image b settings = AreInputs (controlled l viewer image 0 b) settings

-- The fault of a setting, with its number among the settings.
abbrev pub at_number : ℕ → LineFault → LineFault
at_number n TooLong = TooLong
at_number n (BadSetting i) = BadSetting i
at_number n (UnknownGlobal i) = UnknownGlobal i
at_number n (AboveClass i) = AboveClass n
at_number n (NotAnInput i) = NotAnInput n
at_number n (NotANumber i) = NotANumber i

-- The fault of a setting with this number, if it has one.
abbrev pub fault_of : ℕ → Result (List Setting) LineFault → Option LineFault
fault_of n (Ok settings) = None
fault_of n (Err fault) = Some (at_number n fault)

-- The first fault of settings as lines of a controller, if the first of them has this number.
abbrev pub unfed : Control → ℕ → List (List ℕ) → Option LineFault
unfed c n [] = None
unfed c n (s ∷ ss) = option_or (fault_of n (settings_of c s)) (unfed c (n + 1) ss)

-- A view doesn't begin, since a setting has this fault as a line of the controller.
abbrev pub IsUnfed : Control → List (List ℕ) → StartFault → Type 0
IsUnfed c settings fault = (f : LineFault) × (fault ≡ start.Setting f) × (unfed c 0 settings ≡ Some f)

-- `view` by an interface: a setting sets what is no input.
abbrev pub RefusesSettings : Lattice → ℕ → Image → Boundary → InitialStore → Unanswered → Type 0
RefusesSettings l viewer image b o =
    Because (TellsStartFault (IsUnfed (controlled l viewer image 0 b) (texts o.settings.items))) ⊥
