-- The facts about the bytes read that a refusal of an image, a store file or a text states.
use Rattle.std.specs.Prelude.{◌≡◌, ◌≢◌, ℕ, List, Option, Some, Ok, Err}
use Rattle.vsi_lattice.specs.Order.{Lattice}
use Rattle.vsi_lattice.specs.Known.{Known}
use Rattle.vsi_types.specs.declared.rules.Profile.{Profile}
use Rattle.vsi_image.specs.declared.instr.Image.{Image}
use Rattle.vsi_image.specs.declared.decoder.DecodeError.TheVariants as decoder
use Rattle.vsi_image.specs.Faults.{first_fault}
use Rattle.vsi_image.specs.Fields.{fields, globals}
use Rattle.vsi_image.specs.Reading.{image_of}
use Rattle.vsi_image.specs.Valid.{IsValid}
use Rattle.vsi_store.specs.declared.reader.StoreError.TheVariants as store
use Rattle.vsi_store.specs.File.{IsRefusal}
use Rattle.vsi_compiler.specs.Refusal.{IsRefused}
use Rattle.vsi_drive.specs.Engine.{IsReadFrom}
use Rattle.vsi_drive.specs.declared.engine.EngineError.{EngineError}
use Rattle.vsi_drive.specs.declared.engine.EngineError.TheVariants.{ReadFault, WriteFault, Compile, Decode, Verify, Store, Memory}

-- A refusal of bytes as an image: the decoder's, or the verifier's of the image that they are.
abbrev pub RefusesImage : List ℕ → EngineError → Type 0
RefusesImage bytes ReadFault = ⊥
RefusesImage bytes WriteFault = ⊥
RefusesImage bytes (Compile e) = ⊥
RefusesImage bytes (Decode e) = (e ≢ decoder.Memory) × (image_of bytes ≡ Err e)
RefusesImage bytes (Verify e) = (image : Image) × (image_of bytes ≡ Ok (fields image)) × (first_fault image ≡ Some e)
RefusesImage bytes (Store e) = ⊥
RefusesImage bytes Memory = Unit {0}

-- A refusal of bytes as an image, or of a store file for the valid image that the bytes are.
abbrev pub RefusesRun : List ℕ → List ℕ → EngineError → Type 0
RefusesRun bytes file ReadFault = ⊥
RefusesRun bytes file WriteFault = ⊥
RefusesRun bytes file (Compile e) = ⊥
RefusesRun bytes file (Decode e) = RefusesImage bytes (Decode e)
RefusesRun bytes file (Verify e) = RefusesImage bytes (Verify e)
RefusesRun bytes file (Store e) =
    (e ≢ store.Memory)
    × ((image : Image) × (image_of bytes ≡ Ok (fields image)) × IsValid image
    × IsRefusal (globals image.globals.items) file e)
RefusesRun bytes file Memory = Unit {0}

-- A refusal of a text by the compiler.
abbrev pub RefusesText : Known → Lattice → Profile → List ℕ → EngineError → Type 0
RefusesText known L P text ReadFault = ⊥
RefusesText known L P text WriteFault = ⊥
RefusesText known L P text (Compile e) = IsRefused known L P text e
RefusesText known L P text (Decode e) = ⊥
RefusesText known L P text (Verify e) = ⊥
RefusesText known L P text (Store e) = ⊥
RefusesText known L P text Memory = Unit {0}

-- A fault of a device, lack of memory, or a refusal of the bytes that were read.
abbrev pub RefusesRead : (List ℕ → EngineError → Type 0) → Option (List ℕ) → EngineError → Type 0
RefusesRead refuses remaining ReadFault = Unit {0}
RefusesRead refuses remaining WriteFault = Unit {0}
RefusesRead refuses remaining Memory = Unit {0}
RefusesRead refuses remaining e = (bytes : List ℕ) × IsReadFrom remaining bytes × refuses bytes e
