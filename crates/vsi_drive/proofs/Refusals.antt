-- Refusals of the layers are refusals of the bytes that were read.
use Rattle.std.proofs.Common.{◌≡◌, ◌≢◌, ℕ, List, Option, Ok}
use Rattle.vsi_lattice.specs.Order.{Lattice}
use Rattle.vsi_lattice.specs.Known.{Known}
use Rattle.vsi_types.specs.declared.rules.Profile.{Profile}
use Rattle.vsi_image.specs.declared.instr.Image.{Image}
use Rattle.vsi_image.specs.Fields.{fields, globals}
use Rattle.vsi_image.specs.Reading.{image_of}
use Rattle.vsi_image.specs.Valid.{IsValid}
use Rattle.vsi_store.specs.declared.reader.StoreError.{StoreError}
use Rattle.vsi_store.specs.declared.reader.StoreError.TheVariants as store
use Rattle.vsi_store.specs.File.{IsRefusal}
use Rattle.vsi_compiler.specs.declared.source.CompileError.{CompileError}
use Rattle.vsi_compiler.specs.declared.source.CompileError.TheVariants as compiler
use Rattle.vsi_compiler.specs.Acceptance.{IsAccepted}
use Rattle.vsi_compiler.specs.Refusal.{Refuses}
use Rattle.vsi_compiler.proofs.Runs.{is_refused}
use Rattle.vsi_drive.specs.declared.engine.EngineError.{EngineError}
use Rattle.vsi_drive.specs.declared.engine.EngineError.TheVariants.{ReadFault, WriteFault, Compile, Decode, Verify, Store, Memory}
use Rattle.vsi_drive.specs.Engine.{IsReadFrom}
use Rattle.vsi_drive.specs.Errors.{compiling, storing}
use Rattle.vsi_drive.specs.Refusing.{RefusesImage, RefusesRead, RefusesRun, RefusesText}

-- A refusal of the image that was read.
pub image_refused : (remaining : Option (List ℕ)) (bytes file : List ℕ) (e : EngineError) →
    IsReadFrom remaining bytes → RefusesImage bytes e → RefusesRead (λ b. RefusesRun b file) remaining e
image_refused remaining bytes file ReadFault given h = tt
image_refused remaining bytes file WriteFault given h = tt
image_refused remaining bytes file (Compile e) given h = absurd h
image_refused remaining bytes file (Decode e) given h = (bytes, given, h)
image_refused remaining bytes file (Verify e) given h = (bytes, given, h)
image_refused remaining bytes file (Store e) given h = absurd h
image_refused remaining bytes file Memory given h = tt

-- A refusal of the store file for the image that was read.
pub store_refused : (remaining : Option (List ℕ)) (bytes file : List ℕ) (image : Image) (e : StoreError) →
    IsReadFrom remaining bytes → image_of bytes ≡ Ok (fields image) → IsValid image →
    IsRefusal (globals image.globals.items) file e → RefusesRead (λ b. RefusesRun b file) remaining (storing e)
store_refused remaining bytes file image store.NotToml given read valid h =
    let differs : ◌≢◌ {A = StoreError} store.NotToml store.Memory = λ q. cc in
    (bytes, given, (differs, (image, read, valid, h)))
store_refused remaining bytes file image (store.NotANumber key) given read valid h =
    let differs : ◌≢◌ {A = StoreError} (store.NotANumber key) store.Memory = λ q. cc in
    (bytes, given, (differs, (image, read, valid, h)))
store_refused remaining bytes file image (store.UnknownGlobal key) given read valid h =
    let differs : ◌≢◌ {A = StoreError} (store.UnknownGlobal key) store.Memory = λ q. cc in
    (bytes, given, (differs, (image, read, valid, h)))
store_refused remaining bytes file image store.Memory given read valid h = tt

-- The compiler's refusal of a text is a refusal of the text that was read.
pub text_refused : (known : Known) (L : Lattice) (P : Profile) (text : List ℕ) (e : CompileError) →
    Refuses known L P text e → (IsAccepted known L P text → e ≡ compiler.Memory) →
    RefusesText known L P text (compiling e)
text_refused known L P text compiler.Memory told exact = tt
text_refused known L P text (compiler.Lex e) told exact =
    is_refused known L P text (compiler.Lex e) (λ q. cc) told exact
text_refused known L P text (compiler.Parse e) told exact =
    is_refused known L P text (compiler.Parse e) (λ q. cc) told exact
text_refused known L P text (compiler.Scope e) told exact =
    is_refused known L P text (compiler.Scope e) (λ q. cc) told exact
text_refused known L P text (compiler.Flow walk) told exact =
    is_refused known L P text (compiler.Flow walk) (λ q. cc) told exact
