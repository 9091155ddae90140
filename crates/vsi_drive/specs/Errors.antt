-- Errors of the layers as errors of a call over devices, which has one error for lack of memory.
use Rattle.vsi_compiler.specs.declared.source.CompileError.{CompileError}
use Rattle.vsi_compiler.specs.declared.source.CompileError.TheVariants as compiler
use Rattle.vsi_image.specs.declared.decoder.DecodeError.{DecodeError}
use Rattle.vsi_image.specs.declared.decoder.DecodeError.TheVariants as decoder
use Rattle.vsi_store.specs.declared.reader.StoreError.{StoreError}
use Rattle.vsi_store.specs.declared.reader.StoreError.TheVariants as store
use Rattle.vsi_drive.specs.declared.engine.EngineError.{EngineError}
use Rattle.vsi_drive.specs.declared.engine.EngineError.TheVariants.{Compile, Decode, Store, Memory}

-- A refusal of the compiler.
abbrev pub compiling : CompileError → EngineError
compiling compiler.Memory = Memory
compiling e = Compile e

-- A refusal of the decoder.
abbrev pub decoding : DecodeError → EngineError
decoding decoder.Memory = Memory
decoding e = Decode e

-- A refusal of the store file.
abbrev pub storing : StoreError → EngineError
storing store.Memory = Memory
storing e = Store e
