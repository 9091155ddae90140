-- The bytes that calls over devices read, and the errors that they may return.
use Rattle.std.specs.Prelude.{◌≡◌, ◌≤◌, ℕ, List, length, take, Option, IfSome}
use Rattle.std.specs.Io.KnownBytes.{Consumes}
use Rattle.vsi_drive.specs.declared.engine.EngineError.{EngineError}
use Rattle.vsi_drive.specs.declared.engine.EngineError.TheVariants.{ReadFault, WriteFault, Compile, Decode, Verify, Store, Memory}

-- The most bytes that are read from a reader: one more than the longest text has.
abbrev pub max_read : ℕ
max_read = 1048577

-- The bytes read from a reader with known bytes: all of them, or as many as the limit.
abbrev pub IsReadFrom : Option (List ℕ) → List ℕ → Type 0
IsReadFrom remaining bytes = IfSome remaining (λ xs. bytes ≡ take max_read xs)

-- A reader with known bytes has lost at most as many of them as the limit, from the front.
abbrev pub TakesFew : Option (List ℕ) → Option (List ℕ) → Type 0
TakesFew old new = (taken : List ℕ) × Consumes old new taken × (length taken ≤ max_read)

-- A fault of the reader, or lack of memory.
abbrev pub IsOfReading : EngineError → Type 0
IsOfReading ReadFault = Unit {0}
IsOfReading WriteFault = ⊥
IsOfReading (Compile e) = ⊥
IsOfReading (Decode e) = ⊥
IsOfReading (Verify e) = ⊥
IsOfReading (Store e) = ⊥
IsOfReading Memory = Unit {0}

-- A fault of the writer, or lack of memory.
abbrev pub IsOfWriting : EngineError → Type 0
IsOfWriting ReadFault = ⊥
IsOfWriting WriteFault = Unit {0}
IsOfWriting (Compile e) = ⊥
IsOfWriting (Decode e) = ⊥
IsOfWriting (Verify e) = ⊥
IsOfWriting (Store e) = ⊥
IsOfWriting Memory = Unit {0}
