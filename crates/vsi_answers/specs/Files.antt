-- The refusals of images, store files and views.
use Rattle.std.specs.Prelude.{codes, Option, None}
use Rattle.vsi_image.specs.declared.decoder.DecodeError.{DecodeError}
use Rattle.vsi_image.specs.declared.decoder.DecodeError.TheVariants as decoder
use Rattle.vsi_image.specs.declared.encoder.Limit.{Limit}
use Rattle.vsi_image.specs.declared.encoder.Limit.TheVariants as limits
use Rattle.vsi_image.specs.declared.verifier.VerifyError.{VerifyError}
use Rattle.vsi_image.specs.declared.verifier.VerifyError.TheVariants as verifier
use Rattle.vsi_store.specs.declared.reader.StoreError.{StoreError}
use Rattle.vsi_store.specs.declared.reader.StoreError.TheVariants as store
use Rattle.vsi_store.specs.declared.views.ViewError.{ViewError}
use Rattle.vsi_store.specs.declared.views.ViewError.TheVariants as views
use Rattle.vsi_answers.specs.declared.diagnostic.Fault.{Fault}
use Rattle.vsi_answers.specs.declared.diagnostic.Fault.TheVariants as fault
use Rattle.vsi_answers.specs.Diagnostic.{Field, nothing, number, word, numbered, Diagnostic}
use Rattle.vsi_answers.specs.Lattice.{lattice_diagnostic}
use Rattle.vsi_answers.specs.Source.{refused}

-- The refusal of bytes that aren't an image.
abbrev pub decode_diagnostic : DecodeError → Option Diagnostic
decode_diagnostic decoder.Memory = None
decode_diagnostic decoder.BadMagic = refused 27 (codes "BadMagic") nothing
decode_diagnostic decoder.BadVersion = refused 28 (codes "BadVersion") nothing
decode_diagnostic (decoder.BadField at) = refused 29 (codes "BadField") (number at)
decode_diagnostic (decoder.BadOpcode at) = refused 30 (codes "BadOpcode") (number at)
decode_diagnostic (decoder.Truncated at) = refused 31 (codes "Truncated") (number at)
decode_diagnostic (decoder.Trailing at) = refused 32 (codes "Trailing") (number at)

-- The part of an image that has no bytes.
abbrev pub limit_field : Limit → Field
limit_field limits.Globals = word (codes "Globals")
limit_field limits.Slots = word (codes "Slots")
limit_field limits.Stack = word (codes "Stack")
limit_field limits.Count = word (codes "Count")
limit_field (limits.Name i) = numbered (codes "Name") i
limit_field (limits.Class i) = numbered (codes "Class") i

-- The refusal of an image that isn't valid.
abbrev pub verify_diagnostic : VerifyError → Option Diagnostic
verify_diagnostic (verifier.Unencodable limit) = refused 26 (codes "Unencodable") (limit_field limit)
verify_diagnostic (verifier.BadSlot pc) = refused 33 (codes "BadSlot") (number pc)
verify_diagnostic (verifier.BadTarget pc) = refused 34 (codes "BadTarget") (number pc)
verify_diagnostic (verifier.Underflow pc) = refused 35 (codes "Underflow") (number pc)
verify_diagnostic (verifier.Overflow pc) = refused 36 (codes "Overflow") (number pc)
verify_diagnostic (verifier.NotEmpty pc) = refused 37 (codes "NotEmpty") (number pc)
verify_diagnostic verifier.RunsOff = refused 38 (codes "RunsOff") nothing

-- The refusal of a store file.
abbrev pub store_diagnostic : StoreError → Option Diagnostic
store_diagnostic store.Memory = None
store_diagnostic store.NotToml = refused 40 (codes "NotToml") nothing
store_diagnostic (store.NotANumber key) = refused 41 (codes "NotANumber") (word key.items)
store_diagnostic (store.UnknownGlobal key) = refused 42 (codes "UnknownGlobal") (word key.items)

-- The refusal of a view.
abbrev pub view_diagnostic : ViewError → Option Diagnostic
view_diagnostic views.Memory = None
view_diagnostic (views.WrongStore n) = refused 39 (codes "WrongStore") (number n)
view_diagnostic (views.ClassNotInLattice i) = refused 43 (codes "ClassNotInLattice") (number i)

-- The refusal of a file other than a source text, or none if memory ran out.
abbrev pub fault_diagnostic : Fault → Option Diagnostic
fault_diagnostic (fault.Lattice e) = lattice_diagnostic e
fault_diagnostic (fault.Decode e) = decode_diagnostic e
fault_diagnostic (fault.Verify e) = verify_diagnostic e
fault_diagnostic (fault.Store e) = store_diagnostic e
fault_diagnostic (fault.View e) = view_diagnostic e
