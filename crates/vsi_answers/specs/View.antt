-- Refusals of the code as values of the definitions, independent of the memory of their bytes.
use Rattle.std.specs.Prelude.{option_map}
use Rattle.vsi_answers.specs.declared.diagnostic.Field.{Field}
use Rattle.vsi_answers.specs.declared.diagnostic.Field.TheVariants as f
use Rattle.vsi_answers.specs.declared.diagnostic.Diagnostic.{Diagnostic}
use Rattle.vsi_answers.specs.Diagnostic as spec

-- A field.
abbrev pub field_of : Field → spec.Field
field_of f.Nothing = spec.nothing
field_of (f.Number n) = spec.number n
field_of (f.Pair a b) = spec.pair a b
field_of (f.Place line column) = spec.place line column
field_of (f.Word w) = spec.word w.now
field_of (f.Numbered w n) = spec.numbered w.now n

-- A refusal.
abbrev pub diagnostic_of : Diagnostic → spec.Diagnostic
diagnostic_of d =
    record { code = d.code; name = d.name.now; field = field_of d.field; steps = option_map (λ s. s.now) d.steps }
