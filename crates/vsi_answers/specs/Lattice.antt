-- The refusals of lattice files.
use Rattle.std.specs.Prelude.{codes, Option, None}
use Rattle.vsi_lattice.specs.declared.reader.LatticeError.{LatticeError}
use Rattle.vsi_lattice.specs.declared.reader.LatticeError.TheVariants as lattice
use Rattle.vsi_answers.specs.Diagnostic.{nothing, number, pair, Diagnostic}
use Rattle.vsi_answers.specs.Source.{refused}

-- The refusal for a fault of a lattice file.
abbrev pub lattice_diagnostic : LatticeError → Option Diagnostic
lattice_diagnostic lattice.Memory = None
lattice_diagnostic lattice.NotToml = refused 1 (codes "NotToml") nothing
lattice_diagnostic lattice.BadShape = refused 2 (codes "BadShape") nothing
lattice_diagnostic lattice.NoClass = refused 3 (codes "NoClass") nothing
lattice_diagnostic lattice.TooManyClasses = refused 4 (codes "TooManyClasses") nothing
lattice_diagnostic (lattice.BadName i) = refused 5 (codes "BadName") (number i)
lattice_diagnostic (lattice.DuplicateName i) = refused 6 (codes "DuplicateName") (number i)
lattice_diagnostic (lattice.UnknownName i) = refused 7 (codes "UnknownName") (number i)
lattice_diagnostic (lattice.Cycle a b) = refused 8 (codes "Cycle") (pair a b)
lattice_diagnostic (lattice.NoJoin a b) = refused 9 (codes "NoJoin") (pair a b)
lattice_diagnostic (lattice.NoMeet a b) = refused 10 (codes "NoMeet") (pair a b)
