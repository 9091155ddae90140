use Rattle.std.proofs.Common.{arith, refl}
use Rattle.vsi_program.proofs.troubles.Objection.sentence.Goals as goal

pub returns-in-OtherStore : goal.returns-in-OtherStore
returns-in-OtherStore c = (2, omega arith, refl)

pub returns-in-NotOwn : goal.returns-in-NotOwn
returns-in-NotOwn c = (3, omega arith, refl)

pub returns-in-NotPrivate : goal.returns-in-NotPrivate
returns-in-NotPrivate c = (4, omega arith, refl)

pub returns-in-Kept : goal.returns-in-Kept
returns-in-Kept c = (5, omega arith, refl)

pub returns-in-NotEmpty : goal.returns-in-NotEmpty
returns-in-NotEmpty c = (7, omega arith, refl)

pub returns-in-Changed : goal.returns-in-Changed
returns-in-Changed c = (6, omega arith, refl)
