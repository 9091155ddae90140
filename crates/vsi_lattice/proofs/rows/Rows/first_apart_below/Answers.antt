use Rattle.std.proofs.Common.{subst, IfNone}
use Rattle.vsi_lattice.specs.Rows.{AllHaveCommon}
use Rattle.vsi_lattice.proofs.rows.Rows.first_apart_below.Goals as goal

pub returns-clause-none : goal.returns-clause-none
returns-clause-none c =
    subst (λ rows. IfNone c.first_apart.result (AllHaveCommon rows)) c.deref.ensures.value c.first_apart.ensures.none
