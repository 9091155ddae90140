use Rattle.std.proofs.Common.{refl}
use Rattle.std.proofs.lemmas.List.{length-map}
use Rattle.vsi_client.proofs.Keeping.{joined_names}
use Rattle.vsi_client.proofs.renaming.keep_variables.Goals as goal

pub returns-then-keep_globals-clause-named : goal.returns-then-keep_globals-clause-named
returns-then-keep_globals-clause-named c =
    λ is.
    rw (← c.globals-globals.ensures, ← c.globals.ensures, ← c.letvars.ensures, ← c.letvars-then-keep_globals.ensures)
    (joined_names c.checked_sub-place.result c.args.variable _ c.args.name.now _ _ _ _
    (length-map c.globals-globals.result.now _) c.checked_sub-place.ensures (c.if-keep_globals.ensures.named refl)
    (c.keep_letvars.ensures.named is))
