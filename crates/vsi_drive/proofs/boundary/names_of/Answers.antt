use Rattle.std.proofs.Common.{◌≡◌, ◌∙◌, ◌++◌, false, get_or, ap, rules, arith}
use Rattle.std.specs.Prelude.{◌==◌}
use Rattle.std.proofs.lemmas.Grind.{common_steps}
use Rattle.vsi_lattice.specs.NamePlaces.{texts}
use Rattle.vsi_drive.proofs.NamesOf.{goes_on}
use Rattle.vsi_drive.proofs.boundary.names_of.Goals.{then-text-i-eq44+in_ok-push, else-text-i-eq44}
use Rattle.vsi_drive.proofs.boundary.names_of.Goals as goal

pub loop-i-preserved : goal.loop-i-preserved
loop-i-preserved c = elim c.if-text-i-eq44.branch [
  | then-text-i-eq44+in_ok-push w ↦ rw (w.names-is, w.start-is)
      (first_of (search (rules, w.if-text-i-eq44, w.in_ok-push), grind (arith, common_steps)))
  | else-text-i-eq44 w ↦
      let other : (get_or c.args.text.now c.loop-i.i 0 == 44) ≡ false = search (rules, w.if-text-i-eq44) in
      rw (w.names-is, w.start-is)
      (record {
        start = omega (arith, c.loop-i.invariant.start);
        names = ap (λ ns. texts c.loop-i.names.items ++ ns)
            (goes_on c.args.text.now c.loop-i.start c.loop-i.i c.loop-i.invariant.start
            (omega (arith, c.loop-i-test.true)) other)
            ∙ c.loop-i.invariant.names;
      })
]
