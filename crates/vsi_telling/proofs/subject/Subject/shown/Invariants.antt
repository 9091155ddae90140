use Rattle.std.proofs.Common.{◌≡◌}
use Rattle.std.specs.Prelude.{true}
use Rattle.vsi_telling.specs.declared.place.ColourMode.TheVariants.{Plain}
use Rattle.vsi_telling.specs.Safe.{all_plain}
use Rattle.vsi_telling.proofs.subject.Subject.shown.Given as goal

abbrev pub invariant-loop-piece : goal.invariant-loop-piece
invariant-loop-piece l = l.mode ≡ Plain → all_plain l.text.items ≡ true
