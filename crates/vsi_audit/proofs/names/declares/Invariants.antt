use Rattle.std.proofs.Common.{◌≡◌, map, take}
use Rattle.vsi_syntax.specs.CommandView.{declared}
use Rattle.vsi_image.specs.Fields.{globals}
use Rattle.vsi_audit.specs.Text.{words}
use Rattle.vsi_audit.proofs.names.declares.Given as goal

abbrev pub invariant-loop-global : goal.invariant-loop-global
invariant-loop-global l = record {
  place : l.place ≡ l.global-index;
  declared : map words (map declared (take l.global-index l.declared)) ≡ globals (take l.global-index l.globals);
}
