use Rattle.std.proofs.Common.{◌≡◌, take}
use Rattle.vsi_audit.specs.Written.{names_of}
use Rattle.vsi_audit.proofs.TreeParts.{AreWritten}
use Rattle.vsi_audit.proofs.writing.+writing.Given as goal

abbrev pub invariant-check_all-loop-c : goal.invariant-check_all-loop-c
invariant-check_all-loop-c l = record {
  kept : l.names.names.items ≡ l.fn.names.names.items;
  place : l.place ≡ l.c-index;
  written : AreWritten (names_of l.fn.names) (take l.c-index l.body) (take l.c-index l.written);
}
