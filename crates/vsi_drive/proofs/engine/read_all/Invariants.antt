use Rattle.std.proofs.Common.{◌≡◌, ◌≤◌, ◌-◌, length}
use Rattle.std.specs.Io.KnownBytes.{Consumes}
use Rattle.vsi_drive.specs.Counted.{device_of, faults_of}
use Rattle.vsi_drive.proofs.engine.read_all.Given as goal

abbrev pub invariant-loop-chunk : goal.invariant-loop-chunk
invariant-loop-chunk g l =
    let remaining = g.R.Read.remaining in
    record {
      taken : Consumes (remaining (device_of l.fn.reader)) (remaining (device_of l.reader)) l.bytes.items;
      count : faults_of l.reader ≡ faults_of l.fn.reader;
      bound : length l.bytes.items ≤ 1048577;
    }

abbrev pub decreases-loop-chunk : goal.decreases-loop-chunk
decreases-loop-chunk g l = 1048577 - length l.bytes.items
