use Rattle.std.proofs.Common.{rules, ℕ, get_or, arith, sym}
use Rattle.std.proofs.lemmas.List.{get_or_default}
use Rattle.vsi_lattice.proofs.RowLemmas.{adds_written, own_bit}
use Rattle.vsi_recovery.proofs.OrderLemmas.{own_sound, pair_sound}
use Rattle.vsi_recovery.proofs.rows.rows_of.Goals as goal

pub loop-i-init : goal.loop-i-init
loop-i-init c = record {
  len = omega arith;
  sound = own_sound c.args.count c.args.pairs.now _
      (own_bit c.loop-a.rows.items c.args.count (omega arith) (λ k h. c.loop-a.invariant.each k (omega arith)));
}

pub loop-i-preserved : goal.loop-i-preserved
loop-i-preserved c =
    let pairs = c.args.pairs.now in
    let i = c.loop-i.i in
    let p : ℕ × ℕ = get_or pairs i (0, 0) in
    let lt = c.loop-i-test.true in
    record {
      len = first_of (search rules, omega arith);
      sound = pair_sound pairs _ _ p.0 p.1 (i, lt, get_or_default pairs i p (0, 0) lt)
          (adds_written c.loop-i.rows.len c.loop-i.rows.items _ c.add_pair.new.rows _ _ c.deref_mut.ensures.value
          c.add_pair.ensures (omega arith) (sym c.loop-i.rows.ok.0)) c.loop-i.invariant.sound;
    }
