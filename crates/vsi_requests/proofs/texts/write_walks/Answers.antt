use Rattle.std.proofs.Common.{arith}
use Rattle.vsi_drive.specs.Counted.{device_of}
use Rattle.vsi_subject.proofs.Partly.{any_failure, no_part}
use Rattle.vsi_requests.proofs.Walked.{cut_text, last_cut, last_written, made_more, made_written, none_made}
use Rattle.vsi_requests.proofs.texts.write_walks.Goals as goal

pub loop-number-init : goal.loop-number-init
loop-number-init g c =
    record {
      output = omega arith;
      made = none_made c.args.walks.now c.requires.walks (g.W.Write.contents (device_of c.args.output.now))
          c.new-lines.result.items c.new-lines.ensures.items;
    }

pub put_lines-requires-clause-number : goal.put_lines-requires-clause-number
put_lines-requires-clause-number g c = omega (arith, c.loop-number-test.true, c.len-number-end.ensures)

pub loop-number-preserved-then-len-lt-ENOUGH : goal.loop-number-preserved-then-len-lt-ENOUGH
loop-number-preserved-then-len-lt-ENOUGH g c =
    record {
      output = c.loop-number.invariant.output;
      made = made_more c.args.walks.now c.requires.walks (g.W.Write.contents (device_of c.args.output.now))
          c.loop-number.number c.loop-number.total c.loop-number.lines.items c.put_lines.new.text.items
          (g.W.Write.contents (device_of c.loop-number.output)) c.loop-number.invariant.made c.in_ok-put_lines.ensures;
    }

pub loop-number-preserved : goal.loop-number-preserved
loop-number-preserved g c =
    let old = g.W.Write.contents (device_of c.args.output.now) in
    let mid = g.W.Write.contents (device_of c.loop-number.output) in
    record {
      output = omega (arith, c.in_ok-write_lines.ensures.fault, c.loop-number.invariant.output);
      made = made_written c.args.walks.now c.requires.walks old _ c.loop-number.total c.write_lines.new.total
          c.put_lines.new.text.items c.write_lines.new.lines.items mid
          (g.W.Write.contents (device_of c.write_lines.new.output))
          (made_more c.args.walks.now c.requires.walks old c.loop-number.number c.loop-number.total
          c.loop-number.lines.items c.put_lines.new.text.items mid c.loop-number.invariant.made
          c.in_ok-put_lines.ensures)
          c.in_ok-write_lines.ensures.whole c.in_ok-write_lines.ensures.emptied c.in_ok-write_lines.ensures.counted
          c.in_ok-write_lines.ensures.few;
    }

pub returns-in_err-put_lines-clause-cut : goal.returns-in_err-put_lines-clause-cut
returns-in_err-put_lines-clause-cut g c =
    let old = g.W.Write.contents (device_of c.args.output.now) in
    let mid = g.W.Write.contents (device_of c.loop-number.output) in
    any_failure _ c.from_residual.result
    (cut_text c.args.walks.now c.requires.walks old c.loop-number.number c.loop-number.total c.loop-number.lines.items
    mid mid c.loop-number.invariant.made (no_part c.loop-number.lines.items mid))

pub returns-in_err-write_lines-clause-cut : goal.returns-in_err-write_lines-clause-cut
returns-in_err-write_lines-clause-cut g c =
    let old = g.W.Write.contents (device_of c.args.output.now) in
    let mid = g.W.Write.contents (device_of c.loop-number.output) in
    any_failure _ _
    (cut_text c.args.walks.now c.requires.walks old _ c.loop-number.total c.put_lines.new.text.items mid
    (g.W.Write.contents (device_of c.write_lines.new.output))
    (made_more c.args.walks.now c.requires.walks old c.loop-number.number c.loop-number.total
    c.loop-number.lines.items c.put_lines.new.text.items mid c.loop-number.invariant.made c.in_ok-put_lines.ensures)
    c.in_err-write_lines.ensures.part)

pub returns-clause-cut : goal.returns-clause-cut
returns-clause-cut g c =
    last_cut c.args.walks.now c.requires.walks (g.W.Write.contents (device_of c.args.output.now)) c.loop-number.number
    c.loop-number.total c.loop-number.lines.items (g.W.Write.contents (device_of c.loop-number.output))
    (g.W.Write.contents (device_of c.write_lines-2.new.output)) c.write_lines-2.result c.loop-number.invariant.made
    c.write_lines-2.ensures.part

pub returns-clause-written : goal.returns-clause-written
returns-clause-written g c =
    last_written c.args.walks.now c.requires.walks (g.W.Write.contents (device_of c.args.output.now))
    c.loop-number.number c.loop-number.total c.write_lines-2.new.total c.loop-number.lines.items
    c.write_lines-2.new.lines.items (g.W.Write.contents (device_of c.loop-number.output))
    (g.W.Write.contents (device_of c.write_lines-2.new.output)) c.write_lines-2.result c.loop-number.invariant.made
    (omega (arith, c.loop-number-test.false, c.len-number-end.ensures)) c.write_lines-2.ensures.whole
    c.write_lines-2.ensures.emptied c.write_lines-2.ensures.counted c.write_lines-2.ensures.few
