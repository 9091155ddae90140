use Rattle.std.proofs.Common.{None, codes}
use Rattle.vsi_image.specs.Fields.{globals}
use Rattle.vsi_steady.proofs.Telling.{chain_added, four_added}
use Rattle.vsi_steady.proofs.text.put_chain.Goals as goal

pub returns : goal.returns
returns c =
    let gs = globals c.args.image.now.globals.items in
    let bottom = c.args.bottom.now in
    chain_added bottom gs c.args.steps.now c.args.out.now.items c.put_steps.new.out.items
    c.extend_from_slice-2.new.self.items (record { source = 0; read = 0; target = None; written = 0 })
    c.if-is_empty.ensures c.in_ok-put_steps.ensures
    (four_added c.put_steps.new.out.items _ (codes " may not flow to ") _ (codes "\n") c.put_end.new.out.items
    c.extend_from_slice.new.self.items c.put_end-2.new.out.items c.extend_from_slice-2.new.self.items
    c.in_ok-put_end.ensures c.in_ok-extend_from_slice.ensures.items c.in_ok-put_end-2.ensures
    c.in_ok-extend_from_slice-2.ensures.items)
