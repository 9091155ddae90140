use Rattle.vsi_report.proofs.EscapeLemmas.{tag_shows}
use Rattle.vsi_report.proofs.panel.put_begin.Goals as goal

pub returns : goal.returns
returns c = λ t h.
    tag_shows c.args.page.now.items c.extend_from_slice.new.self.items c.put_escaped.new.page.items
    c.put_attribute.new.page.items c.put_attribute-2.new.page.items c.extend_from_slice-2.new.self.items
    c.in-Some.part.now.kind.now c.deref.result.now c.deref-2.result.now t c.in_ok-extend_from_slice.ensures.items
    c.in_ok-put_escaped.ensures c.in_ok-put_attribute.ensures c.in_ok-put_attribute-2.ensures
    c.in_ok-extend_from_slice-2.ensures.items h
