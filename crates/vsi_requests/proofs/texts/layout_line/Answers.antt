use Rattle.std.proofs.Common.{ap, ◌∙◌}
use Rattle.std.specs.Prelude.{bytes_eq}
use Rattle.vsi_requests.proofs.texts.layout_line.Goals as goal

pub returns-clause-told : goal.returns-clause-told
returns-clause-told g c = record {
  text = c.in_ok-text.text.items;
  layout = c.in_ok-text.layout.items;
  lays = c.in_ok-text.ensures.laid;
  verdict = c.eq-is_good.ensures ∙ ap (λ t. bytes_eq t c.as_slice-2.result.now) c.as_slice.ensures.value
      ∙ ap (bytes_eq c.in_ok-text.text.items) c.as_slice-2.ensures.value;
}
