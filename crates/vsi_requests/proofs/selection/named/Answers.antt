use Rattle.std.proofs.Common.{◌∙◌, sym}
use Rattle.std.proofs.lemmas.Slice.Eq.{bytes_eq-Decides}
use Rattle.vsi_requests.proofs.selection.named.Goals as goal

pub returns-then-eq : goal.returns-then-eq
returns-then-eq c = record {
  among = (c.loop-program.program-index, c.loop-program-test.true, sym c.program-item.is);
  named = sym c.as_bytes.ensures.value
      ∙ (bytes_eq-Decides c.as_bytes.result.now c.as_bytes-in-loop-program.result.now).0 (sym c.eq.ensures ∙ c.if-eq.true)
      ∙ c.as_bytes-in-loop-program.ensures.value;
}
