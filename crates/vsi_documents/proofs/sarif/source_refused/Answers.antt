use Rattle.std.proofs.Common.{◌≡◌, map, option_map, rules, sym, subst}
use Rattle.serde_json.specs.View.{view}
use Rattle.vsi_answers.specs.View.{diagnostic_of}
use Rattle.vsi_conform.specs.Lines.{IsRefusalLines}
use Rattle.vsi_documents.specs.Location.{uri_of}
use Rattle.vsi_documents.specs.Refusals.{IsRefusalDocument}
use Rattle.vsi_documents.specs.Steps.{LocatesFlow}
use Rattle.vsi_documents.proofs.sarif.source_refused.Goals as goal

pub returns : goal.returns
returns c =
    let s = c.args.source.now in
    let d = diagnostic_of c.in-Some.diagnostic in
    let steps = option_map (map view) c.in_ok-steps.steps in
    let uri = uri_of c.args.path.now in
    let lines = c.in_ok-lines.lines.items in
    let here : c.as_bytes-uri.result.now ≡ uri = search rules in
    record {
      diagnostic = d;
      is = search rules;
      lines = lines;
      printed = subst (λ b. IsRefusalLines s.lattice s.text b c.args.error.now lines) c.is_steady.ensures
          c.in_ok-lines.ensures.lines;
      document = subst (λ t. IsRefusalDocument s.lattice uri t d lines c.in_ok-written.written.items)
          c.text-text.ensures
          (rw (← here) (subst
          (λ ls. IsRefusalDocument s.lattice c.as_bytes-uri.result.now c.text-text.result.now d ls
          c.in_ok-written.written.items) c.deref.ensures.value
          (c.in_ok-written.ensures s.lattice (subst
          (λ t. LocatesFlow s.lattice c.as_bytes-uri.result.now t d.steps steps) (sym c.text-text.ensures)
          c.in_ok-steps.ensures))));
    }
