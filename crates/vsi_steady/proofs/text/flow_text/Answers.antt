use Rattle.std.proofs.Common.{◌++◌, codes, ap, sym, ◌∙◌}
use Rattle.std.specs.Prelude.{slice_get}
use Rattle.vsi_image.specs.Fields.{globals}
use Rattle.vsi_lattice.specs.LatticeView.{names}
use Rattle.vsi_steady.specs.Telling.{chain_lines}
use Rattle.vsi_steady.proofs.text.flow_text.Goals as goal

pub returns : goal.returns
returns c =
    let gs = globals c.args.image.now.globals.items in
    let bottom = c.name-bottom.result.now in
    record {
      steps = c.in_ok-steps.steps.items;
      chain = c.in_ok-steps.ensures;
      bottom = bottom;
      is_bottom = ap (slice_get (names c.args.lattice.now)) (sym c.bottom.ensures) ∙ c.name-bottom.ensures.place;
      lines = c.in_ok-put_chain.ensures
          ∙ ap (λ out. out ++ chain_lines bottom gs c.deref.result.now) c.in_ok-text.ensures.items
          ∙ ap (λ steps. codes "refused: 25 Refused\n" ++ chain_lines bottom gs steps) c.deref.ensures.value;
    }
