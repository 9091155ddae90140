use Rattle.std.proofs.Common.{◌≡◌, ℕ, List, [], ◌∷◌, Some, map, rules, ap, sym, subst, ◌∙◌}
use Rattle.std.specs.Global.{Vec}
use Rattle.std.proofs.lemmas.List.{map-append}
use Rattle.std.proofs.lemmas.List.Elements.{All-push}
use Rattle.std.specs.List.{All}
use Rattle.toml.specs.Data.{as_str}
use Rattle.toml.specs.View.{view}
use Rattle.vsi_image.specs.Fields.{globals}
use Rattle.vsi_lattice.proofs.ShapeLemmas.{so_far_push}
use Rattle.vsi_conform.specs.Reading.{IsKnown, bytes_of}
use Rattle.vsi_conform.proofs.keys.Section.names.Goals as goal

pub loop-value-preserved : goal.loop-value-preserved
loop-value-preserved c =
    let P = IsKnown (globals c.args.self.now.globals.now) in
    let bytes : Vec ℕ → List ℕ = λ name. name.items in
    let all =
    ap (map bytes) c.in_ok-push.ensures.items ∙ map-append bytes c.loop-value.names.items (c.in_ok-name.name ∷ [])
    in
    let text : Some c.in_ok-name.name.items ≡ as_str (view c.value-item.result) = search rules in
    let known : P c.in_ok-name.name.items = search rules in
    record {
      so_far =
          so_far_push bytes as_str c.args.array.now c.loop-value.names.items c.push.new.self.items
          c.in_ok-name.name c.loop-value.value-index c.value-item.result c.loop-value-test.true c.value-item.is
          text c.in_ok-push.ensures.items c.loop-value.invariant.so_far;
      known =
          subst (All P) (sym all)
          (All-push P (bytes_of c.loop-value.names.items) (c.in_ok-name.name.items) c.loop-value.invariant.known
          known);
    }
