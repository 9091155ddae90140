use Rattle.std.proofs.Common.{◌≡◌, ◌∙◌, ◌++◌, List, map, ap}
use Rattle.vsi_syntax.specs.CommandView.{body_of, declared}
use Rattle.vsi_syntax.specs.ProgramView.{whole}
use Rattle.vsi_syntax.specs.Tree.{Declared, Whole}
use Rattle.vsi_syntax.specs.declared.token.Span.{Span}
use Rattle.vsi_flows.specs.Places.{all_class_places}
use Rattle.vsi_flows.proofs.written.written_places.Goals as goal

-- Where a global writes its class.
abbrev place : Declared → Span
place g = g.class.span

pub returns : goal.returns
returns c = λ tree reads.
    let same : whole c.in_ok-program.program ≡ tree = c.in_ok-program.ensures tree reads in
    let gs : map declared c.globals.result.now ≡ tree.globals =
    c.globals.ensures.globals ∙ ap (λ (t : Whole). t.globals) same in
    let body : body_of c.body.result.now ≡ tree.body = c.body.ensures.body ∙ ap (λ (t : Whole). t.body) same in
    let first : c.put_globals.new.places.items ≡ map place (map declared c.globals.result.now) =
    c.in_ok-put_globals.ensures ∙ ap (λ (x : List Span). x ++ map place (map declared c.globals.result.now))
    c.new-places.ensures.items in
    c.in_ok-put_all.ensures ∙ ap (λ (x : List Span). x ++ all_class_places (body_of c.body.result.now)) first
    ∙ ap (λ (x : List Declared). map place x ++ all_class_places (body_of c.body.result.now)) gs
    ∙ ap (λ x. map place tree.globals ++ all_class_places x) body
