use Rattle.std.proofs.Common.{◌≡◌, ◌∙◌, ◌+◌, ◌∷◌, ◌++◌, [], ap, sym, take}
use Rattle.std.specs.Prelude.{if◌then◌else◌}
use Rattle.std.proofs.lemmas.List.{take_more}
use Rattle.vsi_flows.specs.Refused.{refused_of}
use Rattle.vsi_flows.proofs.RefusedLemmas.{refused_push}
use Rattle.vsi_flows.proofs.table.without_allowed.Goals as goal

pub loop-pair-preserved : goal.loop-pair-preserved
loop-pair-preserved c =
    let pairs = c.args.pairs.now in
    let i = c.loop-pair.pair-index in
    let pair = c.pair-item.result in
    let more : take (i + 1) pairs ≡ take i pairs ++ pair ∷ [] =
    take_more pairs i pair c.loop-pair-test.true ∙ ap (λ x. take i pairs ++ x ∷ []) (sym c.pair-item.is) in
    c.in_ok-put_refused.ensures
    ∙ ap (λ l. l ++ (if pair.allowed then [] else pair ∷ [])) c.loop-pair.invariant
    ∙ sym (refused_push (take i pairs) pair) ∙ ap refused_of (sym more)
