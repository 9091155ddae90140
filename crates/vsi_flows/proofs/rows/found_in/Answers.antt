use Rattle.std.proofs.Common.{◌≡◌, ◌≤◌, ◌∙◌, ◌+◌, ◌∷◌, ◌++◌, [], length, ap, map, sym, subst, take, arith}
use Rattle.std.specs.Option.{MatchOption}
use Rattle.std.proofs.lemmas.List.{take_all, take_more, map_push}
use Rattle.vsi_infer.specs.Shortest.{FindsWalks}
use Rattle.vsi_flows.specs.Walks.{IsUnreached, FindWalks}
use Rattle.vsi_flows.proofs.WalkLemmas.{find_more}
use Rattle.vsi_flows.proofs.rows.found_in.Goals as goal

pub loop-row-init : goal.loop-row-init
loop-row-init c ss h = subst (FindWalks ss c.args.last []) (sym c.new-found.ensures.items) tt

pub loop-row-preserved : goal.loop-row-preserved
loop-row-preserved c ss h =
    let rows = c.args.rows.now in
    let i = c.loop-row.row-index in
    let row = c.row-item.result in
    let more : map (λ r. r.items) (take (i + 1) rows) ≡ map (λ r. r.items) (take i rows) ++ row.items ∷ [] =
    ap (map (λ r. r.items)) (take_more rows i row c.loop-row-test.true ∙ ap (λ x. take i rows ++ x ∷ [])
    (sym c.row-item.is)) ∙ map_push (λ r. r.items) (take i rows) row in
    subst (FindWalks ss c.args.last (map (λ r. r.items) (take (i + 1) rows))) (sym c.in_ok-push.ensures.items)
    (subst (λ l. FindWalks ss c.args.last l (c.loop-row.found.items ++ c.walks_down.result ∷ [])) (sym more)
    (find_more ss c.args.last (map (λ r. r.items) (take i rows)) c.loop-row.found.items row.items
    c.walks_down.result (c.loop-row.invariant ss h)
    (subst (λ l. MatchOption c.walks_down.result (IsUnreached l) (FindsWalks ss c.args.last l))
    c.deref.ensures.value (c.walks_down.ensures ss h))))

pub returns : goal.returns
returns c ss h =
    let rows = c.args.rows.now in
    let le : length rows ≤ c.loop-row.row-index = omega arith in
    subst (λ l. FindWalks ss c.args.last (map (λ r. r.items) l) c.loop-row.found.items)
    (take_all c.loop-row.row-index rows le) (c.loop-row.invariant ss h)
