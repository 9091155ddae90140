-- The released outputs of boundaries, one after another.
use Rattle.std.proofs.Common.{◌≡◌, ℕ, ◌+◌, ◌<◌, ◌≤◌, List, ◌++◌, length, get_or, drop, map, ap, sym, ◌∙◌, append_assoc}
use Rattle.std.proofs.lemmas.List.{append-nil, at_drop_all, at_drop_more}
use Rattle.std.specs.Global.{Vec}
use Rattle.vsi_conform.specs.declared.keys.Cycle.{Cycle}
use Rattle.vsi_conform.specs.Reading.{ClassBoundary, bytes_of, cycle}
use Rattle.vsi_conform.specs.Reaching.{Flowing, Released, all_released, released_at, released_by}

-- If none is left, those of a boundary are all there.
pub all_there : (f : Flowing) (b : ClassBoundary) (outputs : List (Vec ℕ)) (n : ℕ) (before after : List Released) →
    length outputs ≤ n → after ++ map (released_at f b) (bytes_of (drop n outputs)) ≡ before ++ released_by f b →
    after ≡ before ++ released_by f b
all_there f b outputs n before after done is =
    sym (append-nil after)
    ∙ sym (at_drop_all (λ left. after ++ map (released_at f b) (bytes_of left)) outputs n done) ∙ is

-- Those of one boundary more are there.
pub more_released : (f : Flowing) (cycles : List Cycle) (n : ℕ) (item : Cycle) (before after all : List Released) →
    n < length cycles → item ≡ get_or cycles n item →
    before ++ all_released f (map cycle (drop n cycles)) ≡ all → after ≡ before ++ released_by f (cycle item) →
    after ++ all_released f (map cycle (drop (n + 1) cycles)) ≡ all
more_released f cycles n item before after all lt is so more =
    let rest = all_released f (map cycle (drop (n + 1) cycles)) in
    ap (λ (w : List Released). w ++ rest) more ∙ append_assoc before (released_by f (cycle item)) rest
    ∙ ap (λ (c : Cycle). before ++ (released_by f (cycle c) ++ rest)) is
    ∙ sym (at_drop_more (λ left. before ++ all_released f (map cycle left)) cycles n item lt) ∙ so
