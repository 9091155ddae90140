-- Drawings in which each box has its size and no two boxes overlap.
use Rattle.std.specs.Prelude.{◌≡◌, ◌⊎◌, ℕ, ◌+◌, ◌<◌, ◌≤◌, List, length}
use Rattle.std.specs.List.{slice_index_or}
use Rattle.vsi_layered.specs.declared.drawing.Node.{Node}
use Rattle.vsi_layered.specs.declared.drawing.Place.{Place}
use Rattle.vsi_layered.specs.declared.drawing.Drawing.{Drawing}

-- The box has the width and the height that its node asks for, and isn't empty.
pub record HasSize (node : Node) (place : Place) : Type 0 where
  pub wide : place.wide ≡ node.wide
  pub high : place.high ≡ node.high
  pub broad : 0 < place.wide
  pub tall : 0 < place.high

-- The first box is within the second.
pub record IsWithin (inner outer : Place) : Type 0 where
  pub left : outer.left ≤ inner.left
  pub right : inner.left + inner.wide ≤ outer.left + outer.wide
  pub top : outer.top ≤ inner.top
  pub foot : inner.top + inner.high ≤ outer.top + outer.high

-- Two boxes have no point in common: one is at the left of the other, or above it.
abbrev pub AreApart : Place → Place → Type 0
AreApart a b =
    (a.left + a.wide ≤ b.left) ⊎ ((b.left + b.wide ≤ a.left)
    ⊎ ((a.top + a.high ≤ b.top) ⊎ (b.top + b.high ≤ a.top)))

-- No two boxes of the list have a point in common.
abbrev pub AllApart : List Place → Type 0
AllApart places =
    (j k : ℕ) (d : Place) → j < k → k < length places
    → AreApart (slice_index_or places j d) (slice_index_or places k d)

-- The box of each node has the size that the node asks for.
abbrev pub AllSized : List Node → List Place → Type 0
AllSized nodes places =
    (k : ℕ) (n : Node) (d : Place) → k < length nodes → HasSize (slice_index_or nodes k n) (slice_index_or places k d)

-- Each box of the list is within the frame.
abbrev pub AllInside : Place → List Place → Type 0
AllInside frame places = (k : ℕ) (d : Place) → k < length places → IsWithin (slice_index_or places k d) frame

-- The box of each node is within the box of its group.
abbrev pub AllWithin : List Node → List Place → List Place → Type 0
AllWithin nodes places groups =
    (k : ℕ) (n : Node) (d : Place) → k < length nodes
    → IsWithin (slice_index_or places k d) (slice_index_or groups (slice_index_or nodes k n).group d)

-- The frame of a drawing with that width and height.
abbrev pub frame : ℕ → ℕ → Place
frame wide high = record { left = 0; top = 0; wide = wide; high = high }

-- The drawing has a box for each node, of the size that it asks for and within the box of its group; no two boxes of
-- nodes or of groups overlap, and all are within the width and the height of the drawing.
pub record IsSound (nodes : List Node) (drawing : Drawing) : Type 0 where
  pub count : length drawing.places.items ≡ length nodes
  pub sized : AllSized nodes drawing.places.items
  pub inside : AllInside (frame drawing.wide drawing.high) drawing.places.items
  pub framed : AllInside (frame drawing.wide drawing.high) drawing.groups.items
  pub within : AllWithin nodes drawing.places.items drawing.groups.items
  pub apart : AllApart drawing.places.items
  pub groups : AllApart drawing.groups.items
