-- Where declarations write their classes, and a text with other classes there.
use Rattle.std.specs.Prelude.{ℕ, ◌-◌, List, [], ◌∷◌, ◌++◌, map, take, drop, Option, Some, None, slice_index_or}
use Rattle.vsi_syntax.specs.declared.token.Span.{Span}
use Rattle.vsi_syntax.specs.Tree.{Named, Command, Assign, If, While, Letvar, Block, Body, Done, Then, Whole}
use Rattle.vsi_lattice.specs.declared.lattice.Lattice.{Lattice}
use Rattle.vsi_flows.specs.declared.least.Raise.{Raise}
use Rattle.vsi_flows.specs.Lines.{class_name}

-- Where a letvar writes its class: nothing after its name where it writes none.
abbrev pub class_place : Named → Option Named → Span
class_place x None = record { start = x.span.stop; stop = x.span.stop }
class_place x (Some class) = class.span

abbrev mutual
  -- Where the letvars of a command write their classes, in the order of the text.
  pub class_places : Command → List Span
  class_places (Assign x e) = []
  class_places (If e c d) = class_places c ++ class_places d
  class_places (While e c) = class_places c
  class_places (Letvar x class e c) = class_place x class ∷ class_places c
  class_places (Block b) = all_class_places b

  -- Where the letvars of a sequence write their classes, in the order of the text.
  pub all_class_places : Body → List Span
  all_class_places Done = []
  all_class_places (Then c rest) = class_places c ++ all_class_places rest

-- Where the declarations of a program write their classes: globals, then letvars in the order of the text.
abbrev pub written_places : Whole → List Span
written_places tree = map (λ g. g.class.span) tree.globals ++ all_class_places tree.body

-- Where a declaration writes its class, among the places of all.
abbrev pub place_of : List Span → ℕ → Span
place_of places v = slice_index_or places v (record { start = 0; stop = 0 })

-- The bytes of a text from one place up to another.
abbrev pub part : List ℕ → ℕ → ℕ → List ℕ
part text from to = take (to - from) (drop from text)

-- The text from a place on, in which the declaration of each raise writes its new class.
abbrev pub with_raises : Lattice → List Span → List ℕ → ℕ → List Raise → List ℕ
with_raises l places text at [] = drop at text
with_raises l places text at (r ∷ rest) =
    part text at (place_of places r.variable).start ++ class_name l r.new
    ++ with_raises l places text (place_of places r.variable).stop rest
