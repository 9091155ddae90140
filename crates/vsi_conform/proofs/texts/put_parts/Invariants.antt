use Rattle.std.proofs.Common.{◌≡◌, ◌++◌, drop}
use Rattle.std.specs.List.{flat_map}
use Rattle.vsi_conform.proofs.texts.put_parts.Given as goal

-- The parts so far are followed by the remaining ones.
abbrev pub invariant-loop-part : goal.invariant-loop-part
invariant-loop-part l =
    l.text.items ++ flat_map (λ p. p.now) (drop l.part-index l.parts)
    ≡ l.initial.text.items ++ flat_map (λ p. p.now) l.parts
