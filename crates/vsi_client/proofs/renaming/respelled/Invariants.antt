use Rattle.std.proofs.Common.{◌≡◌, ◌++◌, ◌≤◌, length, drop}
use Rattle.vsi_client.specs.Respelled as spec
use Rattle.vsi_client.proofs.renaming.respelled.Given as goal

-- The text so far and what is left of it with what is left of the parts are the whole text.
abbrev pub invariant-loop-part : goal.invariant-loop-part
invariant-loop-part l =
    record {
      within : l.at ≤ length l.text;
      whole :
          l.out.items ++ spec.respelled l.name l.text l.at (drop l.part-index l.parts)
          ≡ spec.respelled l.name l.text 0 l.parts;
      ordered :
          spec.AreInOrder (length l.text) l.at (drop l.part-index l.parts) →
          spec.AreInOrder (length l.text) 0 l.parts;
    }
