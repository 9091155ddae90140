use Rattle.std.proofs.Common.{sym, rules, string_bytes}
use Rattle.toml.specs.View.{view, members_view}
use Rattle.vsi_conform.specs.Reading as spec
use Rattle.vsi_conform.proofs.Numbers.{number_found}
use Rattle.vsi_conform.proofs.keys.numbers_of.Goals as goal

pub loop-key-preserved : goal.loop-key-preserved
loop-key-preserved c =
    number_found (spec.numbers_of (members_view c.into_iter-key-iterator.result)) c.loop-key.found.items
    c.push.new.self.items c.in_ok-name.name (string_bytes c.in-Some.key.now) (view c.in-Some.value.now) c.in-Some-as_integer.word
    (members_view c.next.new.self) (search rules) (sym c.in-Some-as_integer.ensures) (search rules)
    (rw c.in-Some.ensures.steps at c.loop-key.invariant)
