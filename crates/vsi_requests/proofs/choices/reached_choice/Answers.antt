use Rattle.std.proofs.lemmas.List.Elements.{All-push}
use Rattle.std.proofs.Common.{sym, subst, All}
use Rattle.vsi_lattice.specs.LatticeView.{order}
use Rattle.vsi_lattice.specs.Order.{IsClass}
use Rattle.vsi_requests.proofs.Stepped.{entry_class, kept_more}
use Rattle.vsi_requests.proofs.choices.reached_choice.Goals as goal

pub class_for-requires : goal.class_for-requires
class_for-requires c =
    entry_class (order c.args.lattice.now) c.args.program.now.letvars c.letvars-entry-items.result.now
    c.loop-entry.entry-index c.entry-item.result c.requires c.letvars-entry-items.ensures c.loop-entry-test.true
    c.entry-item.is

pub loop-entry-preserved : goal.loop-entry-preserved
loop-entry-preserved c =
    record {
      kept = kept_more c.letvars-entry-items.result.now c.loop-entry.entry-index c.entry-item.result
          c.loop-entry.choice.items c.push.new.self.items c.class_for.result c.loop-entry-test.true c.entry-item.is
          c.loop-entry.invariant.kept c.class_for.ensures.kept c.in_ok-push.ensures.items;
      classes = subst (All (IsClass (order c.args.lattice.now))) (sym c.in_ok-push.ensures.items)
          (All-push (IsClass (order c.args.lattice.now)) c.loop-entry.choice.items c.class_for.result
          c.loop-entry.invariant.classes c.class_for.ensures.class);
    }
