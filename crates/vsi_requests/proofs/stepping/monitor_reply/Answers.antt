use Rattle.std.proofs.Common.{◌≡◌, Err, Ok, true, false}
use Rattle.vsi_lattice.specs.LatticeView.{order}
use Rattle.vsi_steps.specs.declared.watch.Stop.{Stop}
use Rattle.vsi_steps.specs.declared.watch.Unfinished.TheVariants as ends
use Rattle.vsi_steps.specs.declared.watch.Watched.{Watched}
use Rattle.vsi_subject.specs.Stepping.{EndsMonitored}
use Rattle.vsi_requests.proofs.Stepped.{both_ok, monitors, seen_classes, seen_length}
use Rattle.vsi_requests.proofs.stepping.monitor_reply.Goals as goal

pub monitored-run-requires-clause-classes : goal.monitored-run-requires-clause-classes
monitored-run-requires-clause-classes c =
    seen_classes c.args.source.now c.lattice-lattice.result.now c.resolved-program.result.now
    c.in_ok-classes.classes.items c.deref.result.now c.lattice-lattice.ensures c.resolved-program.ensures.value
    c.deref.ensures.value c.resolved-program.ensures.kept c.in_ok-classes.ensures

pub monitored-run-requires-clause-each : goal.monitored-run-requires-clause-each
monitored-run-requires-clause-each c =
    seen_length c.args.source.now c.lattice-lattice.result.now c.resolved-program.result.now
    c.in_ok-classes.classes.items c.deref.result.now c.lattice-lattice.ensures c.resolved-program.ensures.value
    c.deref.ensures.value c.resolved-program.ensures.kept c.in_ok-classes.ensures

pub returns-clause-told : goal.returns-clause-told
returns-clause-told c =
    both_ok c.ended_reply.result (λ reply. reply.is_good ≡ true → (w : Watched) × (c.monitored-run.result ≡ Ok w))
    (λ reply. reply.is_good ≡ false → (x : Stop) × (c.monitored-run.result ≡ Err (ends.Stopped x)))
    (λ reply. EndsMonitored c.args.rule reply.is_good (order c.args.source.now.lattice) c.args.source.now.resolved
    c.args.words.now)
    (λ reply so stops. monitors c.args.source.now c.lattice-lattice.result.now c.resolved-program.result.now
    c.in_ok-classes.classes.items c.deref.result.now c.lattice-lattice.ensures c.resolved-program.ensures.value
    c.deref.ensures.value c.resolved-program.ensures.kept c.in_ok-classes.ensures c.args.rule c.args.words.now
    c.monitored-run.result reply.is_good c.monitored-run.ensures.ends c.monitored-run.ensures.typable so stops)
    c.ended_reply.ensures.ended c.ended_reply.ensures.stopped
