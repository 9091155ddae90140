use Rattle.std.proofs.Common.{sym, subst}
use Rattle.vsi_flows.specs.Answers.{RefusesRaise, RefusesRaised, RefusesRaisedText}
use Rattle.vsi_answers.specs.Judged.{TellsRaised, TellsSource}
use Rattle.vsi_answers.proofs.Told.{raised_told, source_told, told_first, told_second}
use Rattle.vsi_answers.proofs.texts.unraised.Goals as goal

pub returns-in-Source : goal.returns-in-Source
returns-in-Source c = λ P refused.
    let l = c.args.lattice.now in
    let source = c.args.source.now in
    told_first (TellsSource (RefusesRaise l P source) l source) (TellsRaised (RefusesRaised l P source) l)
    c.refused_source.result
    (source_told (RefusesRaise l P source) l source c.in-Source.error
    (λ other. subst (RefusesRaisedText l P source) c.in-Source.is refused) c.refused_source.result
    c.refused_source.ensures)

pub returns-in-Raised : goal.returns-in-Raised
returns-in-Raised c = λ P refused.
    let l = c.args.lattice.now in
    let source = c.args.source.now in
    told_second (TellsSource (RefusesRaise l P source) l source) (TellsRaised (RefusesRaised l P source) l)
    c.refused_raised.result
    (raised_told (RefusesRaised l P source) l c.deref.result.now c.in-Raised.error
    (subst (λ t. RefusesRaised l P source t c.in-Raised.error) (sym c.deref.ensures.value)
    (subst (RefusesRaisedText l P source) c.in-Raised.is refused)) c.refused_raised.result c.refused_raised.ensures)
