use Rattle.std.proofs.Common.{rules}
use Rattle.std.proofs.lemmas.Result.{err_from_is_err_and}
use Rattle.vsi_lattice.specs.LatticeView.{class_named, order}
use Rattle.vsi_compiler.proofs.Runs.{compiled_of, compile_refused, start_refused, started_fits}
use Rattle.vsi_compiler.proofs.run.run_source.Goals as goal

pub returns-in_err-verified-clause-refused : goal.returns-in_err-verified-clause-refused
returns-in_err-verified-clause-refused c =
    let l = c.args.lattice.now in
    let p = err_from_is_err_and c.from_residual.result c.from_residual.ensures.1 in
    rw (p.1, p.2) (compile_refused (class_named l) (order l) c.args.text.now c.args.store.now
    c.in_err-verified.field-0.0 c.in_err-verified.ensures.refused c.in_err-verified.ensures.exact)

pub returns-in_err-machine-clause-refused : goal.returns-in_err-machine-clause-refused
returns-in_err-machine-clause-refused c =
    let l = c.args.lattice.now in
    let v = c.in_ok-verified.ensures in
    let p = err_from_is_err_and c.from_residual-in_err-machine.result c.from_residual-in_err-machine.ensures.1 in
    rw (p.1, p.2) (start_refused (class_named l) (order l) c.args.text.now c.args.store.now c.in_ok-verified.verified
    (compiled_of (class_named l) (order l) c.args.text.now c.in_ok-verified.verified v.accepted v.globals v.meaning
    v.noninterference v.coded v.image v.size)
    c.in_err-machine.field-0.0 c.in_err-machine.ensures.wrong c.in_err-machine.ensures.memory)

pub returns-clause-ran : goal.returns-clause-ran
returns-clause-ran c =
    let l = c.args.lattice.now in
    let v = c.in_ok-verified.ensures in
    record {
      image = c.in_ok-verified.verified;
      compiled = compiled_of (class_named l) (order l) c.args.text.now c.in_ok-verified.verified v.accepted v.globals
          v.meaning
          v.noninterference v.coded v.image v.size;
      fits = started_fits c.args.store.now c.in_ok-verified.verified c.in_ok-machine.machine
          c.in_ok-machine.ensures.wrong;
      last = c.run-outcome.new.self.state;
      reached = search rules;
      ends = c.run-outcome.ensures.outcome;
      globals = search rules;
    }
