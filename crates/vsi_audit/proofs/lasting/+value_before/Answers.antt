use Rattle.std.proofs.Common.{rules, ◌≡◌, ◌+◌, Some, slice_get, ap, arith}
use Rattle.vsi_code.specs.Layout.{op_code}
use Rattle.vsi_scope.specs.View.{expression}
use Rattle.vsi_audit.proofs.Found.{last_stands, value_operator_of, left_operand, passed_on, operator_read}
use Rattle.vsi_audit.proofs.lasting.+value_before.Goals as goal

pub returns-in-Push-clause-stands : goal.returns-in-Push-clause-stands
returns-in-Push-clause-stands t c =
    let next : c.in-Some.last + 1 ≡ c.args.end = omega arith in
    last_stands c.args.code.now c.in-Some.last c.args.end _ (search rules) next

pub returns-then-slot-scope-clause-stands : goal.returns-then-slot-scope-clause-stands
returns-then-slot-scope-clause-stands t c =
    let next : c.in-Some.last + 1 ≡ c.args.end = omega arith in
    last_stands c.args.code.now c.in-Some.last c.args.end _ (search rules) next

pub returns-in_err-left-in_default-instr : goal.returns-in_err-left-in_default-instr
returns-in_err-left-in_default-instr t c =
    let code = c.args.code.now in
    let last = c.in-Some.last in
    let op = c.in-Some-operator_of.op in
    let next : last + 1 ≡ c.args.end = omega arith in
    let at : slice_get code last ≡ Some (op_code op) =
    cc (c.in-Some-instr_at.ensures, c.in-Some-operator_of.ensures.found) in
    record {
      stands = search rules;
      fits = search rules;
      read = λ start v.
          let o = value_operator_of code c.args.scope start c.args.end c.args.room last op v next at in
          passed_on c.from_residual-in_err-left-in_default-instr.result c.in_err-left-in_default-instr.field-0.0
          c.from_residual-in_err-left-in_default-instr.ensures.1
          (c.in_err-left-in_default-instr.ensures.read start
          (left_operand code c.args.scope start last c.args.room c.in_ok-right-in_default-instr.middle (op_code op) o
          (c.in_ok-right-in_default-instr.ensures.start o.middle o.right)));
      start = search rules;
    }

pub returns-in_ok-right-in_default-instr-2 : goal.returns-in_ok-right-in_default-instr-2
returns-in_ok-right-in_default-instr-2 t c =
    let code = c.args.code.now in
    let last = c.in-Some.last in
    let op = c.in-Some-operator_of.op in
    let next : last + 1 ≡ c.args.end = omega arith in
    let at : slice_get code last ≡ Some (op_code op) =
    cc (c.in-Some-instr_at.ensures, c.in-Some-operator_of.ensures.found) in
    let a : c.in_ok-left-in_default-instr-2.left.value ≡ c.in_ok-left-in_default-instr.left = search rules in
    let b : c.in_ok-right-in_default-instr-2.right.value ≡ c.in_ok-right-in_default-instr.right = search rules in
    let both = operator_read code c.args.scope c.args.room c.in_ok-left-in_default-instr.start
    c.in_ok-right-in_default-instr.middle last c.args.end op (expression c.in_ok-left-in_default-instr.left)
    (expression c.in_ok-right-in_default-instr.right) _ _ (ap expression a) (ap expression b)
    c.in_ok-left-in_default-instr.ensures.stands c.in_ok-right-in_default-instr.ensures.stands at next
    c.in_ok-left-in_default-instr.ensures.fits c.in_ok-right-in_default-instr.ensures.fits (omega arith) in
    record {
      stands = both.0;
      fits = both.1;
      read = λ start v. tt;
      start = λ start v.
          let o = value_operator_of code c.args.scope start c.args.end c.args.room last op v next at in
          c.in_ok-left-in_default-instr.ensures.start start
          (left_operand code c.args.scope start last c.args.room c.in_ok-right-in_default-instr.middle (op_code op) o
          (c.in_ok-right-in_default-instr.ensures.start o.middle o.right));
    }
