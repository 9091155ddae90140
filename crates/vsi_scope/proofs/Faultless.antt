-- A program without a fault has a body over locations.
use Rattle.std.proofs.Common.{◌≡◌, ◌≤◌, [], length, arith, None}
use Rattle.vsi_scope.specs.Faults.{all_marks, global_marks, global_names, first_fault}
use Rattle.vsi_scope.specs.Places.{all_commands}
use Rattle.vsi_scope.specs.Laws.{FaultlessResolves}
use Rattle.vsi_scope.proofs.Meaning.{does_all, left_of, right_of}
use Rattle.vsi_scope.proofs.Clean.{names_distinct, globals_few, globals_known, all_keep}

-- A program without a fault has a body, which is its resolution if it isn't too large.
pub faultless_resolves : FaultlessResolves
faultless_resolves k p none =
    let scope = global_names p.globals in
    let above = global_marks [] p.globals in
    let inside = all_marks scope (length p.globals) p.body in
    let globals : first_fault k above ≡ None = left_of k above inside none in
    let body : first_fault k inside ≡ None = right_of k above inside none in
    let few : length p.globals ≤ 256 = omega (arith, globals_few k [] p.globals (omega arith) globals) in
    let kept = all_keep k scope (length p.globals) p.body body in
    let does = does_all k scope (length p.globals) p.body body in
    record {
      commands = all_commands scope p.body;
      body = does;
      resolution = λ small. record {
        distinct = names_distinct k [] p.globals globals;
        few_globals = few;
        few_declarations = kept.few (omega (arith, few));
        global_classes = globals_known k [] p.globals globals;
        classes = kept.known;
        body = does;
        small = small;
      };
    }
