use Rattle.std.proofs.Common.{rules, ap, map, inr}
use Rattle.std.specs.Prelude.{◌≢◌}
use Rattle.serde_json.specs.View.{view}
use Rattle.vsi_compiler.specs.declared.source.CompileError.TheVariants.{Memory}
use Rattle.vsi_answers.proofs.json.walk_objects.Goals as goal

pub returns-in-Ok : goal.returns-in-Ok
returns-in-Ok c = rw (← c.in-Ok.ensures.lattice, ← c.in-Ok.ensures.text) c.source_objects.ensures

pub returns-in-Err : goal.returns-in-Err
returns-in-Err c =
    let other : c.in-Err._error ≢ Memory = search rules in
    inr (record {
      unreadable = λ r stands. other (c.in-Err.ensures.exact stands.tree _ stands.reads stands.resolves.resolution);
      nothing = ap (map view) c.new.ensures;
    })
