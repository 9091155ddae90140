use Rattle.std.proofs.Common.{◌≡◌, ◌+◌, ◌∙◌, arith, ap, refl, length}
use Rattle.vsi_code.specs.Names.{all_named}
use Rattle.vsi_code.proofs.Made.{IsMade, whole_fits, made, made_valid, made_behaves, made_deepest, made_count}
use Rattle.vsi_code.proofs.Names.{copies_long}
use Rattle.vsi_code.proofs.generator.generate.Goals as goal
use Rattle.vsi_code.proofs.generator.generate.Goals.{In_ok-code}

-- The parts of the image are counted and measured.
image_made : (c : In_ok-code) →
    IsMade c.args.program.now
    (record {
      globals = c.in_ok-globals.globals;
      slots = c.len-count.result + c.letvar_nesting.result;
      stack = c.height-stack.result;
      code = c.in_ok-code.code;
    })
image_made c =
    let count : c.len-count.result ≡ length c.in_ok-globals.globals.items =
    omega (arith, c.len-count.ensures, c.in_ok-globals.globals.ok.0) in
    made c.args.program.now _ _ _ _ _ c.body-body.ensures.resolved c.globals.ensures c.body-body.ensures.value
    c.in_ok-globals.ensures count c.letvar_nesting.ensures refl c.height-stack.ensures c.in_ok-code.ensures

pub whole_code-requires : goal.whole_code-requires
whole_code-requires c =
    let r = c.args.program.now in
    let names = c.in_ok-globals.ensures ∙ ap all_named c.globals.ensures in
    let long = copies_long c.in_ok-globals.globals.items r.globals names in
    let count : c.len-count.result ≡ length r.globals =
    omega (arith, long, c.len-count.ensures, c.in_ok-globals.globals.ok.0) in
    whole_fits r _ _ c.body-body.ensures.resolved c.body-body.ensures.value count

pub of-requires : goal.of-requires
of-requires c = made_valid _ _ c.body-body.ensures.resolved (image_made c)

pub returns : goal.returns
returns c =
    let is = c.body-body.ensures.resolved in
    let m = image_made (goal.at.returns c).In_ok-code in
    rw (c.of.ensures) record {
      behaves = made_behaves _ _ is m;
      globals = m.globals;
      slots = m.slots;
      stack = m.stack;
      code = m.code;
      deepest = made_deepest _ _ is m;
      count = made_count _ _ is m;
    }
