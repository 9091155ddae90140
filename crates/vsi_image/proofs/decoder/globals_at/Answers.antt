use Rattle.std.proofs.Common.{◌≡◌, ◌∙◌, ◌++◌, ◌∷◌, [], sym}
use Rattle.std.proofs.lemmas.Result.{err_from_is_err_and}
use Rattle.std.proofs.lemmas.List.{map_push}
use Rattle.vsi_image.specs.Fields.{global, globals}
use Rattle.vsi_image.proofs.Loops.{globals-go_on, globals-fail, globals-end}
use Rattle.vsi_image.proofs.decoder.globals_at.Goals as goal

pub returns-in_err-global : goal.returns-in_err-global
returns-in_err-global c =
    let p = err_from_is_err_and c.from_residual.result c.from_residual.ensures.1 in
    let before : c.deref.result.now ≡ c.loop.globals.items = c.deref.ensures.value in
    let fails = globals-fail c.args.count c.loop.counter c.args.whole (globals c.loop.globals.items) c.loop.rest.now
    c.in_err-global.field-0.0 c.loop-test.true in
    rw (p.1, p.2) (λ m. sym c.loop.invariant ∙ fails (rw (← before) (c.in_err-global.ensures m)))

pub loop-preserved : goal.loop-preserved
loop-preserved c =
    let g = c.in_ok-global.global in
    let before : c.deref.result.now ≡ c.loop.globals.items = c.deref.ensures.value in
    let more : globals c.push.new.self.items ≡ globals c.loop.globals.items ++ global g ∷ [] =
    rw c.in_ok-push.ensures.items (map_push _ c.loop.globals.items g) in
    let on = globals-go_on c.args.count c.loop.counter c.args.whole (globals c.loop.globals.items) c.loop.rest.now
    (global g) c.in_ok-global.after.now c.loop-test.true (rw (← before) c.in_ok-global.ensures) in
    rw more (sym on ∙ c.loop.invariant)

pub returns : goal.returns
returns c =
    sym c.loop.invariant
    ∙ globals-end c.args.count c.loop.counter c.args.whole (globals c.loop.globals.items) c.loop.rest.now
    c.loop-test.false
