use Rattle.std.proofs.Common.{◌≡◌, ◌<◌, ◌≤◌, ◌∙◌, [], ℕ, map, get_or, refl, sym, ap, subst, arith}
use Rattle.vsi_types.specs.Security.{program}
use Rattle.vsi_types.specs.Walks.{declared_class}
use Rattle.vsi_infer.specs.Flowing.{size_of, variable_at}
use Rattle.vsi_flows.specs.Table.{IsJoined}
use Rattle.vsi_flows.proofs.VerdictLemmas.{none_far, told_at, apart_at}
use Rattle.vsi_flows.proofs.table.pair_at.Goals as goal

pub returns-then-steps-clause-none : goal.returns-then-steps-clause-none
returns-then-steps-clause-none g c = λ P are j.
    let L = g.C.Classes.lattice c.args.lattice.now in
    let p = program c.args.program.now in
    let rows = map (λ r. r.items) c.args.rows.now in
    let la : c.args.source < size_of p = omega (arith, c.requires.source, c.requires.last) in
    let lb : c.args.target ≤ size_of p = omega (arith, c.requires.target, c.requires.last) in
    let none : get_or (get_or rows c.args.target []) c.args.source 0 ≡ 65535 =
    omega (arith, c.far-steps.ensures, c.if-steps.true) in
    none_far L P p rows are c.args.source c.args.target la lb none
    (subst (λ (n : ℕ). IsJoined L P p c.args.source (variable_at n c.args.target)) c.requires.last j)

pub returns-clause-told : goal.returns-clause-told
returns-clause-told g c = λ P are.
    let L = g.C.Classes.lattice c.args.lattice.now in
    let p = program c.args.program.now in
    let rows = map (λ r. r.items) c.args.rows.now in
    let a = c.args.source in
    let b = c.args.target in
    let la : a < size_of p = omega (arith, c.requires.source, c.requires.last) in
    let lb : b ≤ size_of p = omega (arith, c.requires.target, c.requires.last) in
    let small : size_of p ≤ 1024 = omega (arith, c.requires.small, c.requires.last) in
    let far : get_or (get_or rows b []) a 0 < 65535 = omega (arith, c.far-steps.ensures, c.if-steps.false) in
    let to : c.variable_at-to.result ≡ variable_at (size_of p) b =
    c.variable_at-to.ensures ∙ ap (λ (n : ℕ). variable_at n b) c.requires.last in
    told_at L P p rows are a b la lb _ c.in-Some.low c.in-Some-declared_class.high
    (sym c.declared_class.ensures ∙ c.in-Some.is)
    (ap (declared_class L p) (sym to) ∙ sym c.declared_class-2.ensures ∙ c.in-Some-declared_class.is)
    (apart_at L P p rows are a b la lb small (λ e. omega (arith, e, c.if-source-target.false)))
    far refl to c.leq.ensures c.far-steps.ensures
