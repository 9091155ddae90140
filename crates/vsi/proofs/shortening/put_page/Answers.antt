use Rattle.std.proofs.Common.{◌≤◌, subst, sym, arith, codes}
use Rattle.vsi_syntax.specs.Lines.{breaks}
use Rattle.vsi.specs.Shortened.{page_line}
use Rattle.vsi.proofs.Lines.{between}
use Rattle.vsi.proofs.shortening.put_page.Goals as goal

pub returns-in-Some-clause-one_line : goal.returns-in-Some-clause-one_line
returns-in-Some-clause-one_line c =
    let one = between (codes "More: vsi explain ") (codes "\n") c.in-Some.code c.put.ensures.one_line in
    subst (λ o. breaks (page_line o) ≤ 1) (sym c.in-Some.is) (omega (arith, one))
