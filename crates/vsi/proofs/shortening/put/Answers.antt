use Rattle.vsi.proofs.Lines.{decimal_feeds}
use Rattle.vsi.proofs.shortening.put.Goals as goal

pub returns-in_err-extend_from_slice-clause-one_line :
    goal.returns-in_err-extend_from_slice-clause-one_line
returns-in_err-extend_from_slice-clause-one_line c = decimal_feeds c.args.number c.ranges.number.fits

pub returns-in_err-put_number-clause-one_line : goal.returns-in_err-put_number-clause-one_line
returns-in_err-put_number-clause-one_line c = decimal_feeds c.args.number c.ranges.number.fits

pub returns-clause-one_line : goal.returns-clause-one_line
returns-clause-one_line c = decimal_feeds c.args.number c.ranges.number.fits
