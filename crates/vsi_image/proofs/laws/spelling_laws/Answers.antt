use Rattle.vsi_image.proofs.Images.{spelled-is_read, spelled-ends, images-agree, spellings-agree}
use Rattle.vsi_image.proofs.laws.spelling_laws.Goals as goal

pub returns-clause-read : goal.returns-clause-read
returns-clause-read c = spelled-is_read

pub returns-clause-ends : goal.returns-clause-ends
returns-clause-ends c = spelled-ends

pub returns-clause-apart : goal.returns-clause-apart
returns-clause-apart c = images-agree

pub returns-clause-one : goal.returns-clause-one
returns-clause-one c = spellings-agree
