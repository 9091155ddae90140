use Rattle.std.proofs.Common.{refl}
use Rattle.vsi_requests.proofs.images.refused_image.Goals as goal

pub returns-in-Ok : goal.returns-in-Ok
returns-in-Ok c = (c.in-Ok.text, refl, c.in-Ok.ensures)
