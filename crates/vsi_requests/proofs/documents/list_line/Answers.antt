use Rattle.vsi_requests.proofs.documents.list_line.Goals as goal

pub returns-clause-told : goal.returns-clause-told
returns-clause-told g c = record { image = c.in_ok-verified.verified; held = c.in_ok-verified.ensures.read }
