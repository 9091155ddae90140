use Rattle.vsi_requests.proofs.projects.Judging.is_right.Goals as goal

pub returns-in_ok-all-in-Ok-clause-told : goal.returns-in_ok-all-in-Ok-clause-told
returns-in_ok-all-in-Ok-clause-told g c = λ right. (c.in-Ok.verified, c.in-Ok.is, c.in_ok-all-in-Ok.ensures.told right)
