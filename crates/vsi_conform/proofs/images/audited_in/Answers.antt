use Rattle.vsi_conform.proofs.images.audited_in.Goals as goal

pub returns-in-Ok : goal.returns-in-Ok
returns-in-Ok c =
    record {
      classes = c.in-Ok.ensures.classes;
      noninterfering = c.in-Ok.ensures.noninterference;
      endings = c.in-Ok.ensures.endings;
    }
