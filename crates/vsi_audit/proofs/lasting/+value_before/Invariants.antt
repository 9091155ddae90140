use Rattle.vsi_audit.proofs.lasting.+value_before.Given as goal

abbrev pub decreases-value_before : goal.decreases-value_before
decreases-value_before l = l.room
