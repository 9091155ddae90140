use Rattle.vsi_image.proofs.encoder.put_globals.Goals as goal

pub put_global-requires : goal.put_global-requires
put_global-requires c =
    let h = c.requires c.loop-g.g-index _ c.loop-g-test.true in
    rw c.g-item.is (record { name = h.0; class = h.1 })
