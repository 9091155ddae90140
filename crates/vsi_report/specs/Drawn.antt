-- The contents of a graph of flows, in the code.
use Rattle.vsi_lattice.specs.LatticeView.{order}
use Rattle.vsi_report.specs.declared.dot.Drawn.{Drawn}
use Rattle.vsi_report.specs.Graph.{texts}
use Rattle.vsi_report.specs.FlowsGraph.{Shown}

-- The contents of a graph of flows, from the values of the code.
abbrev pub shown : Drawn → Shown
shown d =
    record {
      names = texts d.order.now.names.items;
      lattice = order d.lattice.now;
      resolved = d.program.now;
      chosen = d.chosen.now;
      walk = d.walk.now;
    }
