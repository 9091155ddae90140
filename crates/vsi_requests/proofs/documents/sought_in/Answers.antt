use Rattle.std.proofs.Common.{refl}
use Rattle.vsi_requests.proofs.Sought.{sought_lacking, sought_lattice}
use Rattle.vsi_requests.proofs.documents.sought_in.Goals as goal

pub returns-clause-told : goal.returns-clause-told
returns-clause-told g c = record {
  declared = c.in_ok-lattice.ensures.read;
  read = c.in_ok-text.ensures.read;
  viewer = c.in_ok-class.class;
  looks = c.in_ok-class.ensures.looks;
  is = refl;
}

pub returns-in_err-lattice-clause-failed : goal.returns-in_err-lattice-clause-failed
returns-in_err-lattice-clause-failed g c =
    sought_lattice (g.F.Files.holds c.args.subject.now.files.now) c.args.search c.from_residual.result
    c.in_err-lattice.field-0.0
    c.from_residual.ensures.1 c.in_err-lattice.ensures.failed

pub returns-in_err-class-clause-failed : goal.returns-in_err-class-clause-failed
returns-in_err-class-clause-failed g c =
    sought_lacking (g.F.Files.holds c.args.subject.now.files.now) c.args.search c.in_ok-lattice.lattice
    c.from_residual-in_err-class.result c.in_err-class.field-0.0 c.from_residual-in_err-class.ensures.1
    c.in_ok-lattice.ensures.read c.in_err-class.ensures.failed
