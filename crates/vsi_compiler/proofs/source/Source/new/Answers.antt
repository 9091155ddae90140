use Rattle.vsi_syntax.specs.ProgramView.{whole}
use Rattle.vsi_compiler.proofs.source.Source.new.Goals as goal

pub invariant_of-result : goal.invariant_of-result
invariant_of-result c = (
  record {
    stands = record {
      tree = whole c.args.tree;
      reads = c.requires.reads;
      only = c.requires.only;
      resolves = c.requires.resolves;
    };
    kept = c.requires.kept;
    classes = c.requires.classes;
  },
  c.requires.only,
)
