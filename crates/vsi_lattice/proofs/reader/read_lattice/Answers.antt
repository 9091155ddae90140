use Rattle.std.proofs.Common.{map}
use Rattle.toml.specs.View.{table_view}
use Rattle.vsi_lattice.specs.Shape.{IsFile}
use Rattle.vsi_lattice.proofs.NameLemmas.{text_of, texts_of}
use Rattle.vsi_lattice.proofs.FileLemmas.{file_here, on_error, explained, accepted_here}
use Rattle.vsi_lattice.proofs.reader.read_lattice.Goals as goal

pub returns-clause-refused : goal.returns-clause-refused
returns-clause-refused c =
    let file : IsFile c.args.text.now (record {
      names = map text_of c.deref.result.now;
      pairs =
          map texts_of c.deref-2.result.now;
    }) =
    file_here c.in-Some.parts.names.items c.deref.result.now c.in-Some.parts.pairs.items c.deref-2.result.now
    c.args.text.now
    (table_view c.in-Ok.table) c.deref.ensures.value c.deref-2.ensures.value c.in-Ok.ensures.ok
    (rw c.in-Some.is at c.in_ok-parts.ensures) in
    on_error c.lattice_of.result (explained c.args.text.now _ file) c.lattice_of.ensures.refused

pub returns-clause-accepted : goal.returns-clause-accepted
returns-clause-accepted c f is accepted =
    let file : IsFile c.args.text.now (record {
      names = map text_of c.deref.result.now;
      pairs =
          map texts_of c.deref-2.result.now;
    }) =
    file_here c.in-Some.parts.names.items c.deref.result.now c.in-Some.parts.pairs.items c.deref-2.result.now
    c.args.text.now
    (table_view c.in-Ok.table) c.deref.ensures.value c.deref-2.ensures.value c.in-Ok.ensures.ok
    (rw c.in-Some.is at c.in_ok-parts.ensures) in
    accepted_here c.args.text.now _ f c.lattice_of.result file c.lattice_of.ensures.refused is accepted
