use Rattle.std.proofs.Common.{◌≡◌, map, length, string_bytes, arith, sym, ◌∙◌}
use Rattle.std.proofs.lemmas.List.{length-map}
use Rattle.vsi_lattice.specs.Shape.{File}
use Rattle.vsi_lattice.specs.FileFaults.{HasNames, HasPairs}
use Rattle.vsi_lattice.proofs.NameLemmas.{text_of, texts_of}
use Rattle.vsi_lattice.proofs.FileLemmas.{order_fault, numbered, known_of, are_names, has_names, fault_along, is_of}
use Rattle.vsi_lattice.proofs.reader.lattice_of.Goals as goal

pub returns-in-Err-clause-refused : goal.returns-in-Err-clause-refused
returns-in-Err-clause-refused c =
    let f : File = record { names = map text_of c.args.names.now; pairs = map texts_of c.args.pairs.now } in
    let len : length f.names ≡ length c.args.names.now = length-map c.args.names.now text_of in
    let names : HasNames f =
    has_names f (length c.args.names.now) len (grind (arith, c.is_empty.ensures, c.if-is_empty.false))
    (omega (arith, c.if-names-gt-MAX_CLASSES.false)) c.in_default.ensures.none c.in_ok-list.ensures.distinct in
    let pairs : HasPairs f = record {
      names = names;
      known = known_of f.names f.pairs c.in_ok-list.list.items c.deref.result.now c.deref.ensures.value
          c.in_ok-list.ensures.names
          c.in_ok-numbers.ensures.known;
    } in
    let same =
    numbered f.names f.pairs c.in_ok-list.list.items c.deref.result.now c.in_ok-numbers.numbers.items
    c.deref-2.result.now
    c.deref-2.ensures.value c.in_ok-numbers.ensures.numbers c.deref.ensures.value c.in_ok-list.ensures.names in
    order_fault f c.in-Err.e c.from.result c.from.ensures pairs
    (fault_along (sym len) same c.in-Err.e c.in-Err.ensures.refused)

pub new-requires-in-Ok : goal.new-requires-in-Ok
new-requires-in-Ok c =
    let f : File = record { names = map text_of c.args.names.now; pairs = map texts_of c.args.pairs.now } in
    let len : length f.names ≡ length c.args.names.now = length-map c.args.names.now text_of in
    let names : HasNames f =
    has_names f (length c.args.names.now) len (grind (arith, c.is_empty.ensures, c.if-is_empty.false))
    (omega (arith, c.if-names-gt-MAX_CLASSES.false)) c.in_default.ensures.none c.in_ok-list.ensures.distinct in
    are_names f (map string_bytes c.in_ok-list.list.items) (length c.in-Ok.order.above.items) c.in_ok-list.ensures.names
    names
    (c.in-Ok.ensures.order.count_is ∙ sym len)

pub returns-in-Ok-clause-ok : goal.returns-in-Ok-clause-ok
returns-in-Ok-clause-ok c =
    let f : File = record { names = map text_of c.args.names.now; pairs = map texts_of c.args.pairs.now } in
    let len : length f.names ≡ length c.args.names.now = length-map c.args.names.now text_of in
    let names : HasNames f =
    has_names f (length c.args.names.now) len (grind (arith, c.is_empty.ensures, c.if-is_empty.false))
    (omega (arith, c.if-names-gt-MAX_CLASSES.false)) c.in_default.ensures.none c.in_ok-list.ensures.distinct in
    let pairs : HasPairs f = record {
      names = names;
      known = known_of f.names f.pairs c.in_ok-list.list.items c.deref.result.now c.deref.ensures.value
          c.in_ok-list.ensures.names
          c.in_ok-numbers.ensures.known;
    } in
    let same =
    numbered f.names f.pairs c.in_ok-list.list.items c.deref.result.now c.in_ok-numbers.numbers.items
    c.deref-2.result.now
    c.deref-2.ensures.value c.in_ok-numbers.ensures.numbers c.deref.ensures.value c.in_ok-list.ensures.names in
    is_of f _ c.deref-2.result.now _ _ _ pairs (sym len) same c.in-Ok.ensures.lattice c.in-Ok.ensures.order
    (c.new-in-Ok.ensures.names ∙ c.in_ok-list.ensures.names) c.new-in-Ok.ensures.order
