use Rattle.std.proofs.Common.{sym}
use Rattle.vsi_scope.proofs.Scoping.{place_local, place_by_key, no_place}
use Rattle.vsi_scope.proofs.resolution.whole.Names.find.Goals as goal

pub returns-in-Some : goal.returns-in-Some
returns-in-Some c =
    place_local c.args.self.now.globals.keys c.args.self.now.locals.items c.args.name.now c.len-globals.result
    c.in-Some.at c.len-globals.ensures.len (rw (c.deref.ensures.value) at c.in-Some.ensures.place)

pub returns-in-Some-get_index_of : goal.returns-in-Some-get_index_of
returns-in-Some-get_index_of c =
    place_by_key c.args.self.now.globals.keys c.args.self.now.locals.items c.args.name c.in-Some-get_index_of.at
    (rw (c.deref.ensures.value) at c.in_default.ensures.place) c.len-globals.ensures.unique
    c.in-Some-get_index_of.ensures.index

pub returns-in-None : goal.returns-in-None
returns-in-None c =
    no_place c.args.self.now.globals.keys c.args.self.now.locals.items c.args.name
    (rw (c.deref.ensures.value) at c.in_default.ensures.place) (sym c.in-None.ensures.found)
