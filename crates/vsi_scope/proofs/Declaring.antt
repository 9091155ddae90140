-- Reading the globals one by one.
use Rattle.std.proofs.Common.{suc, ◌+◌, drop, get_or, Option, Some, ◌≡◌, ℕ, ◌<◌, ◌≤◌, List, [], ◌∷◌, ◌++◌, length, map, Bor, sym, ap, ◌∙◌, None, arith, length-append, false, if◌then◌else◌}
use Rattle.std.proofs.lemmas.List.{append-nil, append_assoc, drop_all, length-map, map-append}
use Rattle.std.specs.List.{list_any}
use Rattle.indexmap.specs.IndexSet.{insert_key}
use Rattle.std.proofs.Math.Seq.{drop-cons}
use Rattle.vsi_syntax.specs.Tree as tree
use Rattle.vsi_syntax.specs.CommandView as syntax
use Rattle.vsi_syntax.specs.declared.tree.Declaration.{Declaration}
use Rattle.vsi_scope.specs.declared.resolved.Global.{Global}
use Rattle.vsi_scope.specs.declared.resolution.ScopeError.{ScopeError}
use Rattle.vsi_scope.specs.declared.resolution.whole.Names.{Names}
use Rattle.vsi_scope.specs.declared.resolution.whole.Globals.{Globals}
use Rattle.vsi_scope.specs.Places.{place_of}
use Rattle.vsi_lattice.specs.Known.{Known}
use Rattle.vsi_scope.specs.Faults.{global_marks, global_names, first_fault, Refuses}
use Rattle.vsi_scope.specs.Resolver.{names_of, HasNone, HasRead}
use Rattle.vsi_scope.specs.Resolving.{Shown, shown, global_of}
use Rattle.vsi_scope.proofs.Faulty.{fault_behind, refuses_first, refuses_as}
use Rattle.vsi_scope.proofs.Scoping.{same_name, place_append, none_there}

-- The first globals are read.
pub record Halfway (known : Known) (read : Globals) (all rest : List tree.Declared) : Type 0 where
  pub few : length read.names.globals.keys ≤ 256
  pub outer : read.names.locals.items ≡ []
  pub named : global_names all ≡ names_of read.names ++ global_names rest
  pub listed : map (global_of known) all ≡ map shown read.list.items ++ map (global_of known) rest
  pub faults : first_fault known (global_marks [] all) ≡ first_fault known (global_marks (names_of read.names) rest)

-- While no letvar is in scope, there are as many names in scope as globals.
names_counted : (ns : Names) → ns.locals.items ≡ [] → length (names_of ns) ≡ length ns.globals.keys
names_counted ns o =
    omega (
      arith,
      length-append (map (λ (k : Bor (List ℕ)). k.now) ns.globals.keys) (map (λ k. k.now) ns.locals.items),
      length-map ns.globals.keys (λ (k : Bor (List ℕ)). k.now),
      length-map ns.locals.items (λ (k : Bor (List ℕ)). k.now),
      ap length o,
    )

-- The declarations from a place on.
pub from_declaration : (ds : List Declaration) (i : ℕ) (d : Declaration) → i < length ds →
    map syntax.declared (drop i ds) ≡ syntax.declared (get_or ds i d) ∷ map syntax.declared (drop (i + 1) ds)
from_declaration ds i d lt =
    let n : suc i ≡ i + 1 = omega arith in
    ap (map syntax.declared) (drop-cons ds i d lt)
    ∙ ap (λ k. syntax.declared (get_or ds i d) ∷ map syntax.declared (drop k ds)) n

-- No declaration is left at the end.
pub from_end : (ds : List Declaration) (i : ℕ) → length ds ≤ i → map syntax.declared (drop i ds) ≡ []
from_end ds i le = ap (map syntax.declared) (drop_all i ds le)

-- The view of a global with a class or none.
abbrev shown_with : Bor (List ℕ) → Bor (List ℕ) → Option ℕ → Shown
shown_with name class_name o = record { name = name.now; class = o; class_name = class_name.now }

-- A global that is appended with the class of its class name is viewed with that class.
pub put_global : (known : Known) (before after : List Global) (name class_name : Bor (List ℕ)) (class : ℕ) →
    known class_name.now ≡ Some class →
    after ≡ before ++ record { name = name; class = class; class_name = class_name } ∷ [] →
    map shown after ≡ map shown before ++ shown_with name class_name (known class_name.now) ∷ []
put_global known before after name class_name class e put =
    let g : Global = record { name = name; class = class; class_name = class_name } in
    ap (map shown) put ∙ map-append shown before (g ∷ [])
    ∙ ap (λ o. map shown before ++ shown_with name class_name o ∷ []) (sym e)

-- At the beginning no global is read.
pub halfway_none : (known : Known) (read : Globals) (all : List tree.Declared) → HasNone read →
    Halfway known read all all
halfway_none known read all h =
    let none : names_of read.names ≡ [] =
    ap (λ ks. map (λ (k : Bor (List ℕ)). k.now) ks ++ map (λ k. k.now) read.names.locals.items) h.globals
    ∙ ap (map (λ (k : Bor (List ℕ)). k.now)) h.outer in
    record {
      few = omega (arith, ap length h.globals);
      outer = h.outer;
      named = ap (λ ns. ns ++ global_names all) (sym none);
      listed = ap (λ gs. map shown gs ++ map (global_of known) all) (sym h.list);
      faults = ap (λ ns. first_fault known (global_marks ns all)) (sym none);
    }

-- One more global is read.
pub halfway_more : (known : Known) (old new : Globals) (all rest after : List tree.Declared) (g : tree.Declared) →
    rest ≡ g ∷ after → Halfway known old all rest → new.names.locals.items ≡ [] →
    names_of new.names ≡ names_of old.names ++ g.name.text ∷ [] →
    map shown new.list.items ≡ map shown old.list.items ++ global_of known g ∷ [] →
    length old.names.globals.keys < 256 →
    first_fault known (global_marks (names_of old.names) (g ∷ [])) ≡ None → Halfway known new all after
halfway_more known old new all rest after g r m outer names list few none = record {
  few =
      omega (
        arith,
        few,
        ap length names,
        names_counted old.names m.outer,
        names_counted new.names outer,
        length-append (names_of old.names) (g.name.text ∷ []),
      );
  outer = outer;
  named =
      m.named ∙ ap (λ gs. names_of old.names ++ global_names gs) r
      ∙ sym (append_assoc (names_of old.names) (g.name.text ∷ []) (global_names after))
      ∙ ap (λ ns. ns ++ global_names after) (sym names);
  listed =
      m.listed ∙ ap (λ gs. map shown old.list.items ++ map (global_of known) gs) r
      ∙ sym (append_assoc (map shown old.list.items) (global_of known g ∷ []) (map (global_of known) after))
      ∙ ap (λ ls. ls ++ map (global_of known) after) (sym list);
  faults =
      m.faults ∙ ap (λ gs. first_fault known (global_marks (names_of old.names) gs)) r
      ∙ fault_behind known (global_marks (names_of old.names) (g ∷ []))
      (global_marks (names_of old.names ++ g.name.text ∷ []) after) none
      ∙ ap (λ ns. first_fault known (global_marks ns after)) (sym names);
}

-- A fault of the next declaration is the first of all.
pub halfway_refuses : (known : Known) (read : Globals) (all rest after : List tree.Declared) (g : tree.Declared)
    (e : ScopeError) → rest ≡ g ∷ after → Halfway known read all rest →
    Refuses e (first_fault known (global_marks (names_of read.names) (g ∷ []))) →
    Refuses e (first_fault known (global_marks [] all))
halfway_refuses known read all rest after g e r m q =
    let names = names_of read.names in
    refuses_as e _ _ (λ x f. m.faults ∙ ap (λ gs. first_fault known (global_marks names gs)) r ∙ f)
    (refuses_first e known (global_marks names (g ∷ [])) (global_marks (names ++ g.name.text ∷ []) after) q)

-- At the end all globals are read.
pub halfway_done : (known : Known) (read : Globals) (all rest : List tree.Declared) → rest ≡ [] →
    Halfway known read all rest → HasRead known all read
halfway_done known read all rest r m = record {
  outer = m.outer;
  names = sym (m.named ∙ ap (λ gs. names_of read.names ++ global_names gs) r ∙ append-nil (names_of read.names));
  list =
      sym (m.listed ∙ ap (λ gs. map shown read.list.items ++ map (global_of known) gs) r
      ∙ append-nil (map shown read.list.items));
}

-- At the end there is no fault.
pub halfway_clean : (known : Known) (read : Globals) (all rest : List tree.Declared) → rest ≡ [] →
    Halfway known read all rest → first_fault known (global_marks [] all) ≡ None
halfway_clean known read all rest r m =
    m.faults ∙ ap (λ gs. first_fault known (global_marks (names_of read.names) gs)) r

-- A name that was not in scope is the last global.
pub declared_name : (old new : Names) (x : Bor (List ℕ)) → old.locals.items ≡ [] →
    new.locals.items ≡ old.locals.items → place_of (names_of old) x.now ≡ None →
    new.globals.keys ≡ insert_key same_name old.globals.keys x → names_of new ≡ names_of old ++ x.now ∷ []
declared_name old new x o n none keys =
    let texts : List (Bor (List ℕ)) → List (List ℕ) = map (λ k. k.now) in
    let ks = old.globals.keys in
    let before : names_of old ≡ texts ks ++ [] = ap (λ ls. texts ks ++ texts ls) o in
    let absent : place_of (texts ks) x.now ≡ None = sym (place_append (texts ks) [] x.now)
    ∙ ap (λ s. place_of s x.now) (sym before) ∙ none in
    let missing : list_any (same_name x) ks ≡ false = none_there ks x.now absent in
    let more : new.globals.keys ≡ ks ++ x ∷ [] = keys ∙ ap (λ b. if b then ks else ks ++ x ∷ []) missing in
    ap (λ ls. texts new.globals.keys ++ texts ls) (n ∙ o) ∙ append-nil (texts new.globals.keys) ∙ ap texts more
    ∙ map-append (λ k. k.now) ks (x ∷ []) ∙ ap (λ s. s ++ x.now ∷ []) (sym (append-nil (texts ks)) ∙ sym before)
