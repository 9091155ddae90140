-- The contents of an interface file, in terms of the table that its text denotes.
use Rattle.std.specs.Prelude.{◌≡◌, ℕ, zero, suc, ◌+◌, ℤ, pos, negsuc, List, [], ◌∷◌, Bool, true, false, not, ◌&&◌, ◌||◌, if◌then◌else◌, Option, Some, None, IfSome, is_some, option_map, option_and_then, unwrap_or, map, codes, bytes_eq}
use Rattle.std.specs.Borrow.{Bor}
use Rattle.std.specs.Global.{Vec}
use Rattle.std.specs.List.{All}
use Rattle.std.specs.Str.{IsUtf8}
use Rattle.toml.specs.Data.{Data, Items, no_items, Members, no_members, member, get_member, as_str, as_integer, as_bool, as_array, as_table}
use Rattle.toml.specs.Parse.{parse_document}
use Rattle.vsi_lattice.specs.Known.{Known}
use Rattle.vsi_lattice.specs.Shape.{pair_of, all_of, array_at}
use Rattle.vsi_image.specs.Fields.{Global, globals, is_taken}
use Rattle.vsi_conform.specs.declared.keys.Cycle.{Cycle}
use Rattle.vsi_conform.specs.declared.interface.InterfaceError.{InterfaceError}
use Rattle.vsi_conform.specs.declared.interface.InterfaceError.TheVariants.{NotToml, Memory}
use Rattle.vsi_conform.specs.declared.interface.Bounded.{Bounded}
use Rattle.vsi_conform.specs.declared.interface.Bounded.TheVariants.{No, Yes, AtMost}
use Rattle.vsi_conform.specs.declared.interface.Interface.{Interface}
use Rattle.vsi_conform.specs.declared.interface.Judgement.{Judgement}
use Rattle.vsi_conform.specs.declared.interface.Judgement.TheVariants.{Base, Strict, Steady}
use Rattle.vsi_conform.specs.declared.interface.Trial.{Trial}
use Rattle.vsi_conform.specs.declared.reader.InterfaceFile.{InterfaceFile}
use Rattle.vsi_conform.specs.declared.reader.Policy.{Policy}
use Rattle.vsi_conform.specs.declared.reader.Policy.TheVariants.{File, Tables}
use Rattle.vsi_conform.specs.Beside.{leads_out}
use Rattle.vsi_conform.specs.Points.{Entry, entries}
use Rattle.vsi_conform.specs.Tables.{IsTablesText}

-- The bytes are UTF-8, and TOML reads them as this table.
abbrev pub IsDocument : List ℕ → Members → Type 0
IsDocument bytes ms = IsUtf8 bytes × (parse_document bytes ≡ Some ms)

-- The text isn't read, because it is no document or memory ran out.
abbrev pub IsNoTable : List ℕ → InterfaceError → Type 0
IsNoTable text NotToml = (ms : Members) → ¬ (IsDocument text ms)
IsNoTable text Memory = Unit {0}
IsNoTable text e = ⊥

-- ---- the keys.

-- The texts that references point to.
abbrev pub shown : List (Bor (List ℕ)) → List (List ℕ)
shown references = map (λ r. r.now) references

-- The key is one of these.
abbrev pub is_among : List (List ℕ) → List ℕ → Bool
is_among [] key = false
is_among (k ∷ ks) key = bytes_eq k key || is_among ks key

-- Each key of a table is one of these.
abbrev pub has_keys : List (List ℕ) → Members → Bool
has_keys keys no_members = true
has_keys keys (member key d ms) = is_among keys key && has_keys keys ms

-- The keys of an interface.
abbrev pub interface_keys : List (List ℕ)
interface_keys =
    codes "lattice" ∷ codes "classes" ∷ codes "below" ∷ codes "profile" ∷ codes "order" ∷ codes "bounded"
    ∷ codes "globals" ∷ codes "runs" ∷ codes "cycle" ∷ codes "reference" ∷ []

-- The keys of a run.
abbrev pub run_keys : List (List ℕ)
run_keys = codes "store" ∷ codes "budget" ∷ codes "expect" ∷ codes "halts" ∷ []

-- The text at a key.
abbrev pub text_at : List ℕ → Members → Option (List ℕ)
text_at key ms = option_and_then as_str (get_member key ms)

-- The judgement with this name.
abbrev pub judgement_of : List ℕ → Option Judgement
judgement_of word =
    if bytes_eq word (codes "base") then Some Base else if bytes_eq word (codes "strict") then Some Strict
    else if bytes_eq word (codes "steady") then Some Steady else None

-- How a text must be accepted: the name at `profile`.
abbrev pub judgement_at : Members → Option Judgement
judgement_at ms = option_and_then judgement_of (text_at (codes "profile") ms)

-- Whether the order of the globals is required, by name.
abbrev pub order_of : List ℕ → Option Bool
order_of word =
    if bytes_eq word (codes "exact") then Some true else if bytes_eq word (codes "set") then Some false else None

-- Whether the order is required, from the value at `order`, which may be missing.
abbrev pub order_from : Option Data → Option Bool
order_from None = Some true
order_from (Some d) = option_and_then order_of (as_str d)

-- A number of at least 0.
abbrev pub natural : ℤ → Option ℕ
natural (pos n) = Some n
natural (negsuc n) = None

-- The maximum, if it is at least 1.
abbrev pub at_most : ℕ → Option Bounded
at_most zero = None
at_most (suc n) = Some (AtMost (suc n))

-- The required bound, by its maximum.
abbrev pub maximum_of : ℤ → Option Bounded
maximum_of number = option_and_then at_most (natural number)

-- The required bound, by its value as a truth or as a number.
abbrev pub bounded_by : Option Bool → Option ℤ → Option Bounded
bounded_by (Some b) number = Some (if b then Yes else No)
bounded_by None number = option_and_then maximum_of number

-- The required bound, by its value: `true`, `false` or a maximum.
abbrev pub bounded_of : Data → Option Bounded
bounded_of d = bounded_by (as_bool d) (as_integer d)

-- The required bound, from the value at `bounded`, which may be missing.
abbrev pub bounded_from : Option Data → Option Bounded
bounded_from None = Some No
bounded_from (Some d) = bounded_of d

-- The globals: the pairs of texts at `globals`, in their order.
abbrev pub globals_at : Members → Option (List Global)
globals_at ms = array_at pair_of (codes "globals") ms

-- The entries with one more, if its value is a number.
abbrev pub entry_more : List ℕ → Option ℤ → Option (List Entry) → Option (List Entry)
entry_more key None rest = None
entry_more key (Some word) rest = option_map (λ es. (key, word) ∷ es) rest

-- The names and words of a table of numbers.
abbrev pub numbers_of : Members → Option (List Entry)
numbers_of no_members = Some []
numbers_of (member key d ms) = entry_more key (as_integer d) (numbers_of ms)

-- The names and words of a value that is a table of numbers.
abbrev pub entries_of : Data → Option (List Entry)
entries_of d = option_and_then numbers_of (as_table d)

-- ---- runs.

-- The elements of the array that is a value, which may be missing.
abbrev pub elements_from : Option Data → Option Items
elements_from None = Some no_items
elements_from (Some d) = as_array d

-- A required run, as a value of these definitions.
pub record Run : Type 0 where
  pub store : List Entry
  pub budget : ℕ
  pub expect : List Entry

-- A required run of the code.
abbrev pub run : Trial → Run
run t = record { store = entries t.store.items; budget = t.budget; expect = entries t.expect.items }

-- The words at the start of a run, from the value at `store`, which may be missing.
abbrev pub store_from : Option Data → Option (List Entry)
store_from None = Some []
store_from (Some d) = entries_of d

-- The budget: the number at `budget`, if it is at least 0.
abbrev pub budget_from : Option Data → Option ℕ
budget_from o = option_and_then natural (option_and_then as_integer o)

-- A run that only has to halt expects no word.
abbrev pub halting : Option Bool → Option (List Entry)
halting None = None
halting (Some b) = if b then Some [] else None

-- The expected words, from the values at `expect` and `halts`; exactly one of them must be there.
abbrev pub expect_from : Option Data → Option Data → Option (List Entry)
expect_from None None = None
expect_from None (Some d) = halting (as_bool d)
expect_from (Some d) None = entries_of d
expect_from (Some d) (Some e) = None

-- A run with these parts.
abbrev pub run_from : Option (List Entry) → Option ℕ → Option (List Entry) → Option Run
run_from None budget expect = None
run_from (Some store) None expect = None
run_from (Some store) (Some budget) None = None
run_from (Some store) (Some budget) (Some expect) =
    Some (record { store = store; budget = budget; expect = expect })

-- The run of a table that has no keys other than those of a run.
abbrev pub run_in : Members → Option Run
run_in ms =
    if has_keys run_keys ms then
    run_from (store_from (get_member (codes "store") ms)) (budget_from (get_member (codes "budget") ms))
    (expect_from (get_member (codes "expect") ms) (get_member (codes "halts") ms)) else None

-- The run of a value that is a table.
abbrev pub run_of : Data → Option Run
run_of d = option_and_then run_in (as_table d)

-- The runs, from the value at `runs`, which may be missing.
abbrev pub runs_from : Option Data → Option (List Run)
runs_from o = option_and_then (all_of run_of) (elements_from o)

-- ---- boundaries.

-- The keys of a boundary.
abbrev pub cycle_keys : List (List ℕ)
cycle_keys = codes "class" ∷ codes "inputs" ∷ codes "outputs" ∷ codes "released" ∷ codes "from" ∷ []

-- The boundary of a class's controllers, as a value of these definitions.
pub record ClassBoundary : Type 0 where
  pub class : List ℕ
  pub inputs : Option (List (List ℕ))
  pub outputs : Option (List (List ℕ))
  pub released : List (List ℕ)
  pub from : Option (List (List ℕ))

-- The bytes of each name.
abbrev pub bytes_of : List (Vec ℕ) → List (List ℕ)
bytes_of names = map (λ name. name.items) names

-- A boundary of the code.
abbrev pub cycle : Cycle → ClassBoundary
cycle c =
    record {
      class = c.class.items;
      inputs = option_map (λ names. bytes_of names.items) c.inputs;
      outputs = option_map (λ names. bytes_of names.items) c.outputs;
      released = bytes_of c.released.items;
      from = option_map (λ names. bytes_of names.items) c.from;
    }

-- The names of an array of texts.
abbrev pub names_of : Data → Option (List (List ℕ))
names_of d = option_and_then (all_of as_str) (as_array d)

-- The list of inputs, of outputs or of `from`, from the value at its key, which may be missing.
abbrev pub list_from : Option Data → Option (Option (List (List ℕ)))
list_from None = Some None
list_from (Some d) = option_map (λ names. Some names) (names_of d)

-- The released outputs, from the value at `released`, which may be missing.
abbrev pub released_from : Option Data → Option (List (List ℕ))
released_from o = option_map (λ list. unwrap_or list []) (list_from o)

-- A boundary with these parts.
abbrev pub cycle_from : Option (List ℕ) → Option (Option (List (List ℕ))) → Option (Option (List (List ℕ))) →
    Option (List (List ℕ)) → Option (Option (List (List ℕ))) → Option ClassBoundary
cycle_from None inputs outputs released from = None
cycle_from (Some class) None outputs released from = None
cycle_from (Some class) (Some inputs) None released from = None
cycle_from (Some class) (Some inputs) (Some outputs) None from = None
cycle_from (Some class) (Some inputs) (Some outputs) (Some released) None = None
cycle_from (Some class) (Some inputs) (Some outputs) (Some released) (Some from) =
    Some (record { class = class; inputs = inputs; outputs = outputs; released = released; from = from })

-- The boundary of a table that has no keys other than those of one.
abbrev pub cycle_in : Members → Option ClassBoundary
cycle_in ms =
    if has_keys cycle_keys ms then
    cycle_from (text_at (codes "class") ms) (list_from (get_member (codes "inputs") ms))
    (list_from (get_member (codes "outputs") ms)) (released_from (get_member (codes "released") ms))
    (list_from (get_member (codes "from") ms)) else None

-- The boundary of a value that is a table.
abbrev pub cycle_of : Data → Option ClassBoundary
cycle_of d = option_and_then cycle_in (as_table d)

-- The boundaries, from the value at `cycle`, which may be missing.
abbrev pub cycles_from : Option Data → Option (List ClassBoundary)
cycles_from o = option_and_then (all_of cycle_of) (elements_from o)

-- The name is that of a global.
abbrev pub IsKnown : List Global → List ℕ → Type 0
IsKnown gs name = is_taken gs name ≡ true

-- A boundary names no variables other than these globals.
pub record BoundsGlobals (gs : List Global) (b : ClassBoundary) : Type 0 where
  pub inputs : IfSome b.inputs (All (IsKnown gs))
  pub outputs : IfSome b.outputs (All (IsKnown gs))
  pub released : All (IsKnown gs) b.released
  pub from : IfSome b.from (All (IsKnown gs))

-- One of the boundaries is that of this class.
abbrev pub has_class : List ClassBoundary → List ℕ → Bool
has_class [] class = false
has_class (b ∷ bs) class = bytes_eq b.class class || has_class bs class

-- No two boundaries have one class.
abbrev pub are_apart : List ClassBoundary → Bool
are_apart [] = true
are_apart (b ∷ bs) = not (has_class bs b.class) && are_apart bs

-- The table has these boundaries, at most one for each class, with names of these globals.
pub record Bounds (ms : Members) (gs : List Global) (cycles : List Cycle) : Type 0 where
  pub are : cycles_from (get_member (codes "cycle") ms) ≡ Some (map cycle cycles)
  pub named : All (BoundsGlobals gs) (map cycle cycles)
  pub apart : are_apart (map cycle cycles) ≡ true

-- The number of the first of these boundaries whose class name denotes no class, where they have numbers from n on.
abbrev pub first_unbound : Known → ℕ → List ClassBoundary → Option ℕ
first_unbound known n [] = None
first_unbound known n (b ∷ bs) = if is_some (known b.class) then first_unbound known (n + 1) bs else Some n

-- ---- the whole interface.

-- The lattice is either in the file whose path is at `lattice`, with no lattice table beside it, or in lattice tables,
-- which have this text.
abbrev pub IsPolicy : Members → Policy → Type 0
IsPolicy ms (File path) =
    (text_at (codes "lattice") ms ≡ Some path.items)
    × (get_member (codes "classes") ms ≡ None) × (get_member (codes "below") ms ≡ None)
IsPolicy ms (Tables text) = (get_member (codes "lattice") ms ≡ None) × IsTablesText ms text.items

-- The reference is at the path at `reference`, which doesn't lead out of the folder of the interface, if there is one.
abbrev pub IsReference : Members → Option (Vec ℕ) → Type 0
IsReference ms None = get_member (codes "reference") ms ≡ None
IsReference ms (Some path) = (text_at (codes "reference") ms ≡ Some path.items) × (leads_out path.items ≡ false)

-- Each name is the name of a global.
abbrev pub are_named : List Global → List Entry → Bool
are_named gs [] = true
are_named gs (e ∷ es) = is_taken gs e.0 && are_named gs es

-- The run names no variables other than these globals.
pub record NamesGlobals (gs : List Global) (r : Run) : Type 0 where
  pub store : are_named gs r.store ≡ true
  pub expect : are_named gs r.expect ≡ true

-- The runs of an interface name no variables other than its globals.
abbrev pub NameGlobals : Interface → Type 0
NameGlobals i = All (NamesGlobals (globals i.globals.items)) (map run i.trials.items)

-- The table requires this interface of a text.
pub record Asks (ms : Members) (i : Interface) : Type 0 where
  pub judgement : judgement_at ms ≡ Some i.judgement
  pub order : order_from (get_member (codes "order") ms) ≡ Some i.is_ordered
  pub bounded : bounded_from (get_member (codes "bounded") ms) ≡ Some i.bounded
  pub globals : globals_at ms ≡ Some (globals i.globals.items)
  pub runs : runs_from (get_member (codes "runs") ms) ≡ Some (map run i.trials.items)
  pub named : NameGlobals i

-- The text is a document with this policy and this interface, and with no keys other than those of an interface.
pub record IsReadAs (text : List ℕ) (a : InterfaceFile) : Type 0 where
  pub table : Members
  pub document : IsDocument text table
  pub keys : has_keys interface_keys table ≡ true
  pub policy : IsPolicy table a.policy
  pub interface : Asks table a.interface
  pub cycles : Bounds table (globals a.interface.globals.items) a.cycles.items
  pub reference : IsReference table a.reference
