-- The words that a store file gives to the globals, and the faults of a file that gives none.
use Rattle.std.specs.Prelude.{◌≡◌, ℕ, ℤ, pos, List, map, Bool, false, ◌||◌, if◌then◌else◌, Option, Some, None, unwrap_or, is_some}
use Rattle.std.specs.List.{list_any}
use Rattle.std.specs.Str.{IsUtf8, bytes_eq}
use Rattle.toml.specs.Data.{Data, Members, no_members, member, as_integer}
use Rattle.toml.specs.Parse.{parse_document}
use Rattle.vsi_image.specs.Fields.{Global}
use Rattle.vsi_store.specs.declared.reader.StoreError.{StoreError}
use Rattle.vsi_store.specs.declared.reader.StoreError.TheVariants.{NotToml, NotANumber, UnknownGlobal, Memory}

-- The bytes are text, and as TOML they are this table.
abbrev pub IsDocument : List ℕ → Members → Type 0
IsDocument bytes ms = IsUtf8 bytes × (parse_document bytes ≡ Some ms)

-- The bytes are not TOML.
abbrev pub IsNoDocument : List ℕ → Type 0
IsNoDocument bytes = (ms : Members) → ¬ (IsDocument bytes ms)

-- The faults of a key in a store file.
pub data KeyFault : Type 0 where
  no_number : List ℕ → KeyFault
  no_global : List ℕ → KeyFault

-- There is a global with this name.
abbrev pub has_name : List Global → List ℕ → Bool
has_name globals key = list_any (λ g. bytes_eq g.0 key) globals

-- The fault of one key; a value that isn't a number comes first.
abbrev pub entry_fault : List Global → List ℕ → Data → Option KeyFault
entry_fault globals key d =
    if is_some (as_integer d)
    then (if has_name globals key then None else Some (no_global key))
    else Some (no_number key)

-- The fault of the first faulty key of a table, whose keys ascend.
abbrev pub store_fault : List Global → Members → Option KeyFault
store_fault globals no_members = None
store_fault globals (member key d ms) =
    if is_some (entry_fault globals key d) then entry_fault globals key d else store_fault globals ms

-- The number at a name, or 0.
abbrev pub number_in : Members → List ℕ → ℤ
number_in no_members name = pos 0
number_in (member key d ms) name = if bytes_eq key name then unwrap_or (as_integer d) (pos 0) else number_in ms name

-- The numbers of a table, in the order of the globals.
abbrev pub store_of : List Global → Members → List ℤ
store_of globals ms = map (λ g. number_in ms g.0) globals

-- The text is a store file without a fault, and these are its words.
abbrev pub Tells : List ℕ → List Global → List ℤ → Type 0
Tells text globals words =
    (ms : Members) × IsDocument text ms × (store_fault globals ms ≡ None) × (words ≡ store_of globals ms)

-- The refusals that name no key.
abbrev pub IsNameless : List ℕ → StoreError → Type 0
IsNameless text NotToml = IsNoDocument text
IsNameless text (NotANumber key) = ⊥
IsNameless text (UnknownGlobal key) = ⊥
IsNameless text Memory = Unit {0}

-- The refusal of one key.
abbrev pub IsEntryRefusal : List Global → List ℕ → Data → StoreError → Type 0
IsEntryRefusal globals key d NotToml = ⊥
IsEntryRefusal globals key d (NotANumber name) = entry_fault globals key d ≡ Some (no_number name.items)
IsEntryRefusal globals key d (UnknownGlobal name) = entry_fault globals key d ≡ Some (no_global name.items)
IsEntryRefusal globals key d Memory = Unit {0}

-- The first faulty key of a document is this one.
abbrev pub HasFault : List Global → List ℕ → KeyFault → Type 0
HasFault globals text fault = (ms : Members) × IsDocument text ms × (store_fault globals ms ≡ Some fault)

-- The refusal of a store file.
abbrev pub IsRefusal : List Global → List ℕ → StoreError → Type 0
IsRefusal globals text NotToml = IsNoDocument text
IsRefusal globals text (NotANumber name) = HasFault globals text (no_number name.items)
IsRefusal globals text (UnknownGlobal name) = HasFault globals text (no_global name.items)
IsRefusal globals text Memory = Unit {0}

-- A table has this key.
abbrev pub has_key : Members → List ℕ → Bool
has_key no_members name = false
has_key (member key d ms) name = bytes_eq key name || has_key ms name

-- The text is a document, and these say for each global, in order, whether it has a key there.
abbrev pub Names : List ℕ → List Global → List Bool → Type 0
Names text globals named = (ms : Members) × IsDocument text ms × (named ≡ map (λ g. has_key ms g.0) globals)
