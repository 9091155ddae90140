-- The files that are read once, before a request is carried out.
use Rattle.std.specs.Prelude.{ℕ, List, Option, Some, IfSome, String, option_map}
use Rattle.std.specs.BTreeMap.{BTreeMap, get_by_text}
use Rattle.std.specs.Rc.{rc_slice_items}
use Rattle.std.specs.declared.rc.RcSlice.{RcSlice}
use Rattle.std.specs.Io.Cursor.{cursor_remaining}
use Rattle.vsi_subject.specs.Holding.{Holding, IsReadAt}
use Rattle.vsi_subject.specs.declared.loaded.Opened.{Opened}
use Rattle.vsi_subject.specs.declared.loaded.Opened.TheVariants.{Memory, System}

-- The bytes that were read from the file at the path.
abbrev pub held : {Y Z : Type 0} → BTreeMap (String Y) (RcSlice ℕ Z) → List ℕ → Option (List ℕ)
held texts path = option_map rc_slice_items (get_by_text texts path)

-- Each of these texts is the content read from the file at its path: all of it, or as much as the limit.
abbrev pub AreRead : {Y Z : Type 0} → Holding → BTreeMap (String Y) (RcSlice ℕ Z) → Type 0
AreRead holds texts = (path : List ℕ) → IfSome (held texts path) (IsReadAt holds path)

-- The bytes that the reader of a file has left, if they are known.
abbrev pub left_of : {R : Type 0} → (R → Option (List ℕ)) → Opened R → Option (List ℕ)
left_of remaining (Memory bytes) = cursor_remaining (λ shared. Some (rc_slice_items shared.bytes)) bytes
left_of remaining (System reader) = remaining reader
