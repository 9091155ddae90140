-- Refused files as lines of JSON, with keys in byte order.
use Rattle.std.specs.Prelude.{ℕ, List, None, false, codes}
use Rattle.serde_json.specs.Data.{boolean, Members, no_members, put}
use Rattle.vsi_conform.specs.Faulty.{name_of}
use Rattle.vsi_conform.specs.declared.interface.InterfaceError.{InterfaceError}
use Rattle.vsi_answers.specs.Diagnostic.{Diagnostic}
use Rattle.vsi_answers.specs.Json.{refusal_line}
use Rattle.vsi_answers.specs.Members.{without_end, with_text, object_line}

-- The line of a refusal with this text, which is that of `check --json` without the steps of a flow.
abbrev pub refused_line : Diagnostic → List ℕ → List ℕ
refused_line d text = refusal_line d None text

-- The members of the object of a refused interface with this text, which has a name and no number.
abbrev pub interface_members : InterfaceError → List ℕ → Members
interface_members e text =
    with_text (codes "text") (without_end text) (with_text (codes "name") (name_of e)
    (put (codes "accepted") (boolean false) no_members))

-- The line of that object.
abbrev pub refused_interface_line : InterfaceError → List ℕ → List ℕ
refused_interface_line e text = object_line (interface_members e text)
