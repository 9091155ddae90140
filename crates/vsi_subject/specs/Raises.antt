-- What `mend` writes.
use Rattle.std.specs.Prelude.{ℕ, Bool, true, false, List, Ok}
use Rattle.std.specs.Global.{Vec}
use Rattle.vsi_lattice.specs.declared.lattice.Lattice.{Lattice}
use Rattle.vsi_types.specs.declared.rules.Profile.{Profile}
use Rattle.vsi_answers.specs.Requests.{AppliesTo, MendsTo}
use Rattle.vsi_documents.specs.Answers.{TellsMended}

-- The lines of the least raises of a text, and with `--apply` the accepted text with these raises.
abbrev pub ToldMended : Bool → Profile → Lattice → List ℕ → Vec ℕ → Type 0
ToldMended true P l source text = AppliesTo l P source (Ok text)
ToldMended false P l source text = MendsTo l P source (Ok text)

-- The line of JSON for the least raises of a text, or for one that no raise serves.
abbrev pub ToldMendedJson : Profile → Bool → Lattice → List ℕ → Vec ℕ → Type 0
ToldMendedJson P served l source text = TellsMended l P source served text.items
