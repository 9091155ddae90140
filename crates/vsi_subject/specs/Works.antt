-- How requests are carried out, and where an answer goes.
use Rattle.std.specs.Prelude.{ℕ, Bool, true, false, List, [], Option, None}
use Rattle.std.specs.Global.{Vec}
use Rattle.std.specs.Io.KnownBytes.{Appends, Keeps}
use Rattle.vsi_arguments.specs.declared.request.Compilation.{Compilation}
use Rattle.vsi_arguments.specs.declared.request.Document.{Document}
use Rattle.vsi_arguments.specs.declared.request.Document.TheVariants as document
use Rattle.vsi_arguments.specs.declared.request.Driving.{Driving}
use Rattle.vsi_arguments.specs.declared.request.Execution.{Execution}
use Rattle.vsi_arguments.specs.declared.request.InitialStore.{InitialStore}
use Rattle.vsi_arguments.specs.declared.request.Layout.{Layout}
use Rattle.vsi_arguments.specs.declared.request.Request.{Request}
use Rattle.vsi_arguments.specs.declared.request.Request.TheVariants as request
use Rattle.vsi_subject.specs.declared.failure.Failure.{Failure}
use Rattle.vsi_subject.specs.declared.failure.Failure.TheVariants.{Differs, OutOfBudget}
use Rattle.vsi_documents.specs.declared.answer.Reply.{Reply}
use Rattle.vsi_subject.specs.declared.subject.Place.{Place}
use Rattle.vsi_subject.specs.declared.subject.Place.TheVariants.{Image, Out}
use Rattle.vsi_subject.specs.Files.{shown}
use Rattle.vsi_subject.specs.Holding.{Delivers, Fills, Holding, KeepsOthers}
use Rattle.vsi_subject.specs.State.{StaysBeside}

-- A request writes while it works, as `flows`, `run`, `drive`, `fmt` and `lsp` do, or it answers.
pub data Work : Type 0 where
  Lists : Compilation → Bool → Work
  Runs : Execution → InitialStore → Bool → Bool → Work
  Drives : Driving → Work
  Lays : Layout → Work
  Talks : Work
  Replies : Work

-- How a request is carried out.
abbrev pub work_of : Request → Work
work_of (request.Flows c has_walks) = Lists c has_walks
work_of (request.Run e o has_trace has_count) = Runs e o has_trace has_count
work_of (request.Drive d) = Drives d
work_of (request.Layout asked) = Lays asked
work_of (request.Lsp serving) = Talks
work_of asked = Replies

-- ---- good and bad answers.

-- The answer with a text that says that all is well.
abbrev pub good_reply : Vec ℕ → Reply
good_reply text = record { text = text; is_good = true }

-- A bad document says that a run is out of budget.
abbrev pub document_spends : Document → Bool
document_spends (document.Run e o) = true
document_spends asked = false

-- A bad answer of the request says so.
abbrev pub spends : Request → Bool
spends (request.Document asked) = document_spends asked
spends (request.Steps stepping is_json) = true
spends asked = false

-- How the program fails after a bad answer: a run is out of budget, or there is a difference.
abbrev pub end_of : Bool → Failure
end_of true = OutOfBudget
end_of false = Differs

-- The least status at which a part of an answer may have been written: that of a bad answer that is no difference, or
-- of a fault.
abbrev pub cut_of : Bool → ℕ
cut_of true = 3
cut_of false = 4

-- The least status at which a request may have written a part of an answer: a run that is out of budget has written its
-- trace, a server whose client goes away has written messages, and any other request is cut short by a fault or by lack
-- of memory.
abbrev pub cut_by : Work → Bool → ℕ
cut_by (Lists c has_walks) spent = 4
cut_by (Runs e o has_trace has_count) spent = 3
cut_by (Drives d) spent = 4
cut_by (Lays asked) spent = 4
cut_by Talks spent = 1
cut_by Replies spent = cut_of spent

-- The same by the request.
abbrev pub cut_from : Request → ℕ
cut_from asked = cut_by (work_of asked) (spends asked)

-- ---- where an answer goes.

-- The place of a good answer: the image file of `build`, the file of `--out`, or the output.
abbrev pub place_of : Request → Place
place_of (request.Build c image) = Image image
place_of (request.View lattice class e o) = Out o.out
place_of (request.ViewWithin asked) = Out asked.initial_store.out
place_of (request.EmitC asked) = Out asked.out
place_of (request.Report page) = Out page.out
place_of asked = Out None

-- A text has been put into its place.
abbrev pub Puts : Place → List ℕ → Holding → Holding → Option (List ℕ) → Option (List ℕ) → Type 0
Puts (Image path) text holds left old new = Fills path.now text holds left × Keeps old new
Puts (Out out) text holds left old new = Delivers out text holds left × Appends old new (shown out text)

-- The part of an answer that goes to the output: none of a good one that is put into a file.
abbrev pub out_of : Bool → Place → List ℕ → List ℕ
out_of true (Image path) text = []
out_of true (Out out) text = shown out text
out_of false place text = text

-- A text that couldn't be put into its place has changed at most the image file, or the file beside that of `--out`.
abbrev pub Stays : Place → Holding → Holding → Type 0
Stays (Image path) holds left = KeepsOthers path.now holds left
Stays (Out out) holds left = StaysBeside out holds left
