use Rattle.std.proofs.Common.{◌≡◌, Bool, refl}
use Rattle.std.specs.Prelude.{◌≢◌}
use Rattle.vsi_arguments.specs.declared.request.Compilation.{Compilation}
use Rattle.vsi_arguments.specs.declared.request.Driving.{Driving}
use Rattle.vsi_arguments.specs.declared.request.Execution.{Execution}
use Rattle.vsi_arguments.specs.declared.request.InitialStore.{InitialStore}
use Rattle.vsi_arguments.specs.declared.request.Layout.{Layout}
use Rattle.vsi_arguments.specs.declared.request.Request.{Request}
use Rattle.vsi_arguments.specs.declared.request.Request.TheVariants as request
use Rattle.vsi_arguments.specs.declared.request.Serving.{Serving}
use Rattle.vsi_subject.specs.Works.{Replies, work_of}
use Rattle.vsi_subject.proofs.Filled.{alone}
use Rattle.vsi_subject.proofs.Partly.{any_failure, cut_leaves}
use Rattle.vsi.proofs.requests.perform.Goals as goal

-- A request that doesn't write while it works answers.
answered : (asked : Request) → ((c : Compilation) (has_walks : Bool) → asked ≢ request.Flows c has_walks) →
    ((e : Execution) (o : InitialStore) (has_trace has_count : Bool) → asked ≢ request.Run e o has_trace has_count) →
    ((d : Driving) → asked ≢ request.Drive d) → ((l : Layout) → asked ≢ request.Layout l) →
    ((s : Serving) → asked ≢ request.Lsp s) → work_of asked ≡ Replies
answered (request.Try attempt) f r d l s = refl
answered (request.Check asked) f r d l s = refl
answered (request.Survey asked) f r d l s = refl
answered (request.Project asked) f r d l s = refl
answered (request.New folder) f r d l s = refl
answered (request.Document asked) f r d l s = refl
answered (request.Conform asked) f r d l s = refl
answered (request.Classes c) f r d l s = refl
answered (request.Flows c has_walks) f r d l s = absurd (f c has_walks refl)
answered (request.Mend asked) f r d l s = refl
answered (request.Build c image) f r d l s = refl
answered (request.List image) f r d l s = refl
answered (request.Audit asked) f r d l s = refl
answered (request.Source image) f r d l s = refl
answered (request.EmitC asked) f r d l s = refl
answered (request.Bound asked) f r d l s = refl
answered (request.Run e o has_trace has_count) f r d l s = absurd (r e o has_trace has_count refl)
answered (request.View lattice class e o) f r d l s = refl
answered (request.ViewWithin asked) f r d l s = refl
answered (request.Drive driving) f r d l s = absurd (d driving refl)
answered (request.Compare comparison) f r d l s = refl
answered (request.CompareSteps comparison is_json) f r d l s = refl
answered (request.Steps stepping is_json) f r d l s = refl
answered (request.Monitor stepping rule is_json) f r d l s = refl
answered (request.Leak search) f r d l s = refl
answered (request.Report c) f r d l s = refl
answered (request.Draw drawing) f r d l s = refl
answered (request.Policy looking) f r d l s = refl
answered (request.Visible asked) f r d l s = refl
answered (request.Format source) f r d l s = refl
answered (request.Layout layout) f r d l s = absurd (l layout refl)
answered (request.Lattice arguments) f r d l s = refl
answered (request.Lsp serving) f r d l s = absurd (s serving refl)
answered (request.Explain page) f r d l s = refl

-- ---- what has been done.

pub returns-in-Flows-clause-performed : goal.returns-in-Flows-clause-performed
returns-in-Flows-clause-performed g c = rw c.in-Flows.is
    (alone _ c.put_flows.result _ c.put_flows.ensures.performed)

pub returns-in-Run-clause-performed : goal.returns-in-Run-clause-performed
returns-in-Run-clause-performed g c = rw c.in-Run.is c.run.ensures.performed

pub returns-in-Drive-clause-performed : goal.returns-in-Drive-clause-performed
returns-in-Drive-clause-performed g c = rw c.in-Drive.is c.drive.ensures.performed

pub returns-in-Layout-clause-performed : goal.returns-in-Layout-clause-performed
returns-in-Layout-clause-performed g c = rw c.in-Layout.is c.lay_out.ensures.performed

pub returns-in-Lsp-clause-performed : goal.returns-in-Lsp-clause-performed
returns-in-Lsp-clause-performed g c = rw c.in-Lsp.is
    (alone _ c.serve.result _ c.serve.ensures.served)

pub returns-in_default-clause-performed : goal.returns-in_default-clause-performed
returns-in_default-clause-performed g c =
    let n = c.in_default in
    let replies = answered c.args.request n.not-Flows n.not-Run n.not-Drive n.not-Layout n.not-Lsp in
    rw replies c.put_answer.ensures.performed

-- ---- what is left of the output.

pub returns-in-Flows-clause-left : goal.returns-in-Flows-clause-left
returns-in-Flows-clause-left g c = rw c.in-Flows.is c.put_flows.ensures.left

pub returns-in-Run-clause-left : goal.returns-in-Run-clause-left
returns-in-Run-clause-left g c = rw c.in-Run.is c.run.ensures.left

pub returns-in-Drive-clause-left : goal.returns-in-Drive-clause-left
returns-in-Drive-clause-left g c = rw c.in-Drive.is c.drive.ensures.left

pub returns-in-Layout-clause-left : goal.returns-in-Layout-clause-left
returns-in-Layout-clause-left g c = rw c.in-Layout.is c.lay_out.ensures.left

pub returns-in-Lsp-clause-left : goal.returns-in-Lsp-clause-left
returns-in-Lsp-clause-left g c = rw c.in-Lsp.is
    (cut_leaves _ _ _ c.serve.result c.serve.ensures.cut)

pub returns-in_default-clause-left : goal.returns-in_default-clause-left
returns-in_default-clause-left g c =
    let n = c.in_default in
    let replies = answered c.args.request n.not-Flows n.not-Run n.not-Drive n.not-Layout n.not-Lsp in
    rw replies c.put_answer.ensures.left

-- ---- what is left of the files.

pub returns-in-Flows-clause-state : goal.returns-in-Flows-clause-state
returns-in-Flows-clause-state g c = rw c.in-Flows.is (any_failure _ _ refl)

pub returns-in-Run-clause-state : goal.returns-in-Run-clause-state
returns-in-Run-clause-state g c = rw c.in-Run.is c.run.ensures.state

pub returns-in-Drive-clause-state : goal.returns-in-Drive-clause-state
returns-in-Drive-clause-state g c = rw c.in-Drive.is c.drive.ensures.state

pub returns-in-Layout-clause-state : goal.returns-in-Layout-clause-state
returns-in-Layout-clause-state g c = rw c.in-Layout.is c.lay_out.ensures.state

pub returns-in-Lsp-clause-state : goal.returns-in-Lsp-clause-state
returns-in-Lsp-clause-state g c = rw c.in-Lsp.is (any_failure _ _ refl)

pub returns-in_default-clause-state : goal.returns-in_default-clause-state
returns-in_default-clause-state g c =
    let n = c.in_default in
    let replies = answered c.args.request n.not-Flows n.not-Run n.not-Drive n.not-Layout n.not-Lsp in
    rw replies c.put_answer.ensures.state

-- ---- why it has failed.

pub returns-in-Flows-clause-failed : goal.returns-in-Flows-clause-failed
returns-in-Flows-clause-failed g c = rw c.in-Flows.is c.put_flows.ensures.failed

pub returns-in-Run-clause-failed : goal.returns-in-Run-clause-failed
returns-in-Run-clause-failed g c = rw c.in-Run.is c.run.ensures.failed

pub returns-in-Drive-clause-failed : goal.returns-in-Drive-clause-failed
returns-in-Drive-clause-failed g c = rw c.in-Drive.is c.drive.ensures.failed

pub returns-in-Layout-clause-failed : goal.returns-in-Layout-clause-failed
returns-in-Layout-clause-failed g c = rw c.in-Layout.is c.lay_out.ensures.failed

pub returns-in-Lsp-clause-failed : goal.returns-in-Lsp-clause-failed
returns-in-Lsp-clause-failed g c = rw c.in-Lsp.is c.serve.ensures.failed

pub returns-in_default-clause-failed : goal.returns-in_default-clause-failed
returns-in_default-clause-failed g c =
    let n = c.in_default in
    let replies = answered c.args.request n.not-Flows n.not-Run n.not-Drive n.not-Layout n.not-Lsp in
    rw replies c.put_answer.ensures.failed

-- ---- what is noted.

pub returns-in-Run-clause-noted : goal.returns-in-Run-clause-noted
returns-in-Run-clause-noted g c = rw c.in-Run.is (c.run.ensures.counted c.requires.unnoted)

pub returns-in-Drive-clause-noted : goal.returns-in-Drive-clause-noted
returns-in-Drive-clause-noted g c = rw c.in-Drive.is
    (c.drive.ensures.noted c.requires.unnoted, c.drive.ensures.hushed c.requires.unnoted)

pub returns-in_default-clause-noted : goal.returns-in_default-clause-noted
returns-in_default-clause-noted g c = c.put_answer.ensures.noted c.requires.unnoted
