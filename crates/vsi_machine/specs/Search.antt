-- The search for a bound: the facts that it has at each position of a code, and the loop that it can't count.
use Rattle.std.specs.Prelude.{◌≡◌, ◌≢◌, ℕ, ◌+◌, ◌<◌, ℤ, List, length, slice_get, slice_range, Some}
use Rattle.vsi_image.specs.declared.instr.Instr.{Instr}
use Rattle.vsi_image.specs.declared.instr.Instr.TheVariants.{Store, Halt}
use Rattle.vsi_image.specs.declared.instr.Image.{Image}
use Rattle.vsi_machine.specs.declared.loops.Known.{Known}
use Rattle.vsi_machine.specs.declared.bound.Reason.{Reason}
use Rattle.vsi_machine.specs.declared.bound.Reason.TheVariants.{Step}
use Rattle.vsi_machine.specs.declared.bound.Test.{Test}
use Rattle.vsi_machine.specs.Facts.{AreSame}
use Rattle.vsi_machine.specs.Loops.{IsEntry, Keeps, Remain, Joined}
use Rattle.vsi_machine.specs.Looping.{IsCounter}
use Rattle.vsi_machine.specs.Reasons.{HasNoCounter}
use Rattle.vsi_machine.specs.Stretch.{IsTest, Stores}
use Rattle.vsi_machine.specs.Transfer.{IsValue}

-- The instructions of the body of a loop with this test.
abbrev pub body_of : List Instr → Test → List Instr
body_of code t = slice_range code (t.place + 1) t.jump

-- The test of a conditional, whose guard has a value.
pub record IsChoice (code : List Instr) (facts : List Known) (t : Test) : Type 0 where
  pub test : IsTest code t
  pub value : Known
  pub guard : IsValue code facts t.start t.place value
  pub ahead : t.end ≢ t.start

-- The test of a loop, the facts at the start of each turn, and that about the guard.
pub record IsRound (code : List Instr) (facts : List Known) (t : Test) (entry : List Known) (guard : Known)
    : Type 0 where
  pub test : IsTest code t
  pub back : t.end ≡ t.start
  pub enters : IsEntry (body_of code t) facts entry
  pub value : IsValue code entry t.start t.place guard

mutual
  -- Commands lead from these facts at a position to those at another.
  pub data Reaches (code : List Instr) : List Known → ℕ → ℕ → List Known → Type 0 where
    stays : {facts : List Known} {from : ℕ} → Reaches code facts from from facts
    goes_on : {facts middle left : List Known} {from over to : ℕ} → Reaches code facts from over middle
        → Passes code middle over to left → Reaches code facts from to left

  -- A command does: an assignment, a conditional, or a loop that counts and whose turns keep the numbers.
  pub data Passes (code : List Instr) : List Known → ℕ → ℕ → List Known → Type 0 where
    assigns : {facts left : List Known} {from to : ℕ} (place slot : ℕ) (value : Known)
        → IsValue code facts from place value → slice_get code place ≡ Some (Store slot)
        → Stores slot value facts left → place + 1 ≡ to → Passes code facts from to left
    chooses : {facts left : List Known} {from to : ℕ} (t : Test) (one two : List Known) → IsChoice code facts t
        → t.start ≡ from → t.end ≡ to → Reaches code facts (t.place + 1) t.jump one
        → Reaches code facts t.target t.end two → Joined one two left → Passes code facts from to left
    turns : {facts left : List Known} {from to : ℕ} (t : Test) (entry turned : List Known) (guard : Known)
        (slot count : ℕ) (last : ℤ) → IsRound code facts t entry guard → t.start ≡ from → t.target ≡ to
        → Reaches code entry (t.place + 1) t.jump turned → IsCounter facts guard turned slot count last
        → Keeps entry turned → Remain facts entry turned slot last left → Passes code facts from to left

mutual
  -- From these facts the commands between two positions don't get past the loop with this test, for this reason.
  pub data Stuck (code : List Instr) : List Known → ℕ → ℕ → ℕ → Reason → Type 0 where
    later : {facts : List Known} {from to test : ℕ} {reason : Reason} (over : ℕ) (middle : List Known)
        → Reaches code facts from over middle → over < to → Fails code middle over test reason
        → Stuck code facts from to test reason

  -- The command at a position doesn't: a branch, the body of a loop, or the loop itself.
  pub data Fails (code : List Instr) : List Known → ℕ → ℕ → Reason → Type 0 where
    in_first : {facts : List Known} {from test : ℕ} {reason : Reason} (t : Test) → IsChoice code facts t
        → t.start ≡ from → Stuck code facts (t.place + 1) t.jump test reason → Fails code facts from test reason
    in_second : {facts : List Known} {from test : ℕ} {reason : Reason} (t : Test) (one : List Known)
        → IsChoice code facts t → t.start ≡ from → Reaches code facts (t.place + 1) t.jump one
        → Stuck code facts t.target t.end test reason → Fails code facts from test reason
    in_body : {facts : List Known} {from test : ℕ} {reason : Reason} (t : Test) (entry : List Known) (guard : Known)
        → IsRound code facts t entry guard → t.start ≡ from → Stuck code entry (t.place + 1) t.jump test reason
        → Fails code facts from test reason
    uncounted : {facts : List Known} {from test : ℕ} {reason : Reason} (t : Test) (entry turned : List Known)
        (guard : Known) → IsRound code facts t entry guard → t.start ≡ from → t.place ≡ test
        → Reaches code entry (t.place + 1) t.jump turned → HasNoCounter reason facts guard turned
        → Fails code facts from test reason
    changed : {facts : List Known} {from test : ℕ} {reason : Reason} (t : Test) (entry turned : List Known)
        (guard : Known) (slot count : ℕ) (last : ℤ) → IsRound code facts t entry guard → t.start ≡ from
        → t.place ≡ test → Reaches code entry (t.place + 1) t.jump turned
        → IsCounter facts guard turned slot count last → (Keeps entry turned → ⊥) → reason ≡ Step
        → Fails code facts from test reason

-- From the start of an image, where each slot has its own word, the search doesn't get past the loop with this test.
pub record StopsAt (image : Image) (test : ℕ) (reason : Reason) : Type 0 where
  pub facts : List Known
  pub halt : ℕ
  pub begins : AreSame image.slots facts
  pub halts : slice_get image.code.items halt ≡ Some Halt
  pub last : halt + 1 ≡ length image.code.items
  pub stuck : Stuck image.code.items facts 0 halt test reason
