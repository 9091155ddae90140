-- The steps of the search.
use Rattle.std.proofs.Common.{◌≡◌, ℕ, ◌+◌, ◌<◌, inl, inr, List, length, Some, Result, Ok, Err, IfErr, refl, sym, ap, ◌∙◌, subst, arith}
use Rattle.std.specs.Prelude.{IsErrAnd, slice_get}
use Rattle.vsi_image.specs.declared.instr.Instr.{Instr}
use Rattle.vsi_image.specs.declared.instr.Instr.TheVariants.{Jz, Halt}
use Rattle.vsi_image.specs.declared.instr.Image.{Image}
use Rattle.vsi_machine.specs.declared.bound.Cost.{Cost}
use Rattle.vsi_machine.specs.declared.loops.Known.{Known}
use Rattle.vsi_machine.specs.declared.bound.Reason.{Reason}
use Rattle.vsi_machine.specs.declared.bound.Stop.{Stop}
use Rattle.vsi_machine.specs.declared.bound.Stop.TheVariants.{Other, Endless}
use Rattle.vsi_machine.specs.declared.bound.Test.{Test}
use Rattle.vsi_machine.specs.Bound.{IsLoop}
use Rattle.vsi_machine.specs.Facts.{AreSame}
use Rattle.vsi_machine.specs.Loops.{IsEntry, Joined}
use Rattle.vsi_machine.specs.Looping.{Finished}
use Rattle.vsi_machine.specs.Search.{body_of, IsRound, IsChoice, Reaches, Passes, chooses, turns, Stuck, later, Fails, in_first, in_second, in_body, uncounted, changed, StopsAt}
use Rattle.vsi_machine.specs.Stopping.{OnEndless, Unfinished}
use Rattle.vsi_machine.specs.Stretch.{IsTest}
use Rattle.vsi_machine.specs.Transfer.{IsValue}

-- Commands that end at a position under another name.
pub reaches_to : (code : List Instr) (facts left : List Known) (from place to : ℕ) → Reaches code facts from place left
    → place ≡ to → Reaches code facts from to left
reaches_to code facts left from place to r e = subst (λ (n : ℕ). Reaches code facts from n left) e r

-- The same for facts under other names.
pub reaches_as : (code : List Instr) (given facts new left : List Known) (from to : ℕ) → Reaches code given from to new
    → given ≡ facts → new ≡ left → Reaches code facts from to left
reaches_as code given facts new left from to r g n =
    subst (λ (x : List Known). Reaches code x from to left) g
    (subst (λ (x : List Known). Reaches code given from to x) n r)

-- An error that is passed on has the same meaning.
pub passed : {X : Type 0} (r : Result X Stop) (e : Stop) (P : ℕ → Reason → Type 0) → IsErrAnd r (λ y. y ≡ e)
    → OnEndless P e → IfErr r (OnEndless P)
passed (Ok x) e P h m = tt
passed (Err y) e P h m = subst (OnEndless P) (sym h) m

-- A command that isn't passed, after others.
pub stuck_later : (code : List Instr) (facts middle : List Known) (from over to : ℕ) (e : Stop)
    → Reaches code facts from over middle → over < to → OnEndless (Fails code middle over) e
    → OnEndless (Stuck code facts from to) e
stuck_later code facts middle from over to (Other fault) r lt h = tt
stuck_later code facts middle from over to (Endless test reason) r lt h = later over middle r lt h

-- A conditional whose first branch isn't passed.
pub fails_first : (code : List Instr) (facts : List Known) (t : Test) (e : Stop) → IsChoice code facts t
    → OnEndless (Stuck code facts (t.place + 1) t.jump) e → OnEndless (Fails code facts t.start) e
fails_first code facts t (Other fault) c h = tt
fails_first code facts t (Endless test reason) c h = in_first t c refl h

-- A conditional whose second branch isn't passed; the facts before it have another name there.
pub fails_second : (code : List Instr) (facts given one : List Known) (t : Test) (e : Stop) → IsChoice code facts t
    → Reaches code facts (t.place + 1) t.jump one → OnEndless (Stuck code given t.target t.end) e → given ≡ facts
    → OnEndless (Fails code facts t.start) e
fails_second code facts given one t (Other fault) c r h g = tt
fails_second code facts given one t (Endless test reason) c r h g =
    in_second t one c refl r (subst (λ (x : List Known). Stuck code x t.target t.end test reason) g h)

-- A conditional whose branches are passed; the facts of the second one have other names there.
pub passes_choice : (code : List Instr) (facts given one two new left : List Known) (t : Test) → IsChoice code facts t
    → Reaches code facts (t.place + 1) t.jump one → Reaches code given t.target t.end new → Joined one two left
    → given ≡ facts → new ≡ two → Passes code facts t.start t.end left
passes_choice code facts given one two new left t c r q j g n =
    chooses t one two c refl refl r (reaches_as code given facts new two t.target t.end q g n) j

-- A round of a loop, in which the facts at its start have other names.
pub round_as : (code : List Instr) (facts e₀ e₁ entry : List Known) (guard : Known) (t : Test) → IsTest code t
    → t.end ≡ t.start → IsEntry (body_of code t) facts e₀ → IsValue code e₁ t.start t.place guard → e₀ ≡ entry
    → e₁ ≡ entry → IsRound code facts t entry guard
round_as code facts e₀ e₁ entry guard t test back enters value p q = record {
  test = test;
  back = back;
  enters = subst (λ (x : List Known). IsEntry (body_of code t) facts x) p enters;
  value = subst (λ (x : List Known). IsValue code x t.start t.place guard) q value;
}

-- A loop that is finished.
pub passes_turns : (code : List Instr) (facts entry turned left : List Known) (guard : Known) (t : Test) (tested : ℕ)
    (body cost : Cost) → IsRound code facts t entry guard → Reaches code entry (t.place + 1) t.jump turned
    → Finished facts entry guard turned tested body cost left → Passes code facts t.start t.target left
passes_turns code facts entry turned left guard t tested body cost c r f =
    turns t entry turned guard f.slot f.turns f.last c refl refl r f.counter f.keeps f.remain

-- A loop whose body isn't passed.
pub fails_body : (code : List Instr) (facts entry : List Known) (guard : Known) (t : Test) (e : Stop)
    → IsRound code facts t entry guard → OnEndless (Stuck code entry (t.place + 1) t.jump) e
    → OnEndless (Fails code facts t.start) e
fails_body code facts entry guard t (Other fault) c h = tt
fails_body code facts entry guard t (Endless test reason) c h = in_body t entry guard c refl h

-- A loop that isn't finished.
pub fails_here : (code : List Instr) (facts entry turned : List Known) (guard : Known) (t : Test) (e : Stop)
    → IsRound code facts t entry guard → Reaches code entry (t.place + 1) t.jump turned
    → OnEndless (Unfinished facts entry guard turned t.place) e → OnEndless (Fails code facts t.start) e
fails_here code facts entry turned guard t (Other fault) c r h = tt
fails_here code facts entry turned guard t (Endless test reason) c r (inl p) =
    uncounted t entry turned guard c refl p.0 r p.1
fails_here code facts entry turned guard t (Endless test reason) c r (inr p) =
    changed t entry turned guard p.slot p.turns p.last c refl p.changed.0 r p.counter p.changed.2 p.changed.1

-- The test of a round is that of a loop.
round_loop : (code : List Instr) (facts entry : List Known) (guard : Known) (t : Test) (test : ℕ)
    → IsRound code facts t entry guard → t.place ≡ test → IsLoop code test
round_loop code facts entry guard t test r e = record {
  target = t.target;
  jump = t.jump;
  start = t.end;
  tests = subst (λ (n : ℕ). slice_get code n ≡ Some (Jz t.target)) e r.test.tests;
  jumps = r.test.jumps;
  next = r.test.next;
  back = omega (arith, e, r.back, r.test.order);
}

mutual
  -- The search stops at a loop.
  pub stuck_loop : {code : List Instr} {facts : List Known} {from to test : ℕ} {reason : Reason}
      → Stuck code facts from to test reason → IsLoop code test
  stuck_loop (later over middle r lt f) = fails_loop f

  -- A command that isn't passed has the loop.
  pub fails_loop : {code : List Instr} {facts : List Known} {from test : ℕ} {reason : Reason}
      → Fails code facts from test reason → IsLoop code test
  fails_loop (in_first t c e s) = stuck_loop s
  fails_loop (in_second t one c e r s) = stuck_loop s
  fails_loop (in_body t entry guard c e s) = stuck_loop s
  fails_loop {code} {facts} {from} {test} (uncounted t entry turned guard c e p r n) =
      round_loop code facts entry guard t test c p
  fails_loop {code} {facts} {from} {test} (changed t entry turned guard slot count last c e p r n k i) =
      round_loop code facts entry guard t test c p

-- The search stops between the start of an image and its end, by facts under another name.
pub stops_at : (image : Image) (code : List Instr) (facts given : List Known) (halt : ℕ) (e : Stop)
    → AreSame image.slots facts → slice_get code halt ≡ Some Halt → halt + 1 ≡ length code
    → OnEndless (Stuck code given 0 halt) e → code ≡ image.code.items → given ≡ facts → OnEndless (StopsAt image) e
stops_at image code facts given halt (Other fault) same is last h p g = tt
stops_at image code facts given halt (Endless test reason) same is last h p g = record {
  facts = facts;
  halt = halt;
  begins = same;
  halts = subst (λ (x : List Instr). slice_get x halt ≡ Some Halt) p is;
  last = last ∙ ap length p;
  stuck = subst (λ (x : List Instr). Stuck x facts 0 halt test reason) p
      (subst (λ (x : List Known). Stuck code x 0 halt test reason) g h);
}

-- The answer that names a loop, for an image under another name.
pub answers_stop : (image held : Image) (e : Stop) (test : ℕ) (reason : Reason) → held ≡ image
    → e ≡ Endless test reason → OnEndless (StopsAt held) e
    → IsLoop image.code.items test × StopsAt image test reason
answers_stop image held e test reason same is h =
    let s = subst (λ (x : Image). StopsAt x test reason) same (subst (OnEndless (StopsAt held)) is h) in
    (stuck_loop s.stuck, s)
