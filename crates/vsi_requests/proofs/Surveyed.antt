-- The verdicts on source texts, and their counts.
use Rattle.std.proofs.Common.{◌≡◌, ◌<◌, ℕ, ◌+◌, ◌++◌, ◌∷◌, Bool, true, false, List, [], length, take, get_or, refl, subst, sym, arith}
use Rattle.std.proofs.lemmas.List.{take_more}
use Rattle.std.proofs.lemmas.Result.{MatchResult-at_ok}
use Rattle.std.specs.Prelude.{MatchResult, Ok, Result}
use Rattle.std.specs.Borrow.{Bor}
use Rattle.vsi_lattice.specs.LatticeView.{class_named, order}
use Rattle.vsi_lattice.specs.declared.lattice.Lattice.{Lattice}
use Rattle.vsi_image.specs.declared.instr.Image.{Image}
use Rattle.vsi_steady.specs.declared.source.UnsteadyError.{UnsteadyError}
use Rattle.vsi_conform.specs.Conforms.{IsAcceptedAs, IsRefusedAs}
use Rattle.vsi_conform.specs.declared.interface.Judgement.{Judgement}
use Rattle.vsi_project.specs.declared.reader.Program.{Program}
use Rattle.vsi_subject.specs.Holding.{Holding}
use Rattle.vsi_subject.specs.Projects.{IsRight, Judges, RIGHT, WRONG}
use Rattle.vsi_subject.specs.Surveys.{ACCEPTED, HasVerdict, REFUSED, Tally}

-- One thing more, which is good or bad, makes these numbers of others.
pub record IsOneMore (b : Bool) (g w g' w' : ℕ) : Type 0 where
  pub good : b ≡ true → (g' ≡ g + 1) × (w' ≡ w)
  pub bad : b ≡ false → (g' ≡ g) × (w' ≡ w + 1)

-- They are one more in all.
pub all_more : (b : Bool) (g w g' w' i : ℕ) → IsOneMore b g w g' w' → g + w ≡ i → g' + w' ≡ i + 1
all_more true g w g' w' i more all = let is = more.good refl in omega (arith, is.0, is.1, all)
all_more false g w g' w' i more all = let is = more.bad refl in omega (arith, is.0, is.1, all)

-- One more file.
tally_on : (holds : Holding) (j : Judgement) (l : Lattice) (before : List (Bor (List ℕ))) (path : Bor (List ℕ))
    (b : Bool) (a r a' r' : ℕ) → IsOneMore b a r a' r' → Tally holds j l before a r →
    HasVerdict holds j l path.now b → Tally holds j l (before ++ path ∷ []) a' r'
tally_on holds j l before path true a r a' r' more tally verdict =
    let is = more.good refl in
    subst (λ n. Tally holds j l (before ++ path ∷ []) n r') (sym is.0)
    (subst (λ n. Tally holds j l (before ++ path ∷ []) (a + 1) n) (sym is.1)
    (ACCEPTED before path a r tally verdict))
tally_on holds j l before path false a r a' r' more tally verdict =
    let is = more.bad refl in
    subst (λ n. Tally holds j l (before ++ path ∷ []) n r') (sym is.0)
    (subst (λ n. Tally holds j l (before ++ path ∷ []) a n) (sym is.1)
    (REFUSED before path a r tally verdict))

-- The file at this place among these.
pub tally_next : (holds : Holding) (j : Judgement) (l : Lattice) (paths : List (Bor (List ℕ))) (i : ℕ)
    (other : Bor (List ℕ)) (b : Bool) (a r a' r' : ℕ) → i < length paths → IsOneMore b a r a' r' →
    Tally holds j l (take i paths) a r → HasVerdict holds j l (get_or paths i other).now b →
    Tally holds j l (take (i + 1) paths) a' r'
tally_next holds j l paths i other b a r a' r' within more tally verdict =
    subst (λ ps. Tally holds j l ps a' r') (sym (take_more paths i other within))
    (tally_on holds j l (take i paths) (get_or paths i other) b a r a' r' more tally verdict)

-- The next file of these.
pub tally_more : (holds : Holding) (j : Judgement) (l : Lattice) (paths : List (Bor (List ℕ))) (i : ℕ)
    (path : Bor (List ℕ)) (b : Bool) (a r a' r' : ℕ) → i < length paths → path ≡ get_or paths i path →
    IsOneMore b a r a' r' → Tally holds j l (take i paths) a r → HasVerdict holds j l path.now b →
    Tally holds j l (take (i + 1) paths) a' r'
tally_more holds j l paths i path b a r a' r' within is more tally verdict =
    subst (λ ps. Tally holds j l ps a' r') (sym (take_more paths i path within))
    (subst (λ p. Tally holds j l (take i paths ++ p ∷ []) a' r') is
    (tally_on holds j l (take i paths) path b a r a' r' more tally verdict))

-- One more program.
judges_on : (holds : Holding) (budget : ℕ) (before : List Program) (p : Program) (b : Bool) (r w r' w' : ℕ) →
    IsOneMore b r w r' w' → Judges holds budget before r w → (b ≡ true → IsRight holds budget p) →
    Judges holds budget (before ++ p ∷ []) r' w'
judges_on holds budget before p true r w r' w' more judges right =
    let is = more.good refl in
    subst (λ n. Judges holds budget (before ++ p ∷ []) n w') (sym is.0)
    (subst (λ n. Judges holds budget (before ++ p ∷ []) (r + 1) n) (sym is.1)
    (RIGHT before p r w judges (right refl)))
judges_on holds budget before p false r w r' w' more judges right =
    let is = more.bad refl in
    subst (λ n. Judges holds budget (before ++ p ∷ []) n w') (sym is.0)
    (subst (λ n. Judges holds budget (before ++ p ∷ []) r n) (sym is.1) (WRONG before p r w judges))

-- The next program of these.
pub judges_more : (holds : Holding) (budget : ℕ) (programs : List Program) (i : ℕ) (p : Program) (b : Bool)
    (r w r' w' : ℕ) → i < length programs → p ≡ get_or programs i p → IsOneMore b r w r' w' →
    Judges holds budget (take i programs) r w → (b ≡ true → IsRight holds budget p) →
    Judges holds budget (take (i + 1) programs) r' w'
judges_more holds budget programs i p b r w r' w' within is more judges right =
    subst (λ ps. Judges holds budget ps r' w') (sym (take_more programs i p within))
    (subst (λ q. Judges holds budget (take i programs ++ q ∷ []) r' w') is
    (judges_on holds budget (take i programs) p b r w r' w' more judges right))

-- The image of a text that a judgement accepts.
pub image_accepted : (l : Lattice) (j : Judgement) (text : List ℕ) (found : Result Image UnsteadyError)
    (image : Image) → found ≡ Ok image →
    MatchResult found (IsAcceptedAs (class_named l) (order l) j text) (IsRefusedAs (class_named l) (order l) j text) →
    IsAcceptedAs (class_named l) (order l) j text image
image_accepted l j text found image is judged =
    MatchResult-at_ok (IsAcceptedAs (class_named l) (order l) j text) (IsRefusedAs (class_named l) (order l) j text)
    image is judged
