-- Runs of a source text in steps.
use Rattle.std.proofs.Common.{◌≡◌, ◌∙◌, ◌++◌, ◌+◌, ℕ, ℤ, Bool, List, All, Result, Err, inl, inr, length, ap, sym, refl, subst, ◌∷◌, ◌<◌, [], Ok, Option, map}
use Rattle.std.specs.Prelude.{◌≢◌, IfErr, Some, IfOk, IfSome, true, false}
use Rattle.std.specs.Borrow.{Bor}
use Rattle.std.proofs.lemmas.List.{length-append, length-map, get_or-map, map-append, take_more}
use Rattle.std.proofs.lemmas.List.Elements.{All-append}
use Rattle.std.proofs.lemmas.Slice.Zip.{AllZip-long}
use Rattle.std.specs.Global.{Vec}
use Rattle.std.specs.List.{AllZip}
use Rattle.std.proofs.Math.ListN.{get_or, take}
use Rattle.vsi_scope.specs.declared.resolved.Entry.{Entry}
use Rattle.vsi_lattice.specs.LatticeView.{class_named, order}
use Rattle.vsi_lattice.specs.Order as classes
use Rattle.vsi_lattice.specs.declared.lattice.Lattice.{Lattice}
use Rattle.vsi_scope.specs.Language.{letvars}
use Rattle.vsi_scope.specs.Program.{Resolved}
use Rattle.vsi_scope.specs.Resolving.{global_of, shown}
use Rattle.vsi_scope.specs.View.{sequence}
use Rattle.vsi_types.specs.declared.rules.Profile.{Profile}
use Rattle.vsi_types.specs.declared.rules.Profile.TheVariants.{Base}
use Rattle.vsi_types.specs.Typing.{Locations}
use Rattle.vsi_types.specs.Security.{IsTypable, IsWellFormed, Keeps, Program, program, IsChoice}
use Rattle.vsi_types.proofs.Walking.{bad_walks_refute}
use Rattle.vsi_infer.specs.Inference.{Refuses, AreClasses}
use Rattle.vsi_infer.specs.declared.inference.InferError.TheVariants as infer
use Rattle.vsi_infer.specs.declared.walk.Walk.{Walk}
use Rattle.vsi_image.specs.declared.instr.Image.{Image}
use Rattle.vsi_image.specs.Fields.{Global, global, globals}
use Rattle.vsi_compiler.specs.Headline.{HasGlobals, declared_global}
use Rattle.vsi_compiler.specs.SourceView.{IsSource, Source}
use Rattle.vsi_compiler.proofs.Compiled.{lawful}
use Rattle.vsi_compiler.proofs.Held.{ready}
use Rattle.vsi_steps.specs.declared.labels.Rule.{Rule}
use Rattle.vsi_steps.specs.declared.watch.Stop.{Stop}
use Rattle.vsi_steps.specs.declared.watch.Unfinished.{Unfinished}
use Rattle.vsi_steps.specs.declared.watch.Unfinished.TheVariants as ends
use Rattle.vsi_steps.specs.declared.watch.Watched.{Watched}
use Rattle.vsi_steps.specs.Watched.{RunEnds}
use Rattle.vsi_store.specs.Compare.{agree_in}
use Rattle.vsi_steps.specs.declared.run.Trace.{Trace}
use Rattle.vsi_steps.specs.Traced.{IsTraced}
use Rattle.vsi_answers.specs.Answers.{Because}
use Rattle.vsi_answers.specs.Judged.{IsProgramFault, IsStoreFault, TellsFault, TellsSource}
use Rattle.vsi_answers.specs.declared.unanswered.Unanswered.{Unanswered}
use Rattle.vsi_arguments.specs.declared.request.StepComparison.{StepComparison}
use Rattle.vsi_arguments.specs.declared.request.Stepping.{Stepping}
use Rattle.vsi_subject.specs.declared.failure.Failure.{Failure}
use Rattle.vsi_subject.specs.Files.{IsStoredAt, LooksAt}
use Rattle.vsi_subject.specs.Holding.{Holding, IsReadAt, IsStoreAt}
use Rattle.vsi_subject.specs.Refusals.{FailsBy, NoOther}
use Rattle.vsi_subject.specs.Stepping.{AreStepFiles, AreStepsCompared, AreWritten, Compared, ComparesSteps, EndsMonitored, EndsTraced, EndsWatched, IsMonitored, IsStarted, IsStepped, IsStopped, IsTable, OfStepFiles, IsChosen}
use Rattle.vsi_subject.specs.Unstepped.{RefusesStepStore, RefusesWords, Spends, SpendsCompared, WhySteps}
use Rattle.vsi_subject.proofs.Reasons.{fails_by}

-- The image of a source has as many globals as its program.
pub same_count : (s : Source) (im : Image) → IsSource s → HasGlobals s.text im →
    length im.globals.items ≡ length s.resolved.globals
same_count s im is has =
    let tree = is.stands.tree in
    sym (length-map im.globals.items global) ∙ ap length (has tree is.stands.reads)
    ∙ length-map tree.globals declared_global ∙ sym (length-map tree.globals (global_of (class_named s.lattice)))
    ∙ ap length (sym is.stands.resolves.globals) ∙ length-map s.resolved.globals shown

-- A program with a bad walk isn't typable.
pub untypable : (s : Source) → IsSource s → (w : Walk) →
    Refuses (order s.lattice) Base (program s.resolved) (infer.Refused w) → (choice : List ℕ) →
    IsTypable (order s.lattice) Base (program s.resolved) choice → ⊥
untypable s is w refused choice typable =
    bad_walks_refute (order s.lattice) Base (program s.resolved) w.steps.items choice (lawful s.lattice) (ready s is)
    refused.0 typable

-- The declared class of one of the letvars is a class of the lattice.
pub entry_class : (L : classes.Lattice) (ls items : List Entry) (i : ℕ) (e : Entry) →
    AreClasses L (map (λ x. x.class) ls) → items ≡ ls → i < length items → e ≡ get_or items i e →
    IfSome e.class (classes.IsClass L)
entry_class L ls items i e all same within is =
    let each = subst (λ xs. AreClasses L (map (λ x. x.class) xs)) (sym same) all in
    subst (λ d. IfSome d (classes.IsClass L))
    (get_or-map (λ (x : Entry). x.class) items i e e.class within ∙ ap (λ (x : Entry). x.class) (sym is))
    (each i e.class (subst (λ n. i < n) (sym (length-map items (λ (x : Entry). x.class))) within))

-- A choice that keeps the declared classes, with one more class, keeps one more.
zip_push : (ds : List (Option ℕ)) (cs : List ℕ) (d : Option ℕ) (c : ℕ) → AllZip Keeps ds cs → Keeps d c →
    AllZip Keeps (ds ++ d ∷ []) (cs ++ c ∷ [])
zip_push [] [] d c all one = (one, tt)
zip_push [] (x ∷ cs) d c all one = absurd all
zip_push (x ∷ ds) [] d c all one = absurd all
zip_push (x ∷ ds) (y ∷ cs) d c all one = (all.0, zip_push ds cs d c all.1 one)

-- The same for one letvar more.
pub kept_more : (items : List Entry) (i : ℕ) (e : Entry) (cs new : List ℕ) (c : ℕ) → i < length items →
    e ≡ get_or items i e → AllZip Keeps (map (λ x. x.class) (take i items)) cs → Keeps e.class c →
    new ≡ cs ++ c ∷ [] → AllZip Keeps (map (λ x. x.class) (take (i + 1) items)) new
kept_more items i e cs new c within is all one pushed =
    subst (λ ds. AllZip Keeps ds new)
    (sym (ap (map (λ (x : Entry). x.class)) (take_more items i e within)
    ∙ map-append (λ (x : Entry). x.class) (take i items) (get_or items i e ∷ [])
    ∙ ap (λ (x : Entry). map (λ (y : Entry). y.class) (take i items) ++ x.class ∷ []) (sym is)))
    (subst (λ xs. AllZip Keeps (map (λ x. x.class) (take i items) ++ e.class ∷ []) xs) (sym pushed)
    (zip_push (map (λ x. x.class) (take i items)) cs e.class c all one))

-- A choice that keeps the declared classes of a program with a bad walk is as good as any.
pub refused_choice : {E : Type 0} (s : Source) (l : Lattice) (r : Resolved) (result : Result (Vec ℕ) E) → IsSource s →
    l ≡ s.lattice → r ≡ s.resolved → (w : Walk) → Refuses (order l) Base (program r) (infer.Refused w) →
    IfOk result (λ c. IsChoice (program r) c.items) → IfOk result (λ c. All (classes.IsClass (order l)) c.items) →
    IfOk result (λ c. IsChosen (order s.lattice) (program s.resolved) c.items)
refused_choice s l r (Err e) is here there w refused kept all = tt
refused_choice s l r (Ok c) is here there w refused kept all = record {
  kept = subst (λ p. IsChoice (program p) c.items) there kept;
  classes = subst (λ m. All (classes.IsClass (order m)) c.items) here all;
  least = λ choice typable. absurd (untypable s is w
      (subst (λ m. Refuses (order m) Base (program s.resolved) (infer.Refused w)) here
      (subst (λ p. Refuses (order l) Base (program p) (infer.Refused w)) there refused))
      choice typable);
}

-- Each class of a table is one of the lattice.
pub table_classes : (L : classes.Lattice) (p : Program) (table : List ℕ) → IsWellFormed L p → IsTable L p table →
    All (classes.IsClass L) table
table_classes L p table well is =
    subst (All (classes.IsClass L)) (sym is.is)
    (All-append (classes.IsClass L) p.globals is.choice well.classes is.chosen.classes)

-- A table has a class for each declaration.
pub table_length : (L : classes.Lattice) (r : Resolved) (table : List ℕ) → IsWellFormed L (program r) →
    IsTable L (program r) table → length table ≡ length r.globals + letvars (sequence r.body)
table_length L r table well is =
    ap length is.is ∙ length-append (program r).globals is.choice
    ∙ ap (λ n. n + length is.choice) (length-map r.globals (λ g. g.class))
    ∙ ap (λ n. length r.globals + n) (AllZip-long Keeps (program r).declared is.choice is.chosen.kept ∙ well.entries)

-- A run that is stopped was never one that isn't.
pub unstopped : (answer : Result Watched Unfinished) (x : Stop) → answer ≡ Err (ends.Stopped x) →
    IfErr answer (λ e. (y : Stop) → e ≢ ends.Stopped y) → ⊥
unstopped answer x is told = subst (λ r. IfErr r (λ e. (y : Stop) → e ≢ ends.Stopped y)) is told x refl

-- ---- the monitored run of a program with its table of classes.

module _ (s : Source) (l : Lattice) (r : Resolved) (table seen : List ℕ) (under : l ≡ s.lattice) (of : r ≡ s.resolved)
    (told : seen ≡ table) (kept : IsSource s) (is : IsTable (order s.lattice) (program s.resolved) table) where
  -- Each class of the table is one of the lattice.
  pub seen_classes : All (classes.IsClass (order l)) seen
  seen_classes =
      subst (λ m. All (classes.IsClass (order m)) seen) (sym under)
      (subst (All (classes.IsClass (order s.lattice))) (sym told)
      (table_classes (order s.lattice) (program s.resolved) table (ready s kept) is))

  -- The table has a class for each declaration.
  pub seen_length : length seen ≡ length r.globals + letvars (sequence r.body)
  seen_length =
      subst (λ p. length seen ≡ length p.globals + letvars (sequence p.body)) (sym of)
      (ap length told ∙ table_length (order s.lattice) s.resolved table (ready s kept) is)

  -- The run ends as it does under the lattice and the table of the source.
  ends_so : (R : Rule) (words : List ℤ) (answer : Result Watched Unfinished) → RunEnds R (order l) seen r words answer →
      RunEnds R (order s.lattice) table s.resolved words answer
  ends_so R words answer ends =
      subst (λ t. RunEnds R (order s.lattice) t s.resolved words answer) told
      (subst (λ m. RunEnds R (order m) seen s.resolved words answer) under
      (subst (λ p. RunEnds R (order l) seen p words answer) of ends))

  -- A run that ends is one of the program's.
  ends_watched : (R : Rule) (words : List ℤ) (answer : Result Watched Unfinished) (w : Watched) → answer ≡ Ok w →
      RunEnds R (order l) seen r words answer → EndsWatched R (order s.lattice) s.resolved words
  ends_watched R words answer w so ends = record {
    table = table;
    is = is;
    last = w;
    ends = subst (RunEnds R (order s.lattice) table s.resolved words) so (ends_so R words answer ends);
  }

  -- So is one that is stopped, and then no choice of classes is typable.
  is_stopped : (R : Rule) (words : List ℤ) (answer : Result Watched Unfinished) (x : Stop) →
      answer ≡ Err (ends.Stopped x) → RunEnds R (order l) seen r words answer →
      ((P : Profile) (t : Locations) → seen ≡ (program r).globals ++ t → IsTypable (order l) P (program r) t →
      IfErr answer (λ e. (y : Stop) → e ≢ ends.Stopped y)) → IsStopped R (order s.lattice) s.resolved words
  is_stopped R words answer x so ended passes = record {
    table = table;
    is = is;
    stop = x;
    ends = subst (RunEnds R (order s.lattice) table s.resolved words) so (ends_so R words answer ended);
    refused = λ choice typable. unstopped answer x so
        (passes Base is.choice (told ∙ is.is ∙ ap (λ p. (program p).globals ++ is.choice) (sym of))
        (subst (λ m. IsTypable (order m) Base (program r) is.choice) (sym under)
        (subst (λ p. IsTypable (order s.lattice) Base (program p) is.choice) (sym of)
        (is.chosen.least choice typable).0)));
  }

  -- So is one of which an answer says whether it ends or is stopped.
  pub monitors : (R : Rule) (words : List ℤ) (answer : Result Watched Unfinished) (good : Bool) →
      RunEnds R (order l) seen r words answer →
      ((P : Profile) (t : Locations) → seen ≡ (program r).globals ++ t → IsTypable (order l) P (program r) t →
      IfErr answer (λ e. (y : Stop) → e ≢ ends.Stopped y)) → (good ≡ true → (w : Watched) × (answer ≡ Ok w)) →
      (good ≡ false → (x : Stop) × (answer ≡ Err (ends.Stopped x))) →
      EndsMonitored R good (order s.lattice) s.resolved words
  monitors R words answer true ended passes so stops =
      let last = so refl in ends_watched R words answer last.0 last.1 ended
  monitors R words answer false ended passes so stops =
      let stop = stops refl in is_stopped R words answer stop.0 stop.1 ended passes

-- Two facts about an answer give a third one.
pub both_ok : {A E : Type 0} (told : Result A E) (P Q S : A → Type 0) → ((a : A) → P a → Q a → S a) → IfOk told P →
    IfOk told Q → IfOk told S
both_ok (Ok a) P Q S f p q = f a p q
both_ok (Err e) P Q S f p q = tt

-- The comparison of two runs of a program is that of the source's program under its lattice.
pub compared : (l m : Lattice) (r p : Resolved) (class : ℕ) (gs hs : List Global) (first second ones others : List ℤ)
    (budget : ℕ) (one other : Trace) (same : Bool) → m ≡ l → p ≡ r → hs ≡ gs → ones ≡ one.words.items →
    others ≡ other.words.items → IsTraced p first budget one → IsTraced p second budget other → one.halted ≡ true →
    other.halted ≡ true → same ≡ agree_in (class_named m) (order m) class hs ones others →
    Compared l class r gs first second budget same
compared l m r p class gs hs first second ones others budget one other same under of among is so t u e f seen = record {
  one = one;
  other = other;
  traced_first = subst (λ x. IsTraced x first budget one) of t;
  traced_second = subst (λ x. IsTraced x second budget other) of u;
  halted_first = e;
  halted_second = f;
  seen = seen ∙ ap (λ x. agree_in (class_named x) (order x) class hs ones others) under
      ∙ ap (λ g. agree_in (class_named l) (order l) class g ones others) among
      ∙ ap (λ ws. agree_in (class_named l) (order l) class gs ws others) is
      ∙ ap (agree_in (class_named l) (order l) class gs one.words.items) so;
}

-- ---- from the files to the answer.

module _ (holds : Holding) (s : Stepping) (l : Lattice) (text file : List ℕ) (files : AreStepFiles holds s l text file)
    (source : Source) (given told : List ℕ) (under : source.lattice ≡ l) (of : source.text ≡ given)
    (same : given ≡ text) (stored : told ≡ file) where
  -- The words of the run are those that the files give.
  started : (words : List ℤ) → IsStarted s source.lattice source.text told source.resolved words →
      IsStarted s l text file source.resolved words
  started words is =
      subst (λ f. IsStarted s l text f source.resolved words) stored
      (subst (λ t. IsStarted s l t told source.resolved words) (of ∙ same)
      (subst (λ m. IsStarted s m source.text told source.resolved words) under is))

  -- The steps of the program are those of the files.
  pub stepped : (words ws : List ℤ) (ended : Bool) → IsStarted s source.lattice source.text told source.resolved words →
      ws ≡ words → EndsTraced source.resolved ws s.budget ended → OfStepFiles holds s (IsStepped s ended)
  stepped words ws ended starts are ends = record {
    lattice = l;
    text = text;
    file = file;
    files = files;
    is = record {
      program = source.resolved;
      words = words;
      started = started words starts;
      ends = subst (λ w. EndsTraced source.resolved w s.budget ended) are ends;
    };
  }

  -- The monitored run of the program is that of the files.
  pub watched : (R : Rule) (words ws : List ℤ) (ended : Bool) → IsStarted s source.lattice source.text told source.resolved words →
      ws ≡ words → EndsMonitored R ended (order source.lattice) source.resolved ws →
      OfStepFiles holds s (IsMonitored s R ended)
  watched R words ws ended starts are ends = record {
    lattice = l;
    text = text;
    file = file;
    files = files;
    is = record {
      program = source.resolved;
      words = words;
      started = started words starts;
      ends = subst (λ m. EndsMonitored R ended (order m) source.resolved words) under
          (subst (λ w. EndsMonitored R ended (order source.lattice) source.resolved w) are ends);
    };
  }

  -- Words that are refused are why the run has no steps.
  pub refuses_words : (so : Unanswered → Type 0) → ((reason : Unanswered) → WhySteps holds s reason → so reason) →
      (failure : Failure) → FailsBy (RefusesWords s source.lattice source.text told) NoOther failure →
      FailsBy so NoOther failure
  refuses_words so f failure is =
      fails_by (RefusesWords s source.lattice source.text told) so NoOther
      (λ reason why. f reason (inr (record {
        lattice = l;
        text = text;
        file = file;
        files = files;
        is = inr (subst (λ g. RefusesWords s l text g reason) stored
            (subst (λ t. RefusesWords s l t told reason) (of ∙ same)
            (subst (λ m. RefusesWords s m source.text told reason) under why)));
      })))
      failure is

-- A text without a program is why its run has no steps.
pub lacks_program : (holds : Holding) (s : Stepping) (l : Lattice) (text file given : List ℕ)
    (so : Unanswered → Type 0) → ((reason : Unanswered) → WhySteps holds s reason → so reason) → (failure : Failure) →
    AreStepFiles holds s l text file → given ≡ text →
    FailsBy (Because (TellsSource (IsProgramFault l given) l given) ⊥) NoOther failure → FailsBy so NoOther failure
lacks_program holds s l text file given so f failure files same is =
    fails_by (Because (TellsSource (IsProgramFault l given) l given) ⊥) so NoOther
    (λ reason why. f reason (inr (record {
      lattice = l;
      text = text;
      file = file;
      files = files;
      is = inl (subst (λ t. Because (TellsSource (IsProgramFault l t) l t) ⊥ reason) same why);
    })))
    failure is

-- ---- two runs.

module _ (holds : Holding) (c : StepComparison) (l : Lattice) (class : ℕ) (text given : List ℕ) (source : Source)
    (im : Image) (looks : LooksAt holds c.lattice.now c.class.now l class) (read : IsReadAt holds c.source.now text)
    (same : given ≡ text) (under : source.lattice ≡ l) (of : source.text ≡ given)
    (written : AreWritten source.lattice source.text source.resolved im) where
  -- The files hold the program and the image that are compared.
  pub are_compared : AreStepsCompared holds c l class source.resolved im
  are_compared = record {
    looks = looks;
    text = text;
    read = read;
    written = subst (λ t. AreWritten l t source.resolved im) (of ∙ same)
        (subst (λ m. AreWritten m source.text source.resolved im) under written);
  }

  -- The comparison of the program's runs is that of the files.
  pub compares : (first second ones others : List ℤ) (alike : Bool) → IsStoredAt holds (Some c.stores.0) im first →
      IsStoredAt holds (Some c.stores.1) im second → ones ≡ first → others ≡ second →
      Compared source.lattice class source.resolved (globals im.globals.items) ones others c.budget alike →
      ComparesSteps holds c alike
  compares first second ones others alike from_first from_second one other is = record {
    lattice = l;
    class = class;
    program = source.resolved;
    image = im;
    read = are_compared;
    first = first;
    second = second;
    from_first = from_first;
    from_second = from_second;
    is = subst (λ m. Compared m class source.resolved (globals im.globals.items) first second c.budget alike) under
        (subst (λ ws. Compared source.lattice class source.resolved (globals im.globals.items) first ws c.budget alike)
        other
        (subst
        (λ ws. Compared source.lattice class source.resolved (globals im.globals.items) ws others c.budget alike) one
        is));
  }

  -- A run that doesn't end within the budget is why there is none.
  pub spends : (first second ones others : List ℤ) → IsStoredAt holds (Some c.stores.0) im first →
      IsStoredAt holds (Some c.stores.1) im second → ones ≡ first → others ≡ second → (reason : Unanswered) →
      Spends source.resolved ones others c.budget reason → SpendsCompared holds c reason
  spends first second ones others from_first from_second one other reason is = record {
    lattice = l;
    class = class;
    program = source.resolved;
    image = im;
    read = are_compared;
    first = first;
    second = second;
    from_first = from_first;
    from_second = from_second;
    is = subst (λ ws. Spends source.resolved first ws c.budget reason) other
        (subst (λ ws. Spends source.resolved ws others c.budget reason) one is);
  }

  -- So is a store that is refused for its image.
  pub refuses_store : (path : Option (Bor (List ℕ))) (reason : Unanswered) →
      (file : List ℕ) × IsStoreAt holds path file × Because (TellsFault (IsStoreFault im file)) ⊥ reason →
      RefusesStepStore holds c path reason
  refuses_store path reason (file, stored, is) = record {
    lattice = l;
    class = class;
    program = source.resolved;
    image = im;
    read = are_compared;
    file = file;
    stored = stored;
    is = is;
  }
