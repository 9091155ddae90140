-- Combining the walk's answers for the parts of a command into its answer for the command.
use Rattle.std.proofs.Common.{◌≡◌, ℕ, ◌+◌, List, [], ◌∷◌, ◌++◌, take, length, Vec, Global, refl, sym, ap, ◌∙◌}
use Rattle.std.specs.Prelude.{◌||◌, true, ⊤, Result, Ok, Err, IsErrAnd}
use Rattle.vsi_lattice.specs.Order.{Lattice}
use Rattle.vsi_scope.specs.declared.program.Ex.{Ex}
use Rattle.vsi_scope.specs.declared.program.Cmd.{Cmd}
use Rattle.vsi_scope.specs.declared.program.Cmd.TheViews as view
use Rattle.vsi_scope.specs.Language.{If, While, Letvar, has_loop}
use Rattle.vsi_scope.specs.View.{expression, command, sequence}
use Rattle.vsi_scope.proofs.Views.{command_If, command_While, command_Letvar}
use Rattle.vsi_types.specs.declared.rules.CheckError.{CheckError}
use Rattle.vsi_types.specs.declared.rules.CheckError.TheVariants.{Flow}
use Rattle.vsi_types.specs.declared.rules.Profile.{Profile}
use Rattle.vsi_types.specs.declared.rules.Rule.TheVariants as typing
use Rattle.vsi_types.specs.declared.rules.Guard.{Guard}
use Rattle.vsi_types.specs.declared.rules.FlowFault.{FlowFault}
use Rattle.vsi_types.specs.declared.walker.Walker.{Walker}
use Rattle.vsi_types.specs.Steps.{reads, guarded, endings}
use Rattle.vsi_types.specs.Security.{class_of}
use Rattle.vsi_types.specs.Checking.{StepsJudged, FlowsJudged, Judged}
use Rattle.vsi_types.specs.Walker.{Place, walker_place}
use Rattle.vsi_types.proofs.Places.{place, at_place, under_guard, endings_at, reads_at, inside, judged_then, judged_first, if_endings, if_branches, judged_if, while_endings, while_body, judged_while, letvar_reads, letvar_body, letvar_ok}

-- The view of a choice by its guard and its branches.
pub seen_if : (c : Cmd) (e : Ex) (v w : Vec Cmd Global) (ks ks' : List Cmd) → c ≡ view.If e v w → ks ≡ v.items →
    ks' ≡ w.items → command c ≡ If (expression e) (sequence ks) (sequence ks')
seen_if c e v w ks ks' is first second =
    ap command is ∙ command_If e v w ∙ ap (λ l. If (expression e) (sequence l) (sequence w.items)) (sym first)
    ∙ ap (λ l. If (expression e) (sequence ks) (sequence l)) (sym second)

-- The view of a loop by its guard and its body.
pub seen_while : (c : Cmd) (e : Ex) (v : Vec Cmd Global) (ks : List Cmd) → c ≡ view.While e v → ks ≡ v.items →
    command c ≡ While (expression e) (sequence ks)
seen_while c e v ks is body =
    ap command is ∙ command_While e v ∙ ap (λ l. While (expression e) (sequence l)) (sym body)

-- The view of a letvar by its value and its body.
pub seen_letvar : (c : Cmd) (e : Ex) (v : Vec Cmd Global) (ks : List Cmd) → c ≡ view.Letvar e v → ks ≡ v.items →
    command c ≡ Letvar (expression e) (sequence ks)
seen_letvar c e v ks is body =
    ap command is ∙ command_Letvar e v ∙ ap (λ l. Letvar (expression e) (sequence l)) (sym body)

module _ (L : Lattice) (P : Profile) (table : List ℕ) (w : Walker) (guard : Ex) where
  module _ (ks ks' : List Cmd) (seen : List ℕ) (is : seen ≡ w.scope.items) where
    -- The answer for the guard of a choice and the ending of its loops, in the given scope.
    abbrev Chosen : Result ⊤ FlowFault → Type 0
    Chosen r = StepsJudged L (class_of L table)
        (endings P (has_loop (sequence ks) || has_loop (sequence ks')) (reads seen (expression guard))) r

    -- The answer for a choice.
    abbrev ChoiceTold : Place → Result ⊤ CheckError → Type 0
    ChoiceTold b r = Judged L P (class_of L table) (walker_place w)
        (If (expression guard) (sequence ks) (sequence ks')) b r

    -- A fault of the guard of a choice is a fault of the choice.
    pub choice_guard : (b : Place) (f : FlowFault) (r : Result ⊤ CheckError) → IsErrAnd r (λ e. e ≡ Flow f) →
        Chosen (Err f) → ChoiceTold b r
    choice_guard b f r err h =
        if_endings L P (class_of L table) (walker_place w) b (expression guard) (sequence ks) (sequence ks') f r err
        (endings_at L P (class_of L table) (has_loop (sequence ks) || has_loop (sequence ks')) (expression guard) seen
        w.scope.items is (Err f) h)

    module _ (up : Chosen (Ok tt)) (seen' : List ℕ) (is' : seen' ≡ w.scope.items) (gs : List Guard)
        (pushed : gs ≡ w.guards.items ++ guarded typing.If (reads seen' (expression guard))) where
      -- The guard of a choice is in order in the scope of the walk.
      ends : StepsJudged {U = ⊤} L (class_of L table)
          (endings P (has_loop (sequence ks) || has_loop (sequence ks'))
          (reads w.scope.items (expression guard))) (Ok tt)
      ends =
          endings_at L P (class_of L table) (has_loop (sequence ks) || has_loop (sequence ks')) (expression guard) seen
          w.scope.items is (Ok tt) up

      -- The first branch is checked under the guard.
      first : (b : Place) (r : Result ⊤ CheckError) →
          Judged L P (class_of L table) (place w.scope.items gs w.next) (sequence ks) b r →
          Judged L P (class_of L table) (inside typing.If (expression guard) (walker_place w)) (sequence ks) b r
      first b r h =
          under_guard L P (class_of L table) (walker_place w) b typing.If (expression guard) seen' gs is' pushed
          (sequence ks) r h

      -- An error of the first branch is an error of the choice.
      pub choice_first : (d : Place) (e : CheckError) (r : Result ⊤ CheckError) → IsErrAnd r (λ y. y ≡ e) →
          Judged {U = ⊤} L P (class_of L table) (place w.scope.items gs w.next) (sequence ks) d (Err e) →
          ChoiceTold d r
      choice_first d e r err h =
          if_branches L P (class_of L table) (walker_place w) d (expression guard) (sequence ks) (sequence ks') e r err
          ends (judged_first L P (class_of L table) (inside typing.If (expression guard) (walker_place w)) d d
          (sequence ks) (sequence ks') e (first d (Err e) h))

      -- An error of the second branch, after a first one in order, is an error of the choice.
      pub choice_second : (b d : Place) (e : CheckError) (r : Result ⊤ CheckError) → IsErrAnd r (λ y. y ≡ e) →
          Judged {U = ⊤} L P (class_of L table) (place w.scope.items gs w.next) (sequence ks) b (Ok tt) →
          Judged {U = ⊤} L P (class_of L table) b (sequence ks') d (Err e) → ChoiceTold d r
      choice_second b d e r err h k =
          if_branches L P (class_of L table) (walker_place w) d (expression guard) (sequence ks) (sequence ks') e r err
          ends (judged_then L P (class_of L table) (inside typing.If (expression guard) (walker_place w)) b d
          (sequence ks) (sequence ks') (Err e) (first b (Ok tt) h) k)

      -- A choice is in order if both branches are, and the guards return to those before it.
      pub choice_judged : (b d : Place) (back : List Guard) (n : ℕ) → n ≡ length w.guards.items →
          back ≡ take n d.guards →
          Judged {U = ⊤} L P (class_of L table) (place w.scope.items gs w.next) (sequence ks) b (Ok tt) →
          Judged {U = ⊤} L P (class_of L table) b (sequence ks') d (Ok tt) →
          ChoiceTold (place d.scope back d.next) (Ok tt)
      choice_judged b d back n long cut h k =
          judged_if L P (class_of L table) (walker_place w) d (place d.scope back d.next) (expression guard)
          (sequence ks) (sequence ks') ends
          (judged_then L P (class_of L table) (inside typing.If (expression guard) (walker_place w)) b d
          (sequence ks) (sequence ks') (Ok tt) (first b (Ok tt) h) k) refl (cut ∙ ap (λ m. take m d.guards) long) refl

  module _ (ks : List Cmd) (seen : List ℕ) (is : seen ≡ w.scope.items) where
    -- The answer for a loop.
    abbrev LoopTold : Place → Result ⊤ CheckError → Type 0
    LoopTold b r = Judged L P (class_of L table) (walker_place w) (While (expression guard) (sequence ks)) b r

    -- A fault of the guard of a loop is a fault of the loop.
    pub loop_guard : (b : Place) (f : FlowFault) (r : Result ⊤ CheckError) → IsErrAnd r (λ e. e ≡ Flow f) →
        StepsJudged {U = ⊤} L (class_of L table) (endings P true (reads seen (expression guard))) (Err f) →
        LoopTold b r
    loop_guard b f r err h =
        while_endings L P (class_of L table) (walker_place w) b (expression guard) (sequence ks) f r err
        (endings_at L P (class_of L table) true (expression guard) seen w.scope.items is (Err f) h)

    module _ (up : StepsJudged {U = ⊤} L (class_of L table) (endings P true (reads seen (expression guard))) (Ok tt))
        (seen' : List ℕ) (is' : seen' ≡ w.scope.items) (gs : List Guard)
        (pushed : gs ≡ w.guards.items ++ guarded typing.While (reads seen' (expression guard))) where
      -- An error of the body of a loop is an error of the loop.
      pub loop_body : (d : Place) (e : CheckError) (r : Result ⊤ CheckError) → IsErrAnd r (λ y. y ≡ e) →
          Judged {U = ⊤} L P (class_of L table) (place w.scope.items gs w.next) (sequence ks) d (Err e) → LoopTold d r
      loop_body d e r err h =
          while_body L P (class_of L table) (walker_place w) d d (expression guard) (sequence ks) e r err
          (endings_at L P (class_of L table) true (expression guard) seen w.scope.items is (Ok tt) up)
          (under_guard L P (class_of L table) (walker_place w) d typing.While (expression guard) seen' gs is' pushed
          (sequence ks) (Err e) h)

      -- A loop is in order if its body is, and the guards return to those before it.
      pub loop_judged : (d : Place) (back : List Guard) (n : ℕ) → n ≡ length w.guards.items → back ≡ take n d.guards →
          Judged {U = ⊤} L P (class_of L table) (place w.scope.items gs w.next) (sequence ks) d (Ok tt) →
          LoopTold (place d.scope back d.next) (Ok tt)
      loop_judged d back n long cut h =
          judged_while L P (class_of L table) (walker_place w) d (place d.scope back d.next) (expression guard)
          (sequence ks) (endings_at L P (class_of L table) true (expression guard) seen w.scope.items is (Ok tt) up)
          (under_guard L P (class_of L table) (walker_place w) d typing.While (expression guard) seen' gs is' pushed
          (sequence ks) (Ok tt) h) refl (cut ∙ ap (λ m. take m d.guards) long) refl

    -- The answer for a letvar.
    abbrev LetvarTold : Place → Result ⊤ CheckError → Type 0
    LetvarTold b r = Judged L P (class_of L table) (walker_place w) (Letvar (expression guard) (sequence ks)) b r

    -- A fault of the initial value of a letvar is a fault of the letvar.
    pub letvar_value : (b : Place) (f : FlowFault) (r : Result ⊤ CheckError) → IsErrAnd r (λ e. e ≡ Flow f) →
        FlowsJudged {U = ⊤} L (class_of L table) w.next
        (guarded typing.Letvar (reads seen (expression guard))) (Err f) →
        LetvarTold b r
    letvar_value b f r err h =
        letvar_reads L P (class_of L table) (walker_place w) b (expression guard) (sequence ks) f r err
        (reads_at L P (class_of L table) w.next typing.Letvar (expression guard) seen w.scope.items is (Err f) h)

    module _ (up : FlowsJudged {U = ⊤} L (class_of L table) w.next
        (guarded typing.Letvar (reads seen (expression guard))) (Ok tt)) (longer : List ℕ)
        (pushed : longer ≡ w.scope.items ++ w.next ∷ []) where
      -- An error of the body of a letvar is an error of the letvar.
      pub letvar_inside : (d : Place) (e : CheckError) (r : Result ⊤ CheckError) → IsErrAnd r (λ y. y ≡ e) →
          Judged {U = ⊤} L P (class_of L table) (place longer w.guards.items (w.next + 1)) (sequence ks) d (Err e) →
          LetvarTold d r
      letvar_inside d e r err h =
          letvar_body L P (class_of L table) (walker_place w) d d (expression guard) (sequence ks) e r err
          (reads_at L P (class_of L table) w.next typing.Letvar (expression guard) seen w.scope.items is (Ok tt) up)
          (at_place L P (class_of L table) longer (w.scope.items ++ w.next ∷ []) w.guards.items w.guards.items
          (w.next + 1) (w.next + 1) d (sequence ks) (Err e) pushed refl refl h)

      -- A letvar is in order if its body is, and the scope returns to the one before it.
      pub letvar_judged : (d : Place) (back : List ℕ) (n : ℕ) → n ≡ length w.scope.items → back ≡ take n d.scope →
          Judged {U = ⊤} L P (class_of L table) (place longer w.guards.items (w.next + 1)) (sequence ks) d (Ok tt) →
          LetvarTold (place back d.guards d.next) (Ok tt)
      letvar_judged d back n long cut h =
          letvar_ok L P (class_of L table) (walker_place w) d (place back d.guards d.next) (expression guard)
          (sequence ks)
          (reads_at L P (class_of L table) w.next typing.Letvar (expression guard) seen w.scope.items is (Ok tt) up)
          (at_place L P (class_of L table) longer (w.scope.items ++ w.next ∷ []) w.guards.items w.guards.items
          (w.next + 1) (w.next + 1) d (sequence ks) (Ok tt) pushed refl refl h)
          (cut ∙ ap (λ m. take m d.scope) long) refl refl
