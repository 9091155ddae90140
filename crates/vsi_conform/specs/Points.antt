-- The differences between an image and an interface, point by point.
use Rattle.std.specs.Prelude.{ℕ, ◌+◌, ℤ, pos, Bool, true, false, ◌&&◌, not, List, [], ◌∷◌, ◌++◌, map, Option, Some, None, if◌then◌else◌, is_some, bytes_eq}
use Rattle.std.specs.Global.{Vec}
use Rattle.std.specs.Ordering.{int_eq}
use Rattle.vsi_image.specs.declared.instr.Image.{Image}
use Rattle.vsi_image.specs.Fields.{Global, globals, is_taken}
use Rattle.vsi_image.specs.Meaning.{State, start}
use Rattle.vsi_machine.specs.Runs.{globals_of, run_of}
use Rattle.vsi_conform.specs.declared.interface.Interface.{Interface}
use Rattle.vsi_conform.specs.declared.interface.Trial.{Trial}
use Rattle.vsi_conform.specs.declared.interface.Answer.{Answer}
use Rattle.vsi_conform.specs.declared.interface.Point.{Point}
use Rattle.vsi_conform.specs.declared.interface.Point.TheVariants.{Missing, Unexpected, WrongClass, WrongOrder, OutOfBudget, WrongWord, NoWord}

-- A point, or none, as a list.
abbrev pub told : Option Point → List Point
told None = []
told (Some p) = p ∷ []

-- ---- globals.

-- The point of a global with a known name, by its class.
abbrev pub class_point : ℕ → ℕ → Global → Global → Option Point
class_point n place w g = if bytes_eq g.1 w.1 then None else Some (WrongClass place n)

-- The point of the n-th required global, where the first of the globals found has position `place`.
abbrev pub entry_point : ℕ → Global → ℕ → List Global → Option Point
entry_point n w place [] = Some (Missing n)
entry_point n w place (g ∷ gs) =
    if bytes_eq g.0 w.0 then class_point n place w g else entry_point n w (place + 1) gs

-- The points of required globals, numbered from n.
abbrev pub entry_points : ℕ → List Global → List Global → List Point
entry_points n [] gs = []
entry_points n (w ∷ ws) gs = told (entry_point n w 0 gs) ++ entry_points (n + 1) ws gs

-- The points of globals that aren't required, where the first of them has position `place`.
abbrev pub unexpected_points : ℕ → List Global → List Global → List Point
unexpected_points place ws [] = []
unexpected_points place ws (g ∷ gs) =
    if is_taken ws g.0 then unexpected_points (place + 1) ws gs
    else Unexpected place ∷ unexpected_points (place + 1) ws gs

-- The points of the globals, apart from their order.
abbrev pub set_points : List Global → List Global → List Point
set_points ws gs = entry_points 0 ws gs ++ unexpected_points 0 ws gs

-- Two globals have the same name and the same class.
abbrev pub are_same : Global → Global → Bool
are_same g h = bytes_eq g.0 h.0 && bytes_eq g.1 h.1

-- The position of the first difference between two lists of globals, counted from n.
abbrev pub first_difference : ℕ → List Global → List Global → Option ℕ
first_difference n [] [] = None
first_difference n [] (g ∷ gs) = Some n
first_difference n (w ∷ ws) [] = Some n
first_difference n (w ∷ ws) (g ∷ gs) = if are_same w g then first_difference (n + 1) ws gs else Some n

-- The points, or a point for the order if there are none.
abbrev pub or_order : ℕ → List Point → List Point
or_order place [] = WrongOrder place ∷ []
or_order place (p ∷ ps) = p ∷ ps

-- The points of two lists that first differ at this position, or nowhere.
abbrev pub points_from : Option ℕ → List Point → List Point
points_from None ps = []
points_from (Some place) ps = or_order place ps

-- The points of globals whose order is required.
abbrev pub ordered_points : List Global → List Global → List Point
ordered_points ws gs = points_from (first_difference 0 ws gs) (set_points ws gs)

-- The points of the globals.
abbrev pub global_points : Bool → List Global → List Global → List Point
global_points is_ordered ws gs = if is_ordered then ordered_points ws gs else set_points ws gs

-- ---- runs.

-- A name and a word.
abbrev pub Entry : Type 0
Entry = List ℕ × ℤ

-- The name and the word of an entry of the code.
abbrev pub entry : Vec ℕ × ℤ → Entry
entry e = (e.0.items, e.1)

-- The names and words of entries of the code.
abbrev pub entries : List (Vec ℕ × ℤ) → List Entry
entries es = map entry es

-- The word given for a name, or 0.
abbrev pub given_word : List Entry → List ℕ → ℤ
given_word [] name = pos 0
given_word (e ∷ es) name = if bytes_eq e.0 name then e.1 else given_word es name

-- The words given for the globals, in their order.
abbrev pub given_words : List Entry → List Global → List ℤ
given_words es gs = map (λ g. given_word es g.0) gs

-- The word of the global with a name.
abbrev pub word_of : List Global → List ℤ → List ℕ → Option ℤ
word_of [] ws name = None
word_of (g ∷ gs) [] name = None
word_of (g ∷ gs) (w ∷ ws) name = if bytes_eq g.0 name then Some w else word_of gs ws name

-- The point of an expected word, by the word found.
abbrev pub word_point : ℕ → ℕ → ℤ → Option ℤ → Option Point
word_point trial n expected None = Some (NoWord trial n)
word_point trial n expected (Some w) = if int_eq w expected then None else Some (WrongWord trial n w)

-- The point of the n-th expected word.
abbrev pub expected_point : ℕ → ℕ → Entry → List Global → List ℤ → Option Point
expected_point trial n e gs ws = word_point trial n e.1 (word_of gs ws e.0)

-- The points of expected words, numbered from n.
abbrev pub word_points : ℕ → ℕ → List Entry → List Global → List ℤ → List Point
word_points trial n [] gs ws = []
word_points trial n (e ∷ es) gs ws =
    told (expected_point trial n e gs ws) ++ word_points trial (n + 1) es gs ws

-- The words at the start of a run.
abbrev pub words_of : Image → Trial → List ℤ
words_of image t = given_words (entries t.store.items) (globals image.globals.items)

-- The state at the start of a run.
abbrev pub start_of : Image → Trial → State
start_of image t = start image (words_of image t)

-- The points of the state in which a run ends.
abbrev pub state_points : Image → ℕ → Trial → Option State → List Point
state_points image n t None = OutOfBudget n ∷ []
state_points image n t (Some s) =
    if s.halted
    then word_points n 0 (entries t.expect.items) (globals image.globals.items) (globals_of image s)
    else OutOfBudget n ∷ []

-- The points of a run.
abbrev pub trial_points : Image → ℕ → Trial → List Point
trial_points image n t = state_points image n t (run_of image (words_of image t) t.budget)

-- The points of runs, numbered from n.
abbrev pub trials_points : Image → ℕ → List Trial → List Point
trials_points image n [] = []
trials_points image n (t ∷ ts) = trial_points image n t ++ trials_points image (n + 1) ts

-- ---- all points.

-- The differences between the globals and runs of an image and the required ones.
abbrev pub points_of : Image → Interface → List Point
points_of image i =
    global_points i.is_ordered (globals i.globals.items) (globals image.globals.items)
    ++ trials_points image 0 i.trials.items

-- There is no point.
abbrev pub is_none_told : List Point → Bool
is_none_told [] = true
is_none_told (p ∷ ps) = false

-- Nothing differs.
abbrev pub is_conforming : Answer → Bool
is_conforming a = not (is_some a.refusal) && is_none_told a.points.items && not (is_some a.unbounded)
