-- The rules by which a program is read token by token. They are a stepping stone: the promises of `expected_after`
-- concern the programs that write the tokens, and none of these rules.
use Rattle.std.specs.Prelude.{◌≡◌, Bool, true, false, ◌&&◌, if◌then◌else◌, List, [], ◌∷◌, ◌++◌, Option, Some, None}
use Rattle.vsi_syntax.specs.Parsing.{◌>>=◌}
use Rattle.vsi_recovery.specs.declared.sort.Sort.{Sort}
use Rattle.vsi_recovery.specs.declared.sort.Sort.TheVariants as s
use Rattle.vsi_recovery.specs.Sorts.{same}
use Rattle.vsi_recovery.specs.declared.rules.Wanted.{Wanted}
use Rattle.vsi_recovery.specs.declared.rules.Wanted.TheVariants as w

-- A rule: after a token of this sort these parts are pending.
pub record Rule : Type 0 where
  pub sort : Sort
  pub parts : List Wanted

-- A short form of a rule.
abbrev pub rule : Sort → List Wanted → Rule
rule sort parts = record { sort = sort; parts = parts }

-- An operand, which is a number, a name or a bracket, followed by this part.
abbrev pub operand : Wanted → List Rule
operand behind =
    (rule s.Name (behind ∷ [])) ∷ (rule s.Number (behind ∷ []))
    ∷ (rule s.Open (w.Expression ∷ w.Token s.Close ∷ behind ∷ [])) ∷ []

-- An arithmetic operator, followed by this part.
abbrev pub arithmetic : Wanted → List Rule
arithmetic behind =
    (rule s.Plus (behind ∷ [])) ∷ (rule s.Minus (behind ∷ [])) ∷ (rule s.Star (behind ∷ [])) ∷ []

-- The tokens that may begin each part of a program, and the parts that are pending then.
abbrev pub rules : Wanted → List Rule
rules w.Globals =
    (rule s.Var (w.Token s.Name ∷ w.Token s.Colon ∷ w.Token s.Name ∷ w.Token s.Semicolon ∷ w.Globals ∷ [])) ∷ []
rules w.Command =
    (rule s.Name (w.Token s.Assign ∷ w.Expression ∷ []))
    ∷ (rule s.If (w.Expression ∷ w.Token s.Then ∷ w.Command ∷ w.Token s.Else ∷ w.Command ∷ []))
    ∷ (rule s.While (w.Expression ∷ w.Token s.Do ∷ w.Command ∷ []))
    ∷ (rule s.Letvar (w.Token s.Name ∷ w.Class ∷ w.Token s.Assign ∷ w.Expression ∷ w.Token s.In ∷ w.Command ∷ []))
    ∷ (rule s.OpenBrace (w.Command ∷ w.Rest ∷ w.Token s.CloseBrace ∷ [])) ∷ []
rules w.Rest = (rule s.Semicolon (w.Command ∷ w.Rest ∷ [])) ∷ []
rules w.Class = (rule s.Colon (w.Token s.Name ∷ [])) ∷ []
rules w.Expression = operand w.Operators
rules w.Sum = operand w.SumOperators
rules w.Operators =
    arithmetic w.Expression ++ (rule s.Equal (w.Sum ∷ [])) ∷ (rule s.Less (w.Sum ∷ [])) ∷ []
rules w.SumOperators = arithmetic w.Sum
rules (w.Token sort) = rule sort [] ∷ []

-- The part may be omitted.
abbrev pub may_be_empty : Wanted → Bool
may_be_empty w.Globals = true
may_be_empty w.Command = false
may_be_empty w.Rest = true
may_be_empty w.Class = true
may_be_empty w.Expression = false
may_be_empty w.Sum = false
may_be_empty w.Operators = true
may_be_empty w.SumOperators = true
may_be_empty (w.Token sort) = false

-- The parts of the first rule for this sort.
abbrev pub parts_of : Sort → List Rule → Option (List Wanted)
parts_of sort [] = None
parts_of sort (r ∷ rs) = if same r.sort sort then Some r.parts else parts_of sort rs

-- The first part is begun if a rule says how, and omitted if allowed.
abbrev pub begun : Option (List Wanted) → Bool → List Wanted → Option (List Wanted) → Option (List Wanted)
begun (Some parts) empty rest otherwise = Some (parts ++ rest)
begun None true rest otherwise = otherwise
begun None false rest otherwise = None

-- The parts that are pending after a token of this sort, if one may come next.
abbrev pub step : List Wanted → Sort → Option (List Wanted)
step [] sort = None
step (x ∷ xs) sort = begun (parts_of sort (rules x)) (may_be_empty x) xs (step xs sort)

-- All pending parts may be omitted.
abbrev pub can_end : List Wanted → Bool
can_end [] = true
can_end (x ∷ xs) = may_be_empty x && can_end xs

-- The parts that are pending after tokens of these sorts, if they may come next.
abbrev pub run : List Wanted → List Sort → Option (List Wanted)
run xs [] = Some xs
run xs (sort ∷ sorts) = step xs sort >>= λ ys. run ys sorts

-- The parts that a reader reached, or nothing if it failed.
abbrev pub reached : Bool → List Wanted → Option (List Wanted)
reached true xs = Some xs
reached false xs = None

-- There is no such rule and nothing was changed, or the rule's parts were put in front.
abbrev pub Puts : Option (List Wanted) → Bool → List Wanted → List Wanted → Type 0
Puts found false old new = (found ≡ None) × (new ≡ old)
Puts found true old new = (parts : List Wanted) × (found ≡ Some parts) × (new ≡ parts ++ old)

-- The parts that are pending at the start: globals, a command, and the commands after it.
abbrev pub start : List Wanted
start = w.Globals ∷ w.Command ∷ w.Rest ∷ []
