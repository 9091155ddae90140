-- How a command relates to the parts that a walk reads from it.
use Rattle.std.proofs.Common.{◌≡◌, ℕ, ◌+◌, ◌-◌, ◌<◌, List, take, length, get_or, Vec, Global, sym, ap, ◌∙◌, subst, arith}
use Rattle.std.proofs.lemmas.List.{get_or-map}
use Rattle.vsi_scope.specs.declared.program.Ex.{Ex}
use Rattle.vsi_scope.specs.declared.program.Cmd.{Cmd}
use Rattle.vsi_scope.specs.declared.program.Cmd.TheViews as view
use Rattle.vsi_scope.specs.declared.resolved.Entry.{Entry}
use Rattle.vsi_scope.specs.Language.{Expression, Command, If, While, Letvar, letvars, HasPlaces}
use Rattle.vsi_scope.specs.View.{expression, command, sequence}
use Rattle.vsi_scope.proofs.Views.{command_If, command_While, command_Letvar}
use Rattle.vsi_types.specs.Security.{name_place}
use Rattle.vsi_types.specs.Walker.{Place}
use Rattle.vsi_types.proofs.Judging.{places_at, letvars_at}
use Rattle.vsi_infer.specs.FirstSteps.{HasRoom}

module _ (k : Cmd) (e : Ex) where
  -- A choice consists of the lists that were read from its branches.
  pub choice_read : (v w : Vec Cmd Global) (xs ys : List Cmd) → k ≡ view.If e v w → xs ≡ v.items → ys ≡ w.items
      → command k ≡ If (expression e) (sequence xs) (sequence ys)
  choice_read v w xs ys is a b =
      ap command is ∙ command_If e v w ∙ ap (λ l. If (expression e) (sequence l) (sequence w.items)) (sym a)
      ∙ ap (λ l. If (expression e) (sequence xs) (sequence l)) (sym b)

  -- A loop has the list that was read from its body.
  pub loop_read : (v : Vec Cmd Global) (body : List Cmd) → k ≡ view.While e v → body ≡ v.items
      → command k ≡ While (expression e) (sequence body)
  loop_read v body is a =
      ap command is ∙ command_While e v ∙ ap (λ l. While (expression e) (sequence l)) (sym a)

  -- A `letvar` has the list that was read from its body.
  pub letvar_read : (v : Vec Cmd Global) (body : List Cmd) → k ≡ view.Letvar e v → body ≡ v.items
      → command k ≡ Letvar (expression e) (sequence body)
  letvar_read v body is a =
      ap command is ∙ command_Letvar e v ∙ ap (λ l. Letvar (expression e) (sequence l)) (sym a)

-- The entry read for a `letvar` gives the span of its name.
pub name_at : (xs : List Entry) (first : ℕ) (a : Place) (e : Expression) (c : Command) (x : Entry)
    → HasRoom first (length xs) a (Letvar e c) → (get_or xs (a.next - first) x).span ≡ name_place xs first a.next
name_at xs first a e c x room = sym (get_or-map (λ (y : Entry). y.span) xs (a.next - first) x
    (record { start = 0; stop = 0 }) (omega (arith, room.after, room.limit)))

-- A place with room for a list has room for the next command of the list.
pub room_next : (a b : Place) (cs : List Cmd) (i : ℕ) (c : Cmd) → i < length cs → c ≡ get_or cs i c
    → b.scope ≡ a.scope → b.next ≡ a.next + letvars (sequence (take i cs)) → (first count : ℕ)
    → HasRoom first count a (sequence cs) → HasRoom first count b (command c)
room_next a b cs i c lt is same next first count f =
    let l = letvars_at cs i c lt is in
    record {
      places = subst (λ s. HasPlaces (length s) (command c)) (sym same)
          (places_at (length a.scope) cs i c lt is f.places);
      after = omega (arith, f.after, next);
      limit = omega (arith, f.limit, next, l);
      small = f.small;
    }
