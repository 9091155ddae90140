-- Commands that were read back have the code that they were read from.
use Rattle.std.proofs.Common.{◌≡◌, ℕ, zero, suc, ◌+◌, ◌-◌, ◌<◌, ◌≤◌, max, List, [], ◌∷◌, ◌++◌, length, take, drop, get_or, slice_get, Some, refl, sym, ap, subst, ◌∙◌, arith, length-append}
use Rattle.std.proofs.lemmas.List.{take_all}
use Rattle.std.proofs.Math.Seq.{take-append_seam, get_or-append_seam}
use Rattle.vsi_image.specs.declared.instr.Instr.{Instr}
use Rattle.vsi_image.specs.declared.instr.Instr.TheVariants.{Store, Jz, Jmp}
use Rattle.vsi_syntax.specs.declared.token.Span.{Span}
use Rattle.vsi_scope.specs.declared.program.Cmd.{Cmd}
use Rattle.vsi_scope.specs.Language.{Expression, Command, Skip, Assign, Sequence, If, While, Letvar, HasPlaces, expression_size, size, nesting, expressions_depth, letvars}
use Rattle.vsi_scope.specs.View.{command, sequence}
use Rattle.vsi_code.specs.Layout.{expression_code, code_at}
use Rattle.vsi_audit.specs.Coding.{StandsAt}
use Rattle.vsi_audit.specs.Fitting.{FitsExpression}
use Rattle.vsi_audit.specs.Reading.{IsRead, Readable}
use Rattle.vsi_audit.proofs.CodeParts.{assign_stands, choice_stands, loop_stands, letvar_stands, more_stands}
use Rattle.vsi_audit.proofs.Found.{at_stands}

-- An assignment was read.
pub assign_read : (code : List Instr) (limit scope from stop l : ℕ) (s : Span) (e : Expression) →
    StandsAt code (expression_code e) from (expression_size e) stop → FitsExpression scope 200 e →
    slice_get code stop ≡ Some (Store l) → l < scope → scope ≤ limit →
    IsRead code limit scope from (stop + 1) (Assign l s e)
assign_read code limit scope from stop l s e value fits at lt le =
    record {
      stands = assign_stands code from scope stop (stop + 1) l s e value (at_stands code stop (Store l) at);
      places = (lt, fits.places);
      shallow = fits.shallow;
      nested = omega (arith, le);
    }

-- A letvar was read.
pub letvar_read : (code : List Instr) (limit scope from stop to : ℕ) (e : Expression) (c : Command) →
    StandsAt code (expression_code e) from (expression_size e) stop → FitsExpression scope 200 e →
    slice_get code stop ≡ Some (Store scope) → IsRead code limit (scope + 1) (stop + 1) to c →
    IsRead code limit scope from to (Letvar e c)
letvar_read code limit scope from stop to e c value fits at body =
    record {
      stands = letvar_stands code from scope (scope + 1) stop (stop + 1) to e c value
          (at_stands code stop (Store scope) at) refl body.stands;
      places = (fits.places, body.places);
      shallow = omega (arith, fits.shallow, body.shallow);
      nested = omega (arith, body.nested);
    }

-- A loop was read.
pub loop_read : (code : List Instr) (limit scope from stop jump : ℕ) (e : Expression) (c : Command) →
    StandsAt code (expression_code e) from (expression_size e) stop → FitsExpression scope 200 e →
    slice_get code stop ≡ Some (Jz (jump + 1)) → slice_get code jump ≡ Some (Jmp from) →
    IsRead code limit scope (stop + 1) jump c → IsRead code limit scope from (jump + 1) (While e c)
loop_read code limit scope from stop jump e c value fits at back body =
    record {
      stands = loop_stands code from scope stop (stop + 1) jump (jump + 1) (stop + 1) e c value refl body.stands
          (at_stands code jump (Jmp from) back) (at_stands code stop (Jz (jump + 1)) at);
      places = (fits.places, body.places);
      shallow = omega (arith, fits.shallow, body.shallow);
      nested = body.nested;
    }

-- A choice was read.
pub choice_read : (code : List Instr) (limit scope from stop jump join : ℕ) (e : Expression) (a b : Command) →
    StandsAt code (expression_code e) from (expression_size e) stop → FitsExpression scope 200 e →
    slice_get code stop ≡ Some (Jz (jump + 1)) → slice_get code jump ≡ Some (Jmp join) →
    IsRead code limit scope (stop + 1) jump a → IsRead code limit scope (jump + 1) join b →
    IsRead code limit scope from join (If e a b)
choice_read code limit scope from stop jump join e a b value fits at over branch other =
    record {
      stands = choice_stands code from scope stop (stop + 1) jump (jump + 1) join (stop + 1) (jump + 1) e a b value refl
          branch.stands refl other.stands (at_stands code stop (Jz (jump + 1)) at) (at_stands code jump (Jmp join) over);
      places = (fits.places, branch.places, other.places);
      shallow = omega (arith, fits.shallow, branch.shallow, other.shallow);
      nested = omega (arith, branch.nested, other.nested);
    }

-- Nothing was read.
pub nothing_read : (code : List Instr) (limit scope place : ℕ) → scope ≤ limit →
    IsRead code limit scope place place (sequence [])
nothing_read code limit scope place le =
    record {
      stands = record { whole = refl; long = omega arith };
      places = tt;
      shallow = omega arith;
      nested = omega (arith, le);
    }

-- The code of commands and of one more is at its place.
push_stands : (code : List Instr) (cs : List Cmd) (c : Cmd) (start k place end : ℕ) →
    StandsAt code (code_at start k (sequence cs)) start (size (sequence cs)) place →
    StandsAt code (code_at place k (command c)) place (size (command c)) end →
    StandsAt code (code_at start k (sequence (cs ++ c ∷ []))) start (size (sequence (cs ++ c ∷ []))) end
push_stands code cs c start k place end front one =
    let all = cs ++ c ∷ [] in
    let n : length all ≡ length cs + 1 = length-append cs (c ∷ []) in
    let before : take (length cs) all ≡ cs = take-append_seam cs (c ∷ []) in
    let whole : take (length cs + 1) all ≡ all = take_all (length cs + 1) all (omega (arith, n)) in
    subst (λ l. StandsAt code (code_at start k (sequence l)) start (size (sequence l)) end) whole
    (more_stands code all (length cs) start k place end c (omega (arith, n)) (sym (get_or-append_seam cs c [] c))
    (subst (λ l. StandsAt code (code_at start k (sequence l)) start (size (sequence l)) place) (sym before) front) one)

-- The locations of commands and of one more exist.
push_places : (k : ℕ) (cs : List Cmd) (c : Cmd) → HasPlaces k (sequence cs) → HasPlaces k (command c) →
    HasPlaces k (sequence (cs ++ c ∷ []))
push_places k [] c front one = (one, tt)
push_places k (d ∷ cs) c front one = (front.0, push_places k cs c front.1 one)

-- One more command adds its depth.
push_depth : (cs : List Cmd) (c : Cmd) →
    expressions_depth (sequence (cs ++ c ∷ [])) ≡ max (expressions_depth (sequence cs)) (expressions_depth (command c))
push_depth [] c = omega arith
push_depth (d ∷ cs) c = omega (arith, push_depth cs c)

-- One more command adds its nesting.
push_nesting : (cs : List Cmd) (c : Cmd) →
    nesting (sequence (cs ++ c ∷ [])) ≡ max (nesting (sequence cs)) (nesting (command c))
push_nesting [] c = omega arith
push_nesting (d ∷ cs) c = omega (arith, push_nesting cs c)

-- One more command was read after others.
pub push_read : (code : List Instr) (limit scope from place next : ℕ) (cs : List Cmd) (c : Cmd) →
    IsRead code limit scope from place (sequence cs) → IsRead code limit scope place next (command c) →
    IsRead code limit scope from next (sequence (cs ++ c ∷ []))
push_read code limit scope from place next cs c front one =
    record {
      stands = push_stands code cs c from scope place next front.stands one.stands;
      places = push_places scope cs c front.places one.places;
      shallow = omega (arith, push_depth cs c, front.shallow, one.shallow);
      nested = omega (arith, push_nesting cs c, front.nested, one.nested);
    }

-- Commands that can be read back in a room can be read back in an equal one.
pub in_room : (code : List Instr) (from to n limit scope blocks l s b : ℕ) → l ≡ limit → s ≡ scope → b ≡ blocks →
    Readable code limit from to scope blocks n → Readable code l from to s b n
in_room code from to n limit scope blocks l s b p q r v =
    subst (λ k. Readable code k from to s b n) (sym p)
    (subst (λ k. Readable code limit from to k b n) (sym q)
    (subst (λ k. Readable code limit from to scope k n) (sym r) v))
