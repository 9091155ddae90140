-- Sequences that fit.
use Rattle.std.proofs.Common.{◌≡◌, ℕ, min, ◌+◌, ◌<◌, ◌≤◌, List, [], ◌∷◌, ◌++◌, length, take, get_or, refl, sym, subst, ◌∙◌, arith}
use Rattle.std.proofs.lemmas.List.{take_more}
use Rattle.vsi_scope.specs.declared.program.Cmd.{Cmd}
use Rattle.vsi_scope.specs.Language.{Expression, Command, Skip, Assign, Sequence, If, While, Letvar, HasPlaces, letvars, size, nesting, depth}
use Rattle.vsi_scope.specs.declared.resolved.Entry.{Entry}
use Rattle.vsi_scope.specs.Program.{Resolved, IsResolved, resolved_of}
use Rattle.vsi_scope.specs.View.{command, sequence}
use Rattle.vsi_scope.proofs.Limits.{expressions_within}
use Rattle.vsi_audit.specs.Fitting.{Fits, FitsExpression}

-- Commands that fit are followed by one more that fits.
fits_push : (scope room n k : ℕ) (cs : List Cmd) (c : Cmd) → Fits scope room n (sequence cs) →
    Fits scope room k (command c) → Fits scope room (n + k) (sequence (cs ++ c ∷ []))
fits_push scope room n k [] c f g =
    record {
      places = (g.places, tt);
      shallow = omega (arith, g.shallow);
      count = omega (arith, f.count, g.count);
    }
fits_push scope room n k (d ∷ cs) c f g =
    let first : Fits scope room (letvars (sequence cs)) (sequence cs) =
    record { places = f.places.1; shallow = omega (arith, f.shallow); count = refl } in
    let rest = fits_push scope room (letvars (sequence cs)) k cs c first g in
    record {
      places = (f.places.0, rest.places);
      shallow = omega (arith, f.shallow, rest.shallow);
      count = omega (arith, f.count, rest.count);
    }

-- The first commands fit, and so does the next one.
pub fits_more : (scope room n k : ℕ) (cs : List Cmd) (i : ℕ) (c : Cmd) → i < length cs → c ≡ get_or cs i c →
    Fits scope room n (sequence (take i cs)) → Fits scope room k (command c) →
    Fits scope room (n + k) (sequence (take (i + 1) cs))
fits_more scope room n k cs i c lt e f g =
    subst (λ l. Fits scope room (n + k) (sequence l)) (sym (take_more cs i c lt))
    (fits_push scope room n k (take i cs) (get_or cs i c) f (subst (λ x. Fits scope room k (command x)) e g))

-- The letvars of a command nest no deeper than the command is.
pub nested : (c : Command) → nesting c ≤ depth c
nested Skip = omega arith
nested (Assign l s e) = omega arith
nested (Sequence a b) = omega (arith, nested a, nested b)
nested (If e a b) = omega (arith, nested a, nested b)
nested (While e c) = omega (arith, nested c)
nested (Letvar e c) = omega (arith, nested c)

-- A conditional fits if its parts fit.
pub fits_if : (scope room inner a b n : ℕ) (e : Expression) (y z : Command) → inner + 1 ≡ room → a + b ≡ n →
    FitsExpression scope inner e → Fits scope inner a y → Fits scope inner b z → Fits scope room n (If e y z)
fits_if scope room inner a b n e y z level sum guard first second =
    record {
      places = (guard.places, first.places, second.places);
      shallow = omega (arith, level, guard.shallow, first.shallow, second.shallow);
      count = omega (arith, sum, first.count, second.count);
    }

-- A loop fits if its parts fit.
pub fits_while : (scope room inner n : ℕ) (e : Expression) (c : Command) → inner + 1 ≡ room →
    FitsExpression scope inner e → Fits scope inner n c → Fits scope room n (While e c)
fits_while scope room inner n e c level guard body =
    record {
      places = (guard.places, body.places);
      shallow = omega (arith, level, guard.shallow, body.shallow);
      count = body.count;
    }

-- A letvar fits if its parts fit.
pub fits_letvar : (scope room inner above a n : ℕ) (e : Expression) (c : Command) → inner + 1 ≡ room →
    scope + 1 ≡ above → a + 1 ≡ n → FitsExpression scope inner e → Fits above inner a c →
    Fits scope room n (Letvar e c)
fits_letvar scope room inner above a n e c level next more value body =
    record {
      places = (value.places, subst (λ k. HasPlaces k c) (sym next) body.places);
      shallow = omega (arith, level, value.shallow, body.shallow);
      count = omega (arith, more, body.count);
    }

-- A program stays within its limits if its commands are replaced by commands that fit.
pub fitting_resolved : (p : Resolved) (ys : List Entry) (cs : List Cmd) (n : ℕ) → IsResolved p →
    Fits (length p.globals) 200 n (sequence cs) → n ≡ length ys → length p.globals + length ys ≤ 1024 →
    size (sequence cs) ≤ 65534 → IsResolved (resolved_of p.globals ys cs)
fitting_resolved p ys cs n kept fits same few small =
    record {
      entries = sym same ∙ sym fits.count;
      places = fits.places;
      few_globals = kept.few_globals;
      few_declarations = omega (arith, few, same, fits.count);
      small = small;
      nested = omega (arith, nested (sequence cs), fits.shallow);
      shallow = omega (arith, expressions_within (sequence cs), fits.shallow);
      distinct = kept.distinct;
      named = kept.named;
    }

-- A number that is small after capping is small.
pub small_enough : (n : ℕ) → min n 4294967295 ≤ 65534 → n ≤ 65534
small_enough n h = omega (arith, h)
