-- The generated image: its parts, and the facts that follow from them.
use Rattle.std.proofs.Common.{◌≡◌, ℕ, ◌+◌, min, List, [], length, ap, ◌∙◌, sym, subst, arith}
use Rattle.std.proofs.lemmas.List.{length-map}
use Rattle.vsi_image.specs.declared.instr.Image.{Image}
use Rattle.vsi_image.specs.declared.instr.Instr.{Instr}
use Rattle.vsi_image.specs.Fields as image
use Rattle.vsi_image.specs.Fields.{Fields, AreGlobals, IsAllowed, fields}
use Rattle.vsi_image.specs.Valid.{IsValid}
use Rattle.vsi_scope.specs.declared.program.Cmd.{Cmd}
use Rattle.vsi_scope.specs.declared.resolved.Global.{Global}
use Rattle.vsi_scope.specs.Language.{nesting, size}
use Rattle.vsi_scope.specs.Program.{Resolved, IsResolved}
use Rattle.vsi_scope.specs.View.{sequence}
use Rattle.vsi_code.specs.Behaves.{Behaves}
use Rattle.vsi_code.specs.Generated.{image_of}
use Rattle.vsi_code.specs.Layout.{Fits, whole_code}
use Rattle.vsi_code.specs.Names.{named_global, all_named}
use Rattle.vsi_code.specs.Needs.{IsGreatestDepth, height, slots_of}
use Rattle.vsi_code.proofs.Correct.{behaves}
use Rattle.vsi_code.proofs.Fine.{valid, greatest}
use Rattle.vsi_code.proofs.Heights.{height-within_depth}
use Rattle.vsi_code.proofs.Names.{are_globals, copies_long}
use Rattle.vsi_code.proofs.Placed.{whole_long}

-- The whole code of a resolved program fits.
pub whole_fits : (r : Resolved) (b : List Cmd) (n : ℕ) → IsResolved r → b ≡ r.body → n ≡ length r.globals →
    Fits 0 n (sequence b)
whole_fits r b n is hb hn =
    let fits : Fits 0 n (sequence r.body) = record {
      size = omega (arith, is.small);
      slots = omega (arith, hn, is.few_globals, is.nested);
    } in
    subst (λ b. Fits 0 n (sequence b)) (sym hb) fits

-- An image has a program's globals and code, and the slots and the stack that these need.
pub record IsMade (r : Resolved) (i : Image) : Type 0 where
  pub globals : image.globals i.globals.items ≡ all_named r.globals
  pub code : i.code.items ≡ whole_code (length r.globals) (sequence r.body)
  pub slots : i.slots ≡ slots_of r
  pub stack : i.stack ≡ height (sequence r.body)

-- An image of a resolved program's parts, as counted and measured, holds the program.
pub made : (r : Resolved) (i : Image) (gs : List Global) (b : List Cmd) (count nested : ℕ) → IsResolved r →
    gs ≡ r.globals → b ≡ r.body → image.globals i.globals.items ≡ all_named gs → count ≡ length i.globals.items →
    nested ≡ min (nesting (sequence b)) 65535 → i.slots ≡ count + nested →
    i.stack ≡ min (height (sequence b)) 65535 → i.code.items ≡ whole_code count (sequence b) → IsMade r i
made r i gs b count nested is hg hb names hc hn slots stack code =
    let c = sequence r.body in
    let globals = names ∙ ap all_named hg in
    let all : count ≡ length r.globals = hc ∙ copies_long i.globals.items r.globals globals in
    let deep = ap (λ b. nesting (sequence b)) hb in
    let high = ap (λ b. height (sequence b)) hb in
    record {
      globals = globals;
      code = code ∙ ap (λ n. whole_code n (sequence b)) all ∙ ap (λ b. whole_code (length r.globals) (sequence b)) hb;
      slots = omega (arith, slots, all, hn, deep, is.nested);
      stack = omega (arith, stack, high, height-within_depth c, is.shallow);
    }

-- The fields with these parts.
abbrev parts : List image.Global → ℕ → ℕ → List Instr → Fields
parts globals slots stack code = record { globals = globals; slots = slots; stack = stack; code = code }

-- An image that holds a program has the fields that the program determines.
pub made_fields : (r : Resolved) (i : Image) → IsMade r i → fields i ≡ image_of (all_named r.globals) (sequence r.body)
made_fields r i m =
    let gs = all_named r.globals in
    let c = sequence r.body in
    let count : length r.globals ≡ length gs = sym (length-map r.globals named_global) in
    ap (λ x. parts x i.slots i.stack i.code.items) m.globals
    ∙ ap (λ n. parts gs n i.stack i.code.items) (m.slots ∙ ap (λ n. n + nesting c) count)
    ∙ ap (λ n. parts gs (length gs + nesting c) n i.code.items) m.stack
    ∙ ap (parts gs (length gs + nesting c) (height c)) (m.code ∙ ap (λ n. whole_code n c) count)

module _ (r : Resolved) (i : Image) (is : IsResolved r) (m : IsMade r i) where
  -- The fields of the image are within their limits.
  allowed : IsAllowed (fields i)
  allowed =
      let c = sequence r.body in
      let g = length r.globals in
      let count : length (image.globals i.globals.items) ≡ g = ap length m.globals
      ∙ length-map r.globals named_global in
      record {
        globals = omega (arith, count, is.few_globals);
        slots_above = omega (arith, count, m.slots);
        slots = omega (arith, m.slots, is.few_globals, is.nested);
        stack = omega (arith, m.stack, height-within_depth c, is.shallow);
        count = omega (arith, ap length m.code, whole_long g c, is.small);
        names = subst (AreGlobals []) (sym m.globals) (are_globals r.globals is.named is.distinct);
      }

  -- The image is valid.
  pub made_valid : IsValid i
  made_valid = valid i (length r.globals) (sequence r.body) allowed is.places m.code m.slots m.stack

  -- The image behaves like the body.
  pub made_behaves : Behaves (length r.globals) (sequence r.body) i
  made_behaves = behaves (length r.globals) (sequence r.body) i is.places m.code m.slots

  -- The stack is the greatest depth of the code.
  pub made_deepest : IsGreatestDepth i.code.items i.stack
  made_deepest = greatest i (length r.globals) (sequence r.body) made_valid is.places m.code m.slots m.stack

  -- The code has one instruction more than the body's size.
  pub made_count : length i.code.items ≡ size (sequence r.body) + 1
  made_count = ap length m.code ∙ whole_long (length r.globals) (sequence r.body)
