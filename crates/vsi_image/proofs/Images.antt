-- The bytes of an image that is read are its spelling, and a spelling is read back.
use Rattle.std.proofs.Common.{◌≡◌, ℕ, suc, Bool, false, eqb, List, [], ◌∷◌, ◌++◌, length, Result, Ok, Err, refl, sym, ap, subst, ◌∙◌, arith, append_assoc, if◌then◌else◌, ◌==◌}
use Rattle.std.specs.Prelude.{IfOk, Some, slice_get}
use Rattle.std.specs.List.{flat_map}
use Rattle.std.proofs.lemmas.Option.{same_Some}
use Rattle.std.proofs.lemmas.Bool.{eqb-true}
use Rattle.std.proofs.lemmas.Bool.Decides.{nat_tests}
use Rattle.std.proofs.lemmas.List.{append-nil, nil_from_length, length-append}
use Rattle.vsi_image.specs.declared.instr.Image.{Image}
use Rattle.vsi_image.specs.declared.decoder.DecodeError.{DecodeError}
use Rattle.vsi_image.specs.declared.decoder.DecodeError.TheVariants.{Trailing}
use Rattle.vsi_image.specs.Fields.{Fields, fields, global_bytes, instr_bytes, head_bytes, bytes_of, HasBytes, Spells}
use Rattle.vsi_image.specs.Reading.{Head, Gives, EndsThere, place, head_at, globals_at, code_at, image_at, image_of}
use Rattle.vsi_image.proofs.Numbers.{IsBytes, bind_found, test_found, Takes-then}
use Rattle.vsi_image.proofs.Globals.{globals_found, globals_again}
use Rattle.vsi_image.proofs.Instrs.{code_found, code_again}
use Rattle.vsi_image.proofs.Heads.{HeadFits, head_found, head_again}

-- The refusal of bytes.
abbrev refused : DecodeError → Result Fields DecodeError
refused e = Err e

-- The bytes of an image that is read are its spelling.
pub image_found : (whole : ℕ) (bytes : List ℕ) → IsBytes bytes → IfOk (image_at whole bytes) (Spells bytes)
unfolding image_at
image_found whole bytes fits =
    let Q = Spells bytes in
    bind_found (head_at whole bytes) _ _ Q (head_found whole bytes fits) (λ h th.
    bind_found (globals_at h.0.globals [] whole h.1) _ _ Q
    (globals_found h.0.globals whole [] h.1 th.taken.rest_fits) (λ g tg.
    bind_found (code_at h.0.count h.0.version whole g.1) _ _ Q
    (code_found h.0.count h.0.version whole g.1 tg.taken.rest_fits) (λ c tc.
    test_found (eqb (length c.1) 0) _ _ Q (λ e.
    let nothing : c.1 ≡ [] = nil_from_length c.1 (eqb-true _ _ e) in
    let head = head_bytes h.0.version h.0.globals h.0.slots h.0.stack h.0.count in
    let body = flat_map global_bytes g.0 ++ flat_map instr_bytes c.0 in
    let behind = Takes-then h.1 (flat_map global_bytes g.0) g.1 (flat_map instr_bytes c.0) c.1 tg.taken tc.taken in
    let all : bytes ≡ head ++ body =
    (Takes-then bytes head h.1 body c.1 th.taken behind).parts
    ∙ ap (λ (r : List ℕ). (head ++ body) ++ r) nothing ∙ append-nil (head ++ body) in
    let n : h.0.globals ≡ length g.0 = sym tg.len in
    let m : h.0.count ≡ length c.0 = sym tc.len in
    let x0 = th.fits.globals in
    let x1 = th.fits.above in
    let x2 = th.fits.count in
    record {
      version = h.0.version;
      fits = record {
        low = th.fits.low;
        high = th.fits.high;
        allowed = record {
          globals = omega (arith, n, x0);
          slots_above = omega (arith, n, x1);
          slots = th.fits.slots;
          stack = th.fits.stack;
          count = omega (arith, m, x2);
          names = tg.fit;
        };
        code = tc.fit;
      };
      spelled = rw (← n, ← m) all;
    }) (λ _. tt))))

-- The spelling of an image in a version is read back, and bytes after it are refused.
image_again :
    (whole version : ℕ) (f : Fields) (rest : List ℕ) → HasBytes version f
    → image_at whole (bytes_of version f ++ rest)
    ≡ (if length rest == 0 then Ok f else Err (Trailing (place whole rest)))
unfolding image_at
image_again whole version f rest h =
    let a = h.allowed in
    let head : Head =
    record {
      version = version;
      globals = length f.globals;
      slots = f.slots;
      stack = f.stack;
      count = length f.code;
    } in
    let fits : HeadFits head =
    record {
      low = h.low;
      high = h.high;
      globals = a.globals;
      above = a.slots_above;
      slots = a.slots;
      stack = a.stack;
      count = a.count;
    } in
    let front = head_bytes version (length f.globals) f.slots f.stack (length f.code) in
    let named = flat_map global_bytes f.globals in
    let codes = flat_map instr_bytes f.code in
    let regrouped : bytes_of version f ++ rest ≡ front ++ (named ++ (codes ++ rest)) =
    append_assoc front (named ++ codes) rest ∙ ap (λ (b : List ℕ). front ++ b) (append_assoc named codes rest) in
    let globals = globals_again whole f.globals [] (codes ++ rest) a.names in
    let code = code_again version whole f.code rest h.code in
    ap (image_at whole) regrouped
    ∙ rw (head_again whole head (named ++ (codes ++ rest)) fits, globals, code) refl

-- The spelling of an image is read back.
pub spelled-is_read : (bytes : List ℕ) (f : Fields) → Spells bytes f → image_of bytes ≡ Ok f
spelled-is_read bytes f s =
    let bare = bytes_of s.version f in
    ap (image_at (length bytes)) (s.spelled ∙ sym (append-nil bare))
    ∙ image_again (length bytes) s.version f [] s.fits

-- The successor of a number isn't 0.
not_none : (n : ℕ) → (suc n == 0) ≡ false
not_none n = grind (arith, nat_tests)

-- Bytes after a spelling are left over.
pub spelled-ends : (bytes : List ℕ) (f : Fields) → Spells bytes f → EndsThere bytes
spelled-ends bytes f s next rest =
    let whole = length (bytes ++ next ∷ rest) in
    let at : place whole (next ∷ rest) ≡ length bytes = omega (arith, length-append bytes (next ∷ rest)) in
    ap (λ (b : List ℕ). image_at whole (b ++ next ∷ rest)) s.spelled
    ∙ image_again whole s.version f (next ∷ rest) s.fits
    ∙ ap (λ (b : Bool). if b then Ok f else refused (Trailing (place whole (next ∷ rest)))) (not_none (length rest))
    ∙ ap (λ (n : ℕ). refused (Trailing n)) at

-- If a function returns the image that reading gives, the bytes spell that image.
pub read-is_spelled :
    (bytes : List ℕ) (r : Result Image DecodeError) → IsBytes bytes → Gives fields r (image_of bytes)
    → IfOk r (λ i. Spells bytes (fields i))
read-is_spelled bytes (Ok v) fits given =
    subst (λ (s : Result Fields DecodeError). IfOk s (Spells bytes)) given (image_found (length bytes) bytes fits)
read-is_spelled bytes (Err e) fits given = tt

-- The bytes of an image are its only spelling in the version that is in byte 3.
pub spelled-by_version :
    (bytes : List ℕ) (f : Fields) (version : ℕ) → Spells bytes f → slice_get bytes 3 ≡ Some version
    → bytes ≡ bytes_of version f
spelled-by_version bytes f version s e =
    let third = ap (λ (b : List ℕ). slice_get b 3) (sym s.spelled) in
    s.spelled ∙ ap (λ (v : ℕ). bytes_of v f) (same_Some _ _ (third ∙ e))

-- If a function returns the image that reading gives, it has one spelling in its version.
pub read-by_version :
    (bytes : List ℕ) (r : Result Image DecodeError) → IfOk r (λ i. Spells bytes (fields i))
    → IfOk r (λ i. (version : ℕ) → slice_get bytes 3 ≡ Some version → bytes ≡ bytes_of version (fields i))
read-by_version bytes (Ok v) s = λ version e. spelled-by_version bytes (fields v) version s e
read-by_version bytes (Err e) s = tt

-- Two spellings of an image that agree on the version are equal.
pub spellings-agree :
    (f : Fields) (a b : List ℕ) → Spells a f → Spells b f → slice_get a 3 ≡ slice_get b 3 → a ≡ b
spellings-agree f a b s t e =
    let third = ap (λ (x : List ℕ). slice_get x 3) s.spelled in
    spelled-by_version a f s.version s third ∙ sym (spelled-by_version b f s.version t (sym e ∙ third))

-- The result of reading that is an image.
abbrev given : Fields → Result Fields DecodeError
given f = Ok f

-- Equal results of reading are of equal images.
same_image : (f g : Fields) → given f ≡ given g → f ≡ g
same_image f g e = cc

-- Bytes that spell two images spell equal ones.
pub images-agree : (bytes : List ℕ) (f g : Fields) → Spells bytes f → Spells bytes g → f ≡ g
images-agree bytes f g s t = same_image f g (sym (spelled-is_read bytes f s) ∙ spelled-is_read bytes g t)
