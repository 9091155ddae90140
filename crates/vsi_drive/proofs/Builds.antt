-- Texts that are written whole.
use Rattle.std.proofs.Common.{◌≡◌, ◌≢◌, ℕ, List, Option, Some, sym, ap, subst, ◌∙◌, Result, Ok, Err}
use Rattle.std.specs.Prelude.{OnOk}
use Rattle.std.specs.Option.{option_map}
use Rattle.std.specs.Io.KnownBytes.{Appends}
use Rattle.std.proofs.lemmas.Option.{none-some}
use Rattle.vsi_image.specs.declared.encoder.EncodeError.{EncodeError}
use Rattle.vsi_image.specs.declared.encoder.EncodeError.TheVariants.{Memory, Unencodable}
use Rattle.vsi_image.specs.declared.encoder.Limit.{Limit}
use Rattle.vsi_image.specs.Fields.{Fields, IsAllowed}
use Rattle.vsi_image.specs.Limits.{first_limit}
use Rattle.vsi_image.proofs.Limited.{no_limits}
use Rattle.vsi_drive.specs.Running.{WrittenSome}

-- A call that didn't fail has written a text of this kind.
pub written_some : {X E : Type 0} (r : Result X E) (kind : List ℕ → Type 0) (a b : Option (List ℕ))
    (text bytes : List ℕ) →
    kind bytes → text ≡ bytes → OnOk r (Appends a b text) → OnOk r (WrittenSome kind a b)
written_some (Ok x) kind a b text bytes is same h = (bytes, is, subst (Appends a b) same h)
written_some (Err e) kind a b text bytes is same h = tt

-- An image within its limits isn't refused for a limit.
pub never_past : (f : Fields) (limit : Limit) → IsAllowed f →
    (◌≢◌ {A = EncodeError} (Unencodable limit) Memory →
    option_map Unencodable (first_limit f) ≡ Some (Unencodable limit)) → ⊥
never_past f limit allowed told =
    let other : ◌≢◌ {A = EncodeError} (Unencodable limit) Memory = λ q. cc in
    none-some _ (sym (ap (option_map Unencodable) (no_limits f allowed)) ∙ told other)
