-- The allowed keys of a table, one by one.
use Rattle.std.proofs.Common.{◌≡◌, ℕ, Bool, true, List, refl, ap, ◌∙◌}
use Rattle.std.specs.Prelude.{◌&&◌}
use Rattle.toml.specs.Data.{Data, Members, member}
use Rattle.vsi_conform.specs.Reading.{has_keys, is_among}

-- If a key is allowed, a table has only allowed keys exactly if the rest of it has.
pub key_allowed : (all : Bool) (keys : List (List ℕ)) (key : List ℕ) (d : Data) (rest : Members) →
    is_among keys key ≡ true → all ≡ has_keys keys (member key d rest) → all ≡ has_keys keys rest
key_allowed all keys key d rest is h = h ∙ ap (λ b. b && has_keys keys rest) is
