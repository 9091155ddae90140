-- Whether there are no released outputs.
use Rattle.std.proofs.Common.{◌≡◌, ◌==◌, true, false, List, [], ◌∷◌, length, map, codes, refl, arith}
use Rattle.std.proofs.lemmas.Bool.Decides.{nat_tests}
use Rattle.serde_json.specs.Data.{Members, array, put}
use Rattle.serde_json.specs.View.{items_of}
use Rattle.vsi_conform.specs.Conformity.{reached, with_reached}
use Rattle.vsi_conform.specs.Reaching.{released}
use Rattle.vsi_conform.specs.declared.reaching.Reach.{Reach}

-- If there are none, there is no member for them.
pub none_reached : (rs : List Reach) (ms : Members) → (length rs == 0) ≡ true →
    with_reached (map released rs) ms ≡ ms
none_reached [] ms h = refl
none_reached (r ∷ rest) ms h = absurd (grind (arith, nat_tests, h))

-- If there is one, there is a member for them.
pub some_reached : (rs : List Reach) (ms : Members) → (length rs == 0) ≡ false →
    with_reached (map released rs) ms ≡ put (codes "reached") (array (items_of (reached (map released rs)))) ms
some_reached [] ms h = absurd cc
some_reached (r ∷ rest) ms h = refl
