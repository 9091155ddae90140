-- The page of each refusal.
use Rattle.std.specs.Prelude.{ℕ, ◌-◌, ◌==◌, List, Option, None, map, slice_get, if◌then◌else◌}
use Rattle.vsi_arguments.specs.Refusals.{is_from}
use Rattle.vsi_arguments.specs.declared.explained.files.TheConstants.{IMAGE}
use Rattle.vsi_arguments.specs.declared.explained.files.TheConstants.{LATTICE}
use Rattle.vsi_arguments.specs.declared.explained.store.TheConstants.{STORE}
use Rattle.vsi_arguments.specs.declared.explained.text.TheConstants.{TEXT}

-- The page of the refusal of this number.
abbrev pub page_of : ℕ → Option (List ℕ)
page_of number =
    if is_from 1 10 number then slice_get (map (λ page. page.now) LATTICE) (number - 1)
    else if is_from 11 22 number then slice_get (map (λ page. page.now) TEXT) (number - 11)
    else if number == 25 then slice_get (map (λ page. page.now) TEXT) 12
    else if is_from 26 38 number then slice_get (map (λ page. page.now) IMAGE) (number - 26)
    else if is_from 39 48 number then slice_get (map (λ page. page.now) STORE) (number - 39)
    else if is_from 49 51 number then slice_get (map (λ page. page.now) IMAGE) (number - 36)
    else if number == 56 then slice_get (map (λ page. page.now) STORE) 10
    else if is_from 60 65 number then slice_get (map (λ page. page.now) STORE) (number - 49)
    else None
