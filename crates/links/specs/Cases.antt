-- Link values at numbers, of a wall with d 100 and u 10. Assumes nothing.
use Rattle.std.specs.Prelude.{◌≡◌, ℕ, ◌-◌, ◌^◌, Bool, true, false, List, [], ◌∷◌, map}
use Rattle.settings.specs.Settings.{settings}
use Rattle.links.specs.Links.{latest_time, bad_value}

-- §7.4 whether they are bad
unfoldable pub bad : (faulty : Bool) → (values : List ℕ) → List Bool
bad f vs = map (bad_value (settings 6 1 100 10 400 0 12) f) vs

-- §7.4 a delay is from 90 to 100, and silence is none; a faulty arrival is at most 2^40 - 1, or silence
unfoldable pub ValuesMet : Type 0
ValuesMet =
    (bad false (89 ∷ 90 ∷ 100 ∷ 101 ∷ 18446744073709551615 ∷ []) ≡ true ∷ false ∷ false ∷ true ∷ true ∷ [])
    × (bad true (0 ∷ 1099511627775 ∷ 1099511627776 ∷ 18446744073709551614 ∷ 18446744073709551615 ∷ []) ≡ false ∷ false ∷ true ∷ true ∷ false ∷ [])
    × (latest_time ≡ 2 ^ 40 - 1)
