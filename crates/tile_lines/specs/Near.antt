-- Times near each other, which have their first digits in common. Assumes nothing.
use Rattle.std.specs.Prelude.{◌≡◌, ◌++◌, ℕ, ◌-◌, ◌^◌, ◌≤◌, ◌<◌, drop}
use Rattle.lines.specs.Number.{decimal}
use Rattle.tile_lines.specs.declared.near.Near.{Near}
use Rattle.tables.specs.Word.{bytes, padded}

-- §10.2 a time's digits: the first of them in a word, and then the last of eight
pub record Serves (near : Near) (time : ℕ) : Type 0 where
  pub past : near.base ≤ time
  pub few : time - near.base < 100000000
  pub first : near.length ≤ 8
  pub last : near.digits ≤ 8
  pub shift : 2 ^ near.shift ≡ 256 ^ (8 - near.digits)
  pub shifts : near.shift < 64
  pub text : decimal time ≡ bytes near.length near.word ++ drop (8 - near.digits) (padded 8 (time - near.base))

-- §10.2 each time of the span is served
unfoldable pub Right : Near → Type 0
Right near = (t : ℕ) → near.low ≤ t → t - near.low < near.span → Serves near t
