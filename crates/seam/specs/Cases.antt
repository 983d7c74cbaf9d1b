-- Seams at numbers: closed, open in each way, and turned away. The bits of closed ones are those of `PrintedBits` and `OddBits`. Each
-- statement is proved in proofs/Cases.antt, under its name in small letters. Assumes nothing.
use Rattle.std.specs.Prelude.{◌≡◌, Bool, true, false, ℕ}
use Rattle.std.proofs.Math.Option.{Option, none, some}
use Rattle.settings.specs.Refusal.{number_in}
use Rattle.seam.specs.Seam.{halves, seam_of, halves_of, side_of}
use Rattle.seam.specs.declared.Halves.{Halves}
use Rattle.seam.specs.declared.Side.{Side}
use Rattle.seam.specs.declared.Side.TheVariants.{Left, Right, Both}

-- §13.3 a seam's answer by its number, halves and side
unfoldable pub SeamIs : (left : ℕ) (left_faulty : Bool) (right : ℕ) (right_faulty : Bool) → (number : ℕ) → Option Halves → Option Side → Type 0
SeamIs l lf r rf n h s =
    (number_in (seam_of l lf r rf) ≡ n) × (halves_of (seam_of l lf r rf) ≡ h) × (side_of (seam_of l lf r rf) ≡ s)

-- §8.2 neither is faulty; the left alone; the right alone; both
unfoldable pub OpenCases : Type 0
OpenCases =
    SeamIs 1500 false 1536 false 0 (some (halves 1500 1536)) none
    × SeamIs 1500 true 1536 false 0 none (some Left)
    × SeamIs 1500 false 1536 true 0 none (some Right)
    × SeamIs 1500 true 1536 true 0 none (some Both)

-- §8.4 31 at 2^41 and not at 2^41 - 1, on each side, beside a correct tile and beside a faulty one; of a faulty tile no time is read
unfoldable pub LateCases : Type 0
LateCases =
    SeamIs 2199023255551 false 2199023255551 false 0 (some (halves 2199023255551 2199023255551)) none
    × SeamIs 2199023255552 false 1536 false 31 none none
    × SeamIs 1500 false 2199023255552 false 31 none none
    × SeamIs 2199023255552 false 1536 true 31 none none
    × SeamIs 1500 true 2199023255552 false 31 none none
    × SeamIs 2199023255551 false 1536 true 0 none (some Right)
    × SeamIs 1500 true 2199023255551 false 0 none (some Left)
    × SeamIs 2199023255552 true 1536 false 0 none (some Left)
    × SeamIs 1500 false 2199023255552 true 0 none (some Right)
    × SeamIs 2199023255552 true 2199023255552 true 0 none (some Both)
