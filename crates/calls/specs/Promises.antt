-- What is promised of calls one after the other. Proved in proofs/Promises.antt, under its name in small letters. Assumes nothing.
use Rattle.std.specs.Prelude.{◌≡◌, List, [], ◌∷◌, ℕ, ◌≤◌, ◌<◌, length, get_or}
use Rattle.settings.specs.Settings.{settings_refusal}
use Rattle.settings.specs.declared.Settings.{Settings}
use Rattle.rule.specs.Stamp.{latest_stamp}
use Rattle.reach.specs.Survey.{surveyed_of, largest_of}
use Rattle.calls.specs.Answers.{survey_left}

-- §15.3 a survey that is handed rows one after the other
unfoldable pub surveys : Settings → (rows : List (List ℕ)) → (survey : List ℕ) → List ℕ
surveys s [] held = held
surveys s (ts ∷ rs) held = surveys s rs (survey_left (surveyed_of s (get_or held 0 0) (get_or held 2 0) ts) held)

-- §15.3 a row of a wall: W times, each below 2^41
pub record OfWall (s : Settings) (row : List ℕ) : Type 0 where
  pub long : length row ≡ s.width
  pub early : (c : ℕ) → c < s.width → get_or row c 0 ≤ latest_stamp

-- §15.3 rows of a wall, no more than come before its last, leave the survey with their number and the largest of their reaches
unfoldable pub SurveysLargest : Type 0
SurveysLargest =
    (s : Settings) (rows : List (List ℕ)) → settings_refusal s ≡ 0 → length rows ≤ s.rows →
    ((f : ℕ) → f < length rows → OfWall s (get_or rows f [])) →
    let survey = surveys s rows (0 ∷ 0 ∷ 0 ∷ []) in
    (get_or survey 0 0 ≡ length rows) × (get_or survey 2 0 ≡ largest_of s 0 0 rows)
