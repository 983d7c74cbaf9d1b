-- How far one broken tile reaches, of two whole lists of row calls. Assumes nothing.
use Rattle.std.specs.Prelude.{◌≡◌, true, false, ◌&&◌, ◌||◌, List, [], ◌∷◌, ℕ, zero, suc, ◌+◌, ◌-◌, ◌*◌, ◌≤◌, ◌<◌, max, eqb, length, get_or}
use Rattle.settings.specs.declared.Settings.{Settings}
use Rattle.columns.specs.Columns.{neighbours, is_predecessor, HopsWithin, link}
use Rattle.admission.specs.Call.{Call}
use Rattle.columns.specs.Marks.{marked}
use Rattle.runs.specs.Run.{accepted_calls, rows, call_at, row_at}

-- §11.6 the accepted calls of two runs, with all else equal: the tile of column k in row f is faulty in the second alone, the values
-- on its links into row f + 1 are free, and no other tile is faulty in either
pub record Alike (w f k : ℕ) (xs ys : List Call) : Type 0 where
  pub as_many : length xs ≡ length ys
  pub drifts : (l : ℕ) → l < length xs → (call_at xs l).drifts ≡ (call_at ys l).drifts
  pub phases : (l : ℕ) → l < length xs → (call_at xs l).phases ≡ (call_at ys l).phases
  pub first_clean : (l c : ℕ) → l < length xs → c < w → marked (call_at xs l).marks c ≡ false
  pub marks : (l c : ℕ) → l < length xs → c < w → marked (call_at ys l).marks c ≡ (eqb l f && eqb c k)
  pub links :
      (l c j : ℕ) → l < length xs → c < w → j < w → is_predecessor w c j ≡ true → (eqb l f && eqb j k) ≡ false →
      link w (call_at xs l).links c j ≡ link w (call_at ys l).links c j

-- §11.6 the same where other tiles are faulty too, alike in both runs: the tile of column k in row f is the only one that differs
pub record AlikeAmong (w f k : ℕ) (xs ys : List Call) : Type 0 where
  pub as_many : length xs ≡ length ys
  pub drifts : (l : ℕ) → l < length xs → (call_at xs l).drifts ≡ (call_at ys l).drifts
  pub phases : (l : ℕ) → l < length xs → (call_at xs l).phases ≡ (call_at ys l).phases
  pub correct : marked (call_at xs f).marks k ≡ false
  pub marks : (l c : ℕ) → l < length xs → c < w → marked (call_at ys l).marks c ≡ (marked (call_at xs l).marks c || (eqb l f && eqb c k))
  pub links :
      (l c j : ℕ) → l < length xs → c < w → j < w → is_predecessor w c j ≡ true → (eqb l f && eqb j k) ≡ false →
      link w (call_at xs l).links c j ≡ link w (call_at ys l).links c j

-- §11.6 two runs side by side, by their accepted calls: alike but for the tile of column k in row f, which is a row that a call comes
-- after. Each statement has them under the same settings and from the same row 0 times. How many rows they have is not asked, so that
-- runs of R rows are among them.
pub record TwoRuns (Like : (w f k : ℕ) → (xs ys : List Call) → Type 0) (w f k : ℕ) (xs ys : List Call) : Type 0 where
  pub row : f < length xs
  pub column : k < w
  pub alike : Like w f k xs ys

-- §12.3 how far apart two times are, whichever is the larger
unfoldable pub apart : (a b : ℕ) → ℕ
apart a b = (a - b) + (b - a)

-- §12.3 the largest gap between a time and those of some columns
unfoldable pub widest : (t : ℕ) → (row : List ℕ) → (columns : List ℕ) → ℕ
widest t ts [] = 0
widest t ts (k ∷ ks) = max (apart t (get_or ts k 0)) (widest t ts ks)

-- §12.3 the largest gap between a column below n and a neighbour
unfoldable pub gap_below : (n : ℕ) → (w : ℕ) → (row : List ℕ) → ℕ
gap_below zero w ts = 0
gap_below (suc c) w ts = max (gap_below c w ts) (widest (get_or ts c 0) ts (neighbours w c))

-- §12.3 B of a row
unfoldable pub widest_gap : (w : ℕ) → (row : List ℕ) → ℕ
widest_gap w ts = gap_below w w ts

-- §12.3 2B + 8h + (L - f - 1), for B of row f and n = L - f
unfoldable pub reach_ticks : Settings → (gap n : ℕ) → ℕ
reach_ticks s b n = 2 * b + 8 * s.unit + (n - 1)

-- §12.3 of two runs' rows: alike up to row f, alike in row L over L - f hops from column k, and everywhere else within the ticks of the reach
pub record Reach (s : Settings) (ts : List ℕ) (f k : ℕ) (rs qs : List (List ℕ)) : Type 0 where
  pub before : (l c : ℕ) → l ≤ f → c < s.width → get_or (row_at ts rs l) c 0 ≡ get_or (row_at ts qs l) c 0
  pub far :
      (l c : ℕ) → f < l → l ≤ length rs → c < s.width → (HopsWithin s.width (l - f) k c → ⊥) →
      get_or (row_at ts rs l) c 0 ≡ get_or (row_at ts qs l) c 0
  pub near :
      (l c : ℕ) → f < l → l ≤ length rs → c < s.width →
      apart (get_or (row_at ts rs l) c 0) (get_or (row_at ts qs l) c 0) ≤ reach_ticks s (widest_gap s.width (row_at ts rs f)) (l - f)

-- §12.3 the reach of one faulty tile, of any two runs that are alike but for it
unfoldable pub OneFault : Type 0
OneFault =
    (s : Settings) (ts : List ℕ) (xs ys : List Call) (f k : ℕ) → TwoRuns Alike s.width f k (accepted_calls s xs ts) (accepted_calls s ys ts) →
    Reach s ts f k (rows s xs ts) (rows s ys ts)

-- §12.3 the same where other tiles are faulty too, alike in both runs
unfoldable pub OneMoreFault : Type 0
OneMoreFault =
    (s : Settings) (ts : List ℕ) (xs ys : List Call) (f k : ℕ) → TwoRuns AlikeAmong s.width f k (accepted_calls s xs ts) (accepted_calls s ys ts) →
    Reach s ts f k (rows s xs ts) (rows s ys ts)
