-- A row as it is filled: a tile more, and what holds of the row so far. Assumes nothing.
use mathlib.Core.Path.{◌≡◌, refl, sym, ◌∙◌, ap}
use mathlib.Core.List.{List, [], ◌∷◌, ◌++◌}
use Prim.Native.Nat.{ℕ, ◌+◌, ◌≤◌, ◌<◌}
use lib.ListN.{length, get_or, set, take, length-take}
use lib.Seq.{take_all, get_or-take, take-suc-set}
use native.Mathlib.Numerals.{add-one}
use native.Mathlib.Omega.{arith}
use Rattle.settings.specs.declared.Settings.{Settings}
use Rattle.rule.specs.Stamp.{silence}
use Rattle.columns.proofs.Laws.Lists.{table_length, table_at}
use Rattle.columns.proofs.Laws.Wrote.{wrote_none, wrote_more, wrote_within, wrote_over, copy_more}
use Rattle.admission.specs.Call.{Call}
use Rattle.rule.specs.Letter.{byte_of}
use Rattle.pulse.specs.Pulse.{pulse, letter_at, pulsed_at}
use Rattle.pulse.specs.declared.Pulsed.{Pulsed}
use Rattle.row.specs.declared.progress.Progress.{Progress}
use Rattle.row.specs.Row.{Pulses, pulses, row_of, letters_of, least_of, most_of}
use Rattle.row.specs.Promises.{Ends}
use Rattle.row.specs.Progress.{none_done, with_time, SoFar}
use Rattle.row.proofs.Laws.Ends.{least_grows, most_grows, front_ends}

module _ (s : Settings) (ts : List ℕ) (x : Call) where
  pub row_length : length (row_of s ts x) ≡ s.width
  unfolding row_of
  row_length = table_length (pulse s ts x) s.width 0

  pub row_at : (c : ℕ) → c < s.width → get_or (row_of s ts x) c 0 ≡ pulse s ts x c
  unfolding row_of
  row_at c i = table_at (pulse s ts x) s.width 0 c i ∙ ap (pulse s ts x) (omega arith)

  row_more : (c : ℕ) {t : ℕ} → c < s.width → t ≡ pulse s ts x c → take c (row_of s ts x) ++ (t ∷ []) ≡ take (c + 1) (row_of s ts x)
  row_more c i e = rw (e ∙ sym (row_at c i)) (copy_more (row_of s ts x) c (omega (arith, row_length)))

  pub letters_length : length (letters_of s ts x) ≡ s.width
  unfolding letters_of
  letters_length = table_length (λ c. byte_of (letter_at s ts x c)) s.width 0

  letters_at : (c : ℕ) → c < s.width → get_or (letters_of s ts x) c 0 ≡ byte_of (letter_at s ts x c)
  unfolding letters_of
  letters_at c i = table_at (λ c. byte_of (letter_at s ts x c)) s.width 0 c i ∙ ap (λ (c : ℕ). byte_of (letter_at s ts x c)) (omega arith)

  letters_more : (c : ℕ) → c < s.width → take c (letters_of s ts x) ++ (byte_of (letter_at s ts x c) ∷ []) ≡ take (c + 1) (letters_of s ts x)
  letters_more c i = rw (sym (letters_at c i)) (copy_more (letters_of s ts x) c (omega (arith, letters_length)))

  pub none_so_far : (held : Pulses) → SoFar s ts x held held none_done
  unfolding least_of most_of
  none_so_far held =
      record { pulses = wrote_none held.times 0; letters = wrote_none held.letters 0; is_least = refl; is_largest = refl }

module _ {s : Settings} {ts : List ℕ} {x : Call} {held row : Pulses} {done : Progress} (f : SoFar s ts x held row done) where
  -- only the lengths of what was held matter
  pub so_far_over : {other : Pulses} → length other.times ≡ length held.times → length other.letters ≡ length held.letters →
      SoFar s ts x other row done
  so_far_over e d =
      record { pulses = wrote_over f.pulses e; letters = wrote_over f.letters d; is_least = f.is_least; is_largest = f.is_largest }

  pub so_far_within : done.next ≤ length held.times
  so_far_within = wrote_within f.pulses (omega arith)

  -- a tile more
  pub tile_more : {p : Pulsed} {times letters : List ℕ} {r : Progress} →
      done.next < length held.times → done.next < length held.letters → done.next < s.width → p ≡ pulsed_at s ts x done.next →
      times ≡ set row.times done.next p.time → letters ≡ set row.letters done.next (byte_of p.letter) → r ≡ with_time done p.time →
      SoFar s ts x held (pulses times letters) r
  tile_more i k j e is_times is_letters is_r =
      let c = done.next in
      let t = pulse s ts x c in
      let grown : take (c + 1) (set row.times c t) ≡ take c row.times ++ (t ∷ []) =
      rw add-one (take-suc-set row.times c t (omega (arith, f.pulses.as_long))) in
      rw (is_times, is_letters, is_r, e) (record {
        pulses = wrote_more f.pulses t i (row_more s ts x c j refl) refl;
        letters = wrote_more f.letters (byte_of (letter_at s ts x c)) k (letters_more s ts x c j) refl;
        is_least = rw (grown, f.is_least) (sym (least_grows (take c row.times) t));
        is_largest = rw (grown, f.is_largest) (sym (most_grows (take c row.times) t));
      })

  -- the running values are the ends of the times so far
  pub so_far_ends : ((c : ℕ) → c < s.width → pulse s ts x c ≤ silence) → 0 < done.next → Ends done.next row.times done.earliest done.latest
  so_far_ends small i =
      let n = done.next in
      let times = row_of s ts x in
      let in_row : n ≤ s.width = omega (arith, f.pulses.goes, length-take n times, row_length s ts x) in
      let time : (c : ℕ) → c < n → get_or (take n row.times) c 0 ≡ pulse s ts x c = λ c j. rw (f.pulses.holds, get_or-take n times c 0 j) (row_at s ts x c (omega arith)) in
      rw (f.is_least, f.is_largest)
      (front_ends row.times n (omega (arith, so_far_within, f.pulses.as_long)) i (λ c j. rw (time c j) (small c (omega arith))))

  -- after the last tile the times so far are the row
  pub all_so_far : done.next ≡ s.width → take done.next row.times ≡ row_of s ts x
  all_so_far e = f.pulses.holds ∙ take_all done.next (row_of s ts x) (omega (arith, row_length s ts x))

  pub row_whole : done.next ≡ s.width → length held.times ≡ s.width → row.times ≡ row_of s ts x
  row_whole e room = sym (take_all done.next row.times (omega (arith, f.pulses.as_long))) ∙ all_so_far e

  -- and the letters so far are its letters
  pub letters_whole : done.next ≡ s.width → length held.letters ≡ s.width → row.letters ≡ letters_of s ts x
  letters_whole e room =
      sym (take_all done.next row.letters (omega (arith, f.letters.as_long)))
      ∙ f.letters.holds
      ∙ take_all done.next (letters_of s ts x) (omega (arith, letters_length s ts x))
