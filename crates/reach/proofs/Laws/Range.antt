-- The answers for a row of a wall, and for two runs side by side. Assumes nothing.
use mathlib.Core.Path.{◌≡◌}
use mathlib.Core.Bool.{false}
use mathlib.Core.List.{List}
use mathlib.Core.Option.{some}
use Prim.Native.Nat.{ℕ, ◌-◌, ◌≤◌, ◌<◌}
use lib.ListN.{length, get_or}
use native.Mathlib.Omega.{arith}
use Rattle.settings.specs.Settings.{settings_refusal}
use Rattle.std.specs.Prelude.{Option, Result}
use Rattle.settings.specs.declared.Settings.{Settings}
use Rattle.settings.specs.declared.refusal.Refusal.{Refusal}
use Rattle.settings.proofs.Laws.Settings.{limits}
use Rattle.rule.specs.Stamp.{latest_stamp}
use Rattle.admission.specs.Call.{Call}
use Rattle.admission.proofs.Laws.Accepted.{Accepted, accepted}
use Rattle.runs.specs.Run.{accepted_calls, rows, call_at, row_at}
use Rattle.runs.specs.Reach.{Alike, TwoRuns, widest_gap, reach_ticks, OneFault}
use Rattle.runs.proofs.Promises.{one_fault}
use Rattle.runs.proofs.Laws.Run.{run_of, run_checked}
use Rattle.reach.specs.Span.{first_within, last_within, Spanned}
use Rattle.reach.specs.Search.{gap_of, reach_of, reach_in_row}
use Rattle.reach.specs.Answers.{GapIs, ReachedIs}
use Rattle.reach.specs.Promises.{Covers, Searched}
use Rattle.reach.specs.declared.Range.{Range}
use Rattle.reach.proofs.Laws.Gap.{gap_small}
use Rattle.reach.proofs.Laws.Span.{spanned}
use Rattle.reach.proofs.Laws.Answers.{gap_answer, reach_answer, row_answer}

-- a row of a wall
module _ (s : Settings) (row : List ℕ) (f l k : ℕ) (ok : settings_refusal s ≡ 0) (long : length row ≡ s.width)
    (early : (c : ℕ) → c < s.width → get_or row c 0 ≤ latest_stamp) (after : f < l) (last_row : l ≤ s.rows) (column : k < s.width) where
  abbrev b : ℕ
  b = widest_gap s.width row

  pub has_gap : GapIs (gap_of s row) 0 (some b)
  has_gap = (gap_answer s row).found ok long

  pub by_rows : ReachedIs (reach_of s b (l - f) k) 0 false (some (reach_ticks s b (l - f))) (some (first_within s.width k (l - f))) (some (last_within s.width k (l - f)))
  by_rows = (reach_answer s b (l - f) k).found ok (omega (arith, after)) (omega (arith, last_row)) column (gap_small s.width row early)

  pub in_row : ReachedIs (reach_in_row s b f l k) 0 false (some (reach_ticks s b (l - f))) (some (first_within s.width k (l - f))) (some (last_within s.width k (l - f)))
  in_row = rw ((row_answer s b f l k).later ok after last_row) by_rows

-- two runs: the rows that calls come after are rows of a wall, since each call is accepted, and in the first marks nothing
module _ (s : Settings) (ts : List ℕ) (xs ys : List Call) (f k : ℕ) (t : TwoRuns Alike s.width f k (accepted_calls s xs ts) (accepted_calls s ys ts)) where
  first_accepted : (l : ℕ) → l < length (accepted_calls s xs ts) → Accepted s (row_at ts (rows s xs ts) l) (call_at (accepted_calls s xs ts) l)
  first_accepted l i = accepted s (row_at ts (rows s xs ts) l) (call_at (accepted_calls s xs ts) l) ((run_of s xs ts).goes l i)

  pub first_early : (l : ℕ) → l < length (rows s xs ts) → (c : ℕ) → c < s.width → get_or (row_at ts (rows s xs ts) l) c 0 ≤ latest_stamp
  first_early l i c j =
      let called : l < length (accepted_calls s xs ts) = omega (arith, i, (run_of s xs ts).as_many) in
      omega (arith, (first_accepted l called).time c j (t.alike.first_clean l c called j))

  checked : settings_refusal s ≡ 0
  checked = run_checked (run_of s xs ts) f t.row

  row_long : length (row_at ts (rows s xs ts) f) ≡ s.width
  row_long = (first_accepted f t.row).lengths.before

  -- so they are what the answers for row f of the first run cover
  abbrev before : List ℕ
  before = row_at ts (rows s xs ts) f

  module _ (all : length (rows s xs ts) ≡ s.rows) (l : ℕ) (after : f < l) (last_row : l ≤ s.rows) where
    abbrev B : ℕ
    B = widest_gap s.width before

    covers : (answer : Result (Option Range) Refusal) →
        ReachedIs answer 0 false (some (reach_ticks s B (l - f))) (some (first_within s.width k (l - f))) (some (last_within s.width k (l - f))) →
        Covers answer s.width (row_at ts (rows s xs ts) l) (row_at ts (rows s ys ts) l)
    unfolding ReachedIs OneFault
    covers answer is =
        let r = one_fault s ts xs ys f k t in
        let span : (c : ℕ) → c < s.width → Spanned s.width (l - f) k c = λ c i. spanned s.width (l - f) k c (limits s checked).width.0 t.column i in
        let few : l ≤ length (rows s xs ts) = omega (arith, all, last_row) in
        record {
          ticks = reach_ticks s B (l - f);
          first = first_within s.width k (l - f);
          last = last_within s.width k (l - f);
          has_ticks = is.2;
          has_first = is.3;
          has_last = is.4;
          before = λ c i j. r.far l c after few i (λ v. let never : ⊥ = omega (arith, j, ((span c i).reached v).0) in never);
          after = λ c i j. r.far l c after few i (λ v. let never : ⊥ = omega (arith, j, ((span c i).reached v).1) in never);
          near = λ c i. omega (arith, r.near l c after few i);
        }

    pub searched : Searched s before f l k (row_at ts (rows s xs ts) l) (row_at ts (rows s ys ts) l)
    unfolding GapIs
    searched =
        let early = first_early f (omega (arith, (run_of s xs ts).as_many, t.row)) in
        record {
          B = B;
          has_B = (has_gap s before f l k checked row_long early after last_row t.column).1;
          in_row = covers (reach_in_row s B f l k) (in_row s before f l k checked row_long early after last_row t.column);
          by_rows = covers (reach_of s B (l - f) k) (by_rows s before f l k checked row_long early after last_row t.column);
        }
