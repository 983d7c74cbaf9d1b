-- The proofs of what specs/Span.antt, specs/Survey.antt, specs/Answers.antt and specs/Promises.antt state. Assumes nothing.
use mathlib.Core.Path.{◌≡◌}
use mathlib.Core.List.{[], ◌∷◌}
use Prim.Native.Nat.{ℕ, ◌≤◌, ◌<◌}
use lib.ListN.{length, take}
use native.Mathlib.Omega.{arith}
use Rattle.settings.proofs.Laws.Cases.{by_order}
use Rattle.runs.specs.Run.{rows}
use Rattle.runs.specs.Reach.{apart, reach_ticks, OneFault}
use Rattle.runs.proofs.Promises.{one_fault}
use Rattle.runs.proofs.Laws.Run.{run_of}
use Rattle.runs.proofs.Laws.Reach.{neighbours_apart}
use Rattle.reach.specs.Span.{SpanRight}
use Rattle.reach.specs.Survey.{last_reach, RowSurveyed}
use Rattle.reach.specs.Answers.{GapAnswered, ReachAnswered, SurveyAnswered}
use Rattle.reach.specs.Promises.{BLargest, RowReached, SearchRange, LargestEnough}
use Rattle.reach.proofs.Laws.Gap.{not_wider}
use Rattle.reach.proofs.Laws.Span.{spanned}
use Rattle.reach.proofs.Laws.Survey.{row_surveyed as row_law, largest_each, taken_length, taken_at, row_is}
use Rattle.reach.proofs.Laws.Answers.{gap_answer, reach_answer, row_answer, survey_answer}
use Rattle.reach.proofs.Laws.Range.{has_gap, in_row, searched}

pub span_right : SpanRight
unfolding SpanRight
span_right w n k c wide i j = spanned w n k c wide i j

pub row_surveyed : RowSurveyed
unfolding RowSurveyed
row_surveyed s l m ts ok i long early = row_law s ok l m ts i long early

pub gap_answered : GapAnswered
unfolding GapAnswered
gap_answered s row = gap_answer s row

pub reach_answered : ReachAnswered
unfolding ReachAnswered
reach_answered s b f l n k = (reach_answer s b n k, row_answer s b f l k)

pub survey_answered : SurveyAnswered
unfolding SurveyAnswered
survey_answered s l m row = survey_answer s l m row

pub b_largest : BLargest
unfolding BLargest
b_largest w row most = (not_wider row most w, λ h c j i l e. omega (arith, h, neighbours_apart row w c j i l e))

pub row_reached : RowReached
unfolding RowReached
row_reached s row f l k ok long early after last_row column =
    (has_gap s row f l k ok long early after last_row column, in_row s row f l k ok long early after last_row column)

pub search_range : SearchRange
unfolding SearchRange
search_range s ts xs ys f k l runs all after last_row = searched s ts xs ys f k runs all l after last_row

-- two times that are the same are not apart
apart_none : (a b : ℕ) → a ≡ b → apart a b ≡ 0
unfolding apart
apart_none a b e = omega arith

pub largest_enough : LargestEnough
unfolding LargestEnough OneFault last_reach reach_ticks
largest_enough s ts xs ys f k l c runs all m n =
    let r = one_fault s ts xs ys f k runs in
    let rs = ts ∷ rows s xs ts in
    let more : s.rows ≤ length rs = omega (arith, all) in
    let in_wall : f < s.rows = omega (arith, runs.row, (run_of s xs ts).as_many, all) in
    let each = largest_each s 0 0 f (take s.rows rs) (omega (arith, taken_length s.rows rs more, in_wall)) in
    let here = rw (taken_at s.rows f rs [] in_wall, row_is ts (rows s xs ts) f) at each in
    by_order l f
    (λ q. omega (arith, apart_none _ _ (r.before l c q n)))
    (λ q. omega (arith, r.near l c q (omega (arith, all, m)) n, here, m))
