-- Two runs that meet the hypotheses of §12.3, their rows and their reach, by computing them. Assumes nothing.
use mathlib.Core.Path.{◌≡◌, refl}
use mathlib.Core.Bool.{Bool, true, false, not, ◌&&◌, beq, true≢false}
use mathlib.Core.List.{[], ◌∷◌}
use Prim.Native.Nat.{ℕ, zero, suc, ◌≤◌, ◌<◌}
use lib.Dec.{eqb, lit<, lit≤}
use lib.ListN.{get_or}
use native.Mathlib.Omega.{arith}
use borrow.Author.Tests.{eqb-true, not-false}
use Rattle.settings.specs.Refusal.{first, or_else, outside, any_below}
use Rattle.settings.specs.Rounding.{up}
use Rattle.settings.specs.Settings.{settings, settings_cause, settings_tests, drift_cost, step, step_of}
use Rattle.rule.specs.Clock.{reads, first_tick}
use Rattle.rule.specs.Signed.{larger, smaller, natural}
use Rattle.rule.specs.Stamp.{earlier, later, earliest, latest, stamp_of}
use Rattle.rule.specs.Forward.{larger_at, least_to, D, heard_correction, P}
use Rattle.rule.specs.Pulse.{tile_P, tile_pulse}
use Rattle.columns.specs.Columns.{are_neighbours, columns_from, neighbours, is_predecessor, predecessors, links_before, place_in, link_place, link, table_from, any_of, stay, hop, HopsWithin}
use Rattle.admission.specs.Call.{call}
use Rattle.columns.specs.Marks.{marked, mark_bytes, faulty_among}
use Rattle.pulse.specs.Pulse.{arrives, arrival, read_at, stamp, pulse}
use Rattle.row.specs.Row.{row_of}
use Rattle.admission.specs.Refusal.{lengths_are, lengths_right, stray_mark, late_time, crowded, over, row_tests, row_cause, row_refusal}
use Rattle.links.specs.Links.{bad_value, bad_link, bad_links}
use Rattle.runs.specs.Run.{accepted_calls, rows, call_at, row_at}
use Rattle.runs.specs.Reach.{Alike, apart, widest, gap_below, widest_gap, reach_ticks, OneFault}
use Rattle.settings.proofs.Laws.AnyBelow.{none_below}
use Rattle.runs.specs.Witness.{wall, row_0, phases, sound, broken, stray, first_run, second_run, first_rows, second_rows, without_phases, Witnessed, RowsMet, PhasesCount, DifferencesMet, ReachMet, OneFaultMet}

-- the rows, with phases and without, and the accepted calls
computed : RowsMet × PhasesCount × (accepted_calls wall first_run row_0 ≡ sound ∷ sound ∷ []) × (accepted_calls wall second_run row_0 ≡ sound ∷ broken ∷ [])
unfolding RowsMet PhasesCount without_phases first_rows second_rows first_run second_run rows accepted_calls wall row_0 phases sound broken stray settings call row_refusal row_cause row_tests first or_else outside up settings_cause settings_tests drift_cost any_below any_of mark_bytes lengths_are lengths_right stray_mark late_time faulty_among crowded over bad_value bad_link bad_links marked link link_place links_before place_in predecessors is_predecessor are_neighbours columns_from row_of table_from pulse tile_pulse tile_P P heard_correction D least_to larger_at larger smaller natural stamp arrival arrives read_at reads first_tick stamp_of earliest latest earlier later step_of step neighbours
computed = ((refl, refl), refl, refl, refl)

pub phases_count : PhasesCount
phases_count = computed.1

pub rows_met : RowsMet
rows_met = computed.0

-- the two last calls differ in the mark of column 3 and in its links alone
link_differs : (c j : ℕ) → Bool
link_differs c j = is_predecessor 6 c j && (not (eqb j 3) && not (eqb (link 6 sound.links c j) (link 6 broken.links c j)))

links_checked : any_below 6 (λ c. any_below 6 (link_differs c)) ≡ false
unfolding link_differs sound broken call any_below link link_place links_before place_in predecessors is_predecessor are_neighbours columns_from
links_checked = refl

marks_checked : any_below 6 (λ c. marked sound.marks c) ≡ false
unfolding sound call any_below marked
marks_checked = refl

mark_differs : (c : ℕ) → Bool
mark_differs c = not (beq (marked broken.marks c) (eqb c 3))

faults_checked : any_below 6 mark_differs ≡ false
unfolding mark_differs broken call any_below marked
faults_checked = refl

beq_true : (a b : Bool) → not (beq a b) ≡ false → a ≡ b
beq_true true true e = refl
beq_true true false e = absurd (true≢false e)
beq_true false true e = absurd (true≢false e)
beq_true false false e = refl

no_mark : (c : ℕ) → c < 6 → marked sound.marks c ≡ false
no_mark c i = none_below (λ c. marked sound.marks c) 6 c i marks_checked

same_link : (c j : ℕ) → c < 6 → j < 6 → is_predecessor 6 c j ≡ true → eqb j 3 ≡ false → link 6 sound.links c j ≡ link 6 broken.links c j
unfolding link_differs
same_link c j m n p q =
    let e = none_below (link_differs c) 6 j n (none_below (λ c. any_below 6 (link_differs c)) 6 c m links_checked) in
    eqb-true (link 6 sound.links c j) (link 6 broken.links c j) (not-false _ (rw (p, q) at e))

alike : Alike 6 1 3 (sound ∷ sound ∷ []) (sound ∷ broken ∷ [])
alike = record { as_many = refl; drifts = drifts; phases = same_phases; first_clean = clean; marks = marks; links = links }
  where
    drifts : (l : ℕ) → l < 2 → (call_at (sound ∷ sound ∷ []) l).drifts ≡ (call_at (sound ∷ broken ∷ []) l).drifts
    drifts zero i = unfold call_at in refl
    drifts (suc zero) i = unfold call_at sound broken call in refl
    drifts (suc (suc l)) i = let never : ⊥ = omega arith in absurd never

    same_phases : (l : ℕ) → l < 2 → (call_at (sound ∷ sound ∷ []) l).phases ≡ (call_at (sound ∷ broken ∷ []) l).phases
    same_phases zero i = unfold call_at in refl
    same_phases (suc zero) i = unfold call_at sound broken call in refl
    same_phases (suc (suc l)) i = let never : ⊥ = omega arith in absurd never

    clean : (l c : ℕ) → l < 2 → c < 6 → marked (call_at (sound ∷ sound ∷ []) l).marks c ≡ false
    clean zero c i j = unfold call_at in no_mark c j
    clean (suc zero) c i j = unfold call_at in no_mark c j
    clean (suc (suc l)) c i j = let never : ⊥ = omega arith in absurd never

    marks : (l c : ℕ) → l < 2 → c < 6 → marked (call_at (sound ∷ broken ∷ []) l).marks c ≡ (eqb l 1 && eqb c 3)
    marks zero c i j = unfold call_at in no_mark c j
    marks (suc zero) c i j =
        unfold call_at mark_differs in beq_true (marked broken.marks c) (eqb c 3) (none_below mark_differs 6 c j faults_checked)
    marks (suc (suc l)) c i j = let never : ⊥ = omega arith in absurd never

    links : (l c j : ℕ) → l < 2 → c < 6 → j < 6 → is_predecessor 6 c j ≡ true → (eqb l 1 && eqb j 3) ≡ false →
        link 6 (call_at (sound ∷ sound ∷ []) l).links c j ≡ link 6 (call_at (sound ∷ broken ∷ []) l).links c j
    links zero c j i m n p q = unfold call_at in refl
    links (suc zero) c j i m n p q = unfold call_at in same_link c j m n p q
    links (suc (suc l)) c j i m n p q = let never : ⊥ = omega arith in absurd never

pub witnessed : Witnessed
unfolding Witnessed wall settings
witnessed = record { row = rw computed.2 (lit< tt); column = lit< tt; alike = rw (computed.2, computed.3) alike }

-- a claim of each of six columns
each_of_six : (Q : ℕ → Type 0) → Q 0 → Q 1 → Q 2 → Q 3 → Q 4 → Q 5 → (c : ℕ) → c < 6 → Q c
each_of_six Q q0 q1 q2 q3 q4 q5 zero i = q0
each_of_six Q q0 q1 q2 q3 q4 q5 (suc zero) i = q1
each_of_six Q q0 q1 q2 q3 q4 q5 (suc (suc zero)) i = q2
each_of_six Q q0 q1 q2 q3 q4 q5 (suc (suc (suc zero))) i = q3
each_of_six Q q0 q1 q2 q3 q4 q5 (suc (suc (suc (suc zero)))) i = q4
each_of_six Q q0 q1 q2 q3 q4 q5 (suc (suc (suc (suc (suc zero))))) i = q5
each_of_six Q q0 q1 q2 q3 q4 q5 (suc (suc (suc (suc (suc (suc c)))))) i = let never : ⊥ = omega arith in absurd never

-- row 2: which columns differ, and by how much
abbrev first_at : (l c : ℕ) → ℕ
first_at l c = get_or (row_at row_0 first_rows l) c 0

abbrev second_at : (l c : ℕ) → ℕ
second_at l c = get_or (row_at row_0 second_rows l) c 0

same_before : (l c : ℕ) → l ≤ 1 → first_at l c ≡ second_at l c
unfolding row_at first_rows second_rows
same_before zero c i = refl
same_before (suc zero) c i = refl
same_before (suc (suc l)) c i = let never : ⊥ = omega arith in absurd never

same_far : (c : ℕ) → c < 6 → (HopsWithin 6 1 3 c → ⊥) → first_at 2 c ≡ second_at 2 c
unfolding row_at first_rows second_rows are_neighbours
same_far =
    each_of_six (λ c. (HopsWithin 6 1 3 c → ⊥) → first_at 2 c ≡ second_at 2 c)
    (λ v. refl)
    (λ v. refl)
    (λ v. absurd (v (record { hops = 1; few = lit≤ tt; way = hop (lit< tt) refl stay })))
    (λ v. absurd (v (record { hops = 0; few = lit≤ tt; way = stay })))
    (λ v. absurd (v (record { hops = 1; few = lit≤ tt; way = hop (lit< tt) refl stay })))
    (λ v. absurd (v (record { hops = 1; few = lit≤ tt; way = hop (lit< tt) refl stay })))

pub differences_met : DifferencesMet
unfolding DifferencesMet row_at first_rows second_rows table_from apart widest_gap gap_below widest neighbours are_neighbours columns_from
differences_met = (refl, refl)

-- 0, 0, 26, 49, 27 and 27, each at most 2 × 0 + 8 × 13 + 0
bounded : (c : ℕ) → c < 6 → apart (first_at 2 c) (second_at 2 c) ≤ reach_ticks wall (widest_gap 6 (row_at row_0 first_rows 1)) 1
unfolding row_at first_rows second_rows apart reach_ticks wall settings widest_gap gap_below widest neighbours are_neighbours columns_from
bounded =
    each_of_six (λ c. apart (first_at 2 c) (second_at 2 c) ≤ reach_ticks wall (widest_gap 6 (row_at row_0 first_rows 1)) 1)
    (lit≤ tt) (lit≤ tt) (lit≤ tt) (lit≤ tt) (lit≤ tt) (lit≤ tt)

pub reach_met : ReachMet
unfolding ReachMet wall settings
reach_met =
    record {
      before = λ l c i j. same_before l c i;
      far = λ l c i j o v. let last : l ≡ 2 = (unfold first_rows in omega arith) in
          rw last (same_far c o (λ u. v (record { hops = u.hops; few = omega (arith, u.few, last); way = u.way })));
      near = λ l c i j o. let last : l ≡ 2 = (unfold first_rows in omega arith) in rw last (bounded c o);
    }

pub one_fault_met : OneFaultMet
unfolding OneFaultMet ReachMet RowsMet OneFault Witnessed
one_fault_met one_fault =
    rw (rows_met.0, rows_met.1) at (one_fault wall row_0 first_run second_run 1 3 witnessed)
