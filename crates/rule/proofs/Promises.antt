-- The proofs of what specs/Promises.antt states, from the laws in proofs/Laws/. Assumes nothing.
use mathlib.Core.Path.{◌≡◌, refl, sym, ◌∙◌, ap}
use mathlib.Core.List.{List, [], ◌∷◌, map}
use Prim.Native.Nat.{ℕ, ◌-◌, ◌≤◌}
use lib.IntN.{pos}
use lib.ListN.{length, length-map}
use native.Mathlib.Nat.{le_refl}
use native.Mathlib.Omega.{arith}
use Rattle.settings.specs.Settings.{step_of}
use Rattle.rule.specs.Signed.{natural}
use Rattle.rule.specs.Stamp.{Stamp, heard, silent, ◌≼◌, in_order, ◌∈◌, here, there, earliest, latest, after, FromTo, within, none, more, AllButOne, this, later_on}
use Rattle.rule.specs.Closed.{closed_P}
use Rattle.rule.specs.Pulse.{tile_P, tile_letter}
use Rattle.rule.specs.Promises.{TickLeast, DLeast, RuleClosed, Tile, PExact, says_k, says_e, says_m, says_b, says_l, LetterSays, LetterGives, PMonotone, PShifts, own_free, neighbour_free, Envelope, BetweenTwo, ForwardBetween}
use Rattle.settings.specs.declared.Settings.{Settings}
use Rattle.rule.proofs.Laws.Clock.{first_reads, before_first}
use Rattle.settings.proofs.Laws.Settings.{limits, step_small}
use Rattle.rule.proofs.Laws.Middle.{lift_turn}
use Rattle.rule.proofs.Laws.Closed.{D_attained, D_below, rule_closed as rule_closed_of}
use Rattle.rule.proofs.Laws.Letter.{says}
use Rattle.rule.proofs.Laws.Stamp.{as_long, earliest_mono, latest_mono, earliest_∈, latest_∈, earliest_≼_latest, earliest_within, latest_within, earliest_after, latest_after}
use Rattle.rule.proofs.Laws.Forward.{enough, P_mono, P_after, by_neighbours, by_own_and_one}

pub tick_least : TickLeast
unfolding TickLeast
tick_least p q v t = (first_reads p q v, before_first p q v t)

pub d_least : DLeast
unfolding DLeast
d_least h o l m pos_h i =
    record { s = (lift_turn pos_h (m - l)).s; attained = D_attained pos_h 0 o i; below = D_below pos_h 0 o i }

pub rule_closed : RuleClosed
unfolding RuleClosed
rule_closed h j own l m pos_h i = rule_closed_of pos_h j own i

-- a tile's P in closed form
ordered : {s : Settings} {ns : List Stamp} → Tile s ns → earliest ns ≼ latest ns
ordered {ns = []} t = let never : ⊥ = omega (arith, t.two) in absurd never
ordered {ns = x ∷ xs} t = earliest_≼_latest x xs

pub closed : {s : Settings} {ns : List Stamp} (own : Stamp) → Tile s ns → tile_P s own ns ≡ closed_P s.unit (step_of s) own (earliest ns) (latest ns)
unfolding tile_P natural
closed {s} {ns} own t = ap natural (rule_closed_of (limits s t.checked).unit.0 (step_of s) own (ordered t))

pub p_exact : PExact
unfolding PExact
p_exact s own ns t = rule_closed_of (limits s t.checked).unit.0 (step_of s) own (ordered t) ∙ ap pos (sym (closed own t))

pub letter_says : LetterSays
unfolding LetterSays tile_letter
letter_says s own ns t few = says (limits s t.checked).unit.0 (step_of s) (enough own ns t.two few) (ordered t)

pub letter_gives : LetterGives
unfolding LetterGives
letter_gives h j own l m x p q says_k says_k = refl
letter_gives h j own l m x p q (says_e a) (says_e b) = refl
letter_gives h j own l m x p q says_m says_m = refl
letter_gives h j own l m x p q says_b says_b = refl
letter_gives h j own l m x p q says_l says_l = refl

pub p_monotone : PMonotone
unfolding PMonotone
p_monotone s own own' ns ns' t a b few =
    let t' : Tile s ns' = record { checked = t.checked; two = omega (arith, t.two, as_long b) } in
    rw (closed own t, closed own' t')
    (P_mono (limits s t.checked).unit.0 (step_of s) (enough own' ns' t'.two few) (ordered t) (ordered t') a (earliest_mono b) (latest_mono b))

pub p_shifts : PShifts
unfolding PShifts
p_shifts s own [] n t few = let never : ⊥ = omega (arith, t.two) in absurd never
p_shifts s own (x ∷ xs) n t few =
    let t' : Tile s (map (after n) (x ∷ xs)) = record { checked = t.checked; two = rw (length-map (x ∷ xs) (after n)) t.two } in
    rw (closed (after n own) t', closed own t, earliest_after n (x ∷ xs), latest_after n x xs)
    (P_after (limits s t.checked).unit.0 (step_of s) n (enough own (x ∷ xs) t.two few))

-- among two neighbours or more of which one is free, one is not
one_within : {lo hi : ℕ} {ns : List Stamp} → 2 ≤ length ns → AllButOne (FromTo lo hi) ns → (a : ℕ) × (heard a ∈ ns) × (lo ≤ a) × (a ≤ hi)
one_within i (this (more (within {a = a} p q) xs)) = (a, there here, p, q)
one_within i (later_on (within {a = a} p q) xs) = (a, here, p, q)
one_within i (this none) = let never : ⊥ = omega arith in absurd never

pub between_two : BetweenTwo
unfolding BetweenTwo
between_two s o a ns t i =
    rw (closed (heard o) t)
    (by_own_and_one (limits s t.checked).unit.0 (step_of s) o a (ordered t) (earliest_∈ i) (latest_∈ i))

pub envelope : Envelope
unfolding Envelope BetweenTwo step_of
envelope s lo hi own [] t f = let never : ⊥ = omega (arith, t.two) in absurd never
envelope s lo hi own (x ∷ xs) t (own_free (more p q)) =
    rw (closed own t)
    (by_neighbours (limits s t.checked).unit.0 (step_of s) lo hi own (ordered t) (earliest_within p q) (latest_within p q))
envelope s lo hi (heard o) (x ∷ xs) t (neighbour_free (within p q) r) =
    let k = limits s t.checked in
    let (a, i, b, c) = one_within t.two r in
    omega (arith, between_two s o a (x ∷ xs) t i, step_small s.unit s.drift k.unit.0 k.drift)
envelope s lo hi silent (x ∷ xs) t (neighbour_free own r) = elim own [ ]

pub forward_between : ForwardBetween
unfolding ForwardBetween natural
forward_between s o l m e i =
    let pos_h = (limits s e).unit.0 in
    let b = by_neighbours pos_h (step_of s) l m (heard o) (in_order i) (within (le_refl l) i) (within i (le_refl m)) in
    rw (rule_closed_of pos_h (step_of s) (heard o) (in_order i)) (omega arith)
