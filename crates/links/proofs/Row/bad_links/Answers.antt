-- `Row::bad_links` meets its contract: each link that it looks at is one of the window's. Assumes nothing.
use Rattle.std.proofs.Common.{◌≡◌, ℕ, List, ◌+◌, ◌/◌, ◌<◌, Bool, true, false, cond, ◌||◌, length, get_or, sym, ◌∙◌, subst, arith}
use Rattle.settings.specs.declared.Settings.{Settings}
use Rattle.columns.specs.Marks.{marked, mark_bytes}
use Rattle.links.specs.Links.{bad_value, bad_links}
use Rattle.columns.specs.Window.{four_senders}
use Rattle.columns.proofs.Laws.Window.{sender_in, sender_in_four, links_in, links_in_four}
use Rattle.links.proofs.Laws.Row.{bounds}
use Rattle.links.proofs.Laws.Links.{bad_at, bad_links_are}
use Rattle.links.proofs.Row.bad_links.Goals.{After-bad_value, After-bad_value-2, After-bad_value-3, After-bad_value-then-four_senders, After-first_link-at, Else-bad_value, Else-bad_value-2, Else-bad_value-3, Then-four_senders}
use Rattle.links.proofs.Row.bad_links.Goals as goal

-- a link as it was found
found : (s : Settings) (ms ls : List ℕ) (k p : ℕ) {faulty bad : Bool} → faulty ≡ marked ms k → bad ≡ bad_value s faulty (get_or ls p 0) → bad_at s ms ls k p ≡ bad
found s ms ls k p {bad = bad} e r = subst (λ (f : Bool). bad_value s f (get_or ls p 0) ≡ bad) e (sym r)

-- the senders are in the row, and their links among those lent
sender_inside : (l : After-first_link-at) → ((l.first_sender-k.result + 2) / 8 < length l.args.self.now.marks.now) × (l.first_sender-k.result + 2 < 256)
unfolding mark_bytes
sender_inside l = omega (arith, l.first_sender-k.ensures, sender_in l.args.self.now.width l.args.c (bounds l.args.self.now).wide l.requires, l.args.self.now.marked, (bounds l.args.self.now).narrow)

link_inside : (l : After-first_link-at) → (l.first_link-at.result + 2 < length l.args.self.now.links.now) × (l.first_link-at.result + 2 < 770)
link_inside l = omega (arith, l.first_link-at.ensures, links_in l.args.self.now.width (bounds l.args.self.now).wide l.args.c l.requires, l.args.self.now.linked, (bounds l.args.self.now).narrow)

-- the definition in closed form, over the sender and the place that were found
closed : (l : After-first_link-at) →
    let a = l.args in
    let k = l.first_sender-k.result in
    let p = l.first_link-at.result in
    bad_links a.self.now.settings a.self.now.marks.now a.self.now.links.now a.c
    ≡ (bad_at a.self.now.settings a.self.now.marks.now a.self.now.links.now k p
    || (bad_at a.self.now.settings a.self.now.marks.now a.self.now.links.now (k + 1) (p + 1)
    || (bad_at a.self.now.settings a.self.now.marks.now a.self.now.links.now (k + 2) (p + 2)
    || cond (four_senders a.self.now.width a.c) (bad_at a.self.now.settings a.self.now.marks.now a.self.now.links.now (k + 3) (p + 3)) false)))
closed l = let a = l.args in
    bad_links_are a.self.now.width a.c l.first_sender-k.result l.first_link-at.result (bounds l.args.self.now).wide l.requires l.first_sender-k.ensures l.first_link-at.ensures
    a.self.now.settings a.self.now.marks.now a.self.now.links.now l.args.self.now.wide

-- each link as it was found, and those that are passed
first : (c : After-bad_value) → let a = c.args in bad_at a.self.now.settings a.self.now.marks.now a.self.now.links.now c.first_sender-k.result c.first_link-at.result ≡ c.bad_value.result
first c = let a = c.args in found a.self.now.settings a.self.now.marks.now a.self.now.links.now c.first_sender-k.result c.first_link-at.result c.marked.ensures c.bad_value.ensures

second : (c : After-bad_value-2) → let a = c.args in bad_at a.self.now.settings a.self.now.marks.now a.self.now.links.now (c.first_sender-k.result + 1) (c.first_link-at.result + 1) ≡ c.bad_value-2.result
second c = let a = c.args in found a.self.now.settings a.self.now.marks.now a.self.now.links.now (c.first_sender-k.result + 1) (c.first_link-at.result + 1) c.marked-2.ensures c.bad_value-2.ensures

third : (c : After-bad_value-3) → let a = c.args in bad_at a.self.now.settings a.self.now.marks.now a.self.now.links.now (c.first_sender-k.result + 2) (c.first_link-at.result + 2) ≡ c.bad_value-3.result
third c = let a = c.args in found a.self.now.settings a.self.now.marks.now a.self.now.links.now (c.first_sender-k.result + 2) (c.first_link-at.result + 2) c.marked-3.ensures c.bad_value-3.ensures

fourth : (c : After-bad_value-then-four_senders) → let a = c.args in bad_at a.self.now.settings a.self.now.marks.now a.self.now.links.now (c.first_sender-k.result + 3) (c.first_link-at.result + 3) ≡ c.bad_value-then-four_senders.result
fourth c = let a = c.args in found a.self.now.settings a.self.now.marks.now a.self.now.links.now (c.first_sender-k.result + 3) (c.first_link-at.result + 3) c.marked-then-four_senders.ensures c.bad_value-then-four_senders.ensures

not_first : (c : Else-bad_value) → let a = c.args in bad_at a.self.now.settings a.self.now.marks.now a.self.now.links.now c.first_sender-k.result c.first_link-at.result ≡ false
not_first c = let a = c.args in found a.self.now.settings a.self.now.marks.now a.self.now.links.now c.first_sender-k.result c.first_link-at.result c.marked.ensures c.bad_value.ensures ∙ c.if-bad_value.false

not_second : (c : Else-bad_value-2) → let a = c.args in bad_at a.self.now.settings a.self.now.marks.now a.self.now.links.now (c.first_sender-k.result + 1) (c.first_link-at.result + 1) ≡ false
not_second c = let a = c.args in found a.self.now.settings a.self.now.marks.now a.self.now.links.now (c.first_sender-k.result + 1) (c.first_link-at.result + 1) c.marked-2.ensures c.bad_value-2.ensures ∙ c.if-bad_value-2.false

not_third : (c : Else-bad_value-3) → let a = c.args in bad_at a.self.now.settings a.self.now.marks.now a.self.now.links.now (c.first_sender-k.result + 2) (c.first_link-at.result + 2) ≡ false
not_third c = let a = c.args in found a.self.now.settings a.self.now.marks.now a.self.now.links.now (c.first_sender-k.result + 2) (c.first_link-at.result + 2) c.marked-3.ensures c.bad_value-3.ensures ∙ c.if-bad_value-3.false

-- past the test for a fourth
is_four : (c : Then-four_senders) → four_senders c.args.self.now.width c.args.c ≡ true
is_four c = sym c.four_senders.ensures ∙ c.if-four_senders.true

sender_inside_four : (c : Then-four_senders) →
    ((c.first_sender-k.result + 3) / 8 < length c.args.self.now.marks.now) × (c.first_sender-k.result + 3 < 256)
unfolding mark_bytes
sender_inside_four c = omega (arith, c.first_sender-k.ensures, sender_in_four c.args.self.now.width c.args.c (bounds c.args.self.now).wide (is_four c), c.args.self.now.marked, (bounds c.args.self.now).narrow)

link_inside_four : (c : Then-four_senders) → (c.first_link-at.result + 3 < length c.args.self.now.links.now) × (c.first_link-at.result + 3 < 770)
link_inside_four c = omega (arith, c.first_link-at.ensures, links_in_four c.args.self.now.width (bounds c.args.self.now).wide c.args.c c.requires (is_four c), c.args.self.now.linked, (bounds c.args.self.now).narrow)

pub first_sender-k-requires : goal.first_sender-k-requires
first_sender-k-requires c = let b = bounds c.args.self.now in (b.wide, c.requires, b.narrow)

pub first_link-at-requires : goal.first_link-at-requires
first_link-at-requires c = let b = bounds c.args.self.now in (b.wide, c.requires, b.narrow)

pub four_senders-requires : goal.four_senders-requires
four_senders-requires c = let b = bounds c.args.self.now in (b.wide, c.requires, b.narrow)

pub marked-requires : goal.marked-requires
marked-requires c = let l = (goal.at.marked-requires c).After-first_link-at in omega (arith, sender_inside l, link_inside l)

pub offset_bounds-self-at : goal.offset_bounds-self-at
offset_bounds-self-at c = let l = (goal.at.offset_bounds-self-at c).After-first_link-at in omega (arith, sender_inside l, link_inside l)

pub bounds-self-at : goal.bounds-self-at
bounds-self-at c = let l = (goal.at.bounds-self-at c).After-first_link-at in omega (arith, sender_inside l, link_inside l)

pub overflow_add-k : goal.overflow_add-k
overflow_add-k c = let l = (goal.at.overflow_add-k c).After-first_link-at in omega (arith, sender_inside l, link_inside l)

pub marked-requires-2 : goal.marked-requires-2
marked-requires-2 c = let l = (goal.at.marked-requires-2 c).After-first_link-at in omega (arith, sender_inside l, link_inside l)

pub overflow_add-at : goal.overflow_add-at
overflow_add-at c = let l = (goal.at.overflow_add-at c).After-first_link-at in omega (arith, sender_inside l, link_inside l)

pub offset_bounds-self-at-2 : goal.offset_bounds-self-at-2
offset_bounds-self-at-2 c = let l = (goal.at.offset_bounds-self-at-2 c).After-first_link-at in omega (arith, sender_inside l, link_inside l)

pub bounds-self-at-2 : goal.bounds-self-at-2
bounds-self-at-2 c = let l = (goal.at.bounds-self-at-2 c).After-first_link-at in omega (arith, sender_inside l, link_inside l)

pub overflow_add-k-2 : goal.overflow_add-k-2
overflow_add-k-2 c = let l = (goal.at.overflow_add-k-2 c).After-first_link-at in omega (arith, sender_inside l, link_inside l)

pub marked-requires-3 : goal.marked-requires-3
marked-requires-3 c = let l = (goal.at.marked-requires-3 c).After-first_link-at in omega (arith, sender_inside l, link_inside l)

pub overflow_add-at-2 : goal.overflow_add-at-2
overflow_add-at-2 c = let l = (goal.at.overflow_add-at-2 c).After-first_link-at in omega (arith, sender_inside l, link_inside l)

pub offset_bounds-self-at-3 : goal.offset_bounds-self-at-3
offset_bounds-self-at-3 c = let l = (goal.at.offset_bounds-self-at-3 c).After-first_link-at in omega (arith, sender_inside l, link_inside l)

pub bounds-self-at-3 : goal.bounds-self-at-3
bounds-self-at-3 c = let l = (goal.at.bounds-self-at-3 c).After-first_link-at in omega (arith, sender_inside l, link_inside l)

pub overflow_add-k-then-four_senders : goal.overflow_add-k-then-four_senders
overflow_add-k-then-four_senders c = let t = (goal.at.overflow_add-k-then-four_senders c).Then-four_senders in omega (arith, sender_inside_four t, link_inside_four t)

pub marked-requires-then-four_senders : goal.marked-requires-then-four_senders
marked-requires-then-four_senders c = let t = (goal.at.marked-requires-then-four_senders c).Then-four_senders in omega (arith, sender_inside_four t, link_inside_four t)

pub overflow_add-at-then-four_senders : goal.overflow_add-at-then-four_senders
overflow_add-at-then-four_senders c = let t = (goal.at.overflow_add-at-then-four_senders c).Then-four_senders in omega (arith, sender_inside_four t, link_inside_four t)

pub offset_bounds-self-at-then-four_senders : goal.offset_bounds-self-at-then-four_senders
offset_bounds-self-at-then-four_senders c = let t = (goal.at.offset_bounds-self-at-then-four_senders c).Then-four_senders in omega (arith, sender_inside_four t, link_inside_four t)

pub bounds-self-at-then-four_senders : goal.bounds-self-at-then-four_senders
bounds-self-at-then-four_senders c = let t = (goal.at.bounds-self-at-then-four_senders c).Then-four_senders in omega (arith, sender_inside_four t, link_inside_four t)

pub returns-then-bad_value : goal.returns-then-bad_value
returns-then-bad_value c = rw (closed (goal.at.returns-then-bad_value c).After-first_link-at, first (goal.at.returns-then-bad_value c).After-bad_value ∙ c.if-bad_value.true)

pub returns-then-bad_value-2 : goal.returns-then-bad_value-2
returns-then-bad_value-2 c = rw (closed (goal.at.returns-then-bad_value-2 c).After-first_link-at, not_first (goal.at.returns-then-bad_value-2 c).Else-bad_value, second (goal.at.returns-then-bad_value-2 c).After-bad_value-2 ∙ c.if-bad_value-2.true)

pub returns-then-bad_value-3 : goal.returns-then-bad_value-3
returns-then-bad_value-3 c = rw (closed (goal.at.returns-then-bad_value-3 c).After-first_link-at, not_first (goal.at.returns-then-bad_value-3 c).Else-bad_value, not_second (goal.at.returns-then-bad_value-3 c).Else-bad_value-2, third (goal.at.returns-then-bad_value-3 c).After-bad_value-3 ∙ c.if-bad_value-3.true)

pub returns-then-four_senders : goal.returns-then-four_senders
returns-then-four_senders c = rw (
  closed (goal.at.returns-then-four_senders c).After-first_link-at,
  not_first (goal.at.returns-then-four_senders c).Else-bad_value,
  not_second (goal.at.returns-then-four_senders c).Else-bad_value-2,
  not_third (goal.at.returns-then-four_senders c).Else-bad_value-3,
  is_four (goal.at.returns-then-four_senders c).Then-four_senders,
) (sym (fourth c))

pub returns : goal.returns
returns c = rw (
  closed (goal.at.returns c).After-first_link-at,
  not_first (goal.at.returns c).Else-bad_value,
  not_second (goal.at.returns c).Else-bad_value-2,
  not_third (goal.at.returns c).Else-bad_value-3,
  sym c.four_senders.ensures ∙ c.if-four_senders.false,
)
