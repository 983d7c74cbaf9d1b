-- `forwarding::adopted` meets its contract: each return is a case of the closed form, and of the letter. Assumes nothing.
use mathlib.Core.Path.{◌≡◌, sym, ◌∙◌}
use Prim.Native.Nat.{ℕ, ◌+◌, ◌≤◌, ◌<◌}
use native.Mathlib.Omega.{arith}
use Rattle.rule.specs.Stamp.{silence, stamp_of}
use Rattle.rule.specs.Closed.{middle, heard_P, closed_P}
use Rattle.rule.specs.Letter.{heard_letter, letter}
use Rattle.rule.proofs.Laws.Coded.{coded_own_silent, coded_neighbour_silent, coded_heard, letter_own_silent, letter_neighbour_silent, letter_all_heard}
use Rattle.rule.proofs.Laws.Heard.{waits, decides, hurries}
use Rattle.rule.proofs.Laws.Letter.{letter_waits, letter_decides, letter_hurries}
use Rattle.rule.proofs.Laws.Middle.{middle_within}
use Rattle.rule.proofs.forwarding.adopted.Goals.{After-middle, Else-most-eq-SILENT}
use Rattle.rule.proofs.forwarding.adopted.Goals as goal

-- a stamp of at most 2^42 is heard
small : {v : ℕ} → v ≤ 4398046511104 → v ≡ silence → ⊥
small i e = omega arith

-- past both tests for silence all stamps are heard
all_heard : (c : Else-most-eq-SILENT) → c.args.most ≤ 4398046511104
all_heard c = c.requires.most_heard c.if-most-eq-SILENT.false

-- past both tests for silence all stamps are heard, and P and the letter are those of heard stamps
module _ (c : Else-most-eq-SILENT) where
  by_heard : let a = c.args in
      closed_P a.unit a.step (stamp_of a.own) (stamp_of a.least) (stamp_of a.most) ≡ heard_P a.unit a.step a.own a.least a.most
  by_heard =
      let a = c.args in
      coded_heard a.unit a.step a.own a.least a.most c.if-own-eq-SILENT.false (small c.requires.least_heard) c.if-most-eq-SILENT.false

  lettered : let a = c.args in
      letter a.unit a.step (stamp_of a.own) (stamp_of a.least) (stamp_of a.most) ≡ heard_letter a.unit a.step a.own a.least a.most
  lettered =
      let a = c.args in
      letter_all_heard a.unit a.step a.own a.least a.most c.if-own-eq-SILENT.false (small c.requires.least_heard) c.if-most-eq-SILENT.false

decided_small : (c : After-middle) → c.middle.result ≤ 4398046511104
decided_small c = let f = c.requires in
    omega (arith, c.middle.ensures, all_heard c.before, middle_within f.unit_least f.ordered)

pub overflow_add-late : goal.overflow_add-late
overflow_add-late c = let f = c.requires in omega (arith, f.enough c.if-own-eq-SILENT.true)

pub returns-then-own-eq-SILENT : goal.returns-then-own-eq-SILENT
returns-then-own-eq-SILENT c = let a = c.args in
    let f = c.requires in record {
      p = sym (coded_own_silent a.unit a.step a.own a.least a.most c.if-own-eq-SILENT.true (small (f.enough c.if-own-eq-SILENT.true)));
      letter = sym (letter_own_silent a.unit a.step a.own a.least a.most c.if-own-eq-SILENT.true);
    }

pub returns-then-most-eq-SILENT : goal.returns-then-most-eq-SILENT
returns-then-most-eq-SILENT c = let f = c.requires in
    let a = c.args in
    let own = c.if-own-eq-SILENT.false in
    let least = small f.least_heard in record {
      p = omega (
        arith,
        c.kept_or_early.ensures.p,
        c.saturating_sub-early.ensures,
        coded_neighbour_silent a.unit a.step a.own a.least a.most own least c.if-most-eq-SILENT.true,
      );
      letter = rw c.saturating_sub-early.ensures at c.kept_or_early.ensures.letter
          ∙ sym (letter_neighbour_silent a.unit a.step a.own a.least a.most f.unit_least own least c.if-most-eq-SILENT.true);
    }

pub middle-requires : goal.middle-requires
middle-requires c = let f = c.requires in (f.unit_least, f.unit_most, f.ordered, all_heard c)

pub overflow_add-decided : goal.overflow_add-decided
overflow_add-decided c = let f = c.requires in omega (arith, decided_small c)

pub returns-then-own-decided : goal.returns-then-own-decided
returns-then-own-decided c = let f = c.requires in
    let a = c.args in
    let early : a.own < middle a.unit a.least a.most + a.unit = omega (arith, c.middle.ensures, c.if-own-decided.true) in record {
      p = omega (
        arith,
        c.kept_or_early-then-own-decided.ensures.p,
        c.saturating_sub-early.ensures,
        by_heard (goal.at.returns-then-own-decided c).Else-most-eq-SILENT,
        waits a.unit a.step a.own a.least a.most early,
      );
      letter = rw c.saturating_sub-early.ensures at c.kept_or_early-then-own-decided.ensures.letter
          ∙ sym (lettered (goal.at.returns-then-own-decided c).Else-most-eq-SILENT ∙ letter_waits f.unit_least a.step a.own f.ordered early);
    }

pub overflow_add-decided-2 : goal.overflow_add-decided-2
overflow_add-decided-2 c = let f = c.requires in omega (arith, decided_small (goal.at.overflow_add-decided-2 c).After-middle)

pub returns-then-own-decided-2 : goal.returns-then-own-decided-2
returns-then-own-decided-2 c = let f = c.requires in
    let a = c.args in
    let decided = middle a.unit a.least a.most + a.unit in
    let past : decided ≤ a.own = omega (arith, c.middle.ensures, c.if-own-decided.false) in
    let near : a.own ≤ decided + a.step = omega (arith, c.middle.ensures, c.if-own-decided-2.true) in record {
      p = omega (arith, c.middle.ensures, by_heard (goal.at.returns-then-own-decided-2 c).Else-most-eq-SILENT, decides a.unit a.step a.own a.least a.most past near);
      letter = sym (lettered (goal.at.returns-then-own-decided-2 c).Else-most-eq-SILENT ∙ letter_decides f.unit_least a.step a.own f.ordered past near);
    }

pub overflow_add-late-2 : goal.overflow_add-late-2
overflow_add-late-2 c = let f = c.requires in omega (arith, all_heard (goal.at.overflow_add-late-2 c).Else-most-eq-SILENT)

pub returns : goal.returns
returns c = let f = c.requires in
    let a = c.args in
    let late : middle a.unit a.least a.most + a.unit + a.step < a.own = omega (arith, c.middle.ensures, c.if-own-decided-2.false) in record {
      p = c.back_or_late.ensures.p ∙ sym (by_heard (goal.at.returns c).Else-most-eq-SILENT ∙ hurries a.unit a.step a.own a.least a.most late);
      letter = c.back_or_late.ensures.letter ∙ sym (lettered (goal.at.returns c).Else-most-eq-SILENT ∙ letter_hurries f.unit_least a.step a.own f.ordered late);
    }
