-- A refusal that is handed on by `?`, with its offset or after another that was not given. Assumes nothing.
use mathlib.Core.Path.{◌≡◌, refl, sym, ◌∙◌, ap}
use Prim.Native.Nat.{ℕ}
use Rattle.std.specs.Prelude.{Option, Some, None, Result, Ok, Err, IsErrAnd, MatchResult}
use Rattle.std.proofs.lemmas.Result.{err_from_is_err_and}
use Rattle.settings.specs.Refusal.{or_else, answer}
use Rattle.settings.specs.declared.refusal.Refusal.{Refusal}
use Rattle.settings.proofs.Laws.Refusal.{passed, refused_with, handed_on, a_number, hit_given, skip_given}
use Rattle.steps.specs.Take.{refused_at}
use Rattle.steps.specs.declared.RefusedAt.{RefusedAt}

-- an answer, its refusal with an offset
pub at_offset : {A : Type 0} → Option Refusal → (offset : ℕ) → A → Result A RefusedAt
at_offset None at v = Ok v
at_offset (Some why) at v = Err (refused_at why at)

-- what `map_err` makes of an answer, by a closure that adds the offset
pub given_offset : {A : Type 0} (c : Option Refusal) (v : A) (at : ℕ) (m : Result A RefusedAt) (Post : Refusal → RefusedAt → Type 0) →
    ((e : Refusal) (d : RefusedAt) → Post e d → d ≡ refused_at e at) → {a : Result A Refusal} → a ≡ answer c v →
    MatchResult a (λ x. m ≡ Ok x) (λ e. IsErrAnd m (Post e)) → m ≡ at_offset c at v
unfolding answer at_offset
given_offset None v at m Post f e h = rw e at h
given_offset (Some why) v at m Post f e h =
    let g = err_from_is_err_and m (rw e at h) in rw (g.1, f why g.0 g.2)

-- where it is handed on, and where it is not
pub away_at : {A B : Type 0} (c : Option Refusal) (v : A) (at : ℕ) (r : Result B RefusedAt) {m : Result A RefusedAt} {q : RefusedAt} →
    IsErrAnd r (λ d. d ≡ q) → m ≡ Err q → m ≡ at_offset c at v → (why : Refusal) × (c ≡ Some why) × (r ≡ Err (refused_at why at))
unfolding at_offset
away_at None v at r h e f = absurd (cc (e, f))
away_at (Some why) v at r {m} {q} h e f =
    let g = err_from_is_err_and r h in
    let same : q ≡ refused_at why at = cc (e, f) in
    (why, refl, rw (g.1, g.2, same))

pub on_at : {A : Type 0} (c : Option Refusal) (v : A) (at : ℕ) {m : Result A RefusedAt} {x : A} → m ≡ Ok x → m ≡ at_offset c at v → (c ≡ None) × (x ≡ v)
unfolding at_offset
on_at None v at e f = (refl, cc (e, f))
on_at (Some why) v at e f = absurd (cc (e, f))

-- the first refusal of two, handed on; and the second, where the first was not given
pub first_handed : {A B : Type 0} (c o : Option Refusal) (x : A) (y : B) (r : Result B Refusal) {q : Refusal} → IsErrAnd r (λ d. d ≡ q) → answer c x ≡ Err q → r ≡ answer (or_else c o) y
first_handed c o x y r h e =
    handed_on r c x y h e ∙ sym (ap (λ (k : Option Refusal). answer k y) (hit_given c o (a_number c _ (refused_with c x e))))

pub second_given : {A B : Type 0} (c o : Option Refusal) (x : A) (y : B) {v : A} → answer c x ≡ Ok v → answer o y ≡ answer (or_else c o) y
second_given c o x y e = sym (ap (λ (k : Option Refusal). answer k y) (skip_given c o (passed c x e)))

pub first_is : (c o : Option Refusal) {why : Refusal} → c ≡ Some why → or_else c o ≡ Some why
unfolding or_else
first_is c o e = rw e

pub second_is : (c o : Option Refusal) → c ≡ None → or_else c o ≡ o
unfolding or_else
second_is c o e = rw e

-- an answer by its cause
module _ {A : Type 0} (c : Option Refusal) (v : A) where
  pub answer_away : {why : Refusal} → c ≡ Some why → answer c v ≡ Err why
  unfolding answer
  answer_away e = rw e

  pub answer_on : c ≡ None → answer c v ≡ Ok v
  unfolding answer
  answer_on e = rw e
