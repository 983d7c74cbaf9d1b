-- The digits of a number are those of a tenth of it, and the last.
use Rattle.std.proofs.Common.{◌≡◌, sym, ◌∙◌, ap, [], ◌∷◌, ◌++◌, ℕ, ◌+◌, ◌/◌, ◌≤◌, ◌<◌, length, length-append, arith}
use Prim.Native.Nat.{◌^◌}
use Rattle.lines.specs.Number.{decimal as Number·decimal}
use Rattle.columns.proofs.Laws.Wrote.{wrote_then, wrote_as, room_left}
use Rattle.lines.proofs.Laws.Number.{decimal_one, decimal_more}
use Rattle.lines.proofs.+decimal.Goals as goal

longer : (n : ℕ) → 10 ≤ n → n < 2 ^ 64 → length (Number·decimal n) ≡ length (Number·decimal (n / 10)) + 1
longer n i j = ap length (decimal_more n i (omega arith)) ∙ simp length-append

pub byte-requires : goal.byte-requires
byte-requires t c = omega (arith, ap length (decimal_one c.args.n c.if-n-lt10.true))

pub returns-then-n-lt10 : goal.returns-then-n-lt10
returns-then-n-lt10 t c = wrote_as c.byte.ensures (ap (λ (b : ℕ). b ∷ []) c.glyph.ensures ∙ sym (decimal_one c.args.n c.if-n-lt10.true))

pub decimal-end-requires : goal.decimal-end-requires
decimal-end-requires t c = omega (arith, longer c.args.n c.if-n-lt10.false (omega arith))

pub byte-requires-2 : goal.byte-requires-2
byte-requires-2 t c =
    room_left c.decimal-end.ensures (length (Number·decimal (c.args.n / 10))) 1 (omega arith) (omega (arith, longer c.args.n c.if-n-lt10.false (omega arith)))

pub returns : goal.returns
returns t c =
    wrote_as (wrote_then c.decimal-end.ensures c.byte-2.ensures)
    (ap (λ (b : ℕ). Number·decimal (c.args.n / 10) ++ (b ∷ [])) c.glyph-2.ensures ∙ sym (decimal_more c.args.n c.if-n-lt10.false (omega arith)))
