-- The proof of what specs/Limits.antt states. Assumes nothing.
use native.Mathlib.Omega.{arith}
use Rattle.fields.specs.Limits.{FieldPlain}
use Rattle.fields.proofs.Laws.Bytes.{two_bytes}
use Rattle.fields.proofs.Laws.Field.{field_accepted, whole}

pub field_plain : FieldPlain
unfolding FieldPlain
field_plain tag size rest = (
  λ k. whole tag size rest (omega (arith, k.whole)) k.tag_due (omega (arith, two_bytes rest 1, k.size_due)) k.whole,
  field_accepted tag size rest,
)
