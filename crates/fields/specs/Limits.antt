-- A field that is there, in numbers and inequalities alone, apart from the tests of the refusals. Assumes nothing.
use Rattle.std.specs.Prelude.{◌≡◌, ◌↔◌, List, ℕ, ◌+◌, ◌*◌, ◌≤◌, length, get_or}
use Rattle.fields.specs.Field.{field_refusal}

-- §9.1 the bytes left of the file begin with the tag that is due, the length that is due in two bytes, and all of a body that long
pub record FieldThere (tag size : ℕ) (rest : List ℕ) : Type 0 where
  pub tag_due : get_or rest 0 0 ≡ tag
  pub size_due : 256 * get_or rest 1 0 + get_or rest 2 0 ≡ size
  pub whole : 3 + size ≤ length rest

-- §9.6 a field is there exactly where it is not turned away
unfoldable pub FieldPlain : Type 0
FieldPlain = (tag size : ℕ) (rest : List ℕ) → FieldThere tag size rest ↔ (field_refusal tag size rest ≡ 0)
