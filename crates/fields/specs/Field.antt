-- One field of a wall file: its refusals and its body. Assumes nothing.
use Rattle.std.specs.Prelude.{not, List, [], ◌∷◌, ℕ, ◌+◌, ltb, eqb, length, get_or, take, drop, Option}
use Rattle.settings.specs.Refusal.{Test, ◌when◌, first, refused}
use Rattle.settings.specs.declared.refusal.Refusal.{Refusal}
use Rattle.settings.specs.declared.refusal.Refusal.TheVariants.{Tag, Size, Short}
use Rattle.fields.specs.Bytes.{big_endian}

-- §9.7 what a field is turned away with, in the order in which it is looked at. The bytes are those of the file from the field's place on.
unfoldable pub field_tests : (tag size : ℕ) → (rest : List ℕ) → List Test
field_tests tag size bs =
    Short when ltb (length bs) 3
    ∷ Tag when not (eqb (get_or bs 0 0) tag)
    ∷ Size when not (eqb (big_endian 2 bs 1) size)
    ∷ Short when ltb (length bs) (3 + size)
    ∷ []

-- §9.7 the first refusal whose condition holds
unfoldable pub field_cause : (tag size : ℕ) → (rest : List ℕ) → Option Refusal
field_cause tag size bs = first (field_tests tag size bs)

-- §9.7 its number, 0 where there is none
unfoldable pub field_refusal : (tag size : ℕ) → (rest : List ℕ) → ℕ
field_refusal tag size bs = refused (field_cause tag size bs)

-- §9.1 the body of a field: what stands behind tag and length, as long as is due
unfoldable pub body : (size : ℕ) → (rest : List ℕ) → List ℕ
body size bs = take size (drop 3 bs)
