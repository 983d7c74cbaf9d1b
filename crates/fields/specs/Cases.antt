-- Numbers, bodies and refusals of fields at literal bytes. Assumes nothing.
use Rattle.std.specs.Prelude.{◌≡◌, List, [], ◌∷◌, map, ℕ}
use Rattle.fields.specs.Bytes.{big_endian}
use Rattle.fields.specs.Field.{field_refusal, body}

-- §9.1 the first byte is the highest, from any place on
unfoldable pub BigEndianMet : Type 0
BigEndianMet =
    (big_endian 2 (1 ∷ 2 ∷ []) 0 ≡ 258) × (big_endian 4 (9 ∷ 0 ∷ 1 ∷ 0 ∷ 2 ∷ []) 1 ≡ 65538)
    × (big_endian 8 (0 ∷ 0 ∷ 1 ∷ 0 ∷ 0 ∷ 0 ∷ 0 ∷ 2 ∷ []) 0 ≡ 1099511627778)

-- §9.1 the body begins behind tag and length, and is as long as is due
unfoldable pub BodyMet : Type 0
BodyMet = body 2 (3 ∷ 0 ∷ 2 ∷ 5 ∷ 6 ∷ 7 ∷ []) ≡ 5 ∷ 6 ∷ []

-- §9.7 what is left of a file where tag 3 with a body of 2 bytes is due, and the number of the field, 0 where it is there
pub record Case : Type 0 where
  pub number : ℕ
  pub rest : List ℕ

-- §9.7 a case by its number and bytes
unfoldable pub case : (number : ℕ) → (rest : List ℕ) → Case
case n bs = record { number = n; rest = bs }

-- §9.7 43 where tag and length are not there, then 41, 42, and 43 again where the body is not
unfoldable pub field_cases : List Case
field_cases =
    -- under three bytes: 43, also where the tag is another
    case 43 []
    ∷ case 43 (3 ∷ 0 ∷ [])
    ∷ case 43 (9 ∷ 0 ∷ [])
    -- another tag: 41, also where the length is another or the body is missing
    ∷ case 41 (9 ∷ 0 ∷ 2 ∷ 5 ∷ 6 ∷ [])
    ∷ case 41 (9 ∷ 0 ∷ 1 ∷ 5 ∷ 6 ∷ [])
    ∷ case 41 (9 ∷ 0 ∷ 2 ∷ [])
    -- another length: 42, also where the body is missing
    ∷ case 42 (3 ∷ 0 ∷ 1 ∷ 5 ∷ 6 ∷ [])
    ∷ case 42 (3 ∷ 2 ∷ 0 ∷ 5 ∷ 6 ∷ [])
    ∷ case 42 (3 ∷ 0 ∷ 9 ∷ [])
    -- no body, or a part of it: 43
    ∷ case 43 (3 ∷ 0 ∷ 2 ∷ [])
    ∷ case 43 (3 ∷ 0 ∷ 2 ∷ 5 ∷ [])
    -- the field is there, whatever follows it
    ∷ case 0 (3 ∷ 0 ∷ 2 ∷ 5 ∷ 6 ∷ [])
    ∷ case 0 (3 ∷ 0 ∷ 2 ∷ 5 ∷ 6 ∷ 9 ∷ [])
    ∷ []

-- §9.7 each is answered with its number
unfoldable pub FieldCasesMet : Type 0
FieldCasesMet = map (λ x. field_refusal 3 2 x.rest) field_cases ≡ map (λ x. x.number) field_cases
