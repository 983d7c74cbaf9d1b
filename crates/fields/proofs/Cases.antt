-- The cases of specs/Cases.antt, computed. Assumes nothing.
use mathlib.Core.Path.{refl}
use Rattle.settings.specs.Refusal.{first}
use Rattle.fields.specs.Bytes.{big_endian}
use Rattle.fields.specs.Field.{field_tests, field_cause, field_refusal, body}
use Rattle.fields.specs.Cases.{case, field_cases, BigEndianMet, BodyMet, FieldCasesMet}

pub big_endian_met : BigEndianMet
unfolding BigEndianMet big_endian
big_endian_met = (refl, refl, refl)

pub body_met : BodyMet
unfolding BodyMet body
body_met = refl

pub field_cases_met : FieldCasesMet
unfolding FieldCasesMet field_cases case field_refusal field_cause field_tests first big_endian
field_cases_met = refl
