-- What is printed of a whole wall file, by what is asked. Assumes nothing.
use Rattle.std.specs.Prelude.{List, ℕ}
use Rattle.file.specs.File.{wall_text}
use Rattle.range.specs.File.{search_text}
use Rattle.found.specs.Found.{wide_text}
use Rattle.asked.specs.declared.Asked.{Asked}
use Rattle.asked.specs.declared.Asked.TheVariants.{Lines, Range, Wide}

-- §16.4 what is printed of a whole file
unfoldable pub whole_text : Asked → (rows : List ℕ) → (file : List ℕ) → List ℕ
whole_text Lines rows bs = wall_text bs
whole_text Range rows bs = search_text rows bs
whole_text (Wide n) rows bs = wide_text n bs
