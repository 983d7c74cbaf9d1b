-- Two files that meet the hypotheses of `FileRange` and do differ: the printed wall, and the same with its tile of column 3 broken.
-- Assumes nothing.
use Rattle.std.specs.Prelude.{◌≡◌, [], ◌∷◌}
use Rattle.file.specs.Cases.{printed_file}
use Rattle.range.specs.File.{search_text}
use Rattle.range.specs.Read.{last_number}
use Rattle.range.specs.Promises.{TwoFiles, pulse_of, Ranged, FileRange}
use Rattle.range.specs.Cases.{broken_file}

-- §11.6 the pulse of the broken tile's column in row 1 in both, and the range, which covers the difference
pub record FilesWitnessed : Type 0 where
  pub files : TwoFiles printed_file broken_file 0 3
  pub here : pulse_of printed_file 1 3 ≡ 1536
  pub there : pulse_of broken_file 1 3 ≡ 1464
  pub range : last_number (search_text (1 ∷ []) printed_file) ≡ 256

-- §12.3 `FileRange` is of such files
unfoldable pub FileRangeMet : Type 0
FileRangeMet = FileRange → Ranged (1 ∷ []) printed_file broken_file
