-- The cases of specs/Cases.antt, computed. Assumes nothing.
use mathlib.Core.Path.{refl}
use native.Mathlib.Omega.{arith}
use Rattle.settings.specs.Settings.{settings}
use Rattle.columns.specs.Columns.{are_neighbours, columns_from, is_predecessor, predecessors, links_before, table_from}
use Rattle.columns.specs.Marks.{mark_bytes}
use Rattle.fields.specs.Bytes.{big_endian}
use Rattle.fields.specs.Field.{body}
use Rattle.contents.specs.Contents.{settings_in, times_in, late_start, tile_place, drifts_in, phases_in, tile_links, links_below, links_in, marks_field, row_size, marks_in, tiles_in}
use Rattle.contents.specs.Cases.{body_1, body_4, row_fields, SettingsRead, StartRead, StartLimit, TilesRead, RowRead, SizesMet, SizesPlain}

pub settings_read : SettingsRead
unfolding SettingsRead body_1 settings_in settings big_endian
settings_read = refl

pub start_read : StartRead
unfolding StartRead times_in table_from big_endian
start_read = refl

pub start_limit : StartLimit
unfolding StartLimit late_start
start_limit = (refl, refl, refl, refl)

pub tiles_read : TilesRead
unfolding TilesRead body_4 drifts_in phases_in links_in links_below tile_links tile_place table_from big_endian links_before predecessors is_predecessor are_neighbours columns_from
tiles_read = (refl, refl, refl)

pub row_read : RowRead
unfolding RowRead row_fields body_4 marks_in tiles_in body marks_field mark_bytes table_from
row_read = (refl, refl)

pub sizes_met : SizesMet
unfolding SizesMet marks_field row_size mark_bytes
sizes_met = (refl, refl, refl, refl, refl, refl, refl, refl, refl, refl)

pub sizes_plain : SizesPlain
unfolding SizesPlain marks_field row_size mark_bytes
sizes_plain w = (refl, refl, refl, omega arith)
