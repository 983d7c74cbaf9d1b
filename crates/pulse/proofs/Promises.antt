-- The proof of what specs/Tiles.antt states. Assumes nothing.
use mathlib.Core.Path.{refl}
use mathlib.Core.List.{map}
use Rattle.settings.proofs.Laws.Settings.{limits}
use Rattle.rule.specs.Pulse.{tile_pulse}
use Rattle.tile.specs.Promises.{TileAnswered}
use Rattle.tile.proofs.Promises.{tile_answered}
use Rattle.columns.specs.Columns.{neighbours}
use Rattle.pulse.specs.Pulse.{stamp, pulse, letter_at}
use Rattle.pulse.specs.Tiles.{stamps_of, tile_stamps, TilesAccepted}
use Rattle.columns.proofs.Laws.Columns.{own}
use Rattle.pulse.proofs.Laws.Stamps.{stamp_by, few_silent, neighbours_by, two_neighbours, at_most_three}
use Rattle.pulse.proofs.Laws.Tiles.{own_place, places_back}
use Rattle.admission.proofs.Laws.Accepted.{accepted}

-- the tiles of an accepted row
pub tiles_accepted : TilesAccepted
unfolding TilesAccepted TileAnswered tile_stamps pulse tile_pulse letter_at
tiles_accepted s ts x c e i =
    let r = accepted s ts x e in
    let st = stamp s.width ts x c in
    let ns = map st (neighbours s.width c) in
    let wide = (limits s r.settings).width.0 in
    let back = places_back s r.settings (st c) ns (stamp_by r c i c i (own s.width c c refl)) (neighbours_by r c i) (few_silent r c i)
    (two_neighbours st wide i) (at_most_three st wide i) in
    (back.0, rw (own_place (st c) ns, back.1), rw (own_place (st c) ns, back.1) at ((tile_answered s (stamps_of (st c) ns)).1 back.0).2)
