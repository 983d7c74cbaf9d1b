-- Neighbours, links and marks at numbers, by computing them. Assumes nothing.
use mathlib.Core.Path.{refl}
use Rattle.columns.specs.Columns.{are_neighbours, columns_from, neighbours, is_predecessor, predecessors, links_before, place_in, link_place, link}
use Rattle.columns.specs.Marks.{marked, mark_bytes}
use Rattle.columns.specs.Cases.{six, NeighboursMet, LinksMet, MarksMet}

pub neighbours_met : NeighboursMet
unfolding NeighboursMet six neighbours columns_from are_neighbours
neighbours_met = (refl, refl)

pub links_met : LinksMet
unfolding LinksMet six predecessors columns_from is_predecessor are_neighbours link link_place links_before place_in
links_met = (refl, refl, refl, refl, refl, refl)

pub marks_met : MarksMet
unfolding MarksMet columns_from marked mark_bytes
marks_met = (refl, refl, refl)
