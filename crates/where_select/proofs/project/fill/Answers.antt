use Rattle.tw_rows.specs.declared.cells.Datum.TheVariants.{Int, Bool, Text}
use Rattle.where_select.proofs.Projected.{map-nil}
use Rattle.where_select.proofs.project.fill.Goals as goal

pub map_int-requires-clause-empty : goal.map_int-requires-clause-empty
map_int-requires-clause-empty c = let e = rw c.in-Ints.is at c.requires.empty in map-nil Int c.in-Ints.numbers.items e

pub map_bool-requires-clause-empty : goal.map_bool-requires-clause-empty
map_bool-requires-clause-empty c = let e = rw c.in-Bits.is at c.requires.empty in map-nil Bool c.in-Bits.bits.items e

pub map_text-requires-clause-empty : goal.map_text-requires-clause-empty
map_text-requires-clause-empty c = let e = rw c.in-Places.is at c.requires.empty in map-nil Text c.in-Places.places.items e
