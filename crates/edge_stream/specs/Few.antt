-- How many batches lists of edges are in.
use Rattle.std.specs.Prelude.{◌-◌, ◌*◌, ◌/◌, ◌^◌, ◌||◌, min, nat_lt, nat_le, Bool, length}
use Rattle.edge_stream.specs.Listing.{EdgeListView}

-- batches of a later list may stand behind those of the list as they are: the list has one at most, or they are half full. At
-- a capacity of 8, behind 3 batches one with 4 edges may, and one with 3 not. Above 2^64 - 1, edges are not counted
abbrev pub may_stay : EdgeListView → EdgeListView → Bool
may_stay list later = nat_lt list.batches 2
    || nat_le (min (later.batches * (later.capacity / 2)) (2 ^ 64 - 1)) (min (length later.edges) (2 ^ 64 - 1))
