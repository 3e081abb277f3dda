-- Ends that come, of starts that are due.
use Rattle.std.specs.Prelude.{◌≡◌, ℕ, ◌+◌, ◌-◌, ◌<◌, ◌||◌, nat_lt, nat_le, Bool, List, [], map, length, get_or, All}
use Rattle.tw_rows.specs.Bag.{total}
use Rattle.tw_rows.specs.declared.edge.Edge.{Edge}
use Rattle.sweep_sides.specs.declared.endings.Ending.{Ending}

-- the start of an end, which stands at its place among the edges that are due
abbrev pub start_of : List Edge → Ending → Edge
start_of due p = get_or due p.start (record { sync = 0; other = 0; cells = [] })

-- the end as an edge. Where the first edge that is due is a start at 3, the end at 5 of the first ends at 5 what began at 3
abbrev pub end_of : List Edge → Ending → Edge
end_of due p = record { sync = p.sync; other = (start_of due p).sync; cells = (start_of due p).cells }

abbrev pub ends_of : List Edge → List Ending → List Edge
ends_of due ends = map (end_of due) ends

-- the start of each end is due
abbrev pub HaveStarts : List Edge → List Ending → Type 0
HaveStarts due ends = All (λ p. p.start < length due) ends

-- where more edges are due, ends keep their starts
abbrev pub KeepsStarts : List Edge → List Edge → Type 0
KeepsStarts due due2 = (ends : List Ending) → HaveStarts due ends → HaveStarts due2 ends × (ends_of due2 ends ≡ ends_of due ends)

-- the weight of the edges that are due, of the ends that come, and of the edges that waited
abbrev pub weight : (Edge → ℕ) → List Edge → List Ending → List Edge → ℕ
weight w due ends waited = (total w due + total w (ends_of due ends)) + total w waited

-- the end at a place, and whether it comes before the one in front of it. Of ends at 5 and 3 the second does
abbrev pub end_at : List Ending → ℕ → Ending
end_at ends i = get_or ends i (record { sync = 0; start = 0 })

abbrev pub falls_at : List Ending → ℕ → Bool
falls_at ends i = nat_lt (end_at ends i).sync (end_at ends (i - 1)).sync

-- fewer than 16 ends are to come, or the last but 15 comes at the time or before it
abbrev pub is_near_end : ℕ → List Ending → Bool
is_near_end t ends = nat_lt (length ends) 16 || nat_le (end_at ends (length ends - 16)).sync t
