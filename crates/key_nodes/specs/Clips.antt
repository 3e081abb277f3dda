-- Clips: a left row ends at the latest where a right row that it meets starts.
use Rattle.std.specs.Prelude.{ℕ, nat_lt, Bool, ◌&&◌, List, map, filter}
use Rattle.tw_rows.specs.Event.{Event}
use Rattle.key_nodes.specs.Sessions.{least}

-- the starts of the right events that the left one meets and that start strictly after it
abbrev pub later_starts : {L R : Type 0} → (L → R → Bool) → List (Event R) → Event L → List ℕ
later_starts meets rs e = map (λ r. r.start) (filter (λ r. meets e.row r.row && nat_lt e.start r.start) rs)

-- the event up to the least of its end and these starts. [3, 20) with starts at 3 and 8: [3, 8)
abbrev pub clip : {L R : Type 0} → (L → R → Bool) → List (Event R) → Event L → Event L
clip meets rs e = record { row = e.row; start = e.start; end = least e.end (later_starts meets rs e) }

abbrev pub clipped : {L R : Type 0} → (L → R → Bool) → List (Event L) → List (Event R) → List (Event L)
clipped meets ls rs = map (clip meets rs) ls
