-- Sessions: a row stays until the starts of its key pause for a timeout.
use Rattle.std.specs.Prelude.{ℕ, ◌+◌, min, nat_lt, nat_le, Bool, not, ◌&&◌, List, [], ◌∷◌, map, filter}
use Rattle.std.specs.List.{list_any}
use Rattle.tw_rows.specs.Instant.{inf, later}
use Rattle.tw_rows.specs.Event.{Event}

-- the least of m and the numbers of the list
abbrev pub least : ℕ → List ℕ → ℕ
least m [] = m
least m (n ∷ ns) = min n (least m ns)

-- a start of the list lies strictly between a and b
abbrev pub any_between : List ℕ → ℕ → ℕ → Bool
any_between starts a b = list_any (λ s. nat_lt a s && nat_lt s b) starts

-- the starts from `from` on such that no start lies strictly between them and the time that is the timeout later
abbrev pub last_starts : ℕ → List ℕ → ℕ → List ℕ
last_starts timeout starts from = filter (λ s. nat_le from s && not (any_between starts s (s + timeout))) starts

-- the least of these later times, each of which is infinity where it is no instant. With timeout 5 and the starts 1, 4
-- and 9: 9 for 1 and for 4, and 14 for 9
abbrev pub session_end : ℕ → List ℕ → ℕ → ℕ
session_end timeout starts from = least inf (map (later timeout) (last_starts timeout starts from))

-- the starts of the events of a key
abbrev pub key_starts : {R K : Type 0} → (R → K) → (K → K → Bool) → List (Event R) → K → List ℕ
key_starts key same es k = map (λ e. e.start) (filter (λ e. same k (key e.row)) es)

-- the event up to the end of its session
abbrev pub session : {R K : Type 0} → (R → K) → (K → K → Bool) → ℕ → List (Event R) → Event R → Event R
session key same timeout es e =
    record { row = e.row; start = e.start; end = session_end timeout (key_starts key same es (key e.row)) e.start }

abbrev pub sessions : {R K : Type 0} → (R → K) → (K → K → Bool) → ℕ → List (Event R) → List (Event R)
sessions key same timeout es = map (session key same timeout es) es
