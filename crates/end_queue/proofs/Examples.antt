-- The definitions, worked out on a few entries.
use Rattle.std.specs.Prelude.{◌≡◌, ℕ, [], ◌∷◌, refl}
use Rattle.end_queue.specs.Pending.{Pending, put_pending}

abbrev at_time : ℕ → ℕ → Pending
at_time time start = record { at = time; edge = record { sync = time; other = start; cells = [] } }

-- of equal times the one that was put first comes first
equal_times_keep_their_order : put_pending (at_time 5 2) (at_time 3 0 ∷ at_time 5 0 ∷ at_time 5 1 ∷ at_time 7 0 ∷ [])
    ≡ at_time 3 0 ∷ at_time 5 0 ∷ at_time 5 1 ∷ at_time 5 2 ∷ at_time 7 0 ∷ []
equal_times_keep_their_order = refl
