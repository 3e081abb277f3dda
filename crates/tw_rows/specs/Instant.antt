-- The line of time: the instants are the numbers below `inf`, and `inf` stands for infinity.
use Rattle.std.specs.Prelude.{ℕ, zero, suc, ◌+◌, ◌-◌, ◌*◌, ◌/◌, ◌^◌, min, nat_lt, cond, List, [], ◌∷◌}

-- infinity. It is kept closed, so that no proof ever counts up to it
unfoldable pub inf : ℕ
inf = 2 ^ 61

-- the time `by` later: infinity where the sum is no instant. 3 later than 4 is 7
abbrev pub later : ℕ → ℕ → ℕ
later by t = min (t + by) inf

-- the time `by` earlier, and not before 0; infinity stays. 3 earlier than 2 is 0
abbrev pub earlier : ℕ → ℕ → ℕ
earlier by t = cond (nat_lt t inf) (t - by) inf

-- the greatest multiple of the period that is not above t; infinity stays. With period 10, 17 becomes 10
abbrev pub floor_to : ℕ → ℕ → ℕ
floor_to period t = cond (nat_lt t inf) (period * (t / period)) inf

-- the n instants from a on. From 3 on two: 3 and 4
abbrev pub instants : ℕ → ℕ → List ℕ
instants a zero = []
instants a (suc n) = a ∷ instants (suc a) n
