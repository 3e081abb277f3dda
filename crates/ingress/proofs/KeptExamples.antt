-- What is held and saved, computed on cases.
use Rattle.std.specs.Prelude.{◌≡◌, nat_eq, true, false, cond, [], ◌∷◌, refl}
use Rattle.tw_rows.specs.Instant.{inf}
use Rattle.admission.specs.Admission.{Admission, nothing}
use Rattle.ingress.specs.Keeping.{kept_state}
use Rattle.ingress.specs.Counts.{together, may_hold}
use Rattle.ingress.specs.Saving.{open_of}

-- one that was dropped is kept at the start that was given
dropped_at_four : kept_state 4 (record { start = 10; dropped = true }) ≡ record { start = 4; dropped = true }
dropped_at_four = refl

adjusted_to_ten : kept_state 4 (record { start = 10; dropped = false }) ≡ record { start = 10; dropped = false }
adjusted_to_ten = refl

eight_together : together 2 (λ s. cond (nat_eq s 0) 3 5) ≡ 8
eight_together = refl

-- a row over [1, 4), one over [1, 9), and an open start at 5
three_lines : Admission
three_lines = record nothing {
  made = λ s. record { row = []; start = 1; end = 4 } ∷ record { row = []; start = 1; end = 9 } ∷ [];
  opens = record { stream = 0; row = []; given = 5; start = 5; dropped = false } ∷ [];
}

five_may_be_held : may_hold 1 5 three_lines ≡ 5
unfolding inf three_lines
five_may_be_held = refl

-- part 5 is an open start of stream 1 that was dropped
part_five : open_of (record { part = 5; sync = 4; other = 4; cells = [] }) ≡ record { key = record { stream = 1; given = 4; cells = [] }; state = record { start = 4; dropped = true } } ∷ []
part_five = refl

-- and part 3 an edge of it
part_three : open_of (record { part = 3; sync = 4; other = 9; cells = [] }) ≡ []
part_three = refl
