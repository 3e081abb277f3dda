-- The number that stands for the time after all others.
use Rattle.std.proofs.Common.{◌≡◌, refl}
use Rattle.tw_rows.specs.Instant.{inf}

pub inf_is : inf ≡ 2305843009213693952
unfolding inf
inf_is = refl
