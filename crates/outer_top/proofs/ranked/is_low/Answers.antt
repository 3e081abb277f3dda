-- What is answered by hand of the proof of ranked::is_low.
use Rattle.std.specs.Prelude.{◌≡◌, ℕ, ◌<◌, ◌≤◌, nat_le, true, false, length}
use Rattle.std.proofs.Common.{arith, ◌-◌}
use Rattle.std.proofs.lemmas.Bool.Decides.{nat_tests}
use Rattle.outer_top.proofs.Moving.{below_shown, all_upto}
use Rattle.outer_top.proofs.ranked.is_low.Goals as goal

le_of : (m n : ℕ) → nat_le m n ≡ true → m ≤ n
le_of m n h = grind (arith, nat_tests)

lt_of : (m n : ℕ) → nat_le m n ≡ false → n < m
lt_of m n h = grind (arith, nat_tests)

pub returns-in-Some-clause-low : goal.returns-in-Some-clause-low
returns-in-Some-clause-low c = λ h shown apart.
    below_shown shown c.args.groups.now.entries (length c.args.groups.now.entries - 1) c.args.rank (c.in-Some.greatest.now, c.in-Some.field-0-1.now) c.in-Some.ensures.last (le_of c.args.rank c.in-Some.greatest.now h) apart

pub returns-in-Some-clause-high : goal.returns-in-Some-clause-high
returns-in-Some-clause-high c = λ h. all_upto c.args.rank c.in-Some.greatest.now c.args.groups.now.entries (lt_of c.args.rank c.in-Some.greatest.now h) c.in-Some.ensures.all_up_to
