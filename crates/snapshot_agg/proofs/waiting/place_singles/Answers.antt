use Rattle.std.specs.Prelude.{◌≡◌, ◌||◌, Bool, true, false, nat_eq, refl}
use Rattle.std.proofs.Common.{arith, rules}
use Rattle.std.proofs.lemmas.Bool.Decides.{nat_tests}
use Rattle.tw_rows.specs.Instant.{inf}
use Rattle.tw_rows.specs.declared.edge.Edge.{Edge}
use Rattle.edge_history.specs.Order.{is_end}
use Rattle.sweep_laws.proofs.Stored.{two_singles}
use Rattle.snapshot_agg.proofs.waiting.place_singles.Goals as goal

neither : (a b : Bool) → a ≡ false → b ≡ false → (a || b) ≡ false
neither false b h k = k
neither true b h k = absurd (cc)

pub returns-clause-parts : goal.returns-clause-parts
returns-clause-parts c = λ w.
    let e = c.args.edge in
    let far = c.bounds.ensures.infinity in
    let same : c.in_ok-clone.field-0 ≡ e.cells = search rules in
    let no_end : is_end e ≡ false = grind (arith, nat_tests, c.is_end.ensures, c.if-is_end.false) in
    let no_start : nat_eq e.other inf ≡ false = grind (arith, nat_tests, c.eq.ensures, c.if-eq.false, far) in
    let x : Edge = record { sync = e.sync; other = c.bounds.result.1; cells = c.in_ok-clone.field-0 } in
    let y : Edge = record { sync = e.other; other = e.sync; cells = e.cells } in
    let s = two_singles e x y (neither (is_end e) (nat_eq e.other inf) no_end no_start) (λ i. record { sync = e.sync; other = far i; cells = same i }) refl w in
    let a = c.in_ok-place.ensures.parts w in
    let b = c.in_ok-put.ensures.edges w in
    omega (arith, s, a, b)
