use Rattle.std.specs.Prelude.{◌≡◌, ◌+◌, ◌-◌, ◌<◌, ℕ, length, get_or}
use Rattle.std.proofs.Common.{◌∙◌, ap, arith}
use Rattle.std.proofs.lemmas.List.{get_or_default}
use Rattle.tw_rows.specs.declared.edge.Edge.{Edge}
use Rattle.snapshot_agg.proofs.Applying.{same_before, first_written, moved_before, fewer_before, touched_before}
use Rattle.snapshot_agg.proofs.passes.apply.Goals as goal

pub loop-next-preserved : goal.loop-next-preserved
loop-next-preserved c =
    let j = c.loop-next.next in
    let i : ℕ = j - 1 in
    let some = c.loop-next-test.true in
    let within = c.loop-next.invariant.within in
    let next : j ≡ i + 1 = omega (arith, some) in
    let now = c.args.now.now in
    let was = c.loop-next.now in
    let low : i < length now = omega (arith, some, within) in
    let d = c.index-now-next.result in
    let x : Edge = get_or was i d in
    let first = c.loop-next.invariant.first in
    let is : x ≡ get_or now i x = same_before was now i j d (omega (arith, next)) first ∙ get_or_default now i d x low in
    record {
      within = omega (arith, within);
      first = first_written was now i j c.apply_one.new.edge (omega (arith, next)) first;
      counted = c.in_ok-apply_one.ensures.counted;
      settled = c.in_ok-apply_one.ensures.settled;
      moved = moved_before now i j x next low is c.args.groups.now.rows.rows.held c.loop-next.groups.rows.rows.held c.apply_one.new.groups.rows.rows.held
          c.in_ok-apply_one.ensures.moved c.loop-next.invariant.moved;
      fewer = fewer_before now i j x next low is c.args.groups.now.rows.rows.held c.loop-next.groups.rows.rows.held c.apply_one.new.groups.rows.rows.held
          c.in_ok-apply_one.ensures.fewer c.loop-next.invariant.fewer;
      touched = touched_before now i j x next low is c.args.groups.now.key.items c.loop-next.groups.key.items c.loop-next.groups.touched.items c.apply_one.new.groups.touched.items
          (ap (λ v. v.items) c.loop-next.invariant.same_key) c.in_ok-apply_one.ensures.touched c.loop-next.invariant.touched;
      same_key = c.in_ok-apply_one.ensures.key ∙ c.loop-next.invariant.same_key;
      same_aggs = c.in_ok-apply_one.ensures.aggs ∙ c.loop-next.invariant.same_aggs;
    }
