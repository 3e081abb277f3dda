use Rattle.std.proofs.Common.{◌<◌, ap, arith, length}
use Rattle.std.proofs.lemmas.List.Elements.{All-rest}
use Rattle.tw_rows.specs.Bag.{total}
use Rattle.sweep_sides.specs.declared.endings.Ending.{Ending}
use Rattle.sweep_sides.specs.Ends.{ends_of}
use Rattle.sweep_sides.proofs.taking.release.Goals as goal

pub loop-end-preserved : goal.loop-end-preserved
loop-end-preserved c =
    let s = c.in-Some.ensures.some in
    let there = All-rest (λ (p : Ending). p.start < length c.loop-end.due.items) c.in-Some.end c.pop_until.new.self c.loop-end.ends s c.loop-end.invariant.starts in
    let k = c.in_ok-push_end.ensures.kept c.pop_until.new.self there in
    record {
      starts = k.0;
      parts = λ w.
          let a = c.in_ok-push_end.ensures.parts w in
          let b = ap (λ l. total w (ends_of c.loop-end.due.items l)) s in
          let e = ap (total w) k.1 in
          let i = c.loop-end.invariant.parts w in
          omega (arith, a, b, e, i);
    }
