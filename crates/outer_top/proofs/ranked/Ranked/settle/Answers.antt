use Rattle.outer_top.proofs.Settling.{then_won}
use Rattle.outer_top.proofs.ranked.Ranked.settle.Goals as goal

pub show-preserved : goal.show-preserved
show-preserved c =
    let s = c.args.self.now in
    let l = c.show.self in
    let n = c.show_one.new.self in
    let e = c.in_ok-show_one.ensures in (
      then_won s.shown.entries s.hidden.entries l.shown.entries l.hidden.entries n.shown.entries n.hidden.entries c.args.lost.now.items c.args.won.now.items c.hide_one.new.lost.items c.show.won.items
          c.show.invariant.0 e.rows e.ranked c.show_one.new.won.items e.won,
      e.few c.args.most c.show-test.true c.show.invariant.1,
    )

pub returns-then-not-branch-clause-fits : goal.returns-then-not-branch-clause-fits
returns-then-not-branch-clause-fits c = λ p a b z.
    let s = c.args.self.now in
    let l = c.show.self in
    let n = c.show_one.new.self in
    let e = c.in_ok-show_one.ensures in
    (then_won s.shown.entries s.hidden.entries l.shown.entries l.hidden.entries n.shown.entries n.hidden.entries c.args.lost.now.items c.args.won.now.items c.hide_one.new.lost.items c.show.won.items
    c.show.invariant.0 e.rows e.ranked c.show_one.new.won.items e.won).fits p a b z
