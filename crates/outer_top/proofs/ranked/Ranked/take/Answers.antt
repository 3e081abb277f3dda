-- What is answered by hand of the proof of ranked::Ranked::take.
use Rattle.std.specs.Prelude.{[], ◌∷◌}
use Rattle.std.proofs.Common.{arith, ◌∙◌, ap, sym, subst}
use Rattle.tw_rows.specs.Bag.{total}
use Rattle.tw_rows.proofs.Bags.{total-append}
use Rattle.edge_history.specs.Order.{many}
use Rattle.edge_history.specs.Opens.{is_held}
use Rattle.outer_top.specs.Ranks.{rows_in, IsOnlyRank}
use Rattle.outer_top.proofs.Missing.{none_of_rank, below_lack, above_lack}
use Rattle.outer_top.proofs.Moving.{hidden_cut, bare_more}
use Rattle.outer_top.proofs.ranked.Ranked.take.Goals as goal

pub invariant_of-self : goal.invariant_of-self
invariant_of-self c =
    let s = c.args.self.now in
    record { apart = hidden_cut s.shown.entries s.hidden.entries c.take_row.new.groups.entries c.take_row.ensures.keys s.apart; counted = s.counted }

pub returns-clause-lost : goal.returns-clause-lost
returns-clause-lost c = λ w.
    let s = c.args.self.now in
    let b = bare_more c.take_shown.new.self.shown.entries s.shown.entries (record { cells = c.args.cells.now; start = c.args.start }) (c.take_shown.ensures.taken c.if-not-take_shown.false) w in
    let p = ap (total w) c.in_ok-push.ensures.items ∙ total-append w c.args.lost.now.items (c.in_ok-clone.field-0 ∷ []) in
    let q = ap w c.in_ok-clone.ensures.cases in
    omega (arith, b, p, q)

pub returns-then-is_low-clause-missing : goal.returns-then-is_low-clause-missing
returns-then-is_low-clause-missing c = λ h rank only a b.
    let s = c.args.self.now in
    let cells = c.args.cells.now in
    let start = c.args.start in
    let k = c.args.rank in
    let e = c.items.ensures in
    let low = c.is_low.ensures.low c.if-is_low.true s.shown.entries s.apart in
    let x = none_of_rank rank cells start k only s.shown.entries a (above_lack rank cells start k only s.shown.entries low) in
    let y = ap (λ l. many (is_held l start) (rows_in s.hidden.entries)) (sym e) ∙ c.take_row.ensures.missing h rank (subst (λ l. IsOnlyRank rank l k) (sym e) only) b in
    omega (arith, x, y)

pub returns-then-not-take_shown-clause-missing : goal.returns-then-not-take_shown-clause-missing
returns-then-not-take_shown-clause-missing c = λ h rank only a b.
    let s = c.args.self.now in
    let cells = c.args.cells.now in
    let start = c.args.start in
    let k = c.args.rank in
    let x = none_of_rank rank cells start k only s.hidden.entries b (below_lack rank cells start k only s.hidden.entries (c.is_low.ensures.high c.if-is_low.false)) in
    let y = c.take_shown.ensures.missing c.if-not-take_shown.true rank only a in
    omega (arith, x, y)
