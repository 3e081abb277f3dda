use Rattle.std.proofs.Common.{◌∙◌, sym, ap}
use Rattle.indexmap.specs.IndexMap.{insert_entry}
use Rattle.indexmap.proofs.CallerLemmas.{insert_entry-new}
use Rattle.tw_rows.specs.SameCells.{same_cells}
use Rattle.outer_top.proofs.TopKeys.{changes_found, changes_new}
use Rattle.outer_top.proofs.keys.change.Goals as goal

pub returns-in-Some : goal.returns-in-Some
returns-in-Some c =
    changes_found c.args.key c.args.rank c.args.edge.now c.args.lost.now.items c.change.new.lost.items c.args.won.now.items c.change.new.won.items c.args.keys.now.entries
    (c.get_mut.follows.lender c.change.new.self).entries c.in-Some.ranked.now c.change.new.self c.in-Some.ensures.unique c.in-Some.ensures.value (c.get_mut.follows.holds c.change.new.self).0 c.in_ok-change.ensures

pub returns : goal.returns
returns c =
    let m = c.args.keys.now in
    changes_new c.args.key c.args.rank c.args.edge.now c.args.lost.now.items c.change-2.new.lost.items c.args.won.now.items c.change-2.new.won.items m.entries
    c.insert.new.self.entries c.new-ranked.result c.change-2.new.self c.in_default.ensures.unique c.in_default.ensures.value
    (c.in_ok-insert.ensures.entries ∙ (ap (λ x. insert_entry same_cells x.entries c.args.key c.change-2.new.self) c.get_mut.follows.holds-at-none
    ∙ insert_entry-new same_cells m c.args.key c.change-2.new.self (sym c.in_default.ensures.value)))
    (record { none_shown = c.new-ranked.ensures.shown; none_hidden = c.new-ranked.ensures.hidden }) c.in_ok-change-2.ensures
