use Rattle.std.specs.Prelude.{OnOk, not, filter}
use Rattle.std.proofs.Common.{◌∷◌, subst, List}
use Rattle.tw_rows.specs.Bag.{SameBag}
use Rattle.tw_rows.specs.declared.cells.Datum.{Datum}
use Rattle.synopsis.specs.Held.{key_of, is_of_key}
use Rattle.anti_join.proofs.free_times.FreeTimes.set_start.Goals as goal

pub returns-clause-ok : goal.returns-clause-ok
returns-clause-ok c =
    let old = c.args.self.now in
    subst (λ (l : List Datum). OnOk c.set.result (SameBag c.set.new.self.rows (record { cells = l; start = c.args.edge.now.sync } ∷ filter (λ r. not (is_of_key old.key (key_of old.key l) r)) old.rows)))
    c.in_ok-clone.ensures.cases c.set.ensures.ok
