use Rattle.std.proofs.Common.{◌∙◌, subst, List, ℕ}
use Rattle.edge_stream.specs.Entries.{part_of}
use Rattle.sweep_sides.proofs.KeptSides.{side_loaded}
use Rattle.sweep_sides.proofs.Starting.{starts_loaded}
use Rattle.tw_rows.proofs.Bags.{SameBag-trans}
use Rattle.session_window.specs.Kept.{HasOne}
use Rattle.session_window.proofs.Loading.{none_one, none_placed, rows_same}
use Rattle.session_window.proofs.saving.load_side.Goals as goal

pub returns-clause-key : goal.returns-clause-key
returns-clause-key c = c.in_ok-put_rows.ensures.like.key ∙ c.in_ok-side.ensures.key

pub returns-clause-timeout : goal.returns-clause-timeout
returns-clause-timeout c = c.in_ok-put_rows.ensures.like.timeout ∙ c.in_ok-side.ensures.timeout

pub returns-clause-rows : goal.returns-clause-rows
returns-clause-rows c =
    SameBag-trans _ _ _ (rows_same c.put_rows.new.sessions.rows.rows c.in_ok-side.side.sessions.rows.rows c.in_ok-rows.rows.rows c.in_ok-side.ensures.rows c.in_ok-put_rows.ensures.rows) c.in_ok-rows.ensures.rows

pub returns-clause-waiting : goal.returns-clause-waiting
returns-clause-waiting c = c.in_ok-waiting.ensures.edges

pub returns-clause-one : goal.returns-clause-one
returns-clause-one c =
    let s = c.in_ok-side.side.sessions in
    let new = c.put_rows.new.sessions in
    subst (λ (l : List ℕ). HasOne l new.rows.rows new.ends) c.in_ok-side.ensures.key (c.in_ok-put_rows.ensures.one (none_one s.rows.key s.rows.rows s.ends c.in_ok-side.ensures.rows c.in_ok-side.ensures.ends))

pub returns-clause-at : goal.returns-clause-at
returns-clause-at c = c.in_ok-put_rows.ensures.at (none_placed c.args.to c.in_ok-side.side.sessions.ends c.in_ok-side.ensures.ends)

pub returns-clause-side : goal.returns-clause-side
returns-clause-side c = λ kinds sound.
    let entries = c.args.saved.now in
    side_loaded kinds c.args.to c.put_rows.new.sessions.rows.rows c.in_ok-waiting.waiting (part_of 0 entries) (part_of 1 entries) (returns-clause-rows c) c.in_ok-waiting.ensures.edges c.in_ok-waiting.ensures.timed sound.rows sound.waiting

pub returns-clause-starts : goal.returns-clause-starts
returns-clause-starts c = λ kinds sound. starts_loaded c.in_ok-waiting.waiting (part_of 1 c.args.saved.now) c.in_ok-waiting.ensures.edges sound.starts
