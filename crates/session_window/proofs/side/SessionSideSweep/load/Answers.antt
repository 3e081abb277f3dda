use Rattle.std.proofs.Common.{rules, ◌∙◌, map, subst, List, ℕ, arith}
use Rattle.tw_rows.specs.Kinds.{cell_kind_of}
use Rattle.edge_stream.specs.Entries.{part_of}
use Rattle.sweep_laws.specs.Saving.{rows_of}
use Rattle.sweep_sides.specs.Waiting.{queued}
use Rattle.session_window.specs.Kept.{HasOne}
use Rattle.session_window.specs.States.{SessionSound}
use Rattle.session_window.proofs.Resuming.{session_loaded}
use Rattle.session_window.proofs.side.SessionSideSweep.load.Goals as goal

pub returns-clause-resumed : goal.returns-clause-resumed
returns-clause-resumed c = λ hl hr out r.
    let old = c.args.self.now.sessions in
    let new = c.in_ok-side.side in
    let t = c.in_ok-side.ensures in
    let key = c.columns.ensures in
    let kinds = map cell_kind_of c.args.left_kinds.now in
    let sound : SessionSound kinds c.args.to c.args.saved.now = search rules in
    let pos = c.requires.positive in
    let same = t.timeout in
    record {
      positive = omega (arith, pos, same);
      timed = (t.side kinds sound).timed;
      kept = session_loaded old.rows.key old.timeout new.sessions.rows.key new.sessions.timeout c.args.to
          (rows_of (part_of 0 c.args.saved.now)) new.sessions.rows.rows r.ends new.sessions.ends (part_of 1 c.args.saved.now) (queued new.waiting) hl out c.word.ensures.within
          (t.key ∙ key) t.timeout t.rows t.waiting (subst (λ (l : List ℕ). HasOne l new.sessions.rows.rows new.sessions.ends) key t.one) t.at r.kept;
    }

pub returns-clause-fits : goal.returns-clause-fits
returns-clause-fits c =
    let kinds = map cell_kind_of c.args.left_kinds.now in
    let sound : SessionSound kinds c.args.to c.args.saved.now = search rules in
    record { side = c.in_ok-side.ensures.side kinds sound; starts = c.in_ok-side.ensures.starts kinds sound }
