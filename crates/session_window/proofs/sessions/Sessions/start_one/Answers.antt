use Rattle.std.proofs.Common.{◌≡◌, ◌∙◌, ◌∷◌, [], ap, arith, cond, true, false, refl}
use Rattle.tw_rows.specs.Bag.{total}
use Rattle.tw_rows.specs.declared.edge.HeldRow.{HeldRow}
use Rattle.end_queue.specs.Pending.{Pending}
use Rattle.edge_history.specs.Order.{is_end}
use Rattle.synopsis.specs.Held.{key_of}
use Rattle.sweep_sides.proofs.Telling.{end_is, start_told, no_start}
use Rattle.session_window.proofs.Awaiting.{opened, later_opened}
use Rattle.session_window.proofs.sessions.Sessions.start_one.Goals as goal

pub returns-then-is_end : goal.returns-then-is_end
returns-then-is_end c =
    let x = c.args.edge.now in
    let row : HeldRow = record { cells = x.cells; start = x.sync } in
    let e : is_end x ≡ true = end_is c.is_end.result x c.is_end.ensures ∙ c.if-is_end.true in
    record {
      rows = λ w. (let z = ap (λ b. total w (cond b [] (row ∷ []))) e in omega (arith, z));
      told = no_start c.args.t x c.args.answer.now.items e;
      awaits = λ h. h;
      later = λ u low h. h;
      like = record { timeout = refl; key = refl };
    }

pub returns : goal.returns
returns c =
    let s = c.args.self.now in
    let new = c.put_in.new.self in
    let x = c.args.edge.now in
    let row : HeldRow = record { cells = x.cells; start = x.sync } in
    let e : is_end x ≡ false = end_is c.is_end.result x c.is_end.ensures ∙ c.if-is_end.false in
    let at = c.plus-at.result in
    let p : Pending = record { at = at; edge = record { sync = at; other = at; cells = key_of s.rows.key c.in_ok-clone.field-0 } } in
    let cells = c.in_ok-clone.ensures.cases in
    let row2 : HeldRow = record { cells = c.in_ok-clone.field-0; start = x.sync } in
    record {
      rows = λ w.
          let a = c.in_ok-put_in.ensures.rows w in
          let b = ap (λ l. w (record { cells = l; start = x.sync })) cells in
          let z = ap (λ b. total w (cond b [] (row ∷ []))) e in
          omega (arith, a, b, z);
      told = start_told c.args.t x c.args.answer.now.items c.push.new.self.items c.bounds.result.1 c.in_ok-clone-2.field-0 e c.bounds.ensures.infinity c.in_ok-clone-2.ensures.cases c.in_ok-push.ensures.items;
      awaits = opened s.timeout s.rows.key s.rows.rows new.rows.rows s.ends new.ends row2 p refl c.in_ok-put_in.ensures.rows c.in_ok-put_in.ensures.ends c.plus-at.ensures;
      later = λ u low. later_opened s.timeout s.rows.key s.rows.rows new.rows.rows s.ends new.ends row2 p refl c.in_ok-put_in.ensures.rows c.in_ok-put_in.ensures.ends u (let a = c.plus-at.ensures in omega (arith, low, a));
      like = c.in_ok-put_in.ensures.like;
    }
