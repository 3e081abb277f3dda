use Rattle.std.proofs.Common.{◌∙◌, false, map, sym, ap, subst, filter, refl, arith}
use Rattle.synopsis.specs.Held.{is_of_key}
use Rattle.sweep_laws.specs.Moves.{Adds, told_at}
use Rattle.session_window.specs.Lasts.{IsLastStart}
use Rattle.session_window.proofs.Awaiting.{ends_none, ends_key, not_gone, again_put, closed, fewer_put, not_before}
use Rattle.session_window.proofs.sessions.Sessions.end_one.Goals as goal

pub returns-in_default : goal.returns-in_default
returns-in_default c =
    let s = c.args.self.now in
    record {
      ended = ends_none s.timeout s.rows.key c.args.t s.rows.rows c.args.answer.now.items;
      awaits = λ p ends edge is h. not_gone s.timeout s.rows.key s.rows.rows ends s.ends p c.items.result.now (ap (λ e. e.cells) edge ∙ sym c.items.ensures) is h c.in_default.ensures.none;
      fewer = omega arith;
      like = record { timeout = refl; key = refl };
    }

pub returns-then-is_before : goal.returns-then-is_before
returns-then-is_before c =
    let s = c.args.self.now in
    let k = c.items.result.now in
    let at = c.plus-at.result in
    record {
      ended = ends_none s.timeout s.rows.key c.args.t s.rows.rows c.args.answer.now.items;
      awaits = λ p ends edge is h. again_put s.timeout s.rows.key s.rows.rows ends s.ends p k (ap (λ e. e.cells) edge ∙ sym c.items.ensures) is h c.put.new.self c.in-Some.last c.args.entry at edge c.plus-at.ensures c.in_ok-put.ensures.ok c.in-Some.ensures.some;
      fewer = fewer_put c.args.t at c.args.entry s.ends c.put.new.self c.in_ok-put.ensures.ok (sym c.is_before.ensures ∙ c.if-is_before.true);
      like = record { timeout = refl; key = refl };
    }

pub returns : goal.returns
returns c =
    let s = c.args.self.now in
    let k = c.items-2.result.now in
    let at = c.plus-at.ensures in
    let new = c.take-rows.new.self in
    let low = not_before c.args.t c.plus-at.result (sym c.is_before.ensures ∙ c.if-is_before.false) in
    let last = subst (λ l. IsLastStart c.in-Some.last (filter (is_of_key s.rows.key l) s.rows.rows)) (c.items.ensures ∙ sym c.items-2.ensures) c.in-Some.ensures.some in
    record {
      ended = ends_key s.timeout s.rows.key c.args.t k c.in-Some.last s.rows.rows new.rows c.take-rows.result.items c.args.answer.now.items c.tell_ends.new.answer.items (omega (arith, low, at)) last
          c.take-rows.ensures.taken c.take-rows.ensures.own
          (subst (λ l. Adds c.args.answer.now.items c.tell_ends.new.answer.items (map (told_at false c.args.t) l)) c.as_slice.ensures.value c.in_ok-tell_ends.ensures);
      awaits = λ p ends edge is h. closed s.timeout s.rows.key s.rows.rows ends s.ends p k (ap (λ e. e.cells) edge ∙ sym c.items-2.ensures) is h new.rows c.take-rows.result.items c.take-rows.ensures.taken c.take-rows.ensures.own;
      fewer = omega arith;
      like = record { timeout = refl; key = c.take-rows.ensures.key };
    }
