use Rattle.std.proofs.Common.{◌≡◌, ◌∙◌, ◌+◌, suc, sym, ap, subst, arith, drop, length, List}
use Rattle.std.proofs.lemmas.List.{drop-drop, length-drop}
use Rattle.tw_rows.specs.declared.edge.Edge.{Edge}
use Rattle.sweep_laws.specs.Sweeps.{Tells}
use Rattle.session_window.specs.Holding.{SessionHeld, SessionReached, IsNextTime}
use Rattle.session_window.specs.Windows.{windows}
use Rattle.sweep_sides.proofs.Cutting.{starts_before, starts_part}
use Rattle.session_window.proofs.Awaiting.{not_before, is_lower}
use Rattle.session_window.proofs.Likes.{like_stays, like_then, by_first, by_now, next_is, next_below}
use Rattle.session_window.proofs.Steps.{reach_start, reach_step, reach_end, never_before}
use Rattle.session_window.proofs.sessions.Sessions.sweep.Goals as goal

pub instants-init : goal.instants-init
instants-init c =
    let s = c.args.self.now in
    record {
      within = omega arith;
      rows = λ w. (omega arith);
      like = like_stays s;
      reached = λ a pos d h. reach_start s.rows.key s.timeout pos a c.args.from c.args.to c.args.due.now s.rows.rows s.ends c.args.answer.now.items d h;
    }

pub instants-preserved : goal.instants-preserved
instants-preserved c =
    let s = c.args.self.now in
    let now = c.instants.self in
    let after = c.pass.new.self in
    let k = c.instants.invariant in
    let i = c.instants.i in
    let u = c.instants.u in
    let n = c.first_instant-n.result in
    let due = c.args.due.now in
    let left = c.rest-left.result.now in
    let e : left ≡ drop i due = c.rest-left.ensures in
    let g = ap (λ (l : List Edge). length l) e ∙ length-drop i due in
    let within = c.first_instant-n.ensures.within in
    let hi = k.within in
    let t = c.next_time-t.result in
    let a0 = c.args.answer.now.items in
    let a1 = c.instants.answer.items in
    let a2 = c.pass.new.answer.items in
    let low = not_before t u (sym c.is_before.ensures ∙ c.if-is_before.false) in
    let high = is_lower t c.args.to (sym c.is_before-in-instants.ensures ∙ c.if-not-is_before.false) in
    record {
      within = omega (arith, g, within, hi);
      rows = λ w.
          let a = k.rows w in
          let b = c.in_ok-pass.ensures.rows w in
          let d = starts_before w due left i n e in
          omega (arith, a, b, d);
      like = like_then s now after k.like c.in_ok-pass.ensures.like;
      reached = λ a pos d h.
          let r = k.reached a pos d h in
          let r1 : SessionReached s.rows.key s.timeout a c.args.from u c.args.to left now.rows.rows now.ends a0 a1 =
          subst (λ (l : List Edge). SessionReached s.rows.key s.timeout a c.args.from u c.args.to l now.rows.rows now.ends a0 a1) (sym e) r in
          let z = reach_step s.rows.key s.timeout pos a c.args.from u t c.args.to n left now.rows.rows after.rows.rows now.ends after.ends a0 a1 a2 r1 c.next_time-t.ensures low high
          c.first_instant-n.ensures.same c.first_instant-n.ensures.next
          (λ up events is held.
          by_first (λ m l. SessionHeld l m a (suc t) after.rows.rows after.ends × Tells (windows l m a) t (suc t) a1 a2) s now k.like
          (c.in_ok-pass.ensures.swept a (let q = k.like.timeout in omega (arith, q, pos)) up events is (by_now (λ m l. SessionHeld l m a t now.rows.rows now.ends) s now k.like held))) in
          subst (λ m. SessionReached s.rows.key s.timeout a c.args.from m c.args.to (drop (i + n) due) after.rows.rows after.ends a0 a2) (sym (c.plus-u.ensures ∙ next_is t (next_below t c.args.to high c.word.ensures.within)))
          (subst (λ (l : List Edge). SessionReached s.rows.key s.timeout a c.args.from (suc t) c.args.to l after.rows.rows after.ends a0 a2) (ap (λ (l : List Edge). drop n l) e ∙ drop-drop n i due) z);
    }

pub instants-smaller : goal.instants-smaller
instants-smaller c =
    let t = c.next_time-t.result in
    let low = not_before t c.instants.u (sym c.is_before.ensures ∙ c.if-is_before.false) in
    let high = is_lower t c.args.to (sym c.is_before-in-instants.ensures ∙ c.if-not-is_before.false) in
    let p = c.plus-u.ensures in
    let q = c.word.ensures.within in
    omega (arith, low, high, p, q)

pub returns-then-is_before : goal.returns-then-is_before
returns-then-is_before c =
    let s = c.args.self.now in
    let k = c.instants.invariant in
    let due = c.args.due.now in
    let now = c.instants.self in
    let t = c.next_time-t.result in
    record {
      swept = λ a pos d h.
          absurd (never_before s.rows.key s.timeout pos a c.args.from c.instants.u t c.args.to (drop c.instants.i due) now.rows.rows now.ends c.args.answer.now.items c.instants.answer.items
          (k.reached a pos d h) (subst (λ (l : List Edge). IsNextTime t l now.ends) c.rest-left.ensures c.next_time-t.ensures) (is_lower t c.instants.u (sym c.is_before.ensures ∙ c.if-is_before.true)));
      rows = λ w. (let a = k.rows w in let b = starts_part w due c.instants.i in omega (arith, a, b));
      like = k.like;
    }

pub returns-then-not-is_before : goal.returns-then-not-is_before
returns-then-not-is_before c =
    let s = c.args.self.now in
    let k = c.instants.invariant in
    let due = c.args.due.now in
    let now = c.instants.self in
    let t = c.next_time-t.result in
    record {
      swept = λ a pos d h.
          reach_end s.rows.key s.timeout pos a c.args.from c.instants.u t c.args.to (drop c.instants.i due) now.rows.rows now.ends c.args.answer.now.items c.instants.answer.items
          (k.reached a pos d h) (subst (λ (l : List Edge). IsNextTime t l now.ends) c.rest-left.ensures c.next_time-t.ensures) (not_before t c.args.to (sym c.is_before-in-instants.ensures ∙ c.if-not-is_before.true));
      rows = λ w. (let a = k.rows w in let b = starts_part w due c.instants.i in omega (arith, a, b));
      like = k.like;
    }
