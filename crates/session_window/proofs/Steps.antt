-- A Session from instant to instant, and a whole step of it.
use Rattle.std.specs.Prelude.{◌≡◌, ℕ, suc, ◌+◌, ◌<◌, ◌≤◌, nat_le, Bool, true, false, cond, None, List, [], ◌∷◌, ◌++◌, take, drop, map, filter, refl}
use Rattle.std.proofs.Common.{inl, inr, sym, ◌∙◌, ap, subst, arith}
use Rattle.std.proofs.lemmas.Bool.Decides.{nat_tests}
use Rattle.tw_rows.specs.Instant.{inf}
use Rattle.tw_rows.specs.Bag.{SameBag, total}
use Rattle.tw_rows.specs.Event.{AreEvents, Known}
use Rattle.tw_rows.specs.SameCells.{same_cells}
use Rattle.tw_rows.specs.declared.cells.Datum.{Datum}
use Rattle.tw_rows.specs.declared.edge.Edge.{Edge}
use Rattle.tw_rows.specs.declared.edge.HeldRow.{HeldRow}
use Rattle.tw_rows.proofs.Bags.{SameBag-refl, SameBag-trans}
use Rattle.edge_history.specs.Order.{failing, is_real, is_from, is_below, IsHistory}
use Rattle.edge_history.specs.History.{CellEvent, of}
use Rattle.edge_history.specs.Balance.{news}
use Rattle.edge_history.specs.Opens.{opens, singles, is_start}
use Rattle.edge_history.proofs.Sums.{failing-parts, weaker}
use Rattle.edge_history.proofs.Telling.{news_none}
use Rattle.edge_history.proofs.Retaining.{events_of_are, same_below, valid_from, AreEvents-from, AreEvents-none_fails}
use Rattle.edge_history.proofs.Waiting.{starts_rest, starts_due}
use Rattle.key_nodes.specs.Sessions.{key_starts}
use Rattle.key_nodes.proofs.Sessioning.{sessions_known}
use Rattle.end_queue.specs.Pending.{Pending}
use Rattle.synopsis.specs.Held.{key_of}
use Rattle.sweep_laws.specs.Sweeps.{is_at, IsPast, HeadFrom, SyncsRise, IsDue, Tells}
use Rattle.sweep_laws.specs.Sessioning.{IsLast}
use Rattle.sweep_laws.specs.Unending.{unending}
use Rattle.sweep_laws.proofs.KeptKnown.{sessions_kept}
use Rattle.sweep_laws.proofs.Sides.{side_now, side_none, side_rest, starts_between, tells_parts, tells_still, told_step}
use Rattle.sweep_laws.proofs.Unending.{starts_are_news, unending_valid, sessions_unending}
use Rattle.session_window.specs.Kept.{waits_from}
use Rattle.session_window.specs.Windows.{windows}
use Rattle.session_window.specs.Holding.{SessionHeld, BeginsAt, IsNextTime, SessionReached, SessionKeeps}
use Rattle.session_window.proofs.Instants.{held_between}

waits_at : (t : ℕ) (p : Pending) → waits_from t p ≡ true → t ≤ p.at
waits_at t p h = grind (arith, nat_tests)

begins_from : (u t : ℕ) (ends : List Pending) → failing (waits_from u) ends ≡ 0 → BeginsAt t ends → u ≤ t
begins_from u t [] h s = absurd s
begins_from u t (p ∷ ps) h s = at (nat_le u p.at) refl h
  where
    at : (b : Bool) → nat_le u p.at ≡ b → cond b 0 1 + failing (waits_from u) ps ≡ 0 → u ≤ t
    at true e z = let l = waits_at u p e in omega (arith, l, s)
    at false e z = absurd (omega (arith, z))

module _ (columns : List ℕ) (timeout : ℕ) (pos : 1 ≤ timeout) where
  pub reach_start : (a : List CellEvent) (from to : ℕ) (due : List Edge) (rows : List HeldRow) (ends : List Pending) (answer : List Edge) → IsDue a from to due →
      SessionHeld columns timeout a from rows ends → SessionReached columns timeout a from from to due rows ends answer answer
  reach_start a from to due rows ends answer d h = record {
    low = omega arith;
    due = d;
    now = h;
    told = record { weigh = λ w. let z = ap (total w) (news_none from (windows columns timeout a)) in omega (arith, z); order = λ up. up };
  }

  pub reach_step : (a : List CellEvent) (from u t to n : ℕ) (rest : List Edge) (rows rows2 : List HeldRow) (ends ends2 : List Pending) (answer0 answer1 answer2 : List Edge) →
      SessionReached columns timeout a from u to rest rows ends answer0 answer1 → IsNextTime t rest ends → u ≤ t → t < to →
      failing (is_at t) (take n rest) ≡ 0 → IsPast t (drop n rest) →
      (t + 1 ≤ inf → AreEvents a → SameBag (take n rest) (news t (suc t) a) → SessionHeld columns timeout a t rows ends →
      SessionHeld columns timeout a (suc t) rows2 ends2 × Tells (windows columns timeout a) t (suc t) answer1 answer2) →
      SessionReached columns timeout a from (suc t) to (drop n rest) rows2 ends2 answer0 answer2
  reach_step a from u t to n rest rows rows2 ends ends2 answer0 answer1 answer2 r next low high at past step =
      let l = r.low in
      let i = r.due.high in
      let w = held_between columns timeout u t a rows ends pos low (omega (arith, high, i)) r.due.lives (side_none a u t to n rest r.due low high next.of_edges at past) next.of_ends r.now in
      let s = step (omega (arith, high, i)) r.due.lives (side_now a u t to n rest r.due low high next.of_edges at past) w.0 in
      record {
        low = omega (arith, l, low);
        due = side_rest a u t to n rest r.due low high next.of_edges at past;
        now = s.0;
        told = tells_parts (windows columns timeout a) from t (suc t) answer0 answer1 answer2 (omega (arith, l, low)) (omega arith)
            (tells_parts (windows columns timeout a) from u t answer0 answer1 answer1 l low r.told (tells_still (windows columns timeout a) u t answer1 low w.1)) s.1;
      }

  -- the next time is not before what was reached
  next_from : (a : List CellEvent) (from u t to : ℕ) (rest : List Edge) (rows : List HeldRow) (ends : List Pending) (answer0 answer1 : List Edge) →
      SessionReached columns timeout a from u to rest rows ends answer0 answer1 → IsNextTime t rest ends → u ≤ t
  next_from a from u t to rest rows ends answer0 answer1 r next = elim next.found [
    | inl e ↦ (let x = r.due.low in let y = r.due.high in omega (arith, e, x, y))
    | inr f ↦ elim f [
      | inl s ↦ (starts_between a u t to rest r.due s).0
      | inr s ↦ begins_from u t ends r.now.later s
    ]
  ]

  none_left : (a : List CellEvent) (u t to : ℕ) (rest : List Edge) → IsDue a u to rest → HeadFrom t rest → to ≤ t → (w : Edge → ℕ) → total w (news u to a) ≡ 0
  none_left a u t to [] d h low = λ w. sym (d.news_of.weigh w)
  none_left a u t to (x ∷ xs) d h low = absurd (let s = (starts_between a u x.sync to (x ∷ xs) d refl).1 in omega (arith, s, h, low))

  pub reach_end : (a : List CellEvent) (from u t to : ℕ) (rest : List Edge) (rows : List HeldRow) (ends : List Pending) (answer0 answer1 : List Edge) →
      SessionReached columns timeout a from u to rest rows ends answer0 answer1 → IsNextTime t rest ends → to ≤ t →
      SessionHeld columns timeout a to rows ends × Tells (windows columns timeout a) from to answer0 answer1
  reach_end a from u t to rest rows ends answer0 answer1 r next high =
      let from_end = weaker (waits_from t) (waits_from to) ends (λ p h. earlier p h) next.of_ends in
      let w = held_between columns timeout u to a rows ends pos r.due.low r.due.high r.due.lives (none_left a u t to rest r.due next.of_edges high) from_end r.now in
      (w.0, tells_parts (windows columns timeout a) from u to answer0 answer1 answer1 r.low r.due.low r.told (tells_still (windows columns timeout a) u to answer1 r.due.low w.1))
    where
      earlier : (p : Pending) → waits_from t p ≡ true → waits_from to p ≡ true
      earlier p h = grind (arith, nat_tests)

  -- a next time before what was reached there is not
  pub never_before : (a : List CellEvent) (from u t to : ℕ) (rest : List Edge) (rows : List HeldRow) (ends : List Pending) (answer0 answer1 : List Edge) →
      SessionReached columns timeout a from u to rest rows ends answer0 answer1 → IsNextTime t rest ends → t < u → ⊥
  never_before a from u t to rest rows ends answer0 answer1 r next low =
      let x = next_from a from u t to rest rows ends answer0 answer1 r next in
      absurd (omega (arith, x, low))

  -- EVENTS AS IF THEY NEVER ENDED
  starts_same : (k : List Datum) (es : List CellEvent) → key_starts (key_of columns) same_cells (map unending es) k ≡ key_starts (key_of columns) same_cells es k
  starts_same k [] = refl
  starts_same k (e ∷ es) = pick (same_cells k (key_of columns e.row)) (starts_same k es)
    where
      pick : (b : Bool) → key_starts (key_of columns) same_cells (map unending es) k ≡ key_starts (key_of columns) same_cells es k →
          map (λ (x : CellEvent). x.start) (cond b (unending e ∷ filter (λ x. same_cells k (key_of columns x.row)) (map unending es)) (filter (λ x. same_cells k (key_of columns x.row)) (map unending es)))
          ≡ map (λ (x : CellEvent). x.start) (cond b (e ∷ filter (λ x. same_cells k (key_of columns x.row)) es) (filter (λ x. same_cells k (key_of columns x.row)) es))
      pick true h = ap (λ l. e.start ∷ l) h
      pick false h = h

  held_over : (a b : List CellEvent) (t : ℕ) (rows : List HeldRow) (ends : List Pending) → windows columns timeout a ≡ windows columns timeout b →
      ((k : List Datum) → key_starts (key_of columns) same_cells a k ≡ key_starts (key_of columns) same_cells b k) →
      SessionHeld columns timeout a t rows ends → SessionHeld columns timeout b t rows ends
  held_over a b t rows ends same starts h = record {
    last = h.last;
    now = record {
      open_rows = subst (λ (l : List CellEvent). SameBag rows (opens t l)) same h.now.open_rows;
      lasts = λ k s l. (subst (λ (l : List ℕ). IsLast l t s) (starts k) (h.now.lasts k s l).0, (h.now.lasts k s l).1);
      all = h.now.all;
    };
    lasts = h.lasts;
    awaits = h.awaits;
    later = h.later;
  }

  module _ (to to2 : ℕ) (hl nl : List Edge) (p p1 p2 due : List Edge) (low : to ≤ to2) (high : to2 ≤ inf) (whole : IsHistory (hl ++ nl)) (from : failing (is_from to) nl ≡ 0)
      (put : (w : Edge → ℕ) → total w p1 ≡ total w p + total w (filter is_start (singles nl))) (parts : (w : Edge → ℕ) → total w due + total w p2 ≡ total w p1)
      (below : failing (is_below to2) due ≡ 0) (rest : failing (is_from to2) p2 ≡ 0) (up : SyncsRise 0 due) where
    both : (w : Edge → ℕ) → total w due + total w p2 ≡ total w p + total w (filter is_start (singles nl))
    both w = parts w ∙ put w

    lives : (h : List Edge) → IsHistory h → AreEvents (of h)
    lives h k = AreEvents-from (of h) (valid_from h (of h) k.real (events_of_are h k))

    known : IsHistory hl → Known to (of hl) (of (hl ++ nl))
    known k = record {
      low = omega (arith, low, high);
      left_valid = lives hl k;
      right_valid = lives (hl ++ nl) whole;
      same = same_below to hl nl (of hl) (of (hl ++ nl)) (omega (arith, low, high)) (failing-parts is_real hl nl whole.real).1 from (events_of_are hl k) (events_of_are (hl ++ nl) whole);
    }

    is_due : SameBag p (filter is_start (filter (is_from to) (singles hl))) → IsDue (map unending (of (hl ++ nl))) to to2 due
    is_due waits = record {
      low = low;
      high = high;
      lives = unending_valid (of (hl ++ nl)) (lives (hl ++ nl) whole);
      news_of = SameBag-trans _ _ _ (starts_due hl nl p due p2 to to2 low high whole from waits both below rest)
          (starts_are_news to to2 (of (hl ++ nl)) high (AreEvents-none_fails (of (hl ++ nl)) (lives (hl ++ nl) whole)));
      order = up;
    }

    now_then : (rows : List HeldRow) (ends : List Pending) (out : List Edge) → SessionKeeps columns timeout rows ends p to hl out → SessionHeld columns timeout (map unending (of (hl ++ nl))) to rows ends
    now_then rows ends out k =
        held_over (of (hl ++ nl)) (map unending (of (hl ++ nl))) to rows ends (sym (sessions_unending (key_of columns) same_cells timeout (of (hl ++ nl)))) (λ q. sym (starts_same q (of (hl ++ nl))))
        (record {
          last = k.now.last;
          now = sessions_kept (key_of columns) same_cells timeout to (of hl) (of (hl ++ nl)) rows k.now.last pos (known k.history) k.now.now;
          lasts = k.now.lasts;
          awaits = k.now.awaits;
          later = k.now.later;
        })

    pub session_step : (rows rows2 : List HeldRow) (ends ends2 : List Pending) (out answer0 answer : List Edge) → SessionKeeps columns timeout rows ends p to hl out → answer0 ≡ [] →
        (IsDue (map unending (of (hl ++ nl))) to to2 due → SessionHeld columns timeout (map unending (of (hl ++ nl))) to rows ends →
        SessionHeld columns timeout (map unending (of (hl ++ nl))) to2 rows2 ends2 × Tells (windows columns timeout (map unending (of (hl ++ nl)))) to to2 answer0 answer) →
        SessionKeeps columns timeout rows2 ends2 p2 to2 (hl ++ nl) (out ++ answer) × SameBag answer (news to to2 (windows columns timeout (of (hl ++ nl))))
    session_step rows rows2 ends ends2 out answer0 answer k empty swept =
        let s = swept (is_due k.waits) (now_then rows ends out k) in
        let n = sessions_known (key_of columns) same_cells timeout pos to (of hl) (of (hl ++ nl)) (known k.history) in
        let t : Tells (windows columns timeout (of (hl ++ nl))) to to2 answer0 answer =
        subst (λ (l : List CellEvent). Tells l to to2 answer0 answer) (sessions_unending (key_of columns) same_cells timeout (of (hl ++ nl))) s.1 in (
          record {
            history = whole;
            waits = starts_rest hl nl p due p2 to to2 low high whole from k.waits both below rest;
            now = held_over (map unending (of (hl ++ nl))) (of (hl ++ nl)) to2 rows2 ends2 (sessions_unending (key_of columns) same_cells timeout (of (hl ++ nl))) (λ q. starts_same q (of (hl ++ nl))) s.0;
            told = told_step to to2 out answer0 answer (windows columns timeout (of hl)) (windows columns timeout (of (hl ++ nl))) low high
                (AreEvents-none_fails (windows columns timeout (of (hl ++ nl))) n.right_valid) n.same k.told empty t;
          },
          record { weigh = λ w. (let x = t.weigh w in let z = ap (total w) empty in omega (arith, x, z)) },
        )

  -- of no edges nothing is kept
  pub kept_none : SessionKeeps columns timeout [] [] [] 0 [] []
  kept_none = record {
    history = record { order = tt; real = refl; paired = λ cells start. (omega arith) };
    waits = SameBag-refl [];
    now = record {
      last = λ k. None;
      now = record { open_rows = SameBag-refl []; lasts = λ k s l. absurd (cc); all = λ k l. refl };
      lasts = λ k s l. absurd (cc);
      awaits = record { one = λ k. refl; in_time = λ k n some. absurd (omega (arith, some)) };
      later = refl;
    };
    told = record { order = tt; settled = refl; stands = SameBag-refl [] };
  }
