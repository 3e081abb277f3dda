-- What was swept stays right where more edges come, and what is rendered.
use Rattle.std.specs.Prelude.{◌≡◌, ℕ, zero, suc, ◌+◌, ◌-◌, ◌<◌, ◌≤◌, ◌&&◌, ◌||◌, nat_eq, Bool, true, false, cond, None, List, [], ◌∷◌, ◌++◌, length, drop, refl}
use Rattle.std.proofs.Common.{sym, ◌∙◌, ap, subst, arith}
use Rattle.std.proofs.lemmas.Bool.Decides.{nat_tests}
use Rattle.std.proofs.lemmas.List.Concat.{flat_map-append}
use Rattle.std.proofs.lemmas.List.Elements.{filter-append}
use Rattle.tw_rows.specs.Instant.{inf}
use Rattle.tw_rows.specs.Bag.{SameBag, total}
use Rattle.tw_rows.specs.Event.{Event, alive}
use Rattle.tw_rows.specs.Texts.{BeginsWith}
use Rattle.tw_rows.specs.Rows.{Row}
use Rattle.tw_rows.specs.Cells.{read_cells}
use Rattle.tw_rows.specs.declared.cells.Datum.{Datum}
use Rattle.tw_rows.specs.declared.edge.Edge.{Edge}
use Rattle.tw_rows.specs.declared.kind.Kind.{Kind}
use Rattle.tw_rows.proofs.Bags.{total-append, total-map, total-filter, total_same}
use Rattle.tw_rows.proofs.Lives.{alive_known}
use Rattle.edge_history.specs.Order.{failing, is_real, is_end, is_from, is_below, IsHistory}
use Rattle.edge_history.specs.History.{CellEvent, of}
use Rattle.edge_history.specs.Balance.{news, given, start_edge, end_edge}
use Rattle.edge_history.specs.Opens.{singles_of, singles, bare, ended_of, started_of, ended_rows, started_rows}
use Rattle.edge_history.proofs.Sums.{failing-parts, failing-append, failing-filter}
use Rattle.edge_history.proofs.Retaining.{events_of_are, same_below}
use Rattle.edge_history.proofs.Opening.{singles_are_news}
use Rattle.edge_history.proofs.Waiting.{news_between}
use Rattle.plan_laws.specs.Places.{read_events, EdgesArePlaced}
use Rattle.plan_laws.specs.Standing.{StandsRead}
use Rattle.plan_laws.proofs.Maps.{alive_to}
use Rattle.plan_laws.proofs.Standing.{placed_of, read_longer, rows_standing}
use Rattle.plan_model.specs.Opens.{how_often, before, starts_before, ends_before, open_before}
use Rattle.plan_model.specs.Changes.{changes}
use Rattle.plan_model.specs.ChangeWords.{start_times}
use Rattle.plan_model.proofs.Counting.{counts, starts_below}
use Rattle.plan_model.proofs.Steady.{often_same, changes_same}
use Rattle.synopsis.specs.Kept.{since_at}
use Rattle.egress.specs.Kept.{are_placed, since_in}
use Rattle.egress.specs.Print.{print}
use Rattle.egress.specs.Reached.{Reached}
use Rattle.egress.specs.Waiting.{Waiting, edges_if, edges_at, ArePut, ArePopped, SameMoves, Swept}
use Rattle.egress.specs.Output.{Holds}
use Rattle.egress.specs.declared.egress.Egress.{Egress}
use Rattle.egress.proofs.Moving.{weigh_ended, weigh_started}
use Rattle.egress.proofs.Reading.{placed_all, since_longer}
use Rattle.egress.proofs.Reaching.{reached_first}

-- what is open depends on the rows before, as multisets
module _ (f g : ℕ → List Row) (c : ℕ) (h : (u : ℕ) → u < c → SameBag (f u) (g u)) where
  before_often : (r : Row) (t : ℕ) → t ≤ c → how_often r (before f t) ≡ how_often r (before g t)
  before_often r zero low = refl
  before_often r (suc t) low = often_same r (f t) (g t) (h t (omega (arith, low)))

  open_same : (r : Row) → open_before f r c ≡ open_before g r c
  open_same r =
      let s : starts_before f r c ≡ starts_before g r c = sym (starts_below f r c) ∙ ap (start_times r) (changes_same f g c h 0 c (omega arith)) ∙ starts_below g r c in
      let x = counts f r c in
      let y = counts g r c in
      let z = ap length s in
      let b = before_often r c (omega arith) in
      let e : ends_before f r c ≡ ends_before g r c = omega (arith, x, y, z, b) in
      ap (λ n. drop n (starts_before f r c)) e ∙ ap (drop (ends_before g r c)) s

  pub reached_same : (kinds : List Kind) (a : ℕ) (since : Row → List ℕ) (text : List ℕ) → Reached f kinds a c since text → Reached g kinds a c since text
  reached_same kinds a since text r = record {
    low = r.low;
    shown = r.shown ∙ ap (print kinds) (changes_same f g c h a (c - a) (let z = r.low in omega (arith, z)));
    opened = λ q. r.opened q ∙ open_same q;
  }

both_tests : (v : ℕ) (w : Edge → ℕ) (x : Edge) → cond (nat_eq x.sync v) (w x) 0 ≡ cond (is_from v x && is_below (suc v) x) (w x) 0
both_tests v w x = grind (arith, nat_tests)

none_of : (c v : ℕ) (e : Edge) → v < c → is_from c e ≡ true → edges_at v (singles_of e) ≡ []
none_of c v e low from = grind (arith, nat_tests)

none_at : (c v : ℕ) (es : List Edge) → v < c → failing (is_from c) es ≡ 0 → edges_at v (singles es) ≡ []
none_at c v [] low from = refl
none_at c v (e ∷ es) low from =
    filter-append (λ x. nat_eq x.sync v) (singles_of e) (singles es)
    ∙ ap (λ l. l ++ edges_at v (singles es)) (none_of c v e low (first (is_from c e) from))
    ∙ none_at c v es low (let z = from in omega (arith, z))
  where
    first : (b : Bool) → cond b 0 1 + failing (is_from c) es ≡ 0 → b ≡ true
    first true f = refl
    first false f = absurd (omega (arith, f))

module _ (texts : List (List ℕ)) (kinds : List Kind) (h new : List Edge) (a c : ℕ) (high : c ≤ inf) (past : IsHistory h) (whole : IsHistory (h ++ new)) (from : failing (is_from c) new ≡ 0) where
  rows_same : (u : ℕ) → u < c → SameBag (alive (read_events texts (of h)) u) (alive (read_events texts (of (h ++ new))) u)
  rows_same u low =
      let known = same_below c h new (of h) (of (h ++ new)) high (failing-parts is_real h new whole.real).1 from (events_of_are h past) (events_of_are (h ++ new) whole) in
      record {
        weigh = λ w.
            ap (total w) (alive_to (read_cells texts) (of h) u) ∙ total-map w (read_cells texts) (alive (of h) u)
            ∙ (alive_known c u (of h) (of (h ++ new)) low high known).weigh (λ x. w (read_cells texts x))
            ∙ sym (ap (total w) (alive_to (read_cells texts) (of (h ++ new)) u) ∙ total-map w (read_cells texts) (alive (of (h ++ new)) u));
      }

  news_grow : (w : Edge → ℕ) (v : ℕ) → v < inf → total w (news v (suc v) (of (h ++ new))) ≡ total w (news v (suc v) (of h)) + total w (edges_at v (singles new))
  news_grow w v below =
      let f : Edge → ℕ = λ x. cond (is_from v x && is_below (suc v) x) (w x) 0 in
      let p = news_between w v (suc v) (of h) (omega (arith, below)) in
      let q = news_between w v (suc v) (of (h ++ new)) (omega (arith, below)) in
      let x = (singles_are_news h (of h) past.real (events_of_are h past)).weigh f in
      let y = (singles_are_news (h ++ new) (of (h ++ new)) whole.real (events_of_are (h ++ new) whole)).weigh f in
      let z = ap (total f) (flat_map-append singles_of h new) ∙ total-append f (singles h) (singles new) in
      let s = total-filter w (λ e. nat_eq e.sync v) (singles new) ∙ total_same _ _ (singles new) (λ e. both_tests v w e) in
      omega (arith, p, q, x, y, z, s)

  -- more edges, put to those that wait
  pub swept_more : (since : Row → List ℕ) (waiting waiting2 : Waiting) (text : List ℕ) → ArePut waiting waiting2 (singles new) →
      Swept texts kinds (of h) a c since waiting text → Swept texts kinds (of (h ++ new)) a c since waiting2 text
  swept_more since waiting waiting2 text put s = record {
    waits = λ v low below. record {
      ended = record {
        weigh = λ w.
            let W : Edge → ℕ = λ x. total w (bare (ended_of x)) in
            let a = ap (λ l. total w (bare (ended_rows l))) (put.edges v) ∙ weigh_ended w (edges_if (waiting v) ++ edges_at v (singles new)) ∙ total-append W (edges_if (waiting v)) (edges_at v (singles new)) in
            let b = weigh_ended w (edges_if (waiting v)) in
            let d = (s.waits v low below).ended.weigh w in
            let e = weigh_ended w (news v (suc v) (of h)) in
            let g = news_grow W v below in
            let k = weigh_ended w (news v (suc v) (of (h ++ new))) in
            omega (arith, a, b, d, e, g, k);
      };
      started = record {
        weigh = λ w.
            let W : Edge → ℕ = λ x. total w (bare (started_of x)) in
            let a = ap (λ l. total w (bare (started_rows l))) (put.edges v) ∙ weigh_started w (edges_if (waiting v) ++ edges_at v (singles new)) ∙ total-append W (edges_if (waiting v)) (edges_at v (singles new)) in
            let b = weigh_started w (edges_if (waiting v)) in
            let d = (s.waits v low below).started.weigh w in
            let e = weigh_started w (news v (suc v) (of h)) in
            let g = news_grow W v below in
            let k = weigh_started w (news v (suc v) (of (h ++ new))) in
            omega (arith, a, b, d, e, g, k);
      };
    };
    none = λ v low. put.none v (s.none v low) (none_at c v new low from);
    reached = reached_same (alive (read_events texts (of h))) (alive (read_events texts (of (h ++ new)))) c rows_same kinds a since text s.reached;
  }

-- the text of what stands for events
pub rendered : (texts : List (List ℕ)) (h : List Edge) (a c : ℕ) (o : Egress) (events : List (Event Row)) → Holds texts h a c o → StandsRead texts c h events →
    o.rows.lines.items ≡ print o.rows.kinds.items (changes (alive events) a (c - a))
rendered texts h a c o events s stands =
    s.swept.reached.shown
    ∙ ap (print o.rows.kinds.items) (changes_same (alive (read_events texts (of h))) (alive events) c (λ u low. rows_standing texts c u h events low stands) a (c - a)
    (let z = s.swept.reached.low in omega (arith, z)))

-- once the text is gone
pub swept_anew : (texts : List (List ℕ)) (kinds : List Kind) (events : List CellEvent) (a c : ℕ) (since : Row → List ℕ) (waiting : Waiting) (text : List ℕ) →
    Swept texts kinds events a c since waiting text → Swept texts kinds events c c since waiting []
swept_anew texts kinds events a c since waiting text s = record {
  waits = s.waits;
  none = s.none;
  reached = reached_first (alive (read_events texts events)) kinds c since s.reached.opened;
}

-- before the first edge
pub swept_none : (texts : List (List ℕ)) (kinds : List Kind) (since : Row → List ℕ) (waiting : Waiting) (text : List ℕ) →
    ((r : Row) → since r ≡ []) → ((t : ℕ) → waiting t ≡ None) → text ≡ [] → Swept texts kinds (of []) 0 0 since waiting text
swept_none texts kinds since waiting text closed none empty = record {
  waits = λ v low below. subst (λ o. SameMoves (edges_if o) (news v (suc v) (of []))) (sym (none v)) (record { ended = record { weigh = λ w. refl }; started = record { weigh = λ w. refl } });
  none = λ v low. none v;
  reached = subst (λ l. Reached (alive (read_events texts (of []))) kinds 0 0 since l) (sym empty) (reached_first (alive (read_events texts (of []))) kinds 0 since closed);
}

-- through a longer table the same is read
pub holds_longer : (new old : List (List ℕ)) → BeginsWith new old → (h : List Edge) (a c : ℕ) (o : Egress) → EdgesArePlaced old h → Holds old h a c o → Holds new h a c o
holds_longer new old begins h a c o placed s = record {
  high = s.high;
  history = s.history;
  swept = record {
    waits = s.swept.waits;
    none = s.swept.none;
    reached =
        let was : Reached (alive (read_events new (of h))) o.rows.kinds.items a c (since_in old o.rows.starts) o.rows.lines.items =
        subst (λ es. Reached (alive es) o.rows.kinds.items a c (since_in old o.rows.starts) o.rows.lines.items) (sym (read_longer new old begins (of h) (placed_of old h placed))) s.swept.reached in
        record {
          low = was.low;
          shown = was.shown;
          opened = λ r. since_longer new old begins (since_at o.rows.starts) (s.cells (are_placed old) (placed_all old h placed)).opens r ∙ was.opened r;
        };
  };
  cells = s.cells;
  kept = s.kept;
}

-- tests that the cells of edges pass are passed by those of what waits
single_passes : (p : List Datum → Bool) (e : Edge) → p e.cells ≡ true → failing (λ x. p x.cells) (singles_of e) ≡ 0
single_passes p e h = pick (is_end e || nat_eq e.other inf)
  where
    pick : (b : Bool) → failing (λ x. p x.cells) (cond b (e ∷ []) (start_edge (given e) ∷ end_edge (given e) ∷ [])) ≡ 0
    pick true = let z : cond {A = ℕ} (p e.cells) 0 1 ≡ 0 = ap (λ b. cond {A = ℕ} b 0 1) h in omega (arith, z)
    pick false = let z : cond {A = ℕ} (p e.cells) 0 1 ≡ 0 = ap (λ b. cond {A = ℕ} b 0 1) h in omega (arith, z)

pub first_passes : (b : Bool) (n : ℕ) → cond {A = ℕ} b 0 1 + n ≡ 0 → (b ≡ true) × (n ≡ 0)
first_passes true n h = (refl, omega (arith, h))
first_passes false n h = absurd (omega (arith, h))

singles_pass : (p : List Datum → Bool) (es : List Edge) → failing (λ x. p x.cells) es ≡ 0 → failing (λ x. p x.cells) (singles es) ≡ 0
singles_pass p [] h = refl
singles_pass p (e ∷ es) h =
    let parts = first_passes (p e.cells) (failing (λ x. p x.cells) es) h in
    failing-append (λ x. p x.cells) (singles_of e) (singles es) (single_passes p e parts.0) (singles_pass p es parts.1)

pub put_passes : (p : List Datum → Bool) (old new : Waiting) (es : List Edge) → ArePut old new (singles es) → ((t : ℕ) → failing (λ x. p x.cells) (edges_if (old t)) ≡ 0) →
    failing (λ x. p x.cells) es ≡ 0 → (t : ℕ) → failing (λ x. p x.cells) (edges_if (new t)) ≡ 0
put_passes p old new es put was h t =
    ap (failing (λ x. p x.cells)) (put.edges t)
    ∙ failing-append (λ x. p x.cells) (edges_if (old t)) (edges_at t (singles es)) (was t) (failing-filter (λ x. nat_eq x.sync t) (λ x. p x.cells) (singles es) (singles_pass p es h))

module _ (p : List Datum → Bool) (old new : Waiting) (at : ℕ) (es : List Edge) (popped : ArePopped old new at es) (was : (t : ℕ) → failing (λ x. p x.cells) (edges_if (old t)) ≡ 0) where
  pub popped_passes : failing (λ x. p x.cells) es ≡ 0
  popped_passes = ap (λ o. failing (λ x. p x.cells) (edges_if o)) (sym popped.there) ∙ was at

  pub rest_passes : (t : ℕ) → failing (λ x. p x.cells) (edges_if (new t)) ≡ 0
  rest_passes t = ap (λ o. failing (λ x. p x.cells) (edges_if o)) (popped.left t) ∙ pick (nat_eq at t)
    where
      pick : (b : Bool) → failing (λ x. p x.cells) (edges_if (cond b None (old t))) ≡ 0
      pick true = refl
      pick false = was t

pub one_from : (c : ℕ) (e : Edge) → c ≤ e.sync → failing (is_from c) (e ∷ []) ≡ 0
one_from c e low = grind (arith, nat_tests)
