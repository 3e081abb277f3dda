-- A sweep over what waits, from instant to instant.
use Rattle.std.specs.Prelude.{◌≡◌, ℕ, zero, suc, ◌<◌, ◌≤◌, nat_eq, nat_lt, Bool, true, false, cond, Some, None, List, [], ◌++◌, refl}
use Rattle.std.proofs.Common.{sym, ◌∙◌, ap, subst, arith}
use Rattle.std.proofs.lemmas.Bool.{ltb-true, ltb-false, eqb-false, ne_eqb}
use Rattle.tw_rows.specs.Instant.{inf}
use Rattle.tw_rows.specs.Bag.{SameBag, total}
use Rattle.tw_rows.specs.Event.{AreEvents, alive}
use Rattle.tw_rows.specs.Rows.{Row}
use Rattle.tw_rows.specs.Cells.{read_cells}
use Rattle.tw_rows.specs.declared.edge.Edge.{Edge}
use Rattle.tw_rows.specs.declared.kind.Kind.{Kind}
use Rattle.tw_rows.proofs.Bags.{total-map}
use Rattle.edge_history.specs.History.{CellEvent}
use Rattle.edge_history.specs.Balance.{news}
use Rattle.edge_history.specs.Opens.{opens, ended_rows, started_rows}
use Rattle.edge_history.proofs.Retaining.{AreEvents-none_fails}
use Rattle.edge_history.proofs.Opening.{alive_is_open, opens_step}
use Rattle.plan_laws.specs.Places.{read_events}
use Rattle.plan_laws.proofs.Maps.{alive_to}
use Rattle.plan_model.specs.Opens.{before}
use Rattle.plan_model.specs.Changes.{changes_at}
use Rattle.egress.specs.Instants.{AreOpen}
use Rattle.egress.specs.Print.{print}
use Rattle.egress.specs.Waiting.{Waiting, edges_if, ArePopped, SameMoves, Swept}
use Rattle.egress.proofs.Moving.{none_open}
use Rattle.egress.proofs.Reaching.{reached_next, reached_later}

module _ (texts : List (List ℕ)) (events : List CellEvent) where
  abbrev pub rows : ℕ → List Row
  rows = alive (read_events texts events)

  weigh_alive : (w : Row → ℕ) (t : ℕ) → total w (rows t) ≡ total (λ h. w (read_cells texts h.cells)) (opens (suc t) events)
  weigh_alive w t =
      ap (total w) (alive_to (read_cells texts) events t)
      ∙ total-map w (read_cells texts) (alive events t)
      ∙ (alive_is_open t events).weigh (λ c. w (read_cells texts c))
      ∙ total-map (λ c. w (read_cells texts c)) (λ h. h.cells) (opens (suc t) events)

  weigh_before : (w : Row → ℕ) (t : ℕ) → total w (before rows t) ≡ total (λ h. w (read_cells texts h.cells)) (opens t events)
  weigh_before w zero = sym (none_open texts events (λ h. w (read_cells texts h.cells)) events)
  weigh_before w (suc t) = weigh_alive w t

  -- the rows stay at an instant without news
  pub quiet_rows : AreEvents events → (t : ℕ) → SameMoves [] (news t (suc t) events) → SameBag (before rows t) (rows t)
  quiet_rows valid t none = record {
    weigh = λ w.
        let a = weigh_before w t in
        let b = weigh_alive w t in
        let s = opens_step (λ h. w (read_cells texts h.cells)) t (suc t) events (omega arith) (AreEvents-none_fails events valid) in
        let e : 0 ≡ total (λ h. w (read_cells texts h.cells)) (ended_rows (news t (suc t) events)) =
        none.ended.weigh (λ c. w (read_cells texts c)) ∙ total-map (λ c. w (read_cells texts c)) (λ h. h.cells) (ended_rows (news t (suc t) events)) in
        let f : 0 ≡ total (λ h. w (read_cells texts h.cells)) (started_rows (news t (suc t) events)) =
        none.started.weigh (λ c. w (read_cells texts c)) ∙ total-map (λ c. w (read_cells texts c)) (λ h. h.cells) (started_rows (news t (suc t) events)) in
        omega (arith, a, b, s, e, f);
  }

  module _ (kinds : List Kind) (valid : AreEvents events) (a : ℕ) where
    -- a sweep goes on over instants for which no edge waits
    pub swept_later : (t u : ℕ) (since : Row → List ℕ) (waiting : Waiting) (text : List ℕ) → t ≤ u → u ≤ inf →
        ((v : ℕ) → v < u → waiting v ≡ None) → Swept texts kinds events a t since waiting text → Swept texts kinds events a u since waiting text
    swept_later t u since waiting text low high empty s = record {
      waits = λ v from below. s.waits v (omega (arith, low, from)) below;
      none = empty;
      reached = reached_later rows kinds a t u since text low
          (λ v from below. quiet_rows valid v (subst (λ o. SameMoves (edges_if o) (news v (suc v) events)) (empty v below) (s.waits v from (omega (arith, below, high)))))
          s.reached;
    }

    past : (t v : ℕ) (waiting : Waiting) (now : List Edge) → waiting v ≡ Some now → ((u : ℕ) → u < t → waiting u ≡ None) → t ≤ v
    past t v waiting now there none = pick (nat_lt v t) refl
      where
        pick : (b : Bool) → nat_lt v t ≡ b → t ≤ v
        pick true e = absurd (let z = sym there ∙ none v (ltb-true v t e) in cc)
        pick false e = ltb-false v t e

    module _ (t v to : ℕ) (since : Row → List ℕ) (waiting waiting2 : Waiting) (text : List ℕ) (now : List Edge) (popped : ArePopped waiting waiting2 v now)
        (below : v < to) (high : to ≤ inf) (s : Swept texts kinds events a t since waiting text) where
      -- the sweep comes to the instant whose edges are taken out
      pub swept_to : Swept texts kinds events a v since waiting text
      swept_to = swept_later t v since waiting text (past t v waiting now popped.there s.none) (omega (arith, below, high)) popped.first s

      pub now_are : SameMoves now (news v (suc v) events)
      now_are = subst (λ o. SameMoves (edges_if o) (news v (suc v) events)) popped.there (swept_to.waits v (omega arith) (omega (arith, below, high)))

      -- and goes on past it
      pub swept_next : (since2 : Row → List ℕ) (text2 : List ℕ) → text2 ≡ text ++ print kinds (changes_at rows v) → AreOpen rows (suc v) since2 →
          Swept texts kinds events a (suc v) since2 waiting2 text2
      swept_next since2 text2 e opened = record {
        waits = λ u from under. subst (λ o. SameMoves (edges_if o) (news u (suc u) events)) (sym (later u from)) (s.waits u (let z = past t v waiting now popped.there s.none in omega (arith, z, from)) under);
        none = λ u under. popped.left u ∙ pick u under (nat_eq v u) refl;
        reached = reached_next rows kinds a v since since2 text text2 swept_to.reached e opened;
      }
        where
          later : (u : ℕ) → suc v ≤ u → waiting2 u ≡ waiting u
          later u from = popped.left u ∙ ap (λ b. cond b None (waiting u)) (ne_eqb v u (λ same. omega (arith, from, same)))

          pick : (u : ℕ) → u < suc v → (b : Bool) → nat_eq v u ≡ b → cond b None (waiting u) ≡ None
          pick u under true f = refl
          pick u under false f = popped.first u (less u under (eqb-false v u f))
            where
              less : (u : ℕ) → u < suc v → (v ≡ u → ⊥) → u < v
              less u under apart = step (nat_lt u v) refl
                where
                  step : (b : Bool) → nat_lt u v ≡ b → u < v
                  step true g = ltb-true u v g
                  step false g = absurd (apart (let z = ltb-false u v g in omega (arith, z, under)))

-- a sweep that has come to some time, up to a limit
pub record Going (texts : List (List ℕ)) (kinds : List Kind) (events : List CellEvent) (a to : ℕ)
    (since : Row → List ℕ) (waiting : Waiting) (text : List ℕ) : Type 0 where
  pub at : ℕ
  pub low : at ≤ to
  pub swept : Swept texts kinds events a at since waiting text

module _ (texts : List (List ℕ)) (kinds : List Kind) (events : List CellEvent) (valid : AreEvents events) (a to : ℕ) (high : to ≤ inf) where
  -- it goes on with what is shown of an instant
  pub going_next : (since since2 : Row → List ℕ) (waiting waiting2 : Waiting) (text text2 : List ℕ) (v : ℕ) (now : List Edge) →
      ArePopped waiting waiting2 v now → v < to →
      (SameMoves now (news v (suc v) events) → AreOpen (rows texts events) v since → text2 ≡ text ++ print kinds (changes_at (rows texts events) v)) →
      (SameMoves now (news v (suc v) events) → AreOpen (rows texts events) v since → AreOpen (rows texts events) (suc v) since2) →
      Going texts kinds events a to since waiting text → Going texts kinds events a to since2 waiting2 text2
  going_next since since2 waiting waiting2 text text2 v now popped below shown opened g =
      let same = now_are texts events kinds valid a g.at v to since waiting waiting2 text now popped below high g.swept in
      let was = (swept_to texts events kinds valid a g.at v to since waiting waiting2 text now popped below high g.swept).reached.opened in
      record {
        at = suc v;
        low = omega (arith, below);
        swept = swept_next texts events kinds valid a g.at v to since waiting waiting2 text now popped below high g.swept since2 text2 (shown same was) (opened same was);
      }

  -- and comes to the limit where nothing more waits below it
  pub going_last : (since : Row → List ℕ) (waiting waiting2 : Waiting) (text : List ℕ) → ((t : ℕ) → waiting2 t ≡ waiting t) →
      ((t : ℕ) → t < to → waiting2 t ≡ None) → Going texts kinds events a to since waiting text → Swept texts kinds events a to since waiting2 text
  going_last since waiting waiting2 text same none g =
      let s = swept_later texts events kinds valid a g.at to since waiting text g.low high (λ t low. sym (same t) ∙ none t low) g.swept in
      record {
        waits = λ v low below. subst (λ o. SameMoves (edges_if o) (news v (suc v) events)) (sym (same v)) (s.waits v low below);
        none = none;
        reached = s.reached;
      }
