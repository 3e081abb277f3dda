-- A punctuation, over the parts of an engine.
use Rattle.std.specs.Prelude.{◌≡◌, ◌≢◌, ◌↔◌, Bool, true, IsTrue, ℕ, zero, suc, ◌-◌, ◌<◌, ◌≤◌, false, max, map, nat_lt, cond, flat_map, All, List, [], ◌∷◌, ◌++◌, length, Some, None, refl}
use Rattle.std.proofs.Common.{sym, ◌∙◌, ap, subst, arith, append_assoc, inl, inr}
use Rattle.std.proofs.lemmas.Bool.{cases_lt}
use Rattle.std.proofs.lemmas.List.Elements.{All-append}
use Rattle.tw_rows.specs.Cells.{datum_kind}
use Rattle.tw_rows.specs.Kinds.{cell_kind_of}
use Rattle.tw_rows.specs.Instant.{inf}
use Rattle.tw_rows.specs.Texts.{BeginsWith}
use Rattle.tw_rows.specs.Event.{alive}
use Rattle.tw_rows.specs.declared.edge.Edge.{Edge}
use Rattle.edge_history.specs.Order.{is_from, is_below, failing}
use Rattle.plan_model.specs.Changes.{changes}
use Rattle.plan_model.specs.IsPlan.{PlanParts, IsPlan, most_columns}
use Rattle.plan_model.specs.Meaning.{closes, events}
use Rattle.plan_model.proofs.Closings.{closes_rise, closes_low}
use Rattle.plan_model.proofs.Kept.{IsPlan-ordered}
use Rattle.plan_laws.specs.Undefined.{overflow}
use Rattle.plan_laws.specs.Standing.{StandsRead}
use Rattle.plan_laws.specs.Places.{EdgesArePlaced}
use Rattle.plan_laws.proofs.Standing.{placed_longer}
use Rattle.admission.specs.declared.policy.Policy.{Policy}
use Rattle.admission.specs.Admission.{Admission, rows}
use Rattle.admission.specs.Keeping.{IsGoing}
use Rattle.admission.specs.Progress.{Progress, judged}
use Rattle.admission.specs.Text.{between, closed_up}
use Rattle.admission.proofs.Growing.{closed_is, nothing_closed}
use Rattle.egress.specs.Output.{Holds, GoesOn, IsPlacedIn}
use Rattle.egress.specs.Print.{print, punctuation_if}
use Rattle.egress.specs.Waiting.{edges_if, waiting_in}
use Rattle.egress.specs.declared.egress.Egress.{Egress}
use Rattle.egress.proofs.Taking.{holds_longer}
use Rattle.ingress.specs.Admits.{IsFor, SameFixed, Follows, Admits}
use Rattle.ingress.specs.Ranks.{SamePools}
use Rattle.ingress.specs.Times.{IsTimed}
use Rattle.ingress.specs.declared.ingress.Ingress.{Ingress}
use Rattle.batch.specs.PoolsView.{PoolsView}
use Rattle.dataflow.specs.Flows.{DataflowView, CanStep, StepsOn, Flows, HasFlowed}
use Rattle.dataflow.specs.Below.{CanStepBelow, FlowsBelow}
use Rattle.edge_stream.specs.Lists.{longer}
use Rattle.dataflow.specs.Stages.{reached}
use Rattle.dataflow.proofs.Growing.{can_longer, flows_longer}
use Rattle.dataflow.proofs.Stepping.{reached_after}
use Rattle.tempo_engine.specs.Output.{item_text, result_kinds}
use Rattle.tempo_engine.specs.Held.{HasWorked}
use Rattle.tempo_engine.specs.Went.{Went, Further, CanRun}
use Rattle.tempo_engine.specs.Working.{IsDue, IsShown}
use Rattle.tempo_engine.specs.Underway.{root_reached, RootStands, IsUnderway, CanStepRest, HasOverflowed}
use Rattle.tempo_engine.specs.declared.parts.Parts.{Parts}
use Rattle.tempo_engine.proofs.Giving.{still_for}
use Rattle.tempo_engine.proofs.Showing.{rendered_items}

-- a time is before another, or it is the same
pub ends : (released r p : ℕ) (b : Bool) → (IsTrue b ↔ (r < p)) → b ≡ false → r ≡ released → released ≤ p → released ≡ p
ends released r p b tells not is low = elim (cases_lt r p) [
  | inl less ↦ absurd (let t = tells.1 less in cc)
  | inr more ↦ omega (arith, more, is, low)
]

pub begins : (released r p : ℕ) (b : Bool) → (IsTrue b ↔ (r < p)) → b ≡ true → r ≡ released → released < p
begins released r p b tells before is = (let l = tells.0 before in omega (arith, l, is))

-- one line more was admitted, its texts are in the table, and the row and the pools are those of other parts
pub taken_went : (plan : PlanParts) (policy : Policy) (w : Progress) (given lists : ℕ → List Edge) (e : Parts) → Went plan policy w given lists e → (b : Admission) (more : List (List ℕ)) (i : Ingress) (read : Parts) →
    BeginsWith more e.texts → Admits more b given i → SameFixed e.ingress i → i.released ≡ e.ingress.released → SamePools e.pools read.pools → IsTimed b →
    Went plan policy (record w { after = b }) given lists (record e { texts = more; ingress = i; row = read.row; pools = read.pools })
taken_went plan policy w given lists e went b more i read begins took same released lent timed = record {
  fixed = still_for plan policy e.dataflow.capacity e.ingress i went.fixed same;
  took = took;
  released = released ∙ went.released;
  pooled = lent.capacity ∙ went.pooled;
  planned = went.planned;
  flows = flows_longer e.texts more w.last e.dataflow begins given lists went.flows;
  placed = placed_longer more e.texts begins (lists plan.root) went.placed;
  holds = holds_longer more e.texts begins (lists plan.root) e.closed e.closed e.egress went.placed went.holds;
  waits = λ t. placed_longer more e.texts begins (edges_if (waiting_in e.egress.waiting t)) (went.waits t);
  able = went.able;
  kinds = went.kinds;
  closed = went.closed;
  timed = timed;
  instant = went.instant;
  below = went.below;
  typed = went.typed;
}

-- and the parts can still run
pub taken_run : (e : Parts) → CanRun e → (more : List (List ℕ)) (i : Ingress) (read : Parts) → BeginsWith more e.texts → SameFixed e.ingress i → i.released ≡ e.ingress.released →
    SamePools e.pools read.pools → CanRun (record e { texts = more; ingress = i; row = read.row; pools = read.pools })
taken_run e run more i read begins same released lent = record {
  sound = run.sound;
  fixed = subst (λ r. IsFor e.dataflow.plan.streams r e.dataflow.capacity i) (sym same.policy) (still_for e.dataflow.plan e.ingress.policy e.dataflow.capacity e.ingress i run.fixed same);
  pooled = lent.capacity ∙ run.pooled;
  wide = subst (λ n. most_columns ≤ n) (sym lent.limit) run.wide;
  can = subst (λ t. CanStep more t e.dataflow) (sym released) (can_longer e.texts more e.ingress.released e.dataflow begins run.can);
  low = subst (λ t. t ≤ inf) (sym released) run.low;
  waits = λ t. placed_longer more e.texts begins (edges_if (waiting_in e.egress.waiting t)) (run.waits t);
  able = run.able;
}

fixed_still : (e : Parts) → CanRun e → (i : Ingress) (d : DataflowView) → SameFixed e.ingress i → d.plan ≡ e.dataflow.plan → d.capacity ≡ e.dataflow.capacity → IsFor d.plan.streams i.policy d.capacity i
fixed_still e run i d same plan room =
    subst (λ q. IsFor q.streams i.policy d.capacity i) (sym plan) (subst (λ c. IsFor e.dataflow.plan.streams i.policy c i) (sym room)
    (subst (λ r. IsFor e.dataflow.plan.streams r e.dataflow.capacity i) (sym same.policy) (still_for e.dataflow.plan e.ingress.policy e.dataflow.capacity e.ingress i run.fixed same)))

-- so they can behind a slice
pub sliced_run : (p : ℕ) (e : Parts) → CanRun e → e.ingress.released < p → p ≤ inf → (i : Ingress) (pools : PoolsView) (d : DataflowView) (g : Egress) → SameFixed e.ingress i → i.released ≡ p →
    pools.capacity ≡ e.pools.capacity → pools.limit ≡ e.pools.limit → d.plan ≡ e.dataflow.plan → d.capacity ≡ e.dataflow.capacity → StepsOn e.texts p e.dataflow d → IsPlacedIn e.texts g → g.failed ≡ false →
    CanRun (record e { ingress = i; pools = pools; dataflow = d; egress = g })
sliced_run p e run above low i pools d g same released pooled wide plan room steps waits able = record {
  sound = subst IsPlan (sym plan) run.sound;
  fixed = fixed_still e run i d same plan room;
  pooled = pooled ∙ run.pooled ∙ sym room;
  wide = subst (λ m. most_columns ≤ m) (sym wide) run.wide;
  can = subst (λ t. CanStep e.texts t d) (sym released) (steps e.ingress.released run.can above);
  low = subst (λ t. t ≤ inf) (sym released) low;
  waits = waits;
  able = able;
}

-- and once its text is rendered
pub rendered_run : (e : Parts) → CanRun e → (g : Egress) (closed : ℕ) → IsPlacedIn e.texts g → g.failed ≡ false → CanRun (record e { egress = g; closed = closed })
rendered_run e run g closed waits able = record {
  sound = run.sound;
  fixed = run.fixed;
  pooled = run.pooled;
  wide = run.wide;
  can = run.can;
  low = run.low;
  waits = waits;
  able = able;
}

-- the text goes up to where the root is closed by the last punctuation
pub closed_reached : (plan : PlanParts) → IsPlan plan → (w : Progress) → IsGoing (length plan.streams) w → closed_up plan 0 w.dues ≡ reached w.last (closes plan.nodes plan.root w.last)
closed_reached plan sound w going = go w.last refl
  where
    go : (last : ℕ) → w.last ≡ last → closed_up plan 0 w.dues ≡ reached last (closes plan.nodes plan.root w.last)
    go zero is = nothing_closed plan w going is
    go (suc last) is = closed_is plan sound w going (omega arith)

closed_more : (plan : PlanParts) (last : ℕ) (ds : List ℕ) (p : ℕ) → closed_up plan last (ds ++ p ∷ []) ≡ max (closed_up plan last ds) (closes plan.nodes plan.root p)
closed_more plan last [] p = refl
closed_more plan last (d ∷ ds) p = closed_more plan (max last (closes plan.nodes plan.root d)) ds p

reached_low : (last c : ℕ) → reached last c ≤ c
reached_low zero c = omega arith
reached_low (suc last) c = omega arith

-- before its first slice a punctuation is under way
pub begun : (p : ℕ) (plan : PlanParts) (policy : Policy) (w : Progress) (given lists : ℕ → List Edge) (e : Parts) → IsDue p plan policy w given lists e → IsUnderway plan policy w given lists e
begun p plan policy w given lists e due =
    let went = due.went in
    let there = sym went.released in
    let closed : e.closed ≡ root_reached plan e.ingress.released = went.closed ∙ closed_reached plan due.sound w due.going ∙ ap (root_reached plan) there in
    record {
      sound = due.sound;
      rises = omega (arith, there);
      fixed = went.fixed;
      follows = went.took.follows;
      planned = went.planned;
      flows = subst (λ x. Flows e.texts x given lists e.dataflow) there went.flows;
      placed = went.placed;
      holds = subst (λ c. Holds e.texts (lists plan.root) e.closed c e.egress) closed went.holds;
      kinds = went.kinds;
      closed = went.closed;
      below = subst (λ c. failing (is_below c) (lists plan.root) ≡ 0) closed went.below;
      typed = went.typed;
      stands = λ later. absurd (omega (arith, later, there));
    }

-- the plan took a step, at the end y of a slice
module _ (plan : PlanParts) (policy : Policy) (w : Progress) (given lists : ℕ → List Edge) (e : Parts) (way : IsUnderway plan policy w given lists e) (y : ℕ) (above : e.ingress.released < y) (within : y ≤ inf) where
  abbrev from : ℕ
  from = root_reached plan e.ingress.released

  abbrev to : ℕ
  to = closes plan.nodes plan.root y

  from_low : from ≤ to
  from_low =
      let r = closes_rise plan.nodes (IsPlan-ordered plan way.sound) e.ingress.released y (omega (arith, above)) within plan.root in
      let l = reached_low e.ingress.released (closes plan.nodes plan.root e.ingress.released) in
      omega (arith, r, l)

  module _ (fresh : ℕ → List Edge) (d : DataflowView) (out : List Edge) (planned : d.plan ≡ plan)
      (flowed : HasFlowed e.texts e.ingress.released y (rows w.after) given fresh lists d out) where
    out_is : out ≡ flowed.more plan.root
    out_is = flowed.root ∙ ap (λ q. flowed.more q.root) planned

    root_stands : StandsRead e.texts to (lists plan.root ++ out) (events (rows w.after) plan.nodes plan.root)
    root_stands =
        let there : plan.root < length d.plan.nodes = subst (λ q. plan.root < length q.nodes) (sym planned) way.sound.rooted in
        let stands = flowed.stand plan.root there in
        let here : StandsRead e.texts to (longer lists flowed.more plan.root) (events (rows w.after) plan.nodes plan.root) =
        subst (λ q. StandsRead e.texts (closes q.nodes plan.root y) (longer lists flowed.more plan.root) (events (rows w.after) q.nodes plan.root)) planned stands in
        subst (λ es. StandsRead e.texts to (lists plan.root ++ es) (events (rows w.after) plan.nodes plan.root)) (sym out_is) here

    out_from : failing (is_from from) out ≡ 0
    out_from = subst (λ q. failing (is_from (reached e.ingress.released (closes q.nodes q.root e.ingress.released))) out ≡ 0) planned flowed.later

    pub sliced : (g : Egress) → GoesOn e.texts out to e.egress g → Holds e.texts (lists plan.root ++ out) e.closed to g
    sliced g takes = takes (lists plan.root) e.closed from way.holds root_stands.history out_from from_low

    -- it is under way up to there
    pub further_underway : (i : Ingress) (pools : PoolsView) (g : Egress) → SameFixed e.ingress i → Follows e.texts w.after (longer given fresh) i → i.released ≡ y → d.capacity ≡ e.dataflow.capacity →
        Holds e.texts (lists plan.root ++ out) e.closed to g → g.rows.kinds.items ≡ e.egress.rows.kinds.items → All (λ edge. map datum_kind edge.cells ≡ map cell_kind_of (result_kinds plan)) out →
        Further given lists (λ more_given more_lists. IsUnderway plan policy w more_given more_lists (record e { ingress = i; pools = pools; dataflow = d; egress = g }))
    further_underway i pools g same follows released room holds kinds typed = record {
      more_given = longer given fresh;
      more_lists = longer lists flowed.more;
      on_given = λ k. (fresh k, refl);
      on_lists = λ k. (flowed.more k, refl);
      there = record {
        sound = way.sound;
        rises = (let r = way.rises in omega (arith, r, above, released));
        fixed = rw room (still_for plan policy e.dataflow.capacity e.ingress i way.fixed same);
        follows = follows;
        planned = planned;
        flows = subst (λ x. Flows e.texts x (longer given fresh) (longer lists flowed.more) d) (sym released) flowed.flows;
        placed = placed_now;
        holds = subst (λ c. Holds e.texts (longer lists flowed.more plan.root) e.closed c g) reached_now
            (subst (λ es. Holds e.texts (lists plan.root ++ es) e.closed to g) out_is holds);
        kinds = kinds ∙ way.kinds;
        closed = way.closed;
        below = subst (λ c. failing (is_below c) (longer lists flowed.more plan.root) ≡ 0) reached_now below_now;
        typed = subst (λ es. All IsTyped (lists plan.root ++ es)) out_is (All-append IsTyped (lists plan.root) out way.typed typed);
        stands = λ later. subst (λ x. RootStands e.texts x plan w (longer lists flowed.more plan.root)) (sym released)
            (record {
              defined = subst (λ q. overflow (rows w.after) q.nodes y ≡ None) planned flowed.defined;
              root = stands_now;
            });
      };
    }
      where
        IsTyped : Edge → Type 0
        IsTyped = λ edge. map datum_kind edge.cells ≡ map cell_kind_of (result_kinds plan)

        reached_now : to ≡ root_reached plan i.released
        reached_now = sym (reached_after e.ingress.released y to above) ∙ ap (root_reached plan) (sym released)

        stands_now : StandsRead e.texts to (longer lists flowed.more plan.root) (events (rows w.after) plan.nodes plan.root)
        stands_now = subst (λ es. StandsRead e.texts to (lists plan.root ++ es) (events (rows w.after) plan.nodes plan.root)) out_is root_stands

        placed_now : EdgesArePlaced e.texts (longer lists flowed.more plan.root)
        placed_now = stands_now.placed

        below_now : failing (is_below to) (longer lists flowed.more plan.root) ≡ 0
        below_now = stands_now.below

-- more behind more
pub further_on : (given lists : ℕ → List Edge) (P Q : (ℕ → List Edge) → (ℕ → List Edge) → Type 0) → Further given lists P → ((g l : ℕ → List Edge) → P g l → Further g l Q) → Further given lists Q
further_on given lists P Q first next =
    let then = next first.more_given first.more_lists first.there in
    record {
      more_given = then.more_given;
      more_lists = then.more_lists;
      on_given = λ k. begins_on (given k) (first.more_given k) (then.more_given k) (first.on_given k) (then.on_given k);
      on_lists = λ k. begins_on (lists k) (first.more_lists k) (then.more_lists k) (first.on_lists k) (then.on_lists k);
      there = then.there;
    }
  where
    begins_on : (a b c : List Edge) → BeginsWith b a → BeginsWith c b → BeginsWith c a
    begins_on a b c h k = (h.0 ++ k.0, k.1 ∙ ap (λ l. l ++ k.0) h.1 ∙ append_assoc a h.0 k.0)

-- the last slice of the punctuation p ended at p
module _ (p : ℕ) (plan : PlanParts) (policy : Policy) (w : Progress) (given lists : ℕ → List Edge) (begin : Parts) (due : IsDue p plan policy w given lists begin) (e : Parts) (more_given more_lists : ℕ → List Edge)
    (way : IsUnderway plan policy w more_given more_lists e) (there : e.ingress.released ≡ p) where
  abbrev whole_to : ℕ
  whole_to = closes plan.nodes plan.root p

  stands : RootStands e.texts p plan w (more_lists plan.root)
  stands = subst (λ x. RootStands e.texts x plan w (more_lists plan.root)) there (way.stands (let above = due.above in omega (arith, above, there)))

  closed_rises : e.closed ≤ whole_to
  closed_rises =
      let above = due.above in
      let r = closes_rise plan.nodes (IsPlan-ordered plan due.sound) w.last p (omega (arith, above)) due.low plan.root in
      let c = closed_reached plan due.sound w due.going in
      let l = reached_low w.last (closes plan.nodes plan.root w.last) in
      let k = way.closed in
      omega (arith, r, c, l, k)

  to_low : whole_to ≤ inf
  to_low = closes_low plan.nodes (IsPlan-ordered plan due.sound) p p (omega arith) due.low plan.root

  pub whole_holds : Holds e.texts (more_lists plan.root) e.closed whole_to e.egress
  whole_holds = subst (λ c. Holds e.texts (more_lists plan.root) e.closed c e.egress) (ap (root_reached plan) there ∙ reached_after w.last p whole_to due.above) way.holds

  pub whole_stands : StandsRead e.texts whole_to (more_lists plan.root) (events (rows w.after) plan.nodes plan.root)
  whole_stands = stands.root

  pub shown : (bytes : List ℕ) →
      bytes ≡ print (result_kinds plan) (changes (alive (events (rows w.after) plan.nodes plan.root)) e.closed (whole_to - e.closed)) ++ punctuation_if (cond (nat_lt e.closed whole_to) (Some whole_to) None) →
      IsShown p plan w bytes
  shown bytes is = record {
    defined = stands.defined;
    shown = is ∙ rendered_items (result_kinds plan) (rows w.after) plan due.sound e.closed whole_to closed_rises to_low
        ∙ ap (λ c. flat_map (item_text (result_kinds plan)) (between (rows w.after) plan c whole_to)) way.closed;
  }

  flows_there : Flows e.texts p more_given more_lists e.dataflow
  flows_there = subst (λ x. Flows e.texts x more_given more_lists e.dataflow) there way.flows

  pub next_worked : (g : Egress) (closed : ℕ) → HasWorked plan (judged p w None) (record e { egress = g; closed = closed })
  next_worked g closed = record {
    given = more_given;
    lists = more_lists;
    took = way.follows;
    streams = way.fixed.count;
    released = there;
    planned = way.planned;
    flows = flows_there;
  }

  pub next_went : ((s : ℕ) → s < length plan.streams → p ≤ w.after.bound s) → e.pools.capacity ≡ e.dataflow.capacity → (g : Egress) → Holds e.texts (more_lists plan.root) whole_to whole_to g → IsPlacedIn e.texts g →
      g.failed ≡ false → g.rows.kinds.items ≡ e.egress.rows.kinds.items → Went plan policy (judged p w None) more_given more_lists (record e { egress = g; closed = whole_to })
  next_went high pooled g holds waits able kinds = record {
    fixed = way.fixed;
    took = record { follows = way.follows; low = λ s inside. subst (λ x. x ≤ w.after.bound s) (sym there) (high s (subst (λ n. s < n) way.fixed.count inside)) };
    released = there;
    pooled = pooled;
    planned = way.planned;
    flows = flows_there;
    placed = way.placed;
    holds = holds;
    waits = waits;
    able = able;
    kinds = kinds ∙ way.kinds;
    closed = sym (closed_more plan 0 w.dues p ∙ (let r = closed_rises in let k = way.closed in omega (arith, r, k)));
    timed = due.went.timed;
    instant = due.instant;
    below = stands.root.below;
    typed = way.typed;
  }

-- a step failed at the end y of a slice
module _ (e : Parts) (y : ℕ) (i : Ingress) (pools : PoolsView) (d : DataflowView) (released : i.released ≡ y) (plan : d.plan ≡ e.dataflow.plan) where
  pub can_rest : CanRun e → SameFixed e.ingress i → pools.capacity ≡ e.pools.capacity → pools.limit ≡ e.pools.limit → d.capacity ≡ e.dataflow.capacity → (node : ℕ) → d.fault ≢ None → node < length e.dataflow.plan.nodes →
      CanStepBelow e.texts y node d → CanStepRest node (record e { ingress = i; pools = pools; dataflow = d })
  can_rest run same pooled wide room node failed low can = record {
    sound = subst IsPlan (sym plan) run.sound;
    fixed = fixed_still e run i d same plan room;
    pooled = pooled ∙ run.pooled ∙ sym room;
    wide = subst (λ m. most_columns ≤ m) (sym wide) run.wide;
    failed = failed;
    low = subst (λ q. node ≤ length q.nodes) (sym plan) (omega (arith, low));
    can = subst (λ x. CanStepBelow e.texts x node d) (sym released) can;
  }

  pub overflowed : (a : Admission) (given lists : ℕ → List Edge) → Follows e.texts a given i → (node time : ℕ) → overflow (rows a) e.dataflow.plan.nodes y ≡ Some (record { node = node; time = time }) →
      FlowsBelow e.texts y node given lists d → HasOverflowed node time a given lists (record e { ingress = i; pools = pools; dataflow = d })
  overflowed a given lists follows node time found flows = record {
    follows = follows;
    flows = subst (λ x. FlowsBelow e.texts x node given lists d) (sym released) flows;
    found = subst (λ x. overflow (rows a) d.plan.nodes x ≡ Some (record { node = node; time = time })) (sym released)
        (subst (λ q. overflow (rows a) q.nodes y ≡ Some (record { node = node; time = time })) (sym plan) found);
  }
