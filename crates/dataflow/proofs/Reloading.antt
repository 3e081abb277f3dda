-- A plan at work that took up what another saved.
use Rattle.std.specs.Prelude.{◌≡◌, true, ℕ, ◌≤◌, ◌<◌, ◌+◌, None, Option, Some, List, [], ◌∷◌, ◌++◌, length, map, slice_get, get_or, slice_set, Result, Ok, Err, OnOk, All, Vec}
use Rattle.std.proofs.Common.{refl, sym, ap, subst, ◌∙◌, arith, inl, inr}
use Rattle.std.proofs.lemmas.Bool.{cases_lt}
use Rattle.std.proofs.lemmas.List.{get_or_push, get_or_append_left, get_or-map, get_or-set_same, get_or-set_other}
use Rattle.std.proofs.lemmas.Option.{slice_get-get_or, slice_get_within, get_or_from_slice_get}
use Rattle.tw_rows.specs.Bag.{total}
use Rattle.tw_rows.specs.Texts.{BeginsWith}
use Rattle.tw_rows.specs.declared.edge.Edge.{Edge}
use Rattle.tw_rows.specs.declared.kind.CellKind.{CellKind}
use Rattle.edge_stream.specs.declared.saved.SavedEntry.{SavedEntry}
use Rattle.plan_model.specs.declared.node.Node.{Node}
use Rattle.plan_model.specs.declared.node.Node.TheVariants as nodes
use Rattle.plan_model.specs.IsPlan.{PlanParts, IsPlan, kinds_at, node_kinds}
use Rattle.plan_model.specs.Meaning.{left_of, right_of}
use Rattle.plan_laws.specs.Places.{EdgesArePlaced}
use Rattle.plan_laws.proofs.Selecting.{tested_longer, selected_longer}
use Rattle.plan_laws.proofs.Standing.{placed_longer}
use Rattle.frozen_state.specs.Forms.{shards_of, part_rows, node_rows}
use Rattle.frozen_state.specs.Formed.{IsStoredIn}
use Rattle.where_select.specs.Made.{IsMade}
use Rattle.where_select.specs.declared.row_stage.RowStage.TheVariants.{Source as SourceStage}
use Rattle.dataflow.specs.declared.fault.PlanFault.{PlanFault}
use Rattle.dataflow.specs.declared.stage.Stage.{Stage}
use Rattle.dataflow.specs.declared.stage.Stage.TheVariants.{Rows}
use Rattle.dataflow.specs.Stages.{left_kinds, right_kinds, IsReady, StageKeeps, entries_in}
use Rattle.dataflow.specs.Shards.{shards_in, RunAll}
use Rattle.dataflow.specs.Flows.{DataflowView, CanStep, Flows}
use Rattle.dataflow.specs.Saving.{CanSave, Saves, Loads, IsSavedOf, IsResumedOf, left_reached, right_reached, SavesAll, LoadsAll, IsNoState, RefusesOne, AreStates, FlowsResume}
use Rattle.dataflow.specs.Saving.{row_kinds, StoresRows, AreStored}
use Rattle.dataflow.proofs.Rules.{keeps_longer, came_longer}
use Rattle.dataflow.proofs.Starting.{own_kinds_are}

-- the first stages saved their lists
abbrev pub HasSaved : Stage → List (List SavedEntry) → Type 0
HasSaved s e = Saves s e × (total length e ≤ entries_in s) × StoresRows s e

pub record SavesTo (count : ℕ) (stages : List Stage) (saved : List (List (List SavedEntry))) : Type 0 where
  pub each : (i : ℕ) (d : Stage) (e : List (List SavedEntry)) → i < count → HasSaved (get_or stages i d) (get_or saved i e)

pub saves_next : (i : ℕ) (stages : List Stage) (saved : List (List (List SavedEntry))) (s : Stage) (x : List (List SavedEntry)) → length saved ≡ i → ((d : Stage) → get_or stages i d ≡ s) → SavesTo i stages saved →
    HasSaved s x → SavesTo (i + 1) stages (saved ++ x ∷ [])
saves_next i stages saved s x count at to now = record {
  each = λ j d e low. elim (cases_lt j i) [
    | inl before ↦ subst (HasSaved (get_or stages j d)) (sym (get_or_append_left saved (x ∷ []) e j (omega (arith, before, count)))) (to.each j d e before)
    | inr after ↦
        let same : i ≡ j = omega (arith, low, after) in
        subst (λ k. HasSaved (get_or stages k d) (get_or (saved ++ x ∷ []) k e)) same
        (subst (HasSaved (get_or stages i d)) (sym (get_or_push saved x e i count)) (subst (λ z. HasSaved z x) (sym (at d)) now))
  ];
}

pub saves_all : (stages : List Stage) (saved : List (List (List SavedEntry))) → length saved ≡ length stages → SavesTo (length stages) stages saved → SavesAll stages saved
saves_all stages saved count to = record {
  count = count;
  each = λ i s e here there.
      subst (HasSaved s) (get_or_from_slice_get saved i e e there)
      (subst (λ z. HasSaved z (get_or saved i e)) (get_or_from_slice_get stages i s s here) (to.each i s e (slice_get_within stages i s here)));
}

-- how the rows of a node's parts are stored, of the plan and of its children
rows_of_plan : (plan : PlanParts) (i : ℕ) (n : Node) → kinds_at plan.schemas i ≡ node_kinds n (left_kinds plan n) (right_kinds plan n) →
    map (row_kinds (left_kinds plan n) (right_kinds plan n) n) (part_rows n) ≡ node_rows plan i n
rows_of_plan plan i (nodes.Group of key aggs) own = ap (λ k. kinds_at plan.schemas of ∷ kinds_at plan.schemas of ∷ k ∷ []) (sym own)
rows_of_plan plan i n own = refl

-- so what a plan at work saved can be taken up where its edges are those that it took
module _ (d : DataflowView) (saved : List (List (List SavedEntry))) (all : SavesAll d.stages saved) (runs : RunAll d.workers d.plan.nodes d.stages) where
  stage_at : ℕ → Stage
  stage_at i = get_or d.stages i (Rows SourceStage)

  at_stage : (i : ℕ) (e : List (List SavedEntry)) → slice_get saved i ≡ Some e → slice_get d.stages i ≡ Some (stage_at i)
  unfolding stage_at
  at_stage i e saves = slice_get-get_or d.stages i (Rows SourceStage) (let w = slice_get_within saved i e saves in let c = all.count in omega (arith, w, c))

  many_at : (i : ℕ) (n : Node) (e : List (List SavedEntry)) → slice_get d.plan.nodes i ≡ Some n → slice_get saved i ≡ Some e → shards_in (stage_at i) ≡ shards_of d.workers n
  many_at i n e there saves = (runs i n (stage_at i) there (at_stage i e saves)).shards

  pub states_saved : (texts : List (List ℕ)) (last : ℕ) → CanStep texts last d → AreStates d.workers d.plan last saved
  states_saved texts last can = record {
    count = all.count ∙ can.count;
    each = λ i n e there saves.
        let here = at_stage i e saves in
        subst (λ k. IsSavedOf k (left_kinds d.plan n) (right_kinds d.plan n) n e (left_reached d.plan.nodes last n) (right_reached d.plan.nodes last n)) (many_at i n e there saves)
        ((all.each i (stage_at i) e here saves).0 texts d.capacity (left_kinds d.plan n) (right_kinds d.plan n) n _ _ (can.ready i n (stage_at i) there here)).0;
  }

  pub flows_saved : (texts : List (List ℕ)) (last : ℕ) (given lists : ℕ → List Edge) → Flows texts last given lists d → FlowsResume texts last given lists d.workers d.plan saved
  flows_saved texts last given lists flows = record {
    count = all.count ∙ flows.can.count;
    first = flows.first;
    each = λ i n e there saves.
        let here = at_stage i e saves in
        subst (λ k. IsResumedOf texts k (left_kinds d.plan n) (right_kinds d.plan n) n e (left_reached d.plan.nodes last n) (right_reached d.plan.nodes last n) (left_of [] given lists n) (right_of [] lists n) (lists i)) (many_at i n e there saves)
        (((all.each i (stage_at i) e here saves).0 texts d.capacity (left_kinds d.plan n) (right_kinds d.plan n) n _ _ (flows.can.ready i n (stage_at i) there here)).1 texts
        (left_of [] given lists n) (right_of [] lists n) (lists i) (flows.kept i n (stage_at i) there here));
  }

  -- the rows of parts are those of the plan's nodes
  pub stored_saved : (texts : List (List ℕ)) (last : ℕ) → CanStep texts last d → IsPlan d.plan → AreStored d.plan saved
  stored_saved texts last can whole i n e there saves =
      let here = at_stage i e saves in
      subst (λ rows. All (All (IsStoredIn rows)) e) (rows_of_plan d.plan i n (own_kinds_are d.plan whole i n there))
      ((all.each i (stage_at i) e here saves).2 texts d.capacity (left_kinds d.plan n) (right_kinds d.plan n) n _ _ (can.ready i n (stage_at i) there here))

-- a table that grows changes nothing of what a node made
made_grows : (texts more : List (List ℕ)) → BeginsWith more texts → (n : Node) (left out : List Edge) → EdgesArePlaced texts left → IsMade texts n left out → IsMade more n left out
made_grows texts more begins (nodes.Where of test) left out placed made = made ∙ sym (tested_longer more texts begins test left placed)
made_grows texts more begins (nodes.Select of items) left out placed made = (selected_longer more texts begins items left out placed made.1 made.0, placed_longer more texts begins out made.1)
made_grows texts more begins n left out placed made = made

keeps_grows : (texts more : List (List ℕ)) → BeginsWith more texts → (capacity : ℕ) (left right : List CellKind) (n : Node) (s : Stage) (x y : ℕ) → IsReady more capacity left right n s x y →
    (hl hr out : List Edge) → StageKeeps texts n s x y hl hr out → StageKeeps more n s x y hl hr out
keeps_grows texts more begins capacity left right n (Rows s) x y ready hl hr out kept = record {
  came = came_longer texts more begins x hl kept.came;
  made = made_grows texts more begins n hl out kept.came.placed kept.made;
}
keeps_grows texts more begins capacity left right n s x y ready hl hr out kept = keeps_longer texts more begins capacity left right n s x y ready hl hr out kept

-- a plan at work that took up lists can take a step, and flows on
module _ (last : ℕ) (old : DataflowView) (new : List Stage) (saved : List (List (List SavedEntry))) (fault : Option PlanFault) (fine : fault ≡ None)
    (all : LoadsAll old.plan last old.stages new saved) (runs : RunAll old.workers old.plan.nodes old.stages) where
  abbrev pub after : DataflowView
  after = record old { stages = new; thawed = true; fault = fault }

  before : ℕ → Stage
  before i = get_or old.stages i (Rows SourceStage)

  at_old : (i : ℕ) (s : Stage) → slice_get new i ≡ Some s → slice_get old.stages i ≡ Some (before i)
  unfolding before
  at_old i s here = slice_get-get_or old.stages i (Rows SourceStage) (let w = slice_get_within new i s here in let c = all.count in omega (arith, w, c))

  at_saved : (i : ℕ) (s : Stage) → slice_get new i ≡ Some s → slice_get saved i ≡ Some (get_or saved i [])
  at_saved i s here = slice_get-get_or saved i [] (let w = slice_get_within new i s here in let c = all.count in let m = all.many in omega (arith, w, c, m))

  loaded : (i : ℕ) (n : Node) (t : Stage) → slice_get old.plan.nodes i ≡ Some n → slice_get new i ≡ Some t →
      Loads (before i) t (get_or saved i []) (left_reached old.plan.nodes last n) (right_reached old.plan.nodes last n)
  loaded i n t there here = all.each i n (before i) t (get_or saved i []) there (at_old i t here) here (at_saved i t here)

  many_before : (i : ℕ) (n : Node) (t : Stage) → slice_get old.plan.nodes i ≡ Some n → slice_get new i ≡ Some t → shards_in (before i) ≡ shards_of old.workers n
  many_before i n t there here = (runs i n (before i) there (at_old i t here)).shards

  module _ (texts : List (List ℕ)) (can : CanStep texts 0 old) where
    pub can_loaded : CanStep texts last after
    can_loaded = record {
      count = all.count ∙ can.count;
      fine = fine;
      room = can.room;
      ready = λ i n t there here.
          (loaded i n t there here texts old.capacity (left_kinds old.plan n) (right_kinds old.plan n) n 0 0 (can.ready i n (before i) there (at_old i t here))).0;
    }

    pub states_loaded : AreStates old.workers old.plan last saved
    states_loaded = record {
      count = all.many ∙ can.count;
      each = λ i n e there saves.
          let low : i < length new = (let w = slice_get_within saved i e saves in let c = all.count in let m = all.many in omega (arith, w, c, m)) in
          let t = get_or new i (Rows SourceStage) in
          let here = slice_get-get_or new i (Rows SourceStage) low in
          subst (λ k. IsSavedOf k (left_kinds old.plan n) (right_kinds old.plan n) n e (left_reached old.plan.nodes last n) (right_reached old.plan.nodes last n)) (many_before i n t there here)
          (all.each i n (before i) t e there (at_old i t here) here saves texts old.capacity (left_kinds old.plan n) (right_kinds old.plan n) n 0 0 (can.ready i n (before i) there (at_old i t here))).1;
    }

    -- where the entries were saved with a table, it may have grown
    pub flows_loaded : (then : List (List ℕ)) → BeginsWith texts then → (given lists : ℕ → List Edge) → FlowsResume then last given lists old.workers old.plan saved → Flows texts last given lists after
    flows_loaded then begins given lists resume = record {
      can = can_loaded;
      first = resume.first;
      kept = λ i n t there here.
          let l = loaded i n t there here texts old.capacity (left_kinds old.plan n) (right_kinds old.plan n) n 0 0 (can.ready i n (before i) there (at_old i t here)) in
          keeps_grows then texts begins old.capacity (left_kinds old.plan n) (right_kinds old.plan n) n t _ _ l.0 (left_of [] given lists n) (right_of [] lists n) (lists i)
          (l.2 then (left_of [] given lists n) (right_of [] lists n) (lists i)
          (subst (λ k. IsResumedOf then k (left_kinds old.plan n) (right_kinds old.plan n) n (get_or saved i []) (left_reached old.plan.nodes last n) (right_reached old.plan.nodes last n) (left_of [] given lists n) (right_of [] lists n) (lists i)) (sym (many_before i n t there here))
          (resume.each i n (get_or saved i []) there (at_saved i t here))));
    }

-- the first stages took up their lists, and the others stand as they did
pub record LoadsTo (plan : PlanParts) (last count : ℕ) (old new : List Stage) (saved : List (List (List SavedEntry))) : Type 0 where
  pub each : (i : ℕ) (n : Node) (d : Stage) (e : List (List SavedEntry)) → i < count → slice_get plan.nodes i ≡ Some n →
      Loads (get_or old i d) (get_or new i d) (get_or saved i e) (left_reached plan.nodes last n) (right_reached plan.nodes last n)
  pub behind : (i : ℕ) (d : Stage) → count ≤ i → get_or new i d ≡ get_or old i d

pub loads_none : (plan : PlanParts) (last : ℕ) (old : List Stage) (saved : List (List (List SavedEntry))) → LoadsTo plan last 0 old old saved
loads_none plan last old saved = record { each = λ i n d e low there. absurd (omega (arith, low)); behind = λ i d low. refl }

pub loads_next : (plan : PlanParts) (last i : ℕ) (old new : List Stage) (saved : List (List (List SavedEntry))) (t : Stage) → i < length new → LoadsTo plan last i old new saved →
    ((n : Node) (d : Stage) (e : List (List SavedEntry)) → slice_get plan.nodes i ≡ Some n → Loads (get_or old i d) t (get_or saved i e) (left_reached plan.nodes last n) (right_reached plan.nodes last n)) →
    LoadsTo plan last (i + 1) old (slice_set new i t) saved
loads_next plan last i old new saved t within to now = record {
  each = λ j n d e low there. elim (cases_lt j i) [
    | inl before ↦
        subst (λ z. Loads (get_or old j d) z (get_or saved j e) (left_reached plan.nodes last n) (right_reached plan.nodes last n)) (sym (get_or-set_other new i j t d (λ k. absurd (omega (arith, before, k))))) (to.each j n d e before there)
    | inr after ↦
        let same : i ≡ j = omega (arith, low, after) in
        subst (λ k. Loads (get_or old k d) (get_or (slice_set new i t) k d) (get_or saved k e) (left_reached plan.nodes last n) (right_reached plan.nodes last n)) same
        (subst (λ z. Loads (get_or old i d) z (get_or saved i e) (left_reached plan.nodes last n) (right_reached plan.nodes last n)) (sym (get_or-set_same new i t d within))
        (now n d e (subst (λ k. slice_get plan.nodes k ≡ Some n) (sym same) there)))
  ];
  behind = λ j d above. get_or-set_other new i j t d (λ k. absurd (omega (arith, above, k))) ∙ to.behind j d (omega (arith, above));
}

pub loads_all : (plan : PlanParts) (last : ℕ) (old new : List Stage) (saved : List (List (List SavedEntry))) → length new ≡ length old → length old ≡ length plan.nodes → length saved ≡ length plan.nodes → LoadsTo plan last (length plan.nodes) old new saved → LoadsAll plan last old new saved
loads_all plan last old new saved count long many to = record {
  count = count;
  many = many ∙ sym long;
  each = λ i n s t e there here now saves.
      subst (λ z. Loads z t e (left_reached plan.nodes last n) (right_reached plan.nodes last n)) (get_or_from_slice_get old i s t here)
      (subst (λ z. Loads (get_or old i t) z e (left_reached plan.nodes last n) (right_reached plan.nodes last n)) (get_or_from_slice_get new i t t now)
      (subst (λ z. Loads (get_or old i t) (get_or new i t) z (left_reached plan.nodes last n) (right_reached plan.nodes last n)) (get_or_from_slice_get saved i e e saves)
      (to.each i n t e (slice_get_within plan.nodes i n there) there)));
}

-- whatever stands for what is not there
pub at_any : {X : Type 0} (xs : List X) (i : ℕ) (x d : X) → i < length xs → x ≡ get_or xs i x → get_or xs i d ≡ x
at_any xs i x d low is = get_or_from_slice_get xs i (get_or xs i x) d (slice_get-get_or xs i x low) ∙ sym is

pub loads_step : (plan : PlanParts) (last i : ℕ) (old now : List Stage) (saved : List (List (List SavedEntry))) (s t : Stage) (e : List (List SavedEntry)) (u v : ℕ) → i < length now → i < length saved → LoadsTo plan last i old now saved →
    s ≡ get_or now i s → e ≡ get_or saved i e → ((n : Node) → slice_get plan.nodes i ≡ Some n → u ≡ left_reached plan.nodes last n) → ((n : Node) → slice_get plan.nodes i ≡ Some n → v ≡ right_reached plan.nodes last n) →
    Loads s t e u v → LoadsTo plan last (i + 1) old (slice_set now i t) saved
loads_step plan last i old now saved s t e u v low lows to at saves left right loads =
    loads_next plan last i old now saved t low to (λ n d f there.
    subst (λ z. Loads z t (get_or saved i f) (left_reached plan.nodes last n) (right_reached plan.nodes last n)) (sym (at_any now i s d low at) ∙ to.behind i d (omega arith))
    (subst (λ z. Loads s t z (left_reached plan.nodes last n) (right_reached plan.nodes last n)) (sym (at_any saved i e f lows saves))
    (subst (λ z. Loads s t e z (right_reached plan.nodes last n)) (left n there)
    (subst (λ z. Loads s t e u z) (right n there) loads))))

pub refuses_step : (plan : PlanParts) (last i : ℕ) (old now : List Stage) (saved : List (List (List SavedEntry))) (s : Stage) (e : List (List SavedEntry)) (u v : ℕ) → i < length plan.nodes → i < length old → i < length saved → LoadsTo plan last i old now saved →
    s ≡ get_or now i s → e ≡ get_or saved i e → ((n : Node) → slice_get plan.nodes i ≡ Some n → u ≡ left_reached plan.nodes last n) → ((n : Node) → slice_get plan.nodes i ≡ Some n → v ≡ right_reached plan.nodes last n) →
    IsNoState s e u v → RefusesOne plan last old saved
refuses_step plan last i old now saved s e u v inside there lows to at saves left right none =
    let n = get_or plan.nodes i (nodes.Source 0) in
    let here = slice_get-get_or plan.nodes i (nodes.Source 0) inside in
    record {
      i = i;
      node = n;
      stage = s;
      entries = e;
      there = here;
      here = slice_get-get_or old i s there ∙ ap Some (sym (to.behind i s (omega arith)) ∙ sym at);
      saves = slice_get-get_or saved i e lows ∙ ap Some (sym saves);
      none = subst (λ z. IsNoState s e z (right_reached plan.nodes last n)) (left n here) (subst (λ z. IsNoState s e u z) (right n here) none);
    }

-- lists that one stage refuses are no states
pub refused_states : (texts : List (List ℕ)) (last : ℕ) (d : DataflowView) (saved : List (List (List SavedEntry))) → RunAll d.workers d.plan.nodes d.stages → RefusesOne d.plan last d.stages saved →
    CanStep texts 0 d → AreStates d.workers d.plan last saved → ⊥
refused_states texts last d saved runs one can states =
    let n = one.node in
    one.none texts d.capacity (left_kinds d.plan n) (right_kinds d.plan n) n 0 0 (can.ready one.i n one.stage one.there one.here)
    (subst (λ k. IsSavedOf k (left_kinds d.plan n) (right_kinds d.plan n) n one.entries (left_reached d.plan.nodes last n) (right_reached d.plan.nodes last n)) (sym (runs one.i n one.stage one.there one.here).shards)
    (states.each one.i n one.entries one.there one.saves))

pub can_save : (texts : List (List ℕ)) (last : ℕ) (d : DataflowView) → CanStep texts last d → (i : ℕ) (s : Stage) → slice_get d.stages i ≡ Some s → CanSave s
can_save texts last d can i s here =
    let low : i < length d.plan.nodes = (let w = slice_get_within d.stages i s here in let c = can.count in omega (arith, w, c)) in
    let n = get_or d.plan.nodes i (nodes.Source 0) in
    record {
      texts = texts;
      capacity = d.capacity;
      left = left_kinds d.plan n;
      right = right_kinds d.plan n;
      node = n;
      x = left_reached d.plan.nodes last n;
      y = right_reached d.plan.nodes last n;
      ready = can.ready i n s (slice_get-get_or d.plan.nodes i (nodes.Source 0) low) here;
    }

-- lists of entries, as the program holds them
abbrev pub lists : {S : Type 0} → Vec (List SavedEntry) S → List (List SavedEntry)
lists v = v.items

-- what is there of the list of what a function gives
pub mapped_at : {X Y : Type 0} (f : X → Y) (xs : List X) (i : ℕ) (x : X) (y : Y) → i < length xs → x ≡ get_or xs i x → y ≡ f x → y ≡ get_or (map f xs) i y
mapped_at f xs i x y low is at = at ∙ ap f is ∙ sym (get_or-map f xs i x y low)

pub on_ok_both : {T E P Q R : Type 0} (r : Result T E) → (P → Q → R) → OnOk r P → OnOk r Q → OnOk r R
on_ok_both (Ok t) f p q = f p q
on_ok_both (Err e) f p q = tt
