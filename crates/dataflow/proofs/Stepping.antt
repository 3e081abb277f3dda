-- The step of one node of a plan, over the lists that it reads.
use Rattle.std.specs.Prelude.{◌≡◌, ℕ, zero, suc, ◌+◌, ◌<◌, ◌≤◌, Bool, Some, None, List, [], ◌++◌, length, get_or, slice_get, slice_set}
use Rattle.std.proofs.Common.{refl, sym, ap, subst, ◌∙◌, arith, inl, inr}
use Rattle.std.proofs.lemmas.Bool.{cases_lt}
use Rattle.std.proofs.lemmas.List.{get_or-set_same, get_or-set_other, length-set}
use Rattle.std.proofs.lemmas.Option.{slice_get-get_or, get_or_from_slice_get}
use Rattle.tw_rows.specs.Cells.{ArePlaced}
use Rattle.tw_rows.specs.Instant.{inf}
use Rattle.tw_rows.specs.declared.edge.Edge.{Edge}
use Rattle.tw_rows.specs.declared.kind.CellKind.{CellKind}
use Rattle.edge_stream.specs.Listing.{EdgeListView, cells_of}
use Rattle.edge_stream.proofs.Placed.{All-right}
use Rattle.plan_model.specs.declared.node.Node.{Node}
use Rattle.plan_model.specs.declared.node.Node.TheVariants.{Source}
use Rattle.plan_model.specs.IsPlan.{PlanParts, IsPlan, kinds_at, node_kinds}
use Rattle.plan_model.specs.Meaning.{Sources, left_of, right_of, right_child}
use Rattle.plan_model.proofs.Closings.{left_rises, right_rises}
use Rattle.plan_model.proofs.Kept.{IsPlan-ordered}
use Rattle.plan_model.proofs.Plans.{left_of_below, at_child_below}
use Rattle.plan_laws.specs.Places.{AreDistinct, EdgesArePlaced}
use Rattle.plan_laws.specs.Standing.{SourcesStandRead}
use Rattle.dataflow.specs.declared.stage.Stage.{Stage}
use Rattle.edge_stream.specs.Lists.{longer}
use Rattle.dataflow.specs.Lists.{AreFrom, IsListOf}
use Rattle.dataflow.specs.Stages.{reached, left_closing, right_closing, left_kinds, right_kinds, IsReady, CanTake, StageKeeps, KeepsOn, StaysReady, IsUndefinedAt, IsAnswerOf}
use Rattle.dataflow.specs.Slices.{overflow_under}
use Rattle.dataflow.specs.Flows.{parts_of}
use Rattle.dataflow.specs.Below.{AreReadyBelow, KeepBelow, FlowBelow, HasFlowedBelow}
use Rattle.dataflow.specs.Held.{IsListWith, HeldBefore, HeldBetween}
use Rattle.dataflow.proofs.HeldLists.{with_list, with_list-at, with_list-below}
use Rattle.dataflow.proofs.Flowing.{Progress, progress_same, progress_next, first_found, reached_below}
use Rattle.dataflow.proofs.Undefining.{none_under, overflow_at}

pub reached_after : (last p c : ℕ) → last < p → reached p c ≡ c
reached_after last zero c later = absurd (omega (arith, later))
reached_after last (suc p) c later = refl

ready_as : (texts : List (List ℕ)) (c d : ℕ) (k l j m : List CellKind) (n : Node) (s : Stage) (x y : ℕ) → c ≡ d → k ≡ l → j ≡ m → IsReady texts c k j n s x y → IsReady texts d l m n s x y
ready_as texts c d k l j m n s x y e f g h = subst (λ z. IsReady texts d l z n s x y) g (subst (λ z. IsReady texts d z j n s x y) f (subst (λ z. IsReady texts z k j n s x y) e h))

module _ (texts : List (List ℕ)) (plan : PlanParts) (whole : IsPlan plan) (capacity p : ℕ) (within : p ≤ inf) (i : ℕ) (n : Node) (there : slice_get plan.nodes i ≡ Some n) (given more : ℕ → List Edge)
    (left right : EdgeListView) (is_left : IsListWith texts capacity (left_kinds plan n) (left_of [] given more n) left) (is_right : IsListWith texts capacity (right_kinds plan n) (right_of [] more n) right)
    (s : Stage) (u v : ℕ) (eu : u ≡ left_closing plan.nodes p n) (ev : v ≡ right_closing plan.nodes p n) where
  -- it can take a step, once the punctuation `last` was worked through
  abbrev ReadyAt : ℕ → Type 0
  ReadyAt last = IsReady texts capacity (left_kinds plan n) (right_kinds plan n) n s (reached last (left_closing plan.nodes last n)) (reached last (right_closing plan.nodes last n))

  ready_in : (last : ℕ) → ReadyAt last →
      IsReady texts left.capacity (cells_of left) (cells_of right) n s (reached last (left_closing plan.nodes last n)) (reached last (right_closing plan.nodes last n))
  ready_in last ready =
      ready_as texts capacity left.capacity (left_kinds plan n) (cells_of left) (right_kinds plan n) (cells_of right) n s _ _
      (sym is_left.list.rows) (sym is_left.list.cells) (sym is_right.list.cells) ready

  pub can_take : (last : ℕ) → ReadyAt last → last < p → CanTake texts left right s u v
  can_take last ready later = record {
    node = n;
    x = reached last (left_closing plan.nodes last n);
    y = reached last (right_closing plan.nodes last n);
    ready = ready_in last ready;
    left_rises = subst (λ z. reached last (left_closing plan.nodes last n) ≤ z) (sym eu)
        (reached_below last (left_closing plan.nodes last n) (left_closing plan.nodes p n) (left_rises plan.nodes (IsPlan-ordered plan whole) last p (omega arith) within i n there));
    right_rises = subst (λ z. reached last (right_closing plan.nodes last n) ≤ z) (sym ev)
        (reached_below last (right_closing plan.nodes last n) (right_closing plan.nodes p n) (right_rises plan.nodes (IsPlan-ordered plan whole) last p (omega arith) within i n there));
  }

  -- what it answers is a list of its columns
  pub answer_is : (last : ℕ) → ReadyAt last → (answer : EdgeListView) → IsAnswerOf texts left right s answer → EdgesArePlaced texts answer.edges → answer.capacity ≡ left.capacity →
      IsListOf texts capacity (kinds_at plan.schemas i) answer
  answer_is last ready answer kinds placed rows = record {
    cells = kinds n _ _ (ready_in last ready)
        ∙ ap (λ l. node_kinds n l (cells_of right)) is_left.list.cells
        ∙ ap (node_kinds n (left_kinds plan n)) is_right.list.cells
        ∙ sym (whole.nodes_are.each i n there).kinds;
    rows = rows ∙ is_left.list.rows;
    placed = placed;
  }

  -- it is ready for the next step
  pub ready_out : (last : ℕ) → ReadyAt last → (new : Stage) → StaysReady texts left right s new u v →
      IsReady texts capacity (left_kinds plan n) (right_kinds plan n) n new (left_closing plan.nodes p n) (right_closing plan.nodes p n)
  ready_out last ready new stays =
      subst (λ x. IsReady texts capacity (left_kinds plan n) (right_kinds plan n) n new x (right_closing plan.nodes p n)) eu
      (subst (λ y. IsReady texts capacity (left_kinds plan n) (right_kinds plan n) n new u y) ev
      (ready_as texts left.capacity capacity (cells_of left) (left_kinds plan n) (cells_of right) (right_kinds plan n) n new u v
      is_left.list.rows is_left.list.cells is_right.list.cells
      (stays.stays n _ _ (ready_in last ready))))

  module _ (last : ℕ) (source : Sources) (old lists : ℕ → List Edge) (distinct : AreDistinct texts) (later : last < p) (from : SourcesStandRead texts p source (longer old given)) (begun : AreFrom last given)
      (ready : ReadyAt last)
      (kept : StageKeeps texts n s (reached last (left_closing plan.nodes last n)) (reached last (right_closing plan.nodes last n)) (left_of [] old lists n) (right_of [] lists n) (lists i))
      (now : List Stage) (so_far : Progress texts plan last p source old given lists more now i) where
    -- where it is undefined
    pub undefined_found : (count time : ℕ) → IsUndefinedAt texts left right s u v (Some time) → i < count → overflow_under source plan.nodes p count ≡ Some (record { node = i; time = time })
    undefined_found count time h low =
        overflow_at source plan.nodes p count i time low
        (first_found texts plan last p source old given lists whole distinct later within from begun more now i so_far n there left right is_left.same is_right.same s (ready_in last ready) kept (Some time)
        (subst (λ z. IsUndefinedAt texts left right s z (right_closing plan.nodes p n) (Some time)) eu (subst (λ z. IsUndefinedAt texts left right s u z (Some time)) ev h)))
        so_far.defined

    -- the nodes up to it have taken their steps
    pub progress_made : (new : Stage) (answer : EdgeListView) → KeepsOn texts left right s new u v answer → StaysReady texts left right s new u v → IsUndefinedAt texts left right s u v None → i < length now →
        Progress texts plan last p source old given lists (with_list more i answer.edges) (slice_set now i new) (suc i)
    progress_made new answer on stays undefined low =
        let made = with_list more i answer.edges in
        let same : (k : ℕ) → k < i → more k ≡ made k = λ k lower. sym (with_list-below more i answer.edges k lower) in
        let before = progress_same texts plan last p source old given lists whole distinct later within from begun more made now now i same (λ k d lower. refl) so_far in
        progress_next texts plan last p source old given lists whole distinct later within from begun made now i before n there left right
        (is_left.same ∙ left_of_below [] given more made i same n (IsPlan-ordered plan whole i n there).0)
        (is_right.same ∙ at_child_below [] more made i same (right_child n) (IsPlan-ordered plan whole i n there).1)
        s (ready_in last ready) kept new answer (with_list-at more i answer.edges)
        (subst (λ z. KeepsOn texts left right s new z (right_closing plan.nodes p n) answer) eu (subst (λ z. KeepsOn texts left right s new u z answer) ev on))
        (subst (λ z. StaysReady texts left right s new z (right_closing plan.nodes p n)) eu (subst (λ z. StaysReady texts left right s new u z) ev stays))
        (subst (λ z. IsUndefinedAt texts left right s z (right_closing plan.nodes p n) None) eu (subst (λ z. IsUndefinedAt texts left right s u z None) ev undefined))
        (slice_set now i new)
        (λ k d lower. get_or-set_other now i k new d (λ e. absurd (omega (arith, lower, e))))
        (λ d. get_or-set_same now i new d low)

    -- and the places in what it answers are in the table
    pub answer_placed : (new : Stage) (answer : EdgeListView) → KeepsOn texts left right s new u v answer → StaysReady texts left right s new u v → IsUndefinedAt texts left right s u v None → i < length now →
        EdgesArePlaced texts answer.edges
    answer_placed new answer on stays undefined low =
        let stands = (progress_made new answer on stays undefined low).stand i (omega arith) in
        All-right (λ e. ArePlaced texts e.cells) (lists i) answer.edges (subst (λ es. EdgesArePlaced texts (lists i ++ es)) (with_list-at more i answer.edges) stands.placed)

-- the stages so far are ready, also with the one that took its step
pub ready_next : (texts : List (List ℕ)) (plan : PlanParts) (capacity p : ℕ) (now : List Stage) (i : ℕ) (n : Node) → slice_get plan.nodes i ≡ Some n → (new : Stage) → i < length now →
    ((j : ℕ) (m : Node) (d : Stage) → j < i → slice_get plan.nodes j ≡ Some m → IsReady texts capacity (left_kinds plan m) (right_kinds plan m) m (get_or now j d) (left_closing plan.nodes p m) (right_closing plan.nodes p m)) →
    IsReady texts capacity (left_kinds plan n) (right_kinds plan n) n new (left_closing plan.nodes p n) (right_closing plan.nodes p n) →
    (j : ℕ) (m : Node) (d : Stage) → j < i + 1 → slice_get plan.nodes j ≡ Some m → IsReady texts capacity (left_kinds plan m) (right_kinds plan m) m (get_or (slice_set now i new) j d) (left_closing plan.nodes p m) (right_closing plan.nodes p m)
ready_next texts plan capacity p now i n there new low before here j m d lower at = elim (cases_lt j i) [
  | inl less ↦
      subst (λ s. IsReady texts capacity (left_kinds plan m) (right_kinds plan m) m s (left_closing plan.nodes p m) (right_closing plan.nodes p m)) (sym (get_or-set_other now i j new d (λ e. absurd (omega (arith, less, e))))) (before j m d less at)
  | inr more ↦
      let e : i ≡ j = omega (arith, lower, more) in
      let same : n ≡ m = one_of plan.nodes j n m (subst (λ k. slice_get plan.nodes k ≡ Some n) e there) at in
      subst (λ k. IsReady texts capacity (left_kinds plan m) (right_kinds plan m) m (get_or (slice_set now i new) k d) (left_closing plan.nodes p m) (right_closing plan.nodes p m)) e
      (subst (λ s. IsReady texts capacity (left_kinds plan m) (right_kinds plan m) m s (left_closing plan.nodes p m) (right_closing plan.nodes p m)) (sym (get_or-set_same now i new d low))
      (subst (λ k. IsReady texts capacity (left_kinds plan k) (right_kinds plan k) k new (left_closing plan.nodes p k) (right_closing plan.nodes p k)) same here))
]
  where
    one_of : (nodes : List Node) (k : ℕ) (x y : Node) → slice_get nodes k ≡ Some x → slice_get nodes k ≡ Some y → x ≡ y
    one_of nodes k x y a b = cc

-- the first n nodes have taken their steps
module _ (texts : List (List ℕ)) (plan : PlanParts) (last p n : ℕ) (later : last < p) (after : List Stage) (capacity : ℕ) (each : length after ≡ length plan.nodes) (room : 1 ≤ capacity)
    (ready : (j : ℕ) (m : Node) (d : Stage) → j < n → slice_get plan.nodes j ≡ Some m → IsReady texts capacity (left_kinds plan m) (right_kinds plan m) m (get_or after j d) (left_closing plan.nodes p m) (right_closing plan.nodes p m)) where
  pub can_again : AreReadyBelow texts p n plan after capacity
  can_again = record {
    count = each;
    room = room;
    ready = λ j m s low at here.
        subst (λ x. IsReady texts capacity (left_kinds plan m) (right_kinds plan m) m s x (reached p (right_closing plan.nodes p m))) (sym (reached_after last p (left_closing plan.nodes p m) later))
        (subst (λ y. IsReady texts capacity (left_kinds plan m) (right_kinds plan m) m s (left_closing plan.nodes p m) y) (sym (reached_after last p (right_closing plan.nodes p m) later))
        (subst (λ x. IsReady texts capacity (left_kinds plan m) (right_kinds plan m) m x (left_closing plan.nodes p m) (right_closing plan.nodes p m)) (get_or_from_slice_get after j s s here)
        (ready j m s low at)));
  }

  module _ (source : Sources) (old given lists more : ℕ → List Edge) (so_far : Progress texts plan last p source old given lists more after n) where
    pub flows_again : KeepBelow texts p n (longer old given) (longer lists more) plan after capacity
    flows_again = record {
      can = can_again;
      kept = λ j m s low at here.
          subst (λ x. StageKeeps texts m s x (reached p (right_closing plan.nodes p m)) (left_of [] (longer old given) (longer lists more) m) (right_of [] (longer lists more) m) (longer lists more j)) (sym (reached_after last p (left_closing plan.nodes p m) later))
          (subst (λ y. StageKeeps texts m s (left_closing plan.nodes p m) y (left_of [] (longer old given) (longer lists more) m) (right_of [] (longer lists more) m) (longer lists more j)) (sym (reached_after last p (right_closing plan.nodes p m) later))
          (subst (λ x. StageKeeps texts m x (left_closing plan.nodes p m) (right_closing plan.nodes p m) (left_of [] (longer old given) (longer lists more) m) (right_of [] (longer lists more) m) (longer lists more j)) (get_or_from_slice_get after j s s here)
          (so_far.kept j m s low at)));
    }

    pub has_flowed : (thawed : Bool) (made : List EdgeListView) → ((l : EdgeListView) → plan.root < n → (get_or made plan.root l).edges ≡ more plan.root) →
        HasFlowedBelow texts last p n source old given lists (parts_of plan after capacity thawed) made
    has_flowed thawed made root = record {
      more = more;
      flows = flows_again;
      stand = so_far.stand;
      later = so_far.from;
      defined = none_under source plan.nodes p n so_far.defined;
      root = root;
    }

-- a node failed: those before it stand as they did when it was their turn
module _ (texts : List (List ℕ)) (plan : PlanParts) (whole : IsPlan plan) (last p i : ℕ) (later : last < p) (within : p ≤ inf) (now : List Stage) (new : Stage) (capacity : ℕ) (each : length now ≡ length plan.nodes) (room : 1 ≤ capacity)
    (ready : (j : ℕ) (m : Node) (d : Stage) → j < i → slice_get plan.nodes j ≡ Some m → IsReady texts capacity (left_kinds plan m) (right_kinds plan m) m (get_or now j d) (left_closing plan.nodes p m) (right_closing plan.nodes p m)) where
  others : (j : ℕ) (d : Stage) → j < i → get_or (slice_set now i new) j d ≡ get_or now j d
  others j d low = get_or-set_other now i j new d (λ e. absurd (omega (arith, low, e)))

  ready_others : (j : ℕ) (m : Node) (d : Stage) → j < i → slice_get plan.nodes j ≡ Some m → IsReady texts capacity (left_kinds plan m) (right_kinds plan m) m (get_or (slice_set now i new) j d) (left_closing plan.nodes p m) (right_closing plan.nodes p m)
  ready_others j m d low at =
      subst (λ s. IsReady texts capacity (left_kinds plan m) (right_kinds plan m) m s (left_closing plan.nodes p m) (right_closing plan.nodes p m)) (sym (others j d low)) (ready j m d low at)

  pub stopped_can : AreReadyBelow texts p i plan (slice_set now i new) capacity
  stopped_can = can_again texts plan last p i later (slice_set now i new) capacity (length-set now i new ∙ each) room ready_others

  pub stopped_flow : (thawed : Bool) (source : Sources) (old given lists more : ℕ → List Edge) → AreDistinct texts → SourcesStandRead texts p source (longer old given) → AreFrom last given →
      Progress texts plan last p source old given lists more now i → FlowBelow texts p i old given lists (parts_of plan (slice_set now i new) capacity thawed)
  stopped_flow thawed source old given lists more distinct from begun so_far = record {
    more = more;
    flows = flows_again texts plan last p i later (slice_set now i new) capacity (length-set now i new ∙ each) room ready_others source old given lists more
        (progress_same texts plan last p source old given lists whole distinct later within from begun more more now (slice_set now i new) i (λ k low. refl) others so_far);
  }

-- what the node of number i reads, and what is held then
pub record Reads (texts : List (List ℕ)) (capacity : ℕ) (plan : PlanParts) (i : ℕ) (given more : ℕ → List Edge) (n : Node) (left right : EdgeListView) (streams made : List EdgeListView) : Type 0 where
  pub is_left : IsListWith texts capacity (left_kinds plan n) (left_of [] given more n) left
  pub is_right : IsListWith texts capacity (right_kinds plan n) (right_of [] more n) right
  pub held : HeldBefore texts capacity plan (i + 1) given more streams made

pub reads : (texts : List (List ℕ)) (capacity first second : ℕ) (plan : PlanParts) (i : ℕ) (given more : ℕ → List Edge) (n : Node) → slice_get plan.nodes i ≡ Some n →
    (streams made streams_left made_left made_right : List EdgeListView) (left right : EdgeListView) → first ≡ capacity → second ≡ first → HeldBefore texts capacity plan i given more streams made →
    ((t : List (List ℕ)) (g m : ℕ → List Edge) (k : Node) → HeldBefore t first plan i g m streams made → slice_get plan.nodes i ≡ Some k → IsListWith t first (left_kinds plan k) (left_of [] g m k) left) →
    ((t : List (List ℕ)) (g m : ℕ → List Edge) → HeldBefore t first plan i g m streams made → HeldBetween t first plan i g m streams_left made_left) →
    ((t : List (List ℕ)) (g m : ℕ → List Edge) (ss : List EdgeListView) (k : Node) → HeldBetween t second plan i g m ss made_left → slice_get plan.nodes i ≡ Some k → IsListWith t second (right_kinds plan k) (right_of [] m k) right) →
    ((t : List (List ℕ)) (g m : ℕ → List Edge) (ss : List EdgeListView) → HeldBetween t second plan i g m ss made_left → HeldBefore t second plan (i + 1) g m ss made_right) →
    Reads texts capacity plan i given more n left right streams_left made_right
reads texts capacity first second plan i given more n there streams made streams_left made_left made_right left right e f held list_left held_left list_right held_right =
    let before = subst (λ c. HeldBefore texts c plan i given more streams made) (sym e) held in
    let between = subst (λ c. HeldBetween texts c plan i given more streams_left made_left) (sym f) (held_left texts given more before) in
    record {
      is_left = subst (λ c. IsListWith texts c (left_kinds plan n) (left_of [] given more n) left) e (list_left texts given more n before there);
      is_right = subst (λ c. IsListWith texts c (right_kinds plan n) (right_of [] more n) right) (f ∙ e) (list_right texts given more streams_left n between there);
      held = subst (λ c. HeldBefore texts c plan (i + 1) given more streams_left made_right) (f ∙ e) (held_right texts given more streams_left between);
    }

-- the stage of the node stands as it did at first
pub stage_there : (now first : List Stage) (i : ℕ) (s : Stage) → i < length first → s ≡ get_or now i s → get_or now i s ≡ get_or first i s → slice_get first i ≡ Some s
stage_there now first i s low e f = slice_get-get_or first i s low ∙ ap Some (sym (e ∙ f))

pub node_there : (nodes : List Node) (i : ℕ) → i < length nodes → (n : Node) × (slice_get nodes i ≡ Some n)
node_there nodes i low = (get_or nodes i (Source 0), slice_get-get_or nodes i (Source 0) low)

pub next_progress : (texts : List (List ℕ)) (plan : PlanParts) (last p : ℕ) (source : Sources) (old given lists more : ℕ → List Edge) (stages : List Stage) (i : ℕ) →
    Progress texts plan last p source old given lists more stages (suc i) → Progress texts plan last p source old given lists more stages (i + 1)
next_progress texts plan last p source old given lists more stages i so_far = (let e : suc i ≡ i + 1 = omega arith in subst (Progress texts plan last p source old given lists more stages) e so_far)
