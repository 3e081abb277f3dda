-- One step of each node of a plan, node by node.
use Rattle.std.specs.Prelude.{◌≡◌, ℕ, zero, suc, ◌<◌, ◌≤◌, Option, Some, None, List, [], ◌++◌, get_or, slice_get}
use Rattle.std.proofs.Common.{refl, sym, ap, subst, ◌∙◌, arith, inl, inr}
use Rattle.std.proofs.lemmas.Bool.{cases_lt}
use Rattle.tw_rows.specs.Instant.{inf}
use Rattle.tw_rows.specs.declared.edge.Edge.{Edge}
use Rattle.edge_history.specs.Order.{is_from, failing}
use Rattle.edge_history.proofs.Retaining.{from_zero}
use Rattle.edge_stream.specs.Listing.{EdgeListView, cells_of}
use Rattle.plan_model.specs.declared.node.Node.{Node}
use Rattle.plan_model.specs.IsPlan.{PlanParts, IsPlan}
use Rattle.plan_model.specs.Meaning.{Sources, left_of, right_of, right_child, node_closes, closes, events}
use Rattle.plan_model.proofs.Kept.{IsPlan-ordered}
use Rattle.plan_model.proofs.Plans.{over_nodes-is, left_of_below, at_child_below, left_all, right_all, left_longer, right_longer}
use Rattle.plan_laws.specs.Undefined.{first_undefined}
use Rattle.plan_laws.specs.Places.{AreDistinct}
use Rattle.plan_laws.specs.Standing.{StandsRead, SourcesStandRead, AllStandRead}
use Rattle.plan_laws.proofs.Through.{left_stands, right_stands, node_stands, all_more}
use Rattle.dataflow.specs.declared.stage.Stage.{Stage}
use Rattle.edge_stream.specs.Lists.{longer}
use Rattle.dataflow.specs.Lists.{AreFrom}
use Rattle.dataflow.specs.Stages.{reached, left_closing, right_closing, MayComeUpTo, IsReady, StageKeeps, Takes, KeepsOn, StaysReady, IsUndefinedAt, first_undefined_read}
use Rattle.dataflow.proofs.Rules.{stage_stands}
use Rattle.dataflow.proofs.Undefining.{first_as_read}

reached_same : (last : ℕ) → reached last last ≡ last
reached_same zero = refl
reached_same (suc last) = refl

pub reached_below : (last c d : ℕ) → c ≤ d → reached last c ≤ d
reached_below zero c d low = omega arith
reached_below (suc last) c d low = low

-- what comes from the closing of the sides on comes from that of the node on; before the first punctuation all does
answer_from : (last : ℕ) (n : Node) (x y c : ℕ) (out : List Edge) → c ≡ node_closes n x y → failing (is_from (node_closes n (reached last x) (reached last y))) out ≡ 0 → failing (is_from (reached last c)) out ≡ 0
answer_from zero n x y c out e h = from_zero out
answer_from (suc last) n x y c out e h = subst (λ d. failing (is_from d) out ≡ 0) (sym e) h

module _ (texts : List (List ℕ)) (plan : PlanParts) (last p : ℕ) (source : Sources) (old given lists : ℕ → List Edge) where
  -- the first i nodes have taken their steps: `more` are the edges that they answered
  pub record Progress (more : ℕ → List Edge) (stages : List Stage) (i : ℕ) : Type 0 where
    pub kept : (j : ℕ) (n : Node) (d : Stage) → j < i → slice_get plan.nodes j ≡ Some n →
        StageKeeps texts n (get_or stages j d) (left_closing plan.nodes p n) (right_closing plan.nodes p n)
        (left_of [] (longer old given) (longer lists more) n) (right_of [] (longer lists more) n) (longer lists more j)
    pub stand : AllStandRead texts plan.nodes p source (longer lists more) i
    pub from : (j : ℕ) → j < i → failing (is_from (reached last (closes plan.nodes j last))) (more j) ≡ 0
    pub defined : (j : ℕ) → j < i → first_undefined source plan.nodes j (closes plan.nodes j p) ≡ None

  pub no_progress : (more : ℕ → List Edge) (stages : List Stage) → Progress more stages 0
  no_progress more stages = record {
    kept = λ j n d low there. absurd (omega (arith, low));
    stand = λ j low. absurd (omega (arith, low));
    from = λ j low. absurd (omega (arith, low));
    defined = λ j low. absurd (omega (arith, low));
  }

  module _ (whole : IsPlan plan) (distinct : AreDistinct texts) (later : last < p) (within : p ≤ inf) (from : SourcesStandRead texts p source (longer old given)) (begun : AreFrom last given) where
    -- what later nodes answer does not matter
    pub progress_same : (more made : ℕ → List Edge) (stages after : List Stage) (i : ℕ) → ((k : ℕ) → k < i → more k ≡ made k) → ((k : ℕ) (d : Stage) → k < i → get_or after k d ≡ get_or stages k d) →
        Progress more stages i → Progress made after i
    progress_same more made stages after i same alike so_far = record {
      kept = λ j n d low there.
          let ordered = IsPlan-ordered plan whole j n there in
          let here : (k : ℕ) → k < j → longer lists more k ≡ longer lists made k = λ k lower. ap (λ l. lists k ++ l) (same k (omega (arith, lower, low))) in
          subst (λ s. StageKeeps texts n s (left_closing plan.nodes p n) (right_closing plan.nodes p n) (left_of [] (longer old given) (longer lists made) n) (right_of [] (longer lists made) n) (longer lists made j)) (sym (alike j d low))
          (subst (λ o. StageKeeps texts n (get_or stages j d) (left_closing plan.nodes p n) (right_closing plan.nodes p n) (left_of [] (longer old given) (longer lists made) n) (right_of [] (longer lists made) n) o) (ap (λ l. lists j ++ l) (same j low))
          (subst (λ r. StageKeeps texts n (get_or stages j d) (left_closing plan.nodes p n) (right_closing plan.nodes p n) (left_of [] (longer old given) (longer lists made) n) r (longer lists more j))
          (at_child_below [] (longer lists more) (longer lists made) j here (right_child n) ordered.1)
          (subst (λ l. StageKeeps texts n (get_or stages j d) (left_closing plan.nodes p n) (right_closing plan.nodes p n) l (right_of [] (longer lists more) n) (longer lists more j))
          (left_of_below [] (longer old given) (longer lists more) (longer lists made) j here n ordered.0)
          (so_far.kept j n d low there))));
      stand = λ j low. subst (λ l. StandsRead texts (closes plan.nodes j p) l (events source plan.nodes j)) (ap (λ l. lists j ++ l) (same j low)) (so_far.stand j low);
      from = λ j low. subst (λ l. failing (is_from (reached last (closes plan.nodes j last))) l ≡ 0) (same j low) (so_far.from j low);
      defined = so_far.defined;
    }

    -- the node of number i, once those before it have taken their steps
    module _ (more : ℕ → List Edge) (stages : List Stage) (i : ℕ) (so_far : Progress more stages i) (n : Node) (there : slice_get plan.nodes i ≡ Some n) where
      stands_left : StandsRead texts (left_closing plan.nodes p n) (left_of [] (longer old given) (longer lists more) n) (left_of [] source (events source plan.nodes) n)
      stands_left = left_stands texts plan.nodes (IsPlan-ordered plan whole) p source (longer old given) (longer lists more) from i n there so_far.stand

      stands_right : StandsRead texts (right_closing plan.nodes p n) (right_of [] (longer lists more) n) (right_of [] (events source plan.nodes) n)
      stands_right = right_stands texts plan.nodes (IsPlan-ordered plan whole) p source (longer old given) (longer lists more) from i n there so_far.stand

      comes_left : MayComeUpTo texts (reached last (left_closing plan.nodes last n)) (left_closing plan.nodes p n) (left_of [] old lists n) (left_of [] given more n)
      comes_left =
          let s = subst (λ h. StandsRead texts (left_closing plan.nodes p n) h (left_of [] source (events source plan.nodes) n)) (left_longer old given lists more n) stands_left in
          record {
            low = s.known.low;
            may = record {
              history = s.history;
              placed = s.placed;
              from = left_all (λ (c : ℕ) (es : List Edge) (z : ℕ). failing (is_from (reached last c)) es ≡ 0) inf [] 0 (λ k. last) given (λ k. 0) (λ k. closes plan.nodes k last) more (λ k. 0) i n
                  (IsPlan-ordered plan whole i n there).0 (λ k. subst (λ c. failing (is_from c) (given k) ≡ 0) (sym (reached_same last)) (begun k)) so_far.from;
            };
            below = s.below;
          }

      comes_right : MayComeUpTo texts (reached last (right_closing plan.nodes last n)) (right_closing plan.nodes p n) (right_of [] lists n) (right_of [] more n)
      comes_right =
          let s = subst (λ h. StandsRead texts (right_closing plan.nodes p n) h (right_of [] (events source plan.nodes) n)) (right_longer lists more n) stands_right in
          record {
            low = s.known.low;
            may = record {
              history = s.history;
              placed = s.placed;
              from = right_all (λ (c : ℕ) (es : List Edge) (z : ℕ). failing (is_from (reached last c)) es ≡ 0) inf [] 0 (λ k. closes plan.nodes k last) more (λ k. 0) i n
                  (IsPlan-ordered plan whole i n there).1 refl so_far.from;
            };
            below = s.below;
          }

      module _ (left right : EdgeListView) (same_left : left.edges ≡ left_of [] given more n) (same_right : right.edges ≡ right_of [] more n) (s : Stage)
          (ready : IsReady texts left.capacity (cells_of left) (cells_of right) n s (reached last (left_closing plan.nodes last n)) (reached last (right_closing plan.nodes last n)))
          (kept : StageKeeps texts n s (reached last (left_closing plan.nodes last n)) (reached last (right_closing plan.nodes last n)) (left_of [] old lists n) (right_of [] lists n) (lists i)) where
        takes : Takes texts left right s (left_closing plan.nodes p n) (right_closing plan.nodes p n) n (reached last (left_closing plan.nodes last n)) (reached last (right_closing plan.nodes last n)) (left_of [] old lists n) (right_of [] lists n) (lists i)
        takes = record {
          ready = ready;
          kept = kept;
          on_left = subst (λ l. MayComeUpTo texts (reached last (left_closing plan.nodes last n)) (left_closing plan.nodes p n) (left_of [] old lists n) l) (sym same_left) comes_left;
          on_right = subst (λ l. MayComeUpTo texts (reached last (right_closing plan.nodes last n)) (right_closing plan.nodes p n) (right_of [] lists n) l) (sym same_right) comes_right;
        }

        -- where it is undefined
        pub first_found : (found : Option ℕ) → IsUndefinedAt texts left right s (left_closing plan.nodes p n) (right_closing plan.nodes p n) found →
            first_undefined source plan.nodes i (closes plan.nodes i p) ≡ found
        first_found found h =
            let at = h n (reached last (left_closing plan.nodes last n)) (reached last (right_closing plan.nodes last n)) (left_of [] old lists n) (right_of [] lists n) (lists i) distinct takes in
            first_as_read texts plan whole p within source i n there (left_of [] (longer old given) (longer lists more) n) stands_left found
            (subst (λ es. first_undefined_read texts n es (node_closes n (left_closing plan.nodes p n) (right_closing plan.nodes p n)) ≡ found) (ap (λ l. left_of [] old lists n ++ l) same_left ∙ sym (left_longer old given lists more n)) at)

        -- what it answers
        module _ (new : Stage) (answer : EdgeListView) (same_answer : more i ≡ answer.edges)
            (on : KeepsOn texts left right s new (left_closing plan.nodes p n) (right_closing plan.nodes p n) answer) (stays : StaysReady texts left right s new (left_closing plan.nodes p n) (right_closing plan.nodes p n))
            (undefined : IsUndefinedAt texts left right s (left_closing plan.nodes p n) (right_closing plan.nodes p n) None) where
          told : StageKeeps texts n new (left_closing plan.nodes p n) (right_closing plan.nodes p n) (left_of [] old lists n ++ left.edges) (right_of [] lists n ++ right.edges) (lists i ++ answer.edges)
              × (failing (is_from (node_closes n (reached last (left_closing plan.nodes last n)) (reached last (right_closing plan.nodes last n)))) answer.edges ≡ 0)
          told = on n (reached last (left_closing plan.nodes last n)) (reached last (right_closing plan.nodes last n)) (left_of [] old lists n) (right_of [] lists n) (lists i) takes

          keeps_now : StageKeeps texts n new (left_closing plan.nodes p n) (right_closing plan.nodes p n) (left_of [] (longer old given) (longer lists more) n) (right_of [] (longer lists more) n) (longer lists more i)
          keeps_now =
              subst (λ l. StageKeeps texts n new (left_closing plan.nodes p n) (right_closing plan.nodes p n) l (right_of [] (longer lists more) n) (longer lists more i)) (ap (λ l. left_of [] old lists n ++ l) same_left ∙ sym (left_longer old given lists more n))
              (subst (λ r. StageKeeps texts n new (left_closing plan.nodes p n) (right_closing plan.nodes p n) (left_of [] old lists n ++ left.edges) r (longer lists more i)) (ap (λ l. right_of [] lists n ++ l) same_right ∙ sym (right_longer lists more n))
              (subst (λ o. StageKeeps texts n new (left_closing plan.nodes p n) (right_closing plan.nodes p n) (left_of [] old lists n ++ left.edges) (right_of [] lists n ++ right.edges) o) (ap (λ l. lists i ++ l) (sym same_answer)) told.0))

          stands_now : StandsRead texts (closes plan.nodes i p) (longer lists more i) (events source plan.nodes i)
          stands_now =
              node_stands texts plan.nodes (IsPlan-ordered plan whole) p source (longer old given) (longer lists more) from i n there so_far.stand
              (stage_stands texts distinct left.capacity (cells_of left) (cells_of right) n new (left_closing plan.nodes p n) (right_closing plan.nodes p n)
              (stays.stays n (reached last (left_closing plan.nodes last n)) (reached last (right_closing plan.nodes last n)) ready)
              (left_of [] (longer old given) (longer lists more) n) (right_of [] (longer lists more) n) (longer lists more i) keeps_now)

          from_now : failing (is_from (reached last (closes plan.nodes i last))) (more i) ≡ 0
          from_now =
              subst (λ l. failing (is_from (reached last (closes plan.nodes i last))) l ≡ 0) (sym same_answer)
              (answer_from last n (left_closing plan.nodes last n) (right_closing plan.nodes last n) (closes plan.nodes i last) answer.edges (over_nodes-is inf (λ k. last) node_closes plan.nodes (IsPlan-ordered plan whole) i n there) told.1)

          -- the nodes up to it have taken their steps
          pub progress_next : (after : List Stage) → ((k : ℕ) (d : Stage) → k < i → get_or after k d ≡ get_or stages k d) → ((d : Stage) → get_or after i d ≡ new) → Progress more after (suc i)
          progress_next after alike here = record {
            kept = λ j m d low at. elim (cases_lt j i) [
              | inl before ↦
                  subst (λ x. StageKeeps texts m x (left_closing plan.nodes p m) (right_closing plan.nodes p m) (left_of [] (longer old given) (longer lists more) m) (right_of [] (longer lists more) m) (longer lists more j)) (sym (alike j d before))
                  (so_far.kept j m d before at)
              | inr other ↦
                  let e : i ≡ j = omega (arith, low, other) in
                  let same : n ≡ m = one_of plan.nodes j n m (subst (λ k. slice_get plan.nodes k ≡ Some n) e there) at in
                  subst (λ k. StageKeeps texts m (get_or after k d) (left_closing plan.nodes p m) (right_closing plan.nodes p m) (left_of [] (longer old given) (longer lists more) m) (right_of [] (longer lists more) m) (longer lists more k)) e
                  (subst (λ k. StageKeeps texts k (get_or after i d) (left_closing plan.nodes p k) (right_closing plan.nodes p k) (left_of [] (longer old given) (longer lists more) k) (right_of [] (longer lists more) k) (longer lists more i)) same
                  (subst (λ x. StageKeeps texts n x (left_closing plan.nodes p n) (right_closing plan.nodes p n) (left_of [] (longer old given) (longer lists more) n) (right_of [] (longer lists more) n) (longer lists more i)) (sym (here d)) keeps_now))
            ];
            stand = all_more texts plan.nodes p source (longer lists more) i so_far.stand stands_now;
            from = λ j low. elim (cases_lt j i) [
              | inl before ↦ so_far.from j before
              | inr other ↦ (let e : i ≡ j = omega (arith, low, other) in subst (λ k. failing (is_from (reached last (closes plan.nodes k last))) (more k) ≡ 0) e from_now)
            ];
            defined = λ j low. elim (cases_lt j i) [
              | inl before ↦ so_far.defined j before
              | inr other ↦ (let e : i ≡ j = omega (arith, low, other) in subst (λ k. first_undefined source plan.nodes k (closes plan.nodes k p) ≡ None) e (first_found None undefined))
            ];
          }
            where
              one_of : (nodes : List Node) (k : ℕ) (x y : Node) → slice_get nodes k ≡ Some x → slice_get nodes k ≡ Some y → x ≡ y
              one_of nodes k x y a b = cc
