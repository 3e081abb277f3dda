-- What is known of a node's events depends on what is known of its children's, over rows of any kind.
use Rattle.std.specs.Prelude.{◌≡◌, ℕ, ◌≤◌, min, Bool, true, false, cond, List, [], ◌∷◌, filter, refl}
use Rattle.std.proofs.Common.{sym, ◌∙◌, arith, add-zero}
use Rattle.std.proofs.lemmas.Bool.Decides.{nat_tests}
use Rattle.tw_rows.specs.Instant.{inf}
use Rattle.tw_rows.specs.Bag.{total, SameBag}
use Rattle.tw_rows.specs.Event.{Event, alive, AreEvents, cut_one, cut, Known}
use Rattle.tw_rows.proofs.Bags.{total-map, total-filter, total_same, SameBag-append}
use Rattle.tw_rows.proofs.Lives.{alive_known, cut-append, AreEvents-append, causal_from_one}
use Rattle.key_nodes.specs.Runs.{Tells}
use Rattle.key_nodes.proofs.Clipping.{clipped_known}
use Rattle.key_nodes.proofs.Grouping.{grouped_known}
use Rattle.key_nodes.proofs.Alone.{alone_known}
use Rattle.key_nodes.proofs.Topping.{coalesced_known_of, top_known}
use Rattle.key_nodes.proofs.Following.{followed_known}
use Rattle.plan_model.specs.declared.node.Node.{Node}
use Rattle.plan_model.specs.declared.node.Node.TheVariants.{Source, Where, Select, Union, Delay, Hop, Duration, Extend, Session, Clip, Group, Join, Anti, Coalesce, Mean, Top, Follow}
use Rattle.plan_model.specs.Keys.{paired_row}
use Rattle.plan_model.specs.Meaning.{node_closes}
use Rattle.plan_model.specs.Means.{mean_row}
use Rattle.plan_model.specs.Nodes.{event_to, events_to, node_in}
use Rattle.plan_model.specs.RowOps.{RowOps, key_in, keys_equal_in, int_in, row_of_group_in}
use Rattle.plan_model.proofs.Aggregates.{row_of_group_is}
use Rattle.plan_model.proofs.Joining.{Known-joined}
use Rattle.plan_model.proofs.NewLives.{Known-moved, Known-hopped, Known-lasting, Known-extended, Known-in_sessions}

module _ {X : Type 0} (ops : RowOps X) where
  filtered_by_one : (p : List X → Bool) (v : Event (List X) → ℕ) (es : List (Event (List X))) → total v (filter (λ e. p e.row) es) ≡ total (λ e. total v (cond (p e.row) (e ∷ []) [])) es
  filtered_by_one p v es = total-filter v (λ e. p e.row) es ∙ total_same _ _ es (λ e. one (p e.row) e)
    where
      one : (b : Bool) (e : Event (List X)) → cond b (v e) 0 ≡ total v (cond b (e ∷ []) [])
      one true e = sym (add-zero (v e))
      one false e = refl

  filtered_known : (v : Event (List X) → ℕ) (p : List X → Bool) (c : ℕ) (e : Event (List X)) → total v (cut c (cond (p e.row) (e ∷ []) [])) ≡ total (λ x. total v (cut c (cond (p x.row) (x ∷ []) []))) (cut_one c e)
  filtered_known v p c e = grind (arith, nat_tests)

  pub AreEvents-filter : (p : List X → Bool) (es : List (Event (List X))) → AreEvents es → AreEvents (filter (λ e. p e.row) es)
  AreEvents-filter p [] v = tt
  AreEvents-filter p (e ∷ es) v = pick (p e.row) (AreEvents-filter p es v.2)
    where
      pick : (b : Bool) → AreEvents (filter (λ e. p e.row) es) → AreEvents (cond b (e ∷ filter (λ e. p e.row) es) (filter (λ e. p e.row) es))
      pick true rest = (v.0, v.1, rest)
      pick false rest = rest

  mapped_known : (v : Event (List X) → ℕ) (f : List X → List X) (c : ℕ) (e : Event (List X)) → total v (cut c (event_to f e ∷ [])) ≡ total (λ x. total v (cut c (event_to f x ∷ []))) (cut_one c e)
  mapped_known v f c e = grind (arith, nat_tests)

  AreEvents-mapped : (f : List X → List X) (es : List (Event (List X))) → AreEvents es → AreEvents (events_to f es)
  AreEvents-mapped f [] v = tt
  AreEvents-mapped f (e ∷ es) v = (v.0, v.1, AreEvents-mapped f es v.2)

  Known-mapped : (f : List X → List X) (c : ℕ) (a b : List (Event (List X))) → Known c a b → Known c (events_to f a) (events_to f b)
  Known-mapped f c a b h = record {
    low = h.low;
    left_valid = AreEvents-mapped f a h.left_valid;
    right_valid = AreEvents-mapped f b h.right_valid;
    same = causal_from_one (events_to f) (λ e. event_to f e ∷ []) c c (λ v es. total-map v (event_to f) es ∙ total_same _ _ es (λ e. sym (add-zero (v (event_to f e))))) (λ v e _. mapped_known v f c e) a b h.left_valid h.right_valid h.same;
  }

  less_known : (v : Event (List X) → ℕ) (c d : ℕ) (e : Event (List X)) → d ≤ c → c ≤ inf → total v (cut d (e ∷ [])) ≡ total (λ x. total v (cut d (x ∷ []))) (cut_one c e)
  less_known v c d e low high = grind (arith, nat_tests)

  -- what is known below a time is known below each lower one
  pub cut_less : (c d : ℕ) (a b : List (Event (List X))) → d ≤ c → c ≤ inf → AreEvents a → AreEvents b → SameBag (cut c a) (cut c b) → SameBag (cut d a) (cut d b)
  cut_less c d a b low high = causal_from_one (λ es. es) (λ e. e ∷ []) c d (λ v es. total_same _ _ es (λ e. sym (add-zero (v e)))) (λ v e _. less_known v c d e low high) a b

  pub node_in_known : Tells ops.same → (n : Node) (x y : ℕ) (a b c d : List (Event (List X))) → Known x a c → Known y b d → Known (node_closes n x y) (node_in ops n a b) (node_in ops n c d)
  node_in_known tells (Source stream) x y a b c d h k = h
  node_in_known tells (Where of test) x y a b c d h k = record {
    low = h.low;
    left_valid = AreEvents-filter (ops.holds test) a h.left_valid;
    right_valid = AreEvents-filter (ops.holds test) c h.right_valid;
    same = causal_from_one (filter (λ e. ops.holds test e.row)) (λ e. cond (ops.holds test e.row) (e ∷ []) []) x x (filtered_by_one (ops.holds test)) (λ v e _. filtered_known v (ops.holds test) x e) a c h.left_valid h.right_valid h.same;
  }
  node_in_known tells (Select of items) x y a b c d h k = Known-mapped (ops.select items) x a c h
  node_in_known tells (Union left right) x y a b c d h k = record {
    low = (let below = h.low in omega arith);
    left_valid = AreEvents-append a b h.left_valid k.left_valid;
    right_valid = AreEvents-append c d h.right_valid k.right_valid;
    same = rw (cut-append (min x y) a b, cut-append (min x y) c d)
        (SameBag-append _ _ _ _ (cut_less x (min x y) a c (omega arith) h.low h.left_valid h.right_valid h.same) (cut_less y (min x y) b d (omega arith) k.low k.left_valid k.right_valid k.same));
  }
  node_in_known tells (Delay of by) x y a b c d h k = Known-moved by x a c h
  node_in_known tells (Hop of size period) x y a b c d h k = Known-hopped size period x a c h
  node_in_known tells (Duration of by) x y a b c d h k = Known-lasting by x a c h
  node_in_known tells (Extend of by) x y a b c d h k = Known-extended by x a c h
  node_in_known tells (Session of timeout key) x y a b c d h k = Known-in_sessions (key_in ops key) ops.same timeout x a c h
  node_in_known tells (Clip left right left_key right_key) x y a b c d h k = clipped_known (keys_equal_in ops left_key right_key) x y a c b d h k
  node_in_known tells (Group of key aggs) x y a b c d h k = grouped_known (key_in ops key) ops.same ops.same (row_of_group_in ops key aggs) tells (row_of_group_is ops key aggs) x a c h
  node_in_known tells (Join left right left_key right_key) x y a b c d h k = Known-joined (keys_equal_in ops left_key right_key) (paired_row right_key) x y a c b d h k
  node_in_known tells (Anti left right left_key right_key) x y a b c d h k = alone_known ops.same (keys_equal_in ops left_key right_key) x y a c b d h k
  node_in_known tells (Coalesce of) x y a b c d h k = coalesced_known_of ops.same (alive a) (alive c) x tells h.low (λ t early. alive_known x t a c early h.low h.same)
  node_in_known tells (Mean of at) x y a b c d h k = Known-mapped (mean_row ops at) x a c h
  node_in_known tells (Top of key by count) x y a b c d h k = top_known (keys_equal_in ops key key) (int_in ops by) count ops.same tells x a c h
  node_in_known tells (Follow left right left_key right_key within) x y a b c d h k = followed_known (keys_equal_in ops left_key right_key) (paired_row right_key) within x y a c b d h k
