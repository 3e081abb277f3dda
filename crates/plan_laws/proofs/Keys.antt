-- The key law: a node with keys, by shards.
use Rattle.std.specs.Prelude.{◌≡◌, ℕ, zero, suc, ◌<◌, nat_eq, nat_lt, Bool, true, false, cond, ◌||◌, IsTrue, List, [], ◌∷◌, ◌++◌, map, filter, refl}
use Rattle.std.specs.List.{list_any}
use Rattle.std.proofs.Common.{sym, ◌∙◌, ap}
use Rattle.std.proofs.lemmas.List.Folds.{list_any-append}
use Rattle.std.proofs.lemmas.Bool.{eqb-true, eq-eqb}
use Rattle.tw_rows.specs.Bag.{SameBag}
use Rattle.tw_rows.specs.Event.{Event, lives_at, alive}
use Rattle.tw_rows.proofs.Bags.{total-filter, SameBag-refl}
use Rattle.key_nodes.specs.Runs.{Tells}
use Rattle.key_nodes.specs.Groups.{has_key}
use Rattle.key_nodes.specs.Sessions.{sessions}
use Rattle.key_nodes.specs.Shards.{of_shard, over_shards}
use Rattle.key_nodes.proofs.Bags.{any_of_same}
use Rattle.key_nodes.proofs.Shards.{split_sum, sum_same, total-over_shards, filter_both, alone_shards, joined_shards, clipped_shards, sessions_shards, grouped_shards}
use Rattle.plan_model.specs.declared.agg.Agg.{Agg}
use Rattle.plan_model.specs.declared.node.Node.{Node}
use Rattle.plan_model.specs.declared.node.Node.TheVariants.{Source, Where, Select, Union, Delay, Hop, Duration, Extend, Session, Clip, Group, Join, Anti, Coalesce, Mean, Top, Follow}
use Rattle.plan_model.specs.RowOps.{RowOps, key_in, keys_equal_in, rows_of_key_in, row_of_group_in, is_undefined_group_in, is_undefined_in}
use Rattle.plan_model.specs.Keys.{paired_row}
use Rattle.plan_model.specs.Nodes.{node_in}
use Rattle.plan_laws.specs.Shards.{left_key_of, right_key_of, is_keyed, any_shard, rows_of_shard}
use Rattle.plan_model.proofs.Aggregates.{row_of_group_is}
use Rattle.plan_laws.proofs.Maps.{filter_to}

pub over_none : {X : Type 0} (n : ℕ) → over_shards {X = X} (λ s. []) n ≡ []
over_none zero = refl
over_none {X} (suc n) = ap (λ l. l ++ []) (over_none {X = X} n)

-- the rows are those of all shards together
rows_split : {R : Type 0} (shard : R → ℕ) (n : ℕ) → ((r : R) → shard r < n) → (rows : List R) → SameBag rows (over_shards (λ s. rows_of_shard shard s rows) n)
rows_split shard n low rows = record {
  weigh = λ w.
      split_sum shard n low w rows
      ∙ (sum_same _ _ n (λ s. sym (total-filter w (λ r. nat_eq (shard r) s) rows))
      ∙ sym (total-over_shards w (λ s. rows_of_shard shard s rows) n));
}

any_over : {R : Type 0} (p : R → Bool) (f : ℕ → List R) (n : ℕ) → list_any p (over_shards f n) ≡ any_shard (λ s. list_any p (f s)) n
any_over p f zero = refl
any_over p f (suc n) = list_any-append p (over_shards f n) (f n) ∙ ap (λ b. b || list_any p (f n)) (any_over p f n)

any_where : {R : Type 0} (p q t : R → Bool) (rows : List R) → ((r : R) → t r ≡ true → p r ≡ q r) → list_any p (filter t rows) ≡ list_any q (filter t rows)
any_where p q t [] h = refl
any_where p q t (r ∷ rows) h = pick (t r) (h r) (any_where p q t rows h)
  where
    pick : (b : Bool) → (b ≡ true → p r ≡ q r) → list_any p (filter t rows) ≡ list_any q (filter t rows) →
        list_any p (cond b (r ∷ filter t rows) (filter t rows)) ≡ list_any q (cond b (r ∷ filter t rows) (filter t rows))
    pick true same rest = ap (λ b. b || list_any p (filter t rows)) (same refl) ∙ ap (λ b. q r || b) rest
    pick false same rest = rest

swap_filters : {X : Type 0} (p q : X → Bool) (xs : List X) → filter p (filter q xs) ≡ filter q (filter p xs)
swap_filters p q [] = refl
swap_filters p q (x ∷ xs) = both (p x) (q x) refl refl (swap_filters p q xs)
  where
    both : (a b : Bool) → p x ≡ a → q x ≡ b → filter p (filter q xs) ≡ filter q (filter p xs) →
        filter p (cond b (x ∷ filter q xs) (filter q xs)) ≡ filter q (cond a (x ∷ filter p xs) (filter p xs))
    both true true h k rest = rw (h, k) (ap (λ l. x ∷ l) rest)
    both true false h k rest = rw (k) rest
    both false true h k rest = rw (h) rest
    both false false h k rest = rest

-- what is alive of a shard's events are the rows of the shard that are alive
alive_shard : {R : Type 0} (shard : R → ℕ) (s : ℕ) (es : List (Event R)) (t : ℕ) → alive (of_shard shard s es) t ≡ rows_of_shard shard s (alive es t)
alive_shard shard s es t =
    ap (map (λ e. e.row)) (swap_filters (lives_at t) (λ e. nat_eq (shard e.row) s) es)
    ∙ sym (filter_to (λ e. e.row) (λ e. nat_eq (shard e.row) s) (λ r. nat_eq (shard r) s) (λ e. refl) (filter (lives_at t) es))

any_shard_same : (p q : ℕ → Bool) (n : ℕ) → ((s : ℕ) → p s ≡ q s) → any_shard p n ≡ any_shard q n
any_shard_same p q zero h = refl
any_shard_same p q (suc n) h = ap (λ b. b || p n) (any_shard_same p q n h) ∙ ap (λ b. any_shard q n || b) (h n)

module _ {X : Type 0} (ops : RowOps X) (tells : Tells ops.same) (shard : List X → ℕ) (n : ℕ) (low : (k : List X) → shard k < n) where
  -- the shard of a row, by the key columns
  abbrev pub by_key : List ℕ → List X → ℕ
  by_key key r = shard (key_in ops key r)

  meet_alike : (left_key right_key : List ℕ) (a b : List X) → IsTrue (keys_equal_in ops left_key right_key a b) → by_key left_key a ≡ by_key right_key b
  meet_alike left_key right_key a b h = ap shard ((tells (key_in ops left_key a) (key_in ops right_key b)).0 h)

  session_shards : (timeout : ℕ) (key : List ℕ) (a : List (Event (List X))) (t : Bool) →
      SameBag (cond t (sessions (key_in ops key) ops.same timeout a) []) (over_shards (λ s. cond t (sessions (key_in ops key) ops.same timeout (of_shard (by_key key) s a)) []) n)
  session_shards timeout key a true = sessions_shards (key_in ops key) ops.same tells shard n low timeout a
  session_shards timeout key a false = rw (over_none {X = Event (List X)} n) (SameBag-refl [])

  -- the key law
  pub node_shards : (node : Node) (a b : List (Event (List X))) → is_keyed node ≡ true →
      SameBag (node_in ops node a b)
      (over_shards (λ s. node_in ops node (of_shard (by_key (left_key_of node)) s a) (of_shard (by_key (right_key_of node)) s b)) n)
  node_shards (Source stream) a b h = absurd (cc)
  node_shards (Where of test) a b h = absurd (cc)
  node_shards (Select of items) a b h = absurd (cc)
  node_shards (Union left right) a b h = absurd (cc)
  node_shards (Delay of by) a b h = absurd (cc)
  node_shards (Hop of size period) a b h = absurd (cc)
  node_shards (Duration of by) a b h = absurd (cc)
  node_shards (Extend of by) a b h = absurd (cc)
  node_shards (Coalesce of) a b h = absurd (cc)
  node_shards (Mean of at) a b h = absurd (cc)
  node_shards (Top of key by count) a b h = absurd (cc)
  node_shards (Follow left right left_key right_key within) a b h = absurd (cc)
  node_shards (Session of timeout key) a b h = session_shards timeout key a (nat_lt 0 timeout)
  node_shards (Clip left right left_key right_key) a b h = clipped_shards (keys_equal_in ops left_key right_key) (by_key left_key) (by_key right_key) n (meet_alike left_key right_key) (λ l. low (key_in ops left_key l)) a b
  node_shards (Group of key aggs) a b h = grouped_shards (key_in ops key) ops.same ops.same (row_of_group_in ops key aggs) tells (row_of_group_is ops key aggs) shard n low a
  node_shards (Join left right left_key right_key) a b h = joined_shards (keys_equal_in ops left_key right_key) (by_key left_key) (by_key right_key) n (meet_alike left_key right_key) (λ l. low (key_in ops left_key l)) (paired_row right_key) a b
  node_shards (Anti left right left_key right_key) a b h = alone_shards (keys_equal_in ops left_key right_key) (by_key left_key) (by_key right_key) n (meet_alike left_key right_key) (λ l. low (key_in ops left_key l)) ops.same a b

  -- the undefined instants of a group are those of its shards together
  pub undefined_shards : (key : List ℕ) (aggs : List Agg) (rows : List (List X)) →
      is_undefined_in ops key aggs rows ≡ any_shard (λ s. is_undefined_in ops key aggs (rows_of_shard (by_key key) s rows)) n
  undefined_shards key aggs rows =
      any_of_same p rows (over_shards (λ s. rows_of_shard (by_key key) s rows) n) (rows_split (by_key key) n (λ r. low (key_in ops key r)) rows)
      ∙ (any_over p (λ s. rows_of_shard (by_key key) s rows) n
      ∙ any_shard_same _ _ n (λ s. any_where p (q s) (λ r. nat_eq (by_key key r) s) rows (λ r t. sym (alike s r (eqb-true (by_key key r) s t)))))
    where
      p : List X → Bool
      p r = is_undefined_group_in ops aggs (rows_of_key_in ops key (key_in ops key r) rows)

      q : ℕ → List X → Bool
      q s r = is_undefined_group_in ops aggs (rows_of_key_in ops key (key_in ops key r) (rows_of_shard (by_key key) s rows))

      alike : (s : ℕ) (r : List X) → by_key key r ≡ s → q s r ≡ p r
      alike s r is = ap (is_undefined_group_in ops aggs) (filter_both (has_key (key_in ops key) ops.same (key_in ops key r)) (λ x. nat_eq (by_key key x) s) rows
          (λ x k. eq-eqb (by_key key x) s (sym (ap shard ((tells (key_in ops key r) (key_in ops key x)).0 k)) ∙ is)))

  pub undefined_instants : (key : List ℕ) (aggs : List Agg) (a : List (Event (List X))) (t : ℕ) →
      is_undefined_in ops key aggs (alive a t) ≡ any_shard (λ s. is_undefined_in ops key aggs (alive (of_shard (by_key key) s a) t)) n
  undefined_instants key aggs a t =
      undefined_shards key aggs (alive a t)
      ∙ any_shard_same _ _ n (λ s. ap (is_undefined_in ops key aggs) (sym (alive_shard (by_key key) s a t)))
