-- Parts that were put in a row, apart again.
use Rattle.std.proofs.Common.{◌≡◌, ℕ, suc, List, [], ◌∷◌, ◌++◌, length, map, take, drop, refl, sym, ◌∙◌, ap, subst, append_assoc}
use Rattle.std.proofs.Math.Seq.{take-append_seam, drop-append_seam}
use Rattle.tw_rows.specs.Bag.{total}
use Rattle.edge_stream.specs.declared.saved.SavedEntry.{SavedEntry}
use Rattle.plan_model.specs.IsPlan.{PlanParts}
use Rattle.frozen_state.specs.declared.owner.Owner.TheVariants as owners
use Rattle.frozen_state.specs.declared.frozen.FrozenPart.{FrozenPart}
use Rattle.tempo_engine.specs.Kept.{KeptView, first_saved, shared_out, node_counts, kept_of, shard_row, node_row, frozen_of}
use Rattle.tempo_engine.proofs.Sharing.{drop_drop}

-- the parts of a node
row_many : (node shard : ℕ) (es : List (List SavedEntry)) → length (shard_row node shard es) ≡ length es
row_many node shard [] = refl
row_many node shard (e ∷ es) = ap suc (row_many node (suc shard) es)

row_saved : (node shard : ℕ) (es : List (List SavedEntry)) → map (λ p. p.saved) (shard_row node shard es) ≡ es
row_saved node shard [] = refl
row_saved node shard (e ∷ es) = ap (λ l. e ∷ l) (row_saved node (suc shard) es)

module _ (node n : ℕ) (es : List (List SavedEntry)) (rest : List FrozenPart) (many : length es ≡ n) where
  long : length (shard_row node 0 es) ≡ n
  long = row_many node 0 es ∙ many

  node_first : map (λ p. p.saved) (take n (shard_row node 0 es ++ rest)) ≡ es
  node_first = ap (λ k. map (λ p. p.saved) (take k (shard_row node 0 es ++ rest))) (sym long)
      ∙ ap (λ l. map (λ p. p.saved) l) (take-append_seam (shard_row node 0 es) rest) ∙ row_saved node 0 es

  node_behind : drop n (shard_row node 0 es ++ rest) ≡ rest
  node_behind = ap (λ k. drop k (shard_row node 0 es ++ rest)) (sym long) ∙ drop-append_seam (shard_row node 0 es) rest

-- and of all
nodes_back : (node : ℕ) (nodes : List (List (List SavedEntry))) (rest : List FrozenPart) → shared_out (map (λ es. length es) nodes) (node_row node nodes ++ rest) ≡ nodes
nodes_back node [] rest = refl
nodes_back node (es ∷ nodes) rest =
    rw (append_assoc (shard_row node 0 es) (node_row (suc node) nodes) rest)
    (rw (node_first node (length es) es (node_row (suc node) nodes ++ rest) refl, node_behind node (length es) es (node_row (suc node) nodes ++ rest) refl)
    (ap (λ l. es ∷ l) (nodes_back (suc node) nodes rest)))

nodes_behind : (node : ℕ) (nodes : List (List (List SavedEntry))) (rest : List FrozenPart) → drop (total (λ k. k) (map (λ es. length es) nodes)) (node_row node nodes ++ rest) ≡ rest
nodes_behind node [] rest = refl
nodes_behind node (es ∷ nodes) rest =
    sym (drop_drop (length es) (total (λ k. k) (map (λ es. length es) nodes)) _)
    ∙ ap (λ l. drop (total (λ k. k) (map (λ es. length es) nodes)) (drop (length es) l)) (append_assoc (shard_row node 0 es) (node_row (suc node) nodes) rest)
    ∙ ap (λ l. drop (total (λ k. k) (map (λ es. length es) nodes)) l) (node_behind node (length es) es (node_row (suc node) nodes ++ rest) refl)
    ∙ nodes_behind (suc node) nodes rest

-- what was put in a row is apart what it was, where each node has as many parts as in the plan
pub kept_back : (workers : ℕ) (plan : PlanParts) (lines : ℕ) (texts : List (List ℕ)) (k : KeptView) → map (λ es. length es) k.nodes ≡ node_counts workers plan →
    kept_of workers plan (frozen_of lines texts k) ≡ k
kept_back workers plan lines texts k many =
    let rest = record { owner = owners.Out; shard = 0; saved = k.output } ∷ [] in
    let nodes : shared_out (node_counts workers plan) (node_row 0 k.nodes ++ rest) ≡ k.nodes = subst (λ cs. shared_out cs (node_row 0 k.nodes ++ rest) ≡ k.nodes) many (nodes_back 0 k.nodes rest) in
    let behind : drop (total (λ k. k) (node_counts workers plan)) (node_row 0 k.nodes ++ rest) ≡ rest = subst (λ cs. drop (total (λ k. k) cs) (node_row 0 k.nodes ++ rest) ≡ rest) many (nodes_behind 0 k.nodes rest) in
    ap (λ (ns : List (List (List SavedEntry))). record { last = k.last; bounds = k.bounds; marks = k.marks; input = k.input; nodes = ns; output = first_saved (drop (total (λ k. k) (node_counts workers plan)) (node_row 0 k.nodes ++ rest)) }) nodes
    ∙ ap (λ (r : List FrozenPart). record { last = k.last; bounds = k.bounds; marks = k.marks; input = k.input; nodes = k.nodes; output = first_saved r }) behind
