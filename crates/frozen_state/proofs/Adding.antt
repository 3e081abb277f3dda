-- Forms and entries that are added.
use Rattle.std.proofs.Common.{◌≡◌, ◌<◌, ◌+◌, ◌-◌, ℕ, zero, suc, List, [], ◌∷◌, ◌++◌, length, get_or, set, drop, Some, slice_get, sym, ◌∙◌, ap, arith, append_assoc}
use Rattle.tw_rows.specs.declared.kind.CellKind.{CellKind}
use Rattle.edge_stream.specs.declared.saved.SavedEntry.{SavedEntry}
use Rattle.plan_model.specs.declared.node.Node.{Node}
use Rattle.plan_model.specs.IsPlan.{PlanParts}
use Rattle.frozen_state.specs.declared.owner.Owner.{Owner}
use Rattle.frozen_state.specs.declared.owner.Owner.TheVariants as owners
use Rattle.frozen_state.specs.declared.frozen.FrozenPart.{FrozenPart}
use Rattle.frozen_state.specs.Frozen.{with_entry}
use Rattle.frozen_state.specs.Forms.{shard_forms, node_forms, node_rows, shards_of}

-- one more shard
pub shard_more : (owner : Owner) (rows : List (List CellKind)) (i n : ℕ) → i < n →
    shard_forms owner rows i (n - i) ≡ record { owner = owner; shard = i; rows = rows } ∷ shard_forms owner rows (i + 1) (n - (i + 1))
shard_more owner rows i n low =
    let e : n - i ≡ suc (n - (i + 1)) = omega arith in
    let s : suc i ≡ i + 1 = omega arith in
    ap (λ k. shard_forms owner rows i k) e ∙ ap (λ k. record { owner = owner; shard = i; rows = rows } ∷ shard_forms owner rows k (n - (i + 1))) s

-- one more node
pub node_more : (workers : ℕ) (plan : PlanParts) (nodes : List Node) (i : ℕ) (n : Node) → slice_get nodes i ≡ Some n →
    node_forms workers plan i (drop i nodes)
    ≡ shard_forms (owners.Node i) (node_rows plan i n) 0 (shards_of workers n) ++ node_forms workers plan (i + 1) (drop (i + 1) nodes)
node_more workers plan nodes i n is =
    let s : suc i ≡ i + 1 = omega arith in
    ap (λ (l : List Node). node_forms workers plan i l) (dropped nodes i n is)
    ∙ ap (λ k. shard_forms (owners.Node i) (node_rows plan i n) 0 (shards_of workers n) ++ node_forms workers plan k (drop (i + 1) nodes)) s
  where
    dropped : (ns : List Node) (k : ℕ) (m : Node) → slice_get ns k ≡ Some m → drop k ns ≡ m ∷ drop (k + 1) ns
    dropped [] k m h = absurd (cc)
    dropped (x ∷ ns) zero m h = let e : x ≡ m = cc in ap (λ (y : Node). y ∷ ns) e
    dropped (x ∷ ns) (suc k) m h = let e : suc k + 1 ≡ suc (k + 1) = omega arith in rw e (dropped ns k m h)

-- a list that was added to, with what is left
pub with_rest : {X : Type 0} (start before new more left rest : List X) → new ≡ before ++ more → left ≡ more ++ rest → before ++ left ≡ start → new ++ rest ≡ start
with_rest {X = X} start before new more left rest a b c =
    ap (λ (l : List X). l ++ rest) a ∙ append_assoc before more rest ∙ sym (ap (λ (l : List X). before ++ l) b) ∙ c

-- the part with its entry is put where it stood
pub set_entry : (ps : List FrozenPart) (n : ℕ) (e : SavedEntry) (p : FrozenPart) → n < length ps → p ≡ get_or ps n p →
    set ps n (record p { saved = p.saved ++ e ∷ [] }) ≡ with_entry n e ps
set_entry [] n e p low is = absurd (omega (arith, low))
set_entry (q ∷ ps) zero e p low is = ap (λ (y : FrozenPart). record y { saved = y.saved ++ e ∷ [] } ∷ ps) is
set_entry (q ∷ ps) (suc n) e p low is = ap (λ (l : List FrozenPart). q ∷ l) (set_entry ps n e p (omega (arith, low)) is)
