-- The lists that are held while the nodes of a plan read and make theirs.
use Rattle.std.specs.Prelude.{◌≡◌, ◌≢◌, ◌↔◌, ◌⊎◌, ℕ, zero, suc, ◌+◌, ◌-◌, ◌<◌, nat_eq, Bool, true, cond, IsTrue, Some, None, List, [], ◌∷◌, ◌++◌, map, length, get_or, slice_get, Result, Ok, Err, IfOk, OnErr, min, take}
use Rattle.std.proofs.Common.{refl, sym, ap, subst, ◌∙◌, arith, inl, inr}
use Rattle.std.proofs.lemmas.Bool.{cases_lt, cases_eq, ne_eqb}
use Rattle.std.proofs.lemmas.Bool.Decides.{Decides-eqb}
use Rattle.std.proofs.lemmas.List.{get_or_push, get_or_append_left, length_push}
use Rattle.std.proofs.lemmas.List.Elements.{All-nil}
use Rattle.std.proofs.lemmas.Option.{slice_get-get_or}
use Rattle.tw_rows.specs.declared.edge.Edge.{Edge}
use Rattle.tw_rows.specs.declared.kind.CellKind.{CellKind}
use Rattle.tw_rows.specs.Kinds.{cell_kind_of}
use Rattle.batch.specs.PoolsView.{PoolsView}
use Rattle.batch.proofs.PoolLaws.{NoMore-all}
use Rattle.edge_stream.specs.Listing.{EdgeListView, cells_of}
use Rattle.edge_stream.specs.Taking.{batches_taken, AreBatchesTaken}
use Rattle.edge_stream.proofs.Filling.{batches_taken-capacity}
use Rattle.plan_model.specs.declared.node.Node.{Node}
use Rattle.plan_model.specs.declared.node.Node.TheVariants.{Source}
use Rattle.plan_model.specs.IsPlan.{PlanParts, kinds_at, kinds_of_stream}
use Rattle.plan_model.specs.Shape.{Shape, Stream, One, Two, shape, left_in, read_left, left_child, right_child, at_child, left_of, right_of, HasLower}
use Rattle.plan_model.proofs.Kept.{IsNodeAt}
use Rattle.plan_laws.specs.Places.{EdgesArePlaced}
use Rattle.where_select.proofs.Nodes.{stream_there, one_node}
use Rattle.edge_stream.specs.Lists.{edges_at, no_edges}
use Rattle.dataflow.specs.Lists.{IsListOf, AreGiven}
use Rattle.dataflow.specs.Stages.{left_kinds, right_kinds}
use Rattle.dataflow.specs.Held.{IsListWith, IsNeeded, IsNeededRight, IsNeededStream, AreHeld, HeldBefore, HeldBetween}

-- the lists by number, with that of i made
abbrev pub with_list : (ℕ → List Edge) → ℕ → List Edge → ℕ → List Edge
with_list lists i out k = cond (nat_eq k i) out (lists k)

same_number : (i : ℕ) → nat_eq i i ≡ true
same_number i = (Decides-eqb i i).1 refl

pub with_list-at : (lists : ℕ → List Edge) (i : ℕ) (out : List Edge) → with_list lists i out i ≡ out
with_list-at lists i out = ap (λ b. cond b out (lists i)) (same_number i)

pub with_list-below : (lists : ℕ → List Edge) (i : ℕ) (out : List Edge) (k : ℕ) → k < i → with_list lists i out k ≡ lists k
with_list-below lists i out k low = ap (λ b. cond b out (lists k)) (ne_eqb k i (λ e. absurd (omega (arith, low, e))))

-- the list of a number
pub edges_at-is : (ls : List EdgeListView) (k : ℕ) (d : EdgeListView) → k < length ls → edges_at ls k ≡ (get_or ls k d).edges
edges_at-is [] k d low = absurd (omega arith)
edges_at-is (l ∷ ls) zero d low = refl
edges_at-is (l ∷ ls) (suc k) d low = edges_at-is ls k d (omega arith)

-- what a node reads is what stands at its child
read_child : {R : Type 0} (none : R) (source at : ℕ → R) (k : ℕ) (s : Shape) → left_in s ≡ Some k → read_left none source at s ≡ at k
read_child none source at k (Stream stream) e = absurd (cc)
read_child none source at k (One child) e = ap (at_child none at) e
read_child none source at k (Two left right) e = ap (at_child none at) e

pub left_of-child : {R : Type 0} (none : R) (source at : ℕ → R) (n : Node) (k : ℕ) → left_child n ≡ Some k → left_of none source at n ≡ at k
left_of-child none source at n k e = read_child none source at k (shape n) e

pub right_of-child : {R : Type 0} (none : R) (at : ℕ → R) (n : Node) (k : ℕ) → right_child n ≡ Some k → right_of none at n ≡ at k
right_of-child none at n k e = ap (at_child none at) e

pub right_of-none : {R : Type 0} (none : R) (at : ℕ → R) (n : Node) → right_child n ≡ None → right_of none at n ≡ none
right_of-none none at n e = ap (at_child none at) e

-- a list that was taken or copied
pub same_list : (texts : List (List ℕ)) (capacity : ℕ) (kinds : List CellKind) (edges : List Edge) (old new : EdgeListView) → IsListWith texts capacity kinds edges old →
    new.edges ≡ old.edges → new.kinds ≡ old.kinds → new.capacity ≡ old.capacity → IsListWith texts capacity kinds edges new
same_list texts capacity kinds edges old new is e k c = record {
  list = record {
    cells = ap (map cell_kind_of) k ∙ is.list.cells;
    rows = c ∙ is.list.rows;
    placed = subst (EdgesArePlaced texts) (sym e) is.list.placed;
  };
  same = e ∙ is.same;
}

-- what is read again later is not the list that was taken, or it was copied
taken_or_copied : (P : ℕ → Type 0) (at k : ℕ) (again : Bool) → (IsTrue again ↔ P at) → P k → (k ≢ at) ⊎ (again ≡ true)
taken_or_copied P at k again told needed = elim (cases_eq k at) [
  | inl same ↦ inr (let x = told.1 (subst P same needed) in search x)
  | inr other ↦ inl other
]

needed_before : (plan : PlanParts) (i k : ℕ) → IsNeeded plan (i + 1) k → IsNeeded plan i k
needed_before plan i k needed = elim needed [
  | inl root ↦ inl root
  | inr read ↦ inr (read.0, (read.1.0, ((let low = read.1.1.0 in omega (arith, low)), read.1.1.1)))
]

right_before : (plan : PlanParts) (i k : ℕ) → IsNeededRight plan i k → IsNeeded plan i k
right_before plan i k needed = elim needed [
  | inl here ↦ inr (i, (here.0, (omega arith, (here.1.0, inr here.1.1))))
  | inr later ↦ needed_before plan i k later
]

stream_before : (plan : PlanParts) (i s : ℕ) → IsNeededStream plan (i + 1) s → IsNeededStream plan i s
stream_before plan i s needed = (needed.0, ((let low = needed.1.0 in omega (arith, low)), needed.1.1))

module _ (texts : List (List ℕ)) (capacity : ℕ) (plan : PlanParts) (given more : ℕ → List Edge) where
  -- less is needed
  held_less : (S T N M : ℕ → Type 0) (streams made : List EdgeListView) → AreHeld texts capacity plan S N given more streams made → ((s : ℕ) → T s → S s) → ((k : ℕ) → M k → N k) →
      AreHeld texts capacity plan T M given more streams made
  held_less S T N M streams made held f g = record {
    of_streams = λ s d low needed. held.of_streams s d low (f s needed);
    of_nodes = λ k d low needed. held.of_nodes k d low (g k needed);
  }

  -- the list of a stream was taken, or that of a node
  stream_taken : (S T N : ℕ → Type 0) (streams made left : List EdgeListView) → AreHeld texts capacity plan S N given more streams made → ((s : ℕ) → T s → S s) →
      (at : ℕ) (again : Bool) → (IsTrue again ↔ T at) → length left ≡ length streams → ((k : ℕ) (d : EdgeListView) → (k ≢ at) ⊎ (again ≡ true) → get_or left k d ≡ get_or streams k d) →
      AreHeld texts capacity plan T N given more left made
  stream_taken S T N streams made left held f at again told count others = record {
    of_streams = λ s d low needed.
        subst (IsListWith texts capacity (kinds_of_stream plan.streams s) (given s)) (sym (others s d (taken_or_copied T at s again told needed)))
        (held.of_streams s d (omega (arith, low, count)) (f s needed));
    of_nodes = held.of_nodes;
  }

  node_taken : (S N M : ℕ → Type 0) (streams made left : List EdgeListView) → AreHeld texts capacity plan S N given more streams made → ((k : ℕ) → M k → N k) →
      (at : ℕ) (again : Bool) → (IsTrue again ↔ M at) → length left ≡ length made → ((k : ℕ) (d : EdgeListView) → (k ≢ at) ⊎ (again ≡ true) → get_or left k d ≡ get_or made k d) →
      AreHeld texts capacity plan S M given more streams left
  node_taken S N M streams made left held f at again told count others = record {
    of_streams = held.of_streams;
    of_nodes = λ k d low needed.
        subst (IsListWith texts capacity (kinds_at plan.schemas k) (more k)) (sym (others k d (taken_or_copied M at k again told needed)))
        (held.of_nodes k d (omega (arith, low, count)) (f k needed));
  }

  module _ (i : ℕ) (streams made : List EdgeListView) where
    pub left_stream_taken : HeldBefore texts capacity plan i given more streams made → (at : ℕ) (again : Bool) (left : List EdgeListView) → (IsTrue again ↔ IsNeededStream plan (i + 1) at) →
        length left ≡ length streams → ((k : ℕ) (d : EdgeListView) → (k ≢ at) ⊎ (again ≡ true) → get_or left k d ≡ get_or streams k d) →
        HeldBetween texts capacity plan i given more left made
    left_stream_taken held at again left told count others =
        stream_taken (IsNeededStream plan i) (IsNeededStream plan (i + 1)) (IsNeededRight plan i) streams made left
        (held_less (IsNeededStream plan i) (IsNeededStream plan i) (IsNeeded plan i) (IsNeededRight plan i) streams made held (λ s h. h) (right_before plan i))
        (stream_before plan i) at again told count others

    pub left_node_taken : HeldBefore texts capacity plan i given more streams made → (at : ℕ) (again : Bool) (left : List EdgeListView) → (IsTrue again ↔ IsNeededRight plan i at) →
        length left ≡ length made → ((k : ℕ) (d : EdgeListView) → (k ≢ at) ⊎ (again ≡ true) → get_or left k d ≡ get_or made k d) →
        HeldBetween texts capacity plan i given more streams left
    left_node_taken held at again left told count others =
        node_taken (IsNeededStream plan (i + 1)) (IsNeeded plan i) (IsNeededRight plan i) streams made left
        (held_less (IsNeededStream plan i) (IsNeededStream plan (i + 1)) (IsNeeded plan i) (IsNeeded plan i) streams made held (stream_before plan i) (λ k h. h))
        (right_before plan i) at again told count others

    pub right_node_taken : HeldBetween texts capacity plan i given more streams made → (at : ℕ) (again : Bool) (left : List EdgeListView) → (IsTrue again ↔ IsNeeded plan (i + 1) at) →
        length left ≡ length made → ((k : ℕ) (d : EdgeListView) → (k ≢ at) ⊎ (again ≡ true) → get_or left k d ≡ get_or made k d) →
        HeldBefore texts capacity plan (i + 1) given more streams left
    right_node_taken held at again left told count others =
        node_taken (IsNeededStream plan (i + 1)) (IsNeededRight plan i) (IsNeeded plan (i + 1)) streams made left held (λ k h. inr h) at again told count others

    pub right_none_taken : HeldBetween texts capacity plan i given more streams made → HeldBefore texts capacity plan (i + 1) given more streams made
    right_none_taken held =
        held_less (IsNeededStream plan (i + 1)) (IsNeededStream plan (i + 1)) (IsNeededRight plan i) (IsNeeded plan (i + 1)) streams made held (λ s h. h) (λ k h. inr h)

    -- the node of number i has made its list
    pub held_next : HeldBefore texts capacity plan (i + 1) given more streams made → length made ≡ i → (out : EdgeListView) → IsListOf texts capacity (kinds_at plan.schemas i) out →
        HeldBefore texts capacity plan (i + 1) given (with_list more i out.edges) streams (made ++ out ∷ [])
    held_next held count out is = record {
      of_streams = held.of_streams;
      of_nodes = λ k d low needed. elim (cases_lt k i) [
        | inl before ↦
            subst (λ es. IsListWith texts capacity (kinds_at plan.schemas k) es (get_or (made ++ out ∷ []) k d)) (sym (with_list-below more i out.edges k before))
            (subst (IsListWith texts capacity (kinds_at plan.schemas k) (more k)) (sym (get_or_append_left made (out ∷ []) d k (omega (arith, before, count))))
            (held.of_nodes k d (omega (arith, before, count)) needed))
        | inr after ↦
            let e : i ≡ k = (let n = length_push made out in omega (arith, after, low, count, n)) in
            subst (λ j. IsListWith texts capacity (kinds_at plan.schemas j) (with_list more i out.edges j) (get_or (made ++ out ∷ []) j d)) e
            (subst (λ es. IsListWith texts capacity (kinds_at plan.schemas i) es (get_or (made ++ out ∷ []) i d)) (sym (with_list-at more i out.edges))
            (subst (IsListWith texts capacity (kinds_at plan.schemas i) out.edges) (sym (get_or_push made out d i count)) (record { list = is; same = refl })))
      ];
    }

-- at first all streams have the lists that were given
pub held_first : (texts : List (List ℕ)) (capacity : ℕ) (plan : PlanParts) (given : List EdgeListView) (more : ℕ → List Edge) → AreGiven texts capacity plan given →
    HeldBefore texts capacity plan 0 (edges_at given) more given []
held_first texts capacity plan given more are = record {
  of_streams = λ s d low needed. record {
    list = are.each s (get_or given s d) (slice_get-get_or given s d low);
    same = sym (edges_at-is given s d low);
  };
  of_nodes = λ k d low needed. absurd (omega (arith, low));
}

-- the lists that a node of the plan reads
module _ (texts : List (List ℕ)) (capacity : ℕ) (plan : PlanParts) (i : ℕ) (node : Node) (at : IsNodeAt plan i node) (given more : ℕ → List Edge) (streams made : List EdgeListView)
    (n : Node) (there : slice_get plan.nodes i ≡ Some n) (l : EdgeListView) where
  same_node : node ≡ n
  same_node = one_node plan i node at n there

  pub stream_list : HeldBefore texts capacity plan i given more streams made → (s : ℕ) → node ≡ Source s → length streams ≡ length plan.streams →
      ((d : EdgeListView) → l.edges ≡ (get_or streams s d).edges) → ((d : EdgeListView) → l.kinds ≡ (get_or streams s d).kinds) → ((d : EdgeListView) → l.capacity ≡ (get_or streams s d).capacity) →
      IsListWith texts capacity (left_kinds plan n) (left_of [] given more n) l
  stream_list held s is count edges kinds rows =
      let low : s < length streams = subst (λ m. s < m) (sym count) (stream_there plan i node at s is) in
      subst (λ m. IsListWith texts capacity (left_kinds plan m) (left_of [] given more m) l) (sym is ∙ same_node)
      (same_list texts capacity (kinds_of_stream plan.streams s) (given s) (get_or streams s l) l (held.of_streams s l low (i, (omega arith, at.here ∙ ap Some is))) (edges l) (kinds l) (rows l))

  pub left_child_list : HeldBefore texts capacity plan i given more streams made → (k : ℕ) → left_child node ≡ Some k → length made ≡ i →
      ((d : EdgeListView) → l.edges ≡ (get_or made k d).edges) → ((d : EdgeListView) → l.kinds ≡ (get_or made k d).kinds) → ((d : EdgeListView) → l.capacity ≡ (get_or made k d).capacity) →
      IsListWith texts capacity (left_kinds plan n) (left_of [] given more n) l
  left_child_list held k is count edges kinds rows =
      let low : k < i = subst (HasLower i) is (at.kept.nodes_are.each i node at.here).left_lower in
      subst (λ m. IsListWith texts capacity (left_kinds plan m) (left_of [] given more m) l) same_node
      (subst (λ ks. IsListWith texts capacity ks (left_of [] given more node) l) (sym (left_of-child [] (kinds_of_stream plan.streams) (kinds_at plan.schemas) node k is))
      (subst (λ es. IsListWith texts capacity (kinds_at plan.schemas k) es l) (sym (left_of-child [] given more node k is))
      (same_list texts capacity (kinds_at plan.schemas k) (more k) (get_or made k l) l (held.of_nodes k l (omega (arith, low, count)) (inr (i, (node, (omega arith, (at.here, inl is)))))) (edges l) (kinds l) (rows l))))

  pub right_child_list : HeldBetween texts capacity plan i given more streams made → (k : ℕ) → right_child node ≡ Some k → length made ≡ i →
      ((d : EdgeListView) → l.edges ≡ (get_or made k d).edges) → ((d : EdgeListView) → l.kinds ≡ (get_or made k d).kinds) → ((d : EdgeListView) → l.capacity ≡ (get_or made k d).capacity) →
      IsListWith texts capacity (right_kinds plan n) (right_of [] more n) l
  right_child_list held k is count edges kinds rows =
      let low : k < i = subst (HasLower i) is (at.kept.nodes_are.each i node at.here).right_lower in
      subst (λ m. IsListWith texts capacity (right_kinds plan m) (right_of [] more m) l) same_node
      (subst (λ ks. IsListWith texts capacity ks (right_of [] more node) l) (sym (right_of-child [] (kinds_at plan.schemas) node k is))
      (subst (λ es. IsListWith texts capacity (kinds_at plan.schemas k) es l) (sym (right_of-child [] more node k is))
      (same_list texts capacity (kinds_at plan.schemas k) (more k) (get_or made k l) l (held.of_nodes k l (omega (arith, low, count)) (inl (node, (at.here, is)))) (edges l) (kinds l) (rows l))))

  pub right_no_list : right_child node ≡ None → l ≡ no_edges [] capacity →
      IsListWith texts capacity (right_kinds plan n) (right_of [] more n) l
  right_no_list is e =
      subst (λ m. IsListWith texts capacity (right_kinds plan m) (right_of [] more m) l) same_node
      (subst (λ ks. IsListWith texts capacity ks (right_of [] more node) l) (sym (right_of-none [] (kinds_at plan.schemas) node is))
      (subst (λ es. IsListWith texts capacity [] es l) (sym (right_of-none [] more node is))
      (record {
        list = record { cells = ap cells_of e; rows = ap (λ x. x.capacity) e; placed = subst (λ x. EdgesArePlaced texts x.edges) (sym e) (All-nil _) };
        same = ap (λ x. x.edges) e;
      })))

-- columns that are taken leave the limit of the pools
pub taken_limit : (n : ℕ) (s : PoolsView) (ks : List CellKind) → (batches_taken n s ks).limit ≡ s.limit
taken_limit zero s ks = refl
taken_limit (suc n) s ks =
    let before : PoolsView = batches_taken n s ks in
    (NoMore-all (record before { words = before.words - 4; occupancies = before.occupancies - 1 }) ks).limit ∙ taken_limit n s ks

-- three facts of a result together
pub IfOk-three : {X Y : Type 0} (r : Result X Y) (P Q R S : X → Type 0) → ((x : X) → P x → Q x → R x → S x) → IfOk r P → IfOk r Q → IfOk r R → IfOk r S
IfOk-three (Ok x) P Q R S f a b c = f x a b c
IfOk-three (Err e) P Q R S f a b c = tt

-- and so the pools stay alike whether a copy was made or it was out of memory
pub copy_leaves : {E : Type 0} (r : Result EdgeListView E) (old new : PoolsView) (kinds : List CellKind) → IfOk r (λ copy. new ≡ batches_taken copy.batches old kinds) → OnErr r (AreBatchesTaken old new kinds) →
    (new.capacity ≡ old.capacity) × (new.limit ≡ old.limit)
copy_leaves (Ok copy) old new kinds told failed = (
  ap (λ s. s.capacity) told ∙ batches_taken-capacity copy.batches old kinds,
  ap (λ s. s.limit) told ∙ taken_limit copy.batches old kinds,
)
copy_leaves (Err e) old new kinds told failed =
    let part = NoMore-all (record (batches_taken failed.whole old kinds) { words = (batches_taken failed.whole old kinds).words - min failed.part.count 4; occupancies = (batches_taken failed.whole old kinds).occupancies - min (failed.part.count - 4) 1 }) (take (failed.part.count - 5) kinds) in (
      ap (λ s. s.capacity) failed.part.is ∙ part.capacity ∙ batches_taken-capacity failed.whole old kinds,
      ap (λ s. s.limit) failed.part.is ∙ part.limit ∙ taken_limit failed.whole old kinds,
    )
