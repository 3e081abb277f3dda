-- Lists of batches that grow and shrink.
use Rattle.std.proofs.Common.{◌≡◌, ℕ, Bool, true, false, cond, List, [], ◌∷◌, ◌++◌, take, drop, subst, sym}
use Rattle.std.specs.Prelude.{All}
use Rattle.std.proofs.lemmas.List.Elements.{All-push, All-take, All-drop}
use Rattle.tw_rows.specs.declared.kind.CellKind.{CellKind}
use Rattle.batch.specs.Rows.{Table, edges_of}
use Rattle.edge_history.specs.Order.{KeepsOrder}
use Rattle.tw_rows.specs.declared.edge.Edge.{Edge}
use Rattle.tw_rows.specs.declared.kind.Kind.{Kind}
use Rattle.edge_stream.specs.Listing.{EdgeListView, edges_in, IsOf, IsListing}
use Rattle.edge_history.proofs.Keeping.{KeepsOrder-front, KeepsOrder-back}
use Rattle.edge_stream.proofs.Cutting.{edges_in-push, edges_in-parts}

module _ (kinds : List CellKind) (capacity : ℕ) (bs : List Table) (is : IsListing kinds capacity bs) where
  -- with one batch more
  pub IsListing-push : (b : Table) → KeepsOrder (edges_in bs ++ edges_of b.rows) → b.kinds ≡ kinds → b.capacity ≡ capacity → IsListing kinds capacity (bs ++ b ∷ [])
  IsListing-push b order same room = record {
    order = subst KeepsOrder (sym (edges_in-push bs b)) order;
    alike = All-push (IsOf kinds capacity) bs b is.alike (record { same_kinds = same; same_capacity = room });
    room = is.room;
    width = is.width;
  }

  pub IsListing-pushed : (r : Bool) (b : Table) (new : List Table) → new ≡ cond r (bs ++ b ∷ []) bs → KeepsOrder (edges_in bs ++ edges_of b.rows) → b.kinds ≡ kinds → b.capacity ≡ capacity → IsListing kinds capacity new
  IsListing-pushed true b new e order same room = subst (IsListing kinds capacity) (sym e) (IsListing-push b order same room)
  IsListing-pushed false b new e order same room = subst (IsListing kinds capacity) (sym e) is

  pub IsListing-take : (n : ℕ) → IsListing kinds capacity (take n bs)
  IsListing-take n = record {
    order = KeepsOrder-front (edges_in (take n bs)) (edges_in (drop n bs)) (subst KeepsOrder (sym (edges_in-parts n bs)) is.order);
    alike = All-take (IsOf kinds capacity) n bs is.alike;
    room = is.room;
    width = is.width;
  }

  pub IsListing-drop : (n : ℕ) → IsListing kinds capacity (drop n bs)
  IsListing-drop n = record {
    order = KeepsOrder-back (edges_in (take n bs)) (edges_in (drop n bs)) (subst KeepsOrder (sym (edges_in-parts n bs)) is.order);
    alike = All-drop (IsOf kinds capacity) n bs is.alike;
    room = is.room;
    width = is.width;
  }

  -- the same edges in other batches, or more edges
  pub IsListing-other : (new : List Table) → KeepsOrder (edges_in new) → All (IsOf kinds capacity) new → IsListing kinds capacity new
  IsListing-other new order alike = record { order = order; alike = alike; room = is.room; width = is.width }

pub IsListing-same : (kinds k : List CellKind) (capacity c : ℕ) (bs xs : List Table) → k ≡ kinds → c ≡ capacity → xs ≡ bs → IsListing kinds capacity bs → IsListing k c xs
IsListing-same kinds k capacity c bs xs same_kinds same_capacity same is =
    subst (λ ks. IsListing ks c xs) (sym same_kinds) (subst (λ n. IsListing kinds n xs) (sym same_capacity) (subst (IsListing kinds capacity) (sym same) is))

pub All-same_kind : (kinds k : List CellKind) (capacity c : ℕ) (xs : List Table) → k ≡ kinds → c ≡ capacity → All (IsOf k c) xs → All (IsOf kinds capacity) xs
All-same_kind kinds k capacity c xs same_kinds same_capacity all = subst (λ ks. All (IsOf ks capacity) xs) same_kinds (subst (λ n. All (IsOf k n) xs) same_capacity all)

pub list_is : (edges : List Edge) (kinds : List Kind) (capacity batches room : ℕ) (l : EdgeListView) →
    edges ≡ l.edges → kinds ≡ l.kinds → capacity ≡ l.capacity → batches ≡ l.batches → room ≡ l.room →
    record { edges = edges; kinds = kinds; capacity = capacity; batches = batches; room = room } ≡ l
list_is edges kinds capacity batches room l p q r s t = λ i. record { edges = p i; kinds = q i; capacity = r i; batches = s i; room = t i }
