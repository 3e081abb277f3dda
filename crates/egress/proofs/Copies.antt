-- Copies of what is kept are the same.
use Rattle.std.specs.Prelude.{◌≡◌, ℕ, Option, Some, None, Vec}
use Rattle.std.specs.declared.collections.VecDeque.{VecDeque}
use Rattle.std.specs.List.{AllZip}
use Rattle.std.specs.Option.{MatchOption, IsSomeAnd}
use Rattle.std.specs.Ordering.{eq_by_cmp, nat_cmp}
use Rattle.std.specs.Map.{lookup}
use Rattle.std.specs.BTreeMap.{BTreeMap}
use Rattle.std.proofs.Common.{List, ap}
use Rattle.std.proofs.lemmas.List.Elements.{same_from_all_zip}
use Rattle.std.proofs.lemmas.Map.Entries.{lookup_clone}
use Rattle.indexmap.specs.IndexMap.{IndexMap}
use Rattle.tw_rows.specs.SameCells.{same_cells}
use Rattle.tw_rows.specs.declared.cells.Datum.{Datum}
use Rattle.tw_rows.specs.declared.edge.Edge.{Edge}
use Rattle.synopsis.specs.Kept.{times_if, since_at}
use Rattle.egress.specs.Waiting.{items_if, later_in}

module _ {S H : Type 0} (m n : IndexMap (List Datum) (VecDeque ℕ S) H) (C : List Datum → List Datum → Type 0) (D : VecDeque ℕ S → VecDeque ℕ S → Type 0)
    (keys : (x y : List Datum) → C x y → y ≡ x) (times : (v w : VecDeque ℕ S) → D v w → AllZip (λ x y. y ≡ x) v.items w.items) where
  same_times : (o p : Option (VecDeque ℕ S)) → MatchOption o (p ≡ None) (λ v. IsSomeAnd p (D v)) → times_if p ≡ times_if o
  same_times None p h = ap times_if h
  same_times (Some v) None h = absurd h
  same_times (Some v) (Some w) h = same_from_all_zip (λ x y. y ≡ x) v.items w.items (times v w h) (λ x y k. k)

  pub copied_since : AllZip (λ p q. C p.0 q.0 × D p.1 q.1) m.entries n.entries → (c : List Datum) → since_at n c ≡ since_at m c
  copied_since zip c =
      same_times (lookup (same_cells c) m.entries) (lookup (same_cells c) n.entries)
      (lookup_clone C D (same_cells c) (λ x y k. ap (same_cells c) (keys x y k)) m.entries n.entries zip)

module _ {A : Type 0} (m n : BTreeMap ℕ (Vec Edge A)) (C : ℕ → ℕ → Type 0) (D : Vec Edge A → Vec Edge A → Type 0)
    (keys : (x y : ℕ) → C x y → y ≡ x) (edges : (v w : Vec Edge A) → D v w → AllZip (λ x y. y ≡ x) v.items w.items) where
  same_edges : (o p : Option (Vec Edge A)) → MatchOption o (p ≡ None) (λ v. IsSomeAnd p (D v)) → items_if p ≡ items_if o
  same_edges None p h = ap items_if h
  same_edges (Some v) None h = absurd h
  same_edges (Some v) (Some w) h = ap Some (same_from_all_zip (λ x y. y ≡ x) v.items w.items (edges v w h) (λ x y k. k))

  pub copied_waiting : AllZip (λ p q. C p.0 q.0 × D p.1 q.1) m.entries n.entries → (t : ℕ) → later_in n t ≡ later_in m t
  copied_waiting zip t =
      same_edges (lookup (eq_by_cmp nat_cmp t) m.entries) (lookup (eq_by_cmp nat_cmp t) n.entries)
      (lookup_clone C D (eq_by_cmp nat_cmp t) (λ x y k. ap (eq_by_cmp nat_cmp t) (keys x y k)) m.entries n.entries zip)
