use Rattle.std.proofs.Common.{◌≡◌, ◌++◌, ◌∙◌, ap, sym, subst, refl, map, append_assoc}
use Rattle.std.specs.Prelude.{filter}
use Rattle.std.proofs.lemmas.List.{append-nil}
use Rattle.tw_rows.specs.Kinds.{cell_kind_of}
use Rattle.edge_history.specs.Order.{failing, KeepsOrder}
use Rattle.edge_history.proofs.Sums.{failing-filter}
use Rattle.edge_stream.specs.Listing.{cells_of}
use Rattle.ingress.specs.Fits.{is_fit}
use Rattle.ingress.specs.Ranks.{edges_at, is_between, is_up_to}
use Rattle.ingress.proofs.Ranked.{in_order}
use Rattle.ingress.proofs.Merged.{between_held, none_between, between_keeps, between_up, up_more}
use Rattle.ingress.proofs.Fitting.{front_keeps, front_fits, back_fits, pools_again, pools_same, shape_again, shape_same}
use Rattle.ingress.proofs.by_rank.ByRank.append_between.Goals as goal

pub loop-edges-init : goal.loop-edges-init
loop-edges-init c = record {
  edges = ap (λ l. c.args.list.now.edges ++ l) (between_held c.args.from c.args.to c.self.inside.ranks.entries c.args.self.now c.self.view_is c.self.invariant
      (edges_at c.into_iter-edges-iterator.result) (ap edges_at (c.into_iter-edges-iterator.ensures.into_iter_gives ∙ c.range-edges-items.ensures.between tt)));
  fit = subst (λ l. failing (is_fit (cells_of c.args.list.now)) l ≡ 0) (sym (between_held c.args.from c.args.to c.self.inside.ranks.entries c.args.self.now c.self.view_is c.self.invariant
      (edges_at c.into_iter-edges-iterator.result) (ap edges_at (c.into_iter-edges-iterator.ensures.into_iter_gives ∙ c.range-edges-items.ensures.between tt))))
      (failing-filter (is_between c.args.from c.args.to) (is_fit (cells_of c.args.list.now)) c.args.self.now c.requires.fit);
  shape = shape_same c.args.list.now c.args.list.now refl;
  taken = λ first kinds same h. h;
  pools = pools_same c.args.pools.now;
}

-- the edges so far, those of this rank and those to come
pub loop-edges-preserved : goal.loop-edges-preserved
loop-edges-preserved c =
    let now = c.loop-edges.list.edges in
    let here = c.deref.result.now in
    let rest = edges_at c.next.new.self in
    record {
      edges =
          ap (λ x. x ++ rest) c.in_ok-append_all.ensures.ok ∙ append_assoc now here rest
          ∙ ap (λ x. now ++ (x ++ rest)) c.deref.ensures.value ∙ sym (ap (λ it. now ++ edges_at it) c.in-Some.ensures.steps) ∙ c.loop-edges.invariant.edges;
      fit = back_fits (cells_of c.args.list.now) _ rest (edges_at c.loop-edges.edges-iterator) (ap edges_at c.in-Some.ensures.steps) c.loop-edges.invariant.fit;
      shape = shape_again c.args.list.now c.loop-edges.list c.append_all.new.list c.loop-edges.invariant.shape c.append_all.ensures.shape;
      taken = λ first kinds same h.
          c.in_ok-append_all.ensures.taken first kinds (ap (map cell_kind_of) c.loop-edges.invariant.shape.kinds ∙ same) (c.loop-edges.invariant.taken first kinds same h);
      pools = pools_again c.args.pools.now c.loop-edges.pools c.append_all.new.pools c.loop-edges.invariant.pools c.append_all.ensures.pools;
    }

pub append_all-requires-clause-order : goal.append_all-requires-clause-order
append_all-requires-clause-order c =
    let now = c.loop-edges.list.edges in
    let here = c.deref.result.now in
    let rest = edges_at c.next.new.self in
    front_keeps now here rest (c.args.list.now.edges ++ filter (is_between c.args.from c.args.to) c.args.self.now)
    (ap (λ x. now ++ (x ++ rest)) c.deref.ensures.value ∙ sym (ap (λ it. now ++ edges_at it) c.in-Some.ensures.steps) ∙ c.loop-edges.invariant.edges)
    (between_keeps c.args.from c.args.to c.args.list.now.edges c.args.self.now (cells_of c.args.list.now) c.requires.order c.requires.low
    (in_order c.self.inside.ranks.entries c.args.self.now c.self.view_is c.self.invariant) c.requires.fit)

pub append_all-requires-clause-fit : goal.append_all-requires-clause-fit
append_all-requires-clause-fit c =
    subst (λ ks. failing (is_fit ks) c.deref.result.now ≡ 0) (sym (ap (map cell_kind_of) c.loop-edges.invariant.shape.kinds))
    (subst (λ l. failing (is_fit (cells_of c.args.list.now)) l ≡ 0) (sym c.deref.ensures.value)
    (front_fits (cells_of c.args.list.now) _ (edges_at c.next.new.self) (edges_at c.loop-edges.edges-iterator) (ap edges_at c.in-Some.ensures.steps) c.loop-edges.invariant.fit))

pub append_all-requires-clause-capacity : goal.append_all-requires-clause-capacity
append_all-requires-clause-capacity c = c.loop-edges.invariant.pools.capacity ∙ c.requires.capacity ∙ sym c.loop-edges.invariant.shape.capacity

pub returns-clause-ok : goal.returns-clause-ok
returns-clause-ok c = sym (append-nil c.loop-edges.list.edges) ∙ ap (λ it. c.loop-edges.list.edges ++ edges_at it) (sym c.in-None.ensures.steps.0) ∙ c.loop-edges.invariant.edges

pub returns-clause-order : goal.returns-clause-order
returns-clause-order c = subst KeepsOrder (sym (sym (append-nil c.loop-edges.list.edges) ∙ ap (λ it. c.loop-edges.list.edges ++ edges_at it) (sym c.in-None.ensures.steps.0) ∙ c.loop-edges.invariant.edges))
    (between_keeps c.args.from c.args.to c.args.list.now.edges c.args.self.now (cells_of c.args.list.now) c.requires.order c.requires.low
    (in_order c.self.inside.ranks.entries c.args.self.now c.self.view_is c.self.invariant) c.requires.fit)

pub returns-clause-high : goal.returns-clause-high
returns-clause-high c =
    ap (failing (is_up_to c.args.to)) (sym (append-nil c.loop-edges.list.edges) ∙ ap (λ it. c.loop-edges.list.edges ++ edges_at it) (sym c.in-None.ensures.steps.0) ∙ c.loop-edges.invariant.edges)
    ∙ between_up c.args.from c.args.to c.args.list.now.edges c.args.self.now c.requires.rises c.requires.low

pub returns-then-is_empty-clause-ok : goal.returns-then-is_empty-clause-ok
returns-then-is_empty-clause-ok c =
    none_between c.args.from c.args.to c.self.inside.ranks.entries c.args.self.now c.self.view_is (c.is_empty.ensures.0 c.if-is_empty.true) c.args.list.now.edges

pub returns-then-is_empty-clause-high : goal.returns-then-is_empty-clause-high
returns-then-is_empty-clause-high c = up_more c.args.from c.args.to c.args.list.now.edges c.requires.rises c.requires.low
