use Rattle.std.specs.Prelude.{◌≡◌, ◌++◌, filter, map, ◌<◌, ◌*◌, [], ◌∷◌, length}
use Rattle.std.proofs.Common.{◌∙◌, ap, sym, subst, arith, refl}
use Rattle.std.proofs.lemmas.List.{append-nil}
use Rattle.std.proofs.lemmas.List.Elements.{filter-append}
use Rattle.tw_rows.specs.Kinds.{cell_kind_of}
use Rattle.tw_rows.specs.Bag.{total, SameBag}
use Rattle.edge_history.specs.Order.{is_below, Rises, failing}
use Rattle.edge_stream.specs.Listing.{cells_of}
use Rattle.ingress.proofs.Fitting.{rises_filter, pools_copied, takes_copied, front_fits, back_fits, pools_again, pools_same, pools_next, pools_part, shape_again, shape_same, shape_next}
use Rattle.ingress.proofs.Merged.{ok_maps, merged_first, next_order, next_fits, merged_next, merged_all, none_left}
use Rattle.std.specs.Option.{is_some, option_to_list}
use Rattle.edge_stream.proofs.Filling.{taken_next}
use Rattle.ingress.specs.Fits.{is_fit}
use Rattle.ingress.proofs.waiting.Waiting.copy_below.Goals as goal

pub copy_below-requires-clause-pools : goal.copy_below-requires-clause-pools
copy_below-requires-clause-pools c = c.requires.capacity ∙ (c.are_alike.ensures c.if-are_alike.true).capacity

pub copy_below-requires-clause-kinds : goal.copy_below-requires-clause-kinds
copy_below-requires-clause-kinds c = ap (map cell_kind_of) (c.are_alike.ensures c.if-are_alike.true).kinds

pub returns-then-not-has_below-clause-ok : goal.returns-then-not-has_below-clause-ok
returns-then-not-has_below-clause-ok c =
    let q = c.self.inside.queue.edges in
    let o = c.self.inside.others in
    ok_maps c.copy_below.result _ _
    (λ is.
    let all : c.copy_below.new.to.edges ≡ filter (is_below c.args.t) c.args.self.now =
    is ∙ sym (append-nil (filter (is_below c.args.t) q)) ∙ ap (λ l. filter (is_below c.args.t) q ++ l) (sym (c.has_below.ensures c.if-not-has_below.true)) ∙ sym (filter-append (is_below c.args.t) q o)
    ∙ ap (filter (is_below c.args.t)) c.self.view_is in
    record { weigh = λ w. ap (total w) all })
    c.copy_below.ensures.ok

pub returns-then-not-has_below-clause-order : goal.returns-then-not-has_below-clause-order
returns-then-not-has_below-clause-order c =
    ok_maps c.copy_below.result _ _
    (λ is. subst (Rises 0) (sym is) (rises_filter (is_below c.args.t) 0 c.self.inside.queue.edges c.copy_below.ensures.order.rises))
    c.copy_below.ensures.ok

pub returns-then-not-has_below-clause-taken : goal.returns-then-not-has_below-clause-taken
returns-then-not-has_below-clause-taken c =
    ok_maps c.copy_below.result _ _
    (takes_copied c.args.list.now c.copy_below.new.to c.args.pools.now c.copy_below.new.pools (cells_of c.self.inside.queue) (ap (map cell_kind_of) (c.are_alike.ensures c.if-are_alike.true).kinds) c.copy_below.ensures.batches)
    c.copy_below.ensures.pools

pub returns-then-not-has_below-clause-pools : goal.returns-then-not-has_below-clause-pools
returns-then-not-has_below-clause-pools c =
    pools_copied c.copy_below.result c.args.pools.now c.copy_below.new.pools _ (cells_of c.self.inside.queue) c.copy_below.ensures.pools c.copy_below.ensures.err_pools

pub edges-init : goal.edges-init
edges-init c = record {
  merged = merged_first c.self.inside.queue.edges c.self.inside.others c.args.t c.args.list.now.edges c.cursor-cursor.result.edges c.requires.empty (ap (λ u. u.edges) c.cursor-cursor.ensures.cursor) c.cursor-cursor.ensures.order;
  fit = ap (λ u. failing (is_fit (cells_of c.args.list.now)) u.edges) c.cursor-cursor.ensures.cursor
      ∙ front_fits (cells_of c.args.list.now) c.self.inside.queue.edges c.self.inside.others c.args.self.now (sym c.self.view_is) c.requires.fit;
  shape = shape_same c.args.list.now c.args.list.now refl;
  taken = λ first kinds same h. h;
  pools = pools_same c.args.pools.now;
}

pub append_between-requires-clause-fit : goal.append_between-requires-clause-fit
append_between-requires-clause-fit c =
    subst (λ ks. failing (is_fit ks) c.self.inside.others ≡ 0) (sym (ap (map cell_kind_of) c.edges.invariant.shape.kinds))
    (back_fits (cells_of c.args.list.now) c.self.inside.queue.edges c.self.inside.others c.args.self.now (sym c.self.view_is) c.requires.fit)

pub append_between-requires-2-clause-fit : goal.append_between-requires-2-clause-fit
append_between-requires-2-clause-fit c =
    subst (λ ks. failing (is_fit ks) c.self.inside.others ≡ 0) (sym (ap (map cell_kind_of) c.edges.invariant.shape.kinds))
    (back_fits (cells_of c.args.list.now) c.self.inside.queue.edges c.self.inside.others c.args.self.now (sym c.self.view_is) c.requires.fit)

pub append_between-requires-clause-rises : goal.append_between-requires-clause-rises
append_between-requires-clause-rises c =
    let is : c.edges.cursor.edges ≡ c.in-Some.edge ∷ c.next.new.self.edges = c.in_ok-edge.ensures.edges ∙ ap (λ o. option_to_list o ++ c.next.new.self.edges) c.in-Some.is in
    let next = subst (Rises c.edges.low) is c.edges.invariant.merged.rises in
    omega (arith, next.0, c.rank_of-rank.ensures)

pub append-requires-clause-kinds : goal.append-requires-clause-kinds
append-requires-clause-kinds c =
    let is : c.edges.cursor.edges ≡ c.in-Some.edge ∷ c.next.new.self.edges = c.in_ok-edge.ensures.edges ∙ ap (λ o. option_to_list o ++ c.next.new.self.edges) c.in-Some.is in
    (next_fits (cells_of c.args.list.now) c.edges.cursor.edges c.in-Some.edge c.next.new.self.edges is c.edges.invariant.fit).1
    ∙ sym (ap (map cell_kind_of) (shape_again c.args.list.now c.edges.list c.append_between.new.list c.edges.invariant.shape c.append_between.ensures.shape).kinds)

pub append-requires-clause-order : goal.append-requires-clause-order
append-requires-clause-order c =
    let is : c.edges.cursor.edges ≡ c.in-Some.edge ∷ c.next.new.self.edges = c.in_ok-edge.ensures.edges ∙ ap (λ o. option_to_list o ++ c.next.new.self.edges) c.in-Some.is in
    let fits = next_fits (cells_of c.args.list.now) c.edges.cursor.edges c.in-Some.edge c.next.new.self.edges is c.edges.invariant.fit in
    next_order c.self.inside.queue.edges c.self.inside.others c.edges.cursor.edges c.args.t c.edges.low c.edges.list.edges c.append_between.new.list.edges c.edges.invariant.merged
    c.in-Some.edge c.rank_of-rank.result c.rank_of-rank.ensures c.in_ok-append_between.ensures.ok c.in_ok-append_between.ensures.order c.in_ok-append_between.ensures.high fits.0

pub append-requires-clause-capacity : goal.append-requires-clause-capacity
append-requires-clause-capacity c =
    (pools_again c.args.pools.now c.edges.pools c.append_between.new.pools c.edges.invariant.pools c.append_between.ensures.pools).capacity ∙ c.requires.capacity
    ∙ sym (shape_again c.args.list.now c.edges.list c.append_between.new.list c.edges.invariant.shape c.append_between.ensures.shape).capacity

pub edges-preserved : goal.edges-preserved
edges-preserved c =
    let is : c.edges.cursor.edges ≡ c.in-Some.edge ∷ c.next.new.self.edges = c.in_ok-edge.ensures.edges ∙ ap (λ o. option_to_list o ++ c.next.new.self.edges) c.in-Some.is in
    let fits = next_fits (cells_of c.args.list.now) c.edges.cursor.edges c.in-Some.edge c.next.new.self.edges is c.edges.invariant.fit in
    let shape = shape_again c.args.list.now c.edges.list c.append_between.new.list c.edges.invariant.shape c.append_between.ensures.shape in
    let below = c.has_before.ensures.below c.edges-test.true c.in-Some.edge c.next.new.self.edges is in
    let early : c.rank_of-rank.result < 2 * c.args.t = (let r = c.rank_of-rank.ensures in let e = c.end_rank-end.ensures.rank in omega (arith, below, r, e)) in
    record {
      merged = merged_next c.self.inside.queue.edges c.self.inside.others c.edges.cursor.edges c.args.t c.edges.low c.edges.list.edges c.append_between.new.list.edges c.edges.invariant.merged
          c.in-Some.edge c.rank_of-rank.result c.rank_of-rank.ensures c.in_ok-append_between.ensures.ok c.in_ok-append_between.ensures.order c.in_ok-append_between.ensures.high fits.0
          c.append.new.self.edges c.next.new.self.edges is early (ap (λ v. v.edges) c.in_ok-append.ensures.ok);
      fit = fits.2;
      shape = shape_next c.args.list.now c.append_between.new.list c.append.new.self c.in-Some.edge shape c.in_ok-append.ensures.ok;
      taken = λ first kinds same h.
          taken_next c.append_between.new.list c.append.new.self c.in-Some.edge first c.append_between.new.pools c.append.new.pools kinds
          (ap (map cell_kind_of) shape.kinds ∙ same) c.in_ok-append.ensures.ok
          (c.in_ok-append_between.ensures.taken first kinds (ap (map cell_kind_of) c.edges.invariant.shape.kinds ∙ same) (c.edges.invariant.taken first kinds same h)) c.in_ok-append.ensures.pools;
      pools = pools_next c.args.pools.now c.append_between.new.pools c.append.new.pools c.append_between.new.list
          (pools_again c.args.pools.now c.edges.pools c.append_between.new.pools c.edges.invariant.pools c.append_between.ensures.pools) c.in_ok-append.ensures.pools;
    }

pub edges-smaller : goal.edges-smaller
edges-smaller c =
    let is : c.edges.cursor.edges ≡ c.in-Some.edge ∷ c.next.new.self.edges = c.in_ok-edge.ensures.edges ∙ ap (λ o. option_to_list o ++ c.next.new.self.edges) c.in-Some.is in
    omega (arith, ap length is)

pub returns-in_default : goal.returns-in_default
returns-in_default c =
    let none : c.edges.cursor.edges ≡ [] = c.in_ok-edge.ensures.end.0 (ap is_some c.in_default.is) in
    let no = c.has_before.ensures.some none in
    let yes = c.edges-test.true in
    absurd (cc)

pub returns-in_err-append-clause-pools : goal.returns-in_err-append-clause-pools
returns-in_err-append-clause-pools c =
    pools_part c.args.pools.now c.append_between.new.pools c.append.new.pools _
    (pools_again c.args.pools.now c.edges.pools c.append_between.new.pools c.edges.invariant.pools c.append_between.ensures.pools) c.in_err-append.ensures.err_pools

pub returns-clause-ok : goal.returns-clause-ok
returns-clause-ok c =
    ok_maps c.append_between-2.result _ _
    (λ added. subst (λ l. SameBag c.append_between-2.new.list.edges (filter (is_below c.args.t) l)) c.self.view_is
    (merged_all c.self.inside.queue.edges c.self.inside.others c.edges.cursor.edges c.args.t c.edges.low c.end_rank-end.result c.edges.list.edges c.append_between-2.new.list.edges c.edges.invariant.merged
    (none_left c.args.t c.edges.low c.edges.cursor.edges c.edges.invariant.merged.rises
    (λ e es is. let late = c.has_before.ensures.none c.edges-test.false e es is in omega (arith, late, c.end_rank-end.ensures.rank)))
    c.end_rank-end.ensures.rank added))
    c.append_between-2.ensures.ok

pub returns-clause-taken : goal.returns-clause-taken
returns-clause-taken c =
    ok_maps c.append_between-2.result _ _
    (λ t first kinds same h. t first kinds (ap (map cell_kind_of) c.edges.invariant.shape.kinds ∙ same) (c.edges.invariant.taken first kinds same h))
    c.append_between-2.ensures.taken
