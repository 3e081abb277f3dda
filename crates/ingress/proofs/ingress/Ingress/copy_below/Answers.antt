use Rattle.std.specs.Prelude.{◌≡◌, ◌<◌, List, [], ◌∷◌, ◌++◌, length}
use Rattle.std.proofs.Common.{◌∙◌, ap, refl, sym, subst, arith}
use Rattle.std.proofs.lemmas.List.{length-map, take_all}
use Rattle.batch.specs.PoolsView.{PoolsView}
use Rattle.edge_stream.specs.Listing.{EdgeListView, cells_of}
use Rattle.edge_stream.specs.Taking.{batches_taken}
use Rattle.ingress.specs.Ranks.{lists_taken}
use Rattle.ingress.specs.Admits.{kinds_of}
use Rattle.ingress.proofs.Fitting.{pools_again, pools_same}
use Rattle.ingress.proofs.Leaving.{ReleasedTo, released_first, released_next, released_each}
use Rattle.ingress.proofs.ingress.Ingress.copy_below.Goals as goal

-- one list more
lists_next : (s : PoolsView) (ls : List EdgeListView) (l : EdgeListView) → lists_taken s (ls ++ l ∷ []) ≡ batches_taken l.batches (lists_taken s ls) (cells_of l)
lists_next s [] l = refl
lists_next s (x ∷ ls) l = lists_next (batches_taken x.batches s (cells_of x)) ls l

pub copy_stream-requires-clause-capacity : goal.copy_stream-requires-clause-capacity
copy_stream-requires-clause-capacity c = c.loop-stream.invariant.pools.capacity ∙ c.requires

pub loop-stream-init : goal.loop-stream-init
loop-stream-init c = let i = c.args.self.now in record {
  released = subst (ReleasedTo c.args.p 0 i.capacity (kinds_of i) i.held.waiting.items) (sym c.new-lists.ensures.items) (released_first c.args.p i.capacity (kinds_of i) i.held.waiting.items);
  taken = sym (ap (lists_taken c.args.pools.now) c.new-lists.ensures.items);
  pools = pools_same c.args.pools.now;
}

pub loop-stream-preserved : goal.loop-stream-preserved
loop-stream-preserved c =
    let i = c.args.self.now in
    let l = length-map i.kinds.items (λ k. k.items) in
    let t = c.loop-stream-test.true in
    let e = c.len-stream-end.ensures in
    let low : c.loop-stream.stream < length (kinds_of i) = omega (arith, l, t, e) in
    let one = c.in_ok-copy_stream.ensures in
    record {
      released = released_next c.args.p i.capacity (kinds_of i) i.held.waiting.items c.loop-stream.stream c.loop-stream.lists.items c.push.new.self.items c.in_ok-copy_stream.field-0
          c.in_ok-push.ensures.items low c.in_ok-copy_stream.ensures.kinds c.in_ok-copy_stream.ensures.capacity c.in_ok-copy_stream.ensures.edges c.in_ok-copy_stream.ensures.order c.loop-stream.invariant.released;
      taken = c.in_ok-copy_stream.ensures.taken
          ∙ ap (λ s. batches_taken c.in_ok-copy_stream.field-0.batches s (cells_of c.in_ok-copy_stream.field-0)) c.loop-stream.invariant.taken
          ∙ sym (lists_next c.args.pools.now c.loop-stream.lists.items c.in_ok-copy_stream.field-0)
          ∙ ap (lists_taken c.args.pools.now) (sym c.in_ok-push.ensures.items);
      pools = pools_again c.args.pools.now c.loop-stream.pools c.copy_stream.new.pools c.loop-stream.invariant.pools c.in_ok-copy_stream.ensures.pools;
    }

pub returns-clause-edges : goal.returns-clause-edges
returns-clause-edges c =
    let i = c.args.self.now in
    let l = length-map i.kinds.items (λ k. k.items) in
    let w = i.shape.waiting in
    let t = c.loop-stream-test.false in
    let e = c.len-stream-end.ensures in
    released_each c.args.p i.capacity (kinds_of i) i.held.waiting.items c.loop-stream.stream c.loop-stream.lists.items (omega (arith, l, w, t, e)) c.loop-stream.invariant.released

pub returns-clause-lists : goal.returns-clause-lists
returns-clause-lists c =
    let i = c.args.self.now in
    let l = length-map i.kinds.items (λ k. k.items) in
    let t = c.loop-stream-test.false in
    let e = c.len-stream-end.ensures in
    record {
      kinds = c.loop-stream.invariant.released.kinds_so_far ∙ take_all c.loop-stream.stream (kinds_of i) (omega (arith, l, t, e));
      capacity = c.loop-stream.invariant.released.capacity;
    }
