use Rattle.std.proofs.Common.{◌≡◌, ◌≤◌, ◌++◌, ◌∷◌, ◌∙◌, Some, map, length, refl, ap, subst, arith}
use Rattle.std.specs.Prelude.{List, IfSome}
use Rattle.tw_rows.specs.declared.edge.Edge.{Edge}
use Rattle.tw_rows.specs.Kinds.{cell_kind_of}
use Rattle.tw_rows.specs.Bag.{total}
use Rattle.tw_rows.proofs.Bags.{total-append}
use Rattle.edge_history.specs.Order.{rank, KeepsOrder}
use Rattle.edge_stream.proofs.Filling.{appended-kinds, appended-capacity, room_taken-capacity, filled_next, taken_next}
use Rattle.edge_stream.proofs.Merging.{with_head, some_edge, no_edge, low_first, order_same, order_other, weigh_over, first_keeps}
use Rattle.edge_stream.proofs.whole.merged.Goals as goal

pub copy_next-requires-clause-order : goal.copy_next-requires-clause-order
copy_next-requires-clause-order c e rest is =
    let out = c.loop-from_left.list.edges in
    first_keeps out e rest (subst (λ es. KeepsOrder (out ++ es)) is c.loop-from_left.invariant.left)

pub loop-from_left-smaller-in-Continue-branch-2 : goal.loop-from_left-smaller-in-Continue-branch-2
loop-from_left-smaller-in-Continue-branch-2 c =
    let told = c.in-Some.is ∙ ap Some c.if-from_left.true in
    let some = (c.left_first.ensures.left told).0 in
    with_head c.loop-from_left.left.edges (some_edge c.rank.result c.loop-from_left.left.edges some c.rank.ensures.none)
    (λ e rest is. omega (arith, ap length (c.in_ok-copy_next.ensures.rest e rest is), ap length is))

pub loop-from_left-preserved-in-Continue-branch-2 : goal.loop-from_left-preserved-in-Continue-branch-2
loop-from_left-preserved-in-Continue-branch-2 c =
    let l = c.loop-from_left.list in
    let i = c.loop-from_left.invariant in
    let told = c.in-Some.is ∙ ap Some c.if-from_left.true in
    let some = (c.left_first.ensures.left told).0 in
    let room : 1 ≤ l.capacity = omega (arith, c.a.invariant.room, ap (λ v. v.capacity) c.a.view_is, i.capacity) in
    with_head c.loop-from_left.left.edges (some_edge c.rank.result c.loop-from_left.left.edges some c.rank.ensures.none)
    (λ e rest is.
    let ok = c.in_ok-copy_next.ensures.ok e rest is in
    let pools = c.in_ok-copy_next.ensures.pools e rest is in
    let added = ap (λ v. v.edges) ok in
    let left = c.in_ok-copy_next.ensures.rest e rest is in
    let here = subst (λ es. KeepsOrder (l.edges ++ es)) is i.left in
    let low = low_first c.rank.result c.rank-in-loop-from_left.result e rest c.loop-from_left.right.edges some (c.left_first.ensures.left told).1
    (subst (λ es. IfSome c.rank.result (λ a. (x : Edge) (xs : List Edge) → es ≡ x ∷ xs → a ≡ rank x)) is c.rank.ensures.rank) c.rank-in-loop-from_left.ensures.none c.rank-in-loop-from_left.ensures.rank in
    record {
      weigh = (λ w. omega (arith, i.weigh w, weigh_over l.edges c.copy_next.new.to.edges e rest c.copy_next.new.self.edges added left w, ap (total w) is));
      left = order_same l.edges c.copy_next.new.to.edges e rest c.copy_next.new.self.edges added left here;
      right = order_other l.edges c.copy_next.new.to.edges e rest c.copy_next.new.self.edges added left c.loop-from_left.right.edges here i.right low;
      kinds = ap (λ v. v.kinds) ok ∙ appended-kinds l e ∙ i.kinds;
      capacity = ap (λ v. v.capacity) ok ∙ appended-capacity l e ∙ i.capacity;
      left_cells = c.copy_next.ensures.kinds ∙ i.left_cells;
      right_cells = i.right_cells;
      room = ap (λ s. s.capacity) pools ∙ room_taken-capacity l c.loop-from_left.pools ∙ i.room;
      filled = filled_next l c.copy_next.new.to e room ok i.filled;
      taken = taken_next l c.copy_next.new.to e c.args.pools.now c.loop-from_left.pools c.copy_next.new.pools _ (ap (map cell_kind_of) i.kinds) ok i.taken pools;
    })

pub copy_next-requires-else-from_left-clause-order : goal.copy_next-requires-else-from_left-clause-order
copy_next-requires-else-from_left-clause-order c e rest is =
    let out = c.loop-from_left.list.edges in
    first_keeps out e rest (subst (λ es. KeepsOrder (out ++ es)) is c.loop-from_left.invariant.right)

pub loop-from_left-smaller : goal.loop-from_left-smaller
loop-from_left-smaller c =
    let told = c.in-Some.is ∙ ap Some c.if-from_left.false in
    let some = (c.left_first.ensures.right told).0 in
    with_head c.loop-from_left.right.edges (some_edge c.rank-in-loop-from_left.result c.loop-from_left.right.edges some c.rank-in-loop-from_left.ensures.none)
    (λ e rest is. omega (arith, ap length (c.in_ok-copy_next-2.ensures.rest e rest is), ap length is))

pub loop-from_left-preserved : goal.loop-from_left-preserved
loop-from_left-preserved c =
    let l = c.loop-from_left.list in
    let i = c.loop-from_left.invariant in
    let told = c.in-Some.is ∙ ap Some c.if-from_left.false in
    let some = (c.left_first.ensures.right told).0 in
    let room : 1 ≤ l.capacity = omega (arith, c.a.invariant.room, ap (λ v. v.capacity) c.a.view_is, i.capacity) in
    with_head c.loop-from_left.right.edges (some_edge c.rank-in-loop-from_left.result c.loop-from_left.right.edges some c.rank-in-loop-from_left.ensures.none)
    (λ e rest is.
    let ok = c.in_ok-copy_next-2.ensures.ok e rest is in
    let pools = c.in_ok-copy_next-2.ensures.pools e rest is in
    let added = ap (λ v. v.edges) ok in
    let left = c.in_ok-copy_next-2.ensures.rest e rest is in
    let here = subst (λ es. KeepsOrder (l.edges ++ es)) is i.right in
    let low = low_first c.rank-in-loop-from_left.result c.rank.result e rest c.loop-from_left.left.edges some (λ a b l r. (c.left_first.ensures.right told).1 b a r l)
    (subst (λ es. IfSome c.rank-in-loop-from_left.result (λ a. (x : Edge) (xs : List Edge) → es ≡ x ∷ xs → a ≡ rank x)) is c.rank-in-loop-from_left.ensures.rank) c.rank.ensures.none c.rank.ensures.rank in
    record {
      weigh = (λ w. omega (arith, i.weigh w, weigh_over l.edges c.copy_next-else-from_left.new.to.edges e rest c.copy_next-else-from_left.new.self.edges added left w, ap (total w) is));
      right = order_same l.edges c.copy_next-else-from_left.new.to.edges e rest c.copy_next-else-from_left.new.self.edges added left here;
      left = order_other l.edges c.copy_next-else-from_left.new.to.edges e rest c.copy_next-else-from_left.new.self.edges added left c.loop-from_left.left.edges here i.left low;
      kinds = ap (λ v. v.kinds) ok ∙ appended-kinds l e ∙ i.kinds;
      capacity = ap (λ v. v.capacity) ok ∙ appended-capacity l e ∙ i.capacity;
      right_cells = c.copy_next-else-from_left.ensures.kinds ∙ i.right_cells;
      left_cells = i.left_cells;
      room = ap (λ s. s.capacity) pools ∙ room_taken-capacity l c.loop-from_left.pools ∙ i.room;
      filled = filled_next l c.copy_next-else-from_left.new.to e room ok i.filled;
      taken = taken_next l c.copy_next-else-from_left.new.to e c.args.pools.now c.loop-from_left.pools c.copy_next-else-from_left.new.pools _ (ap (map cell_kind_of) i.kinds) ok i.taken pools;
    })

pub returns-clause-edges : goal.returns-clause-edges
returns-clause-edges c =
    let both = c.in_default.ensures.none.0 refl in
    let left = no_edge c.rank.result c.loop-from_left.left.edges both.0 c.rank.ensures.none in
    let right = no_edge c.rank-in-loop-from_left.result c.loop-from_left.right.edges both.1 c.rank-in-loop-from_left.ensures.none in
    record { weigh = λ w. omega (arith, c.loop-from_left.invariant.weigh w, ap (total w) left, ap (total w) right, total-append w c.args.a.now.edges c.args.b.now.edges) }
