use Rattle.std.proofs.Common.{rules, ◌≡◌, ◌≤◌, ◌<◌, ◌∙◌, ◌++◌, ◌∷◌, [], ◌+◌, map, length, get_or, take, append_assoc, ap, sym, subst, refl, arith}
use Rattle.std.specs.Prelude.{All, false, Some, slice_get}
use Rattle.std.proofs.lemmas.List.{take_all, take_more, map-append}
use Rattle.std.proofs.lemmas.List.Elements.{All-set, All-append, All-nil, All-cons}
use Rattle.std.proofs.lemmas.Option.{slice_get-get_or}
use Rattle.tw_rows.specs.Bag.{total}
use Rattle.tw_rows.specs.Kinds.{cell_kind_of}
use Rattle.tw_rows.proofs.Bags.{total-append, total-map, total-flat_map}
use Rattle.batch.proofs.PoolLaws.{always}
use Rattle.edge_history.specs.Order.{KeepsOrder}
use Rattle.edge_history.proofs.Keeping.{KeepsOrder-nil}
use Rattle.edge_stream.specs.Listing.{EdgeListView}
use Rattle.edge_stream.specs.Reading.{Unread, rank_ahead, is_below_rank}
use Rattle.edge_stream.proofs.Filling.{appended-kinds, appended-capacity, room_taken-capacity, filled_next, taken_next}
use Rattle.edge_stream.proofs.Merging.{with_head, first_keeps}
use Rattle.edge_stream.proofs.Together.{unread_of, All-unread, total-set, order_all, some_ahead, total_none, part_taken}
use Rattle.edge_stream.proofs.list.EdgeList.merged.Goals as goal

pub loop-list-preserved : goal.loop-list-preserved
loop-list-preserved c =
    let i = c.loop-list.invariant in
    let k = c.loop-list.list-index in
    let l = c.list-item.result in
    let items = c.push_reserved.ensures.items in
    let cursor = c.cursor.ensures.cursor in
    let keeps : KeepsOrder c.cursor.result.edges = subst KeepsOrder (sym (ap (λ u. u.edges) cursor)) c.cursor.ensures.order in
    record {
      items = items ∙ (λ j. i.items j ++ cursor j ∷ [])
          ∙ ap (λ x. map unread_of (take k c.args.lists.now) ++ unread_of x ∷ []) c.list-item.is
          ∙ sym (map-append unread_of (take k c.args.lists.now) (get_or c.args.lists.now k l ∷ []))
          ∙ ap (map unread_of) (sym (take_more c.args.lists.now k l c.loop-list-test.true));
      order = subst (All (λ u. KeepsOrder u.edges)) (sym items)
          (All-append (λ u. KeepsOrder u.edges) c.loop-list.cursors.items (c.cursor.result ∷ []) i.order (All-cons (λ u. KeepsOrder u.edges) c.cursor.result [] keeps (All-nil (λ u. KeepsOrder u.edges))));
      count = c.push_reserved.ensures.len ∙ ap (λ n. n + 1) i.count;
      room = omega (arith, i.room, c.push_reserved.ensures.capacity);
    }

pub loop-first-init : goal.loop-first-init
loop-first-init c =
    let i = c.loop-list.invariant in
    let lists = c.args.lists.now in
    let new = c.in_ok-whole.ensures in
    let all : c.loop-list.cursors.items ≡ map unread_of lists = i.items ∙ ap (map unread_of) (take_all c.loop-list.list-index lists (omega (arith, c.loop-list-test.false))) in
    let none : c.in_ok-whole.whole.edges ≡ [] = ap (λ v. v.edges) new in
    record {
      weigh = λ w.
          let a = ap (λ cs. total (λ u. total w u.edges) cs) all in
          let b = total-map (λ u. total w u.edges) unread_of lists in
          omega (arith, a, b, ap (total w) none);
      order = subst (λ es. All (λ u. KeepsOrder (es ++ u.edges)) c.loop-list.cursors.items) (sym none) i.order;
      alone = subst KeepsOrder (sym none) KeepsOrder-nil;
      cells = subst (All (λ u. u.kinds ≡ map cell_kind_of c.args.kinds.now)) (sym all) (All-unread (λ u. u.kinds ≡ map cell_kind_of c.args.kinds.now) lists c.requires.kinds);
      kinds = ap (λ v. v.kinds) new;
      capacity = ap (λ v. v.capacity) new ∙ c.capacity.ensures;
      room = refl;
      filled = search rules;
      taken = search rules;
    }

pub copy_next-requires-clause-order : goal.copy_next-requires-clause-order
copy_next-requires-clause-order c e rest is =
    let i = c.in-Some.first in
    let items = c.loop-first.cursors.items in
    let low : i < length items = omega (arith, c.in-Some.ensures.within, ap length c.deref.ensures.value) in
    let here = c.loop-first.invariant.order i c.index_mut.result.now low in
    first_keeps c.loop-first.whole.edges e rest (subst (λ es. KeepsOrder (c.loop-first.whole.edges ++ es)) (ap (λ u. u.edges) (sym c.index_mut.ensures.value) ∙ is) here)

pub loop-first-smaller : goal.loop-first-smaller
loop-first-smaller c =
    let i = c.in-Some.first in
    let items = c.loop-first.cursors.items in
    let u = c.index_mut.result.now in
    let low : i < length items = omega (arith, c.in-Some.ensures.within, ap length c.deref.ensures.value) in
    let least = c.in-Some.ensures.least u (ap (λ us. slice_get us i) c.deref.ensures.value ∙ slice_get-get_or items i u low ∙ ap Some (sym c.index_mut.ensures.value)) in
    with_head u.edges (some_ahead u.edges least.some)
    (λ e rest is.
    let sum = total-set (λ v. length v.edges) items i c.copy_next.new.self u low in
    omega (arith, sum, ap (λ v. length v.edges) c.index_mut.ensures.value, ap length is, ap length (c.in_ok-copy_next.ensures.rest e rest is)))

pub loop-first-preserved : goal.loop-first-preserved
loop-first-preserved c =
    let i = c.in-Some.first in
    let items = c.loop-first.cursors.items in
    let u = c.index_mut.result.now in
    let l = c.loop-first.whole in
    let inv = c.loop-first.invariant in
    let low : i < length items = omega (arith, c.in-Some.ensures.within, ap length c.deref.ensures.value) in
    let least = c.in-Some.ensures.least u (ap (λ us. slice_get us i) c.deref.ensures.value ∙ slice_get-get_or items i u low ∙ ap Some (sym c.index_mut.ensures.value)) in
    let room : 1 ≤ l.capacity = omega (arith, c.requires.room, inv.capacity) in
    let cells : All (λ v. v.kinds ≡ map cell_kind_of c.args.kinds.now) items = inv.cells in
    with_head u.edges (some_ahead u.edges least.some)
    (λ e rest is.
    let ok = c.in_ok-copy_next.ensures.ok e rest is in
    let pools = c.in_ok-copy_next.ensures.pools e rest is in
    let added = ap (λ v. v.edges) ok in
    let left = c.in_ok-copy_next.ensures.rest e rest is in
    let here : KeepsOrder (l.edges ++ e ∷ rest) = subst (λ es. KeepsOrder (l.edges ++ es)) (ap (λ v. v.edges) (sym c.index_mut.ensures.value) ∙ is) (inv.order i u low) in
    let others : All (λ v. is_below_rank (rank_ahead v.edges) (rank_ahead (e ∷ rest)) ≡ false) items =
    subst (λ us. All (λ v. is_below_rank (rank_ahead v.edges) (rank_ahead (e ∷ rest)) ≡ false) us) c.deref.ensures.value
    (subst (λ es. All (λ v. is_below_rank (rank_ahead v.edges) (rank_ahead es) ≡ false) c.deref.result.now) is least.least) in
    let order = order_all l.edges c.copy_next.new.to.edges e rest added here items inv.order others in
    let own : KeepsOrder (c.copy_next.new.to.edges ++ c.copy_next.new.self.edges) =
    subst KeepsOrder (sym ((λ j. added j ++ left j) ∙ append_assoc l.edges (e ∷ []) rest)) here in
    record {
      weigh = λ w.
          let sum = total-set (λ v. total w v.edges) items i c.copy_next.new.self u low in
          let more = ap (total w) added ∙ total-append w l.edges (e ∷ []) in
          omega (arith, inv.weigh w, sum, more, ap (λ v. total w v.edges) c.index_mut.ensures.value, ap (total w) is, ap (total w) left);
      order = All-set (λ v. KeepsOrder (c.copy_next.new.to.edges ++ v.edges)) items i c.copy_next.new.self own order;
      alone = subst KeepsOrder (sym added) (first_keeps l.edges e rest here);
      cells = All-set (λ v. v.kinds ≡ map cell_kind_of c.args.kinds.now) items i c.copy_next.new.self
          (c.copy_next.ensures.kinds ∙ ap (λ v. v.kinds) c.index_mut.ensures.value ∙ cells i u low) cells;
      kinds = ap (λ v. v.kinds) ok ∙ appended-kinds l e ∙ inv.kinds;
      capacity = ap (λ v. v.capacity) ok ∙ appended-capacity l e ∙ inv.capacity;
      room = ap (λ s. s.capacity) pools ∙ room_taken-capacity l c.loop-first.pools ∙ inv.room;
      filled = filled_next l c.copy_next.new.to e room ok inv.filled;
      taken = taken_next l c.copy_next.new.to e c.args.pools.now c.loop-first.pools c.copy_next.new.pools _ (ap (map cell_kind_of) inv.kinds) ok inv.taken pools;
    })

pub returns-in_err-copy_next-clause-err_pools : goal.returns-in_err-copy_next-clause-err_pools
returns-in_err-copy_next-clause-err_pools c =
    let inv = c.loop-first.invariant in
    let part = part_taken c.args.pools.now c.loop-first.pools c.copy_next.new.pools c.loop-first.whole.batches _ _ inv.taken (ap (map cell_kind_of) inv.kinds) c.in_err-copy_next.ensures.err_pools in
    always c.from_residual-in_err-copy_next.result _ part

pub returns-clause-edges : goal.returns-clause-edges
returns-clause-edges c =
    let lists = c.args.lists.now in
    let empty = subst (All (λ (u : Unread). u.edges ≡ [])) c.deref.ensures.value c.in_default.ensures.none in
    record {
      weigh = λ w.
          let none = total_none w c.loop-first.cursors.items empty in
          let all = total-flat_map w (λ (l : EdgeListView). l.edges) lists in
          omega (arith, c.loop-first.invariant.weigh w, none, all);
    }

pub returns-clause-order : goal.returns-clause-order
returns-clause-order c = c.loop-first.invariant.alone
