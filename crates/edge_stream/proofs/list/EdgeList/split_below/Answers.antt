use Rattle.std.proofs.Common.{◌≡◌, ◌+◌, ◌-◌, ◌++◌, ◌∷◌, [], ◌∙◌, map, refl, append-nil, length, take, drop, ap, sym, subst, arith}
use Rattle.std.specs.Prelude.{All}
use Rattle.std.specs.Option.{option_to_list}
use Rattle.std.proofs.lemmas.List.{length-append, take-append-drop}
use Rattle.std.proofs.lemmas.List.Elements.{All-append, All-take, All-drop}
use Rattle.tw_rows.specs.Kinds.{cell_kind_of}
use Rattle.edge_history.specs.Order.{KeepsOrder}
use Rattle.edge_history.proofs.Keeping.{KeepsOrder-front, KeepsOrder-back}
use Rattle.edge_stream.specs.Listing.{IsListing, IsOf, edges_in}
use Rattle.edge_stream.specs.Taking.{batches_taken}
use Rattle.edge_stream.proofs.Rising.{parts_are_whole}
use Rattle.edge_stream.proofs.Listings.{IsListing-same, All-same_kind}
use Rattle.edge_stream.proofs.list.EdgeList.split_below.Goals as goal
use Rattle.edge_stream.proofs.list.EdgeList.split_below.Goals.{in-Some, in_default}

pub returns-clause-whole : goal.returns-clause-whole
returns-clause-whole c =
    let ys = c.part_at.new.batches.items in
    let n = c.batches_below-whole.result in
    let moved = c.move_front.ensures.moved ∙ ap (λ l. l ++ take n ys) c.in_ok-front.ensures.items in
    let front : c.match-part.front.items ≡ take n ys ++ option_to_list c.in_ok-part.part = elim c.match-part.branch [
      | in-Some w ↦ ap (λ q. q.items) w.front-is ∙ w.push_back_reserved.ensures.items ∙ ap (λ l. l ++ w.in-Some.batch ∷ []) moved ∙ ap (λ p. take n ys ++ option_to_list p) (sym w.in-Some.is)
      | in_default w ↦ ap (λ q. q.items) w.front-is ∙ moved ∙ sym (append-nil (take n ys)) ∙ ap (λ p. take n ys ++ option_to_list p) (sym w.in_default.is)
    ] in
    (λ i. edges_in (front i) ++ edges_in (c.move_front.ensures.left i)) ∙ (λ i. c.in_ok-part.ensures.lower i ++ c.in_ok-part.ensures.upper i)
    ∙ parts_are_whole c.args.t 0 (edges_in c.self.inside.batches.items) c.self.invariant.order.rises ∙ ap (λ v. v.edges) c.self.view_is

pub invariant_of-result : goal.invariant_of-result
invariant_of-result c =
    let ys = c.part_at.new.batches.items in
    let n = c.batches_below-whole.result in
    let kinds = map cell_kind_of c.self.inside.kinds.items in
    let P = IsOf kinds c.self.inside.capacity in
    let moved = c.move_front.ensures.moved ∙ ap (λ l. l ++ take n ys) c.in_ok-front.ensures.items in
    let front : c.match-part.front.items ≡ take n ys ++ option_to_list c.in_ok-part.part = elim c.match-part.branch [
      | in-Some w ↦ ap (λ q. q.items) w.front-is ∙ w.push_back_reserved.ensures.items ∙ ap (λ l. l ++ w.in-Some.batch ∷ []) moved ∙ ap (λ p. take n ys ++ option_to_list p) (sym w.in-Some.is)
      | in_default w ↦ ap (λ q. q.items) w.front-is ∙ moved ∙ sym (append-nil (take n ys)) ∙ ap (λ p. take n ys ++ option_to_list p) (sym w.in_default.is)
    ] in
    let pools = c.requires ∙ sym (ap (λ v. v.capacity) c.self.view_is) in
    let same = ap (map cell_kind_of) c.deref-2.ensures.value in
    let alike = All-same_kind kinds _ c.self.inside.capacity _ _ same pools c.part_at.ensures.alike in
    let part = All-same_kind kinds _ c.self.inside.capacity _ _ same pools c.in_ok-part.ensures.part in
    let whole = returns-clause-whole c ∙ sym (ap (λ v. v.edges) c.self.view_is) in
    let made : IsListing kinds c.self.inside.capacity c.match-part.front.items = record {
      order = KeepsOrder-front (edges_in c.match-part.front.items) (edges_in c.move_front.new.from.items) (subst KeepsOrder (sym whole) c.self.invariant.order);
      alike = subst (All P) (sym front) (All-append P (take n ys) (option_to_list c.in_ok-part.part) (All-take P n ys alike) part);
      room = c.self.invariant.room;
      width = c.self.invariant.width;
    } in
    IsListing-same kinds _ c.self.inside.capacity _ c.match-part.front.items _ (ap (map cell_kind_of) (c.in_ok-kinds.ensures.items ∙ c.deref.ensures.value)) refl refl made

pub invariant_of-self-2 : goal.invariant_of-self-2
invariant_of-self-2 c =
    let ys = c.part_at.new.batches.items in
    let n = c.batches_below-whole.result in
    let kinds = map cell_kind_of c.self.inside.kinds.items in
    let P = IsOf kinds c.self.inside.capacity in
    let pools = c.requires ∙ sym (ap (λ v. v.capacity) c.self.view_is) in
    let same = ap (map cell_kind_of) c.deref-2.ensures.value in
    let alike = All-same_kind kinds _ c.self.inside.capacity _ _ same pools c.part_at.ensures.alike in
    let whole = returns-clause-whole c ∙ sym (ap (λ v. v.edges) c.self.view_is) in
    record {
      order = KeepsOrder-back (edges_in c.match-part.front.items) (edges_in c.move_front.new.from.items) (subst KeepsOrder (sym whole) c.self.invariant.order);
      alike = subst (All P) (sym c.move_front.ensures.left) (All-drop P n ys alike);
      room = c.self.invariant.room;
      width = c.self.invariant.width;
    }

pub returns-clause-pools : goal.returns-clause-pools
returns-clause-pools c =
    let ys = c.part_at.new.batches.items in
    let n = c.batches_below-whole.result in
    let opt = option_to_list c.in_ok-part.part in
    let moved = c.move_front.ensures.moved ∙ ap (λ l. l ++ take n ys) c.in_ok-front.ensures.items in
    let front : c.match-part.front.items ≡ take n ys ++ opt = elim c.match-part.branch [
      | in-Some w ↦ ap (λ q. q.items) w.front-is ∙ w.push_back_reserved.ensures.items ∙ ap (λ l. l ++ w.in-Some.batch ∷ []) moved ∙ ap (λ p. take n ys ++ option_to_list p) (sym w.in-Some.is)
      | in_default w ↦ ap (λ q. q.items) w.front-is ∙ moved ∙ sym (append-nil (take n ys)) ∙ ap (λ p. take n ys ++ option_to_list p) (sym w.in_default.is)
    ] in
    let first = ap length front ∙ length-append (take n ys) opt in
    let rest = ap length c.move_front.ensures.left in
    let both = sym (length-append (take n ys) (drop n ys)) ∙ ap length (take-append-drop n ys) ∙ c.part_at.ensures.len ∙ ap (λ v. v.batches) c.self.view_is in
    let count : length opt ≡ length c.match-part.front.items + length c.move_front.new.from.items - c.args.self.now.batches = omega (arith, first, rest, both) in
    let kinds = ap (map cell_kind_of) c.deref-2.ensures.value ∙ ap (λ v. map cell_kind_of v.kinds) c.self.view_is in
    c.in_ok-part.ensures.pools ∙ (λ i. batches_taken (count i) c.args.pools.now (kinds i))
