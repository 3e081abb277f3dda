use Rattle.std.proofs.Common.{◌≡◌, ◌∙◌, ◌++◌, ◌∷◌, [], ℕ, List, true, map, sym, ap, take}
use Rattle.std.specs.List.{list_all}
use Rattle.std.proofs.lemmas.List.{take_more}
use Rattle.tw_rows.specs.Kinds.{cell_kind_of}
use Rattle.tw_rows.specs.declared.edge.Edge.{Edge}
use Rattle.edge_history.proofs.Keeping.{KeepsOrder-next}
use Rattle.edge_stream.proofs.Filling.{appended-kinds, appended-capacity, room_taken-capacity, taken_next}
use Rattle.edge_stream.proofs.Pools.{part-capacity, part-limit, room_taken-limit}
use Rattle.edge_history.specs.Order.{failing}
use Rattle.edge_stream.proofs.CarriedParts.{none_fails, all_pass}
use Rattle.sweep_sides.specs.Answers.{is_between}
use Rattle.sweep_sides.proofs.Telling.{between_part}
use Rattle.sweep_sides.proofs.answer.list_of.Goals as goal

pub append-requires-clause-order : goal.append-requires-clause-order
append-requires-clause-order c =
    KeepsOrder-next c.args.edges.now c.loop-edge.list.edges c.loop-edge.edge-index c.edge-item.result c.loop-edge-test.true c.edge-item.is c.loop-edge.invariant.so_far
    (c.keeps_order.ensures.0 c.if-not-keeps_order.false)

pub returns-in_err-append-clause-pools : goal.returns-in_err-append-clause-pools
returns-in_err-append-clause-pools c = part-capacity c.loop-edge.pools c.append.new.pools _ c.in_err-append.ensures.err_pools ∙ c.loop-edge.invariant.pools

pub returns-in_err-append-clause-limit : goal.returns-in_err-append-clause-limit
returns-in_err-append-clause-limit c = part-limit c.loop-edge.pools c.append.new.pools _ c.in_err-append.ensures.err_pools ∙ c.loop-edge.invariant.limit

pub loop-edge-preserved : goal.loop-edge-preserved
loop-edge-preserved c =
    let list = c.loop-edge.list in
    let x = c.edge-item.result in
    let i = c.loop-edge.edge-index in
    let k = c.loop-edge.invariant in
    record {
      so_far = ap (λ l. l.edges) c.in_ok-append.ensures.ok ∙ (ap (λ l. l ++ x ∷ []) k.so_far ∙ (ap (λ (e : Edge). take i c.args.edges.now ++ e ∷ []) c.edge-item.is ∙ sym (take_more c.args.edges.now i x c.loop-edge-test.true)));
      kinds = ap (λ l. l.kinds) c.in_ok-append.ensures.ok ∙ (appended-kinds list x ∙ k.kinds);
      capacity = ap (λ l. l.capacity) c.in_ok-append.ensures.ok ∙ (appended-capacity list x ∙ k.capacity);
      taken = taken_next list c.append.new.self x c.args.pools.now c.loop-edge.pools c.append.new.pools (map cell_kind_of c.args.kinds.now) (ap (map cell_kind_of) k.kinds) c.in_ok-append.ensures.ok k.taken c.in_ok-append.ensures.pools;
      pools = ap (λ s. s.capacity) c.in_ok-append.ensures.pools ∙ (room_taken-capacity list c.loop-edge.pools ∙ k.pools);
      limit = ap (λ s. s.limit) c.in_ok-append.ensures.pools ∙ (room_taken-limit list c.loop-edge.pools ∙ k.limit);
    }

-- what was appended is between the times
so_far : (c d i : ℕ) (edges list : List Edge) → true ≡ list_all (is_between c d) edges → list ≡ take i edges → failing (is_between c d) list ≡ 0
so_far c d i edges list all is = ap (failing (is_between c d)) is ∙ between_part c d i edges (none_fails (is_between c d) edges (sym all))

pub returns-then-not-is_stored_as-clause-between : goal.returns-then-not-is_stored_as-clause-between
returns-then-not-is_stored_as-clause-between c =
    so_far c.args.from c.args.to c.loop-edge.edge-index c.args.edges.now c.loop-edge.list.edges (sym c.if-not-come_between.false ∙ c.come_between.ensures) c.loop-edge.invariant.so_far

pub returns-clause-between : goal.returns-clause-between
returns-clause-between c =
    so_far c.args.from c.args.to c.loop-edge.edge-index c.args.edges.now c.loop-edge.list.edges (sym c.if-not-come_between.false ∙ c.come_between.ensures) c.loop-edge.invariant.so_far

pub returns-then-not-come_between-clause-edges : goal.returns-then-not-come_between-clause-edges
returns-then-not-come_between-clause-edges c = λ fits.
    let all = c.come_between.ensures ∙ all_pass (is_between c.args.from c.args.to) c.args.edges.now fits.between in
    let none = c.if-not-come_between.true in
    absurd (cc)
