use Rattle.std.proofs.Common.{◌∙◌, ◌+◌, ◌-◌, ◌++◌, ap, sym, subst, rules}
use Rattle.tw_rows.specs.Bag.{SameBag}
use Rattle.edge_stream.specs.Listing.{cells_of}
use Rattle.edge_stream.proofs.Filling.{batches_given-capacity, batches_taken-capacity}
use Rattle.edge_stream.proofs.Joining.{all_same, all_in_order}
use Rattle.edge_stream.proofs.Pools.{part-capacity, part-limit, batches_given-limit, batches_taken-limit}
use Rattle.edge_stream.proofs.carried.with_new.Goals as goal

pub returns-in_default-clause-pools : goal.returns-in_default-clause-pools
returns-in_default-clause-pools c = ap (λ s. s.capacity) c.give_back.ensures ∙ batches_given-capacity c.args.new.batches c.args.pools.now (cells_of c.args.new)

pub returns-in_default-clause-limit : goal.returns-in_default-clause-limit
returns-in_default-clause-limit c = ap (λ s. s.limit) c.give_back.ensures ∙ batches_given-limit c.args.new.batches c.args.pools.now (cells_of c.args.new)

pub returns-in_err-earlier-clause-pools : goal.returns-in_err-earlier-clause-pools
returns-in_err-earlier-clause-pools c = part-capacity c.args.pools.now c.split_below.new.pools (cells_of c.args.carried) c.in_err-earlier.ensures.err_pools

pub returns-in_err-earlier-clause-limit : goal.returns-in_err-earlier-clause-limit
returns-in_err-earlier-clause-limit c = part-limit c.args.pools.now c.split_below.new.pools (cells_of c.args.carried) c.in_err-earlier.ensures.err_pools

pub in_order-requires-clause-pools : goal.in_order-requires-clause-pools
in_order-requires-clause-pools c =
    ap (λ s. s.capacity) c.in_ok-earlier.ensures.pools
    ∙ batches_taken-capacity (c.in_ok-earlier.earlier.batches + c.split_below.new.self.batches - c.args.carried.batches) c.args.pools.now (cells_of c.args.carried)
    ∙ c.requires.pools ∙ sym c.split_below.ensures.shape.capacity

pub returns-in_err-rest-clause-pools : goal.returns-in_err-rest-clause-pools
returns-in_err-rest-clause-pools c =
    c.in_order.ensures.pools ∙ ap (λ s. s.capacity) c.in_ok-earlier.ensures.pools
    ∙ batches_taken-capacity (c.in_ok-earlier.earlier.batches + c.split_below.new.self.batches - c.args.carried.batches) c.args.pools.now (cells_of c.args.carried)

pub returns-in_err-rest-clause-limit : goal.returns-in_err-rest-clause-limit
returns-in_err-rest-clause-limit c =
    c.in_order.ensures.limit ∙ ap (λ s. s.limit) c.in_ok-earlier.ensures.pools
    ∙ batches_taken-limit (c.in_ok-earlier.earlier.batches + c.split_below.new.self.batches - c.args.carried.batches) c.args.pools.now (cells_of c.args.carried)

pub joined-requires-clause-pools : goal.joined-requires-clause-pools
joined-requires-clause-pools c =
    c.in_order.ensures.pools ∙ ap (λ s. s.capacity) c.in_ok-earlier.ensures.pools
    ∙ batches_taken-capacity (c.in_ok-earlier.earlier.batches + c.split_below.new.self.batches - c.args.carried.batches) c.args.pools.now (cells_of c.args.carried)
    ∙ c.requires.pools ∙ sym c.in_ok-earlier.ensures.alike.capacity

pub joined-requires-clause-order : goal.joined-requires-clause-order
joined-requires-clause-order c =
    all_in_order c.in-Some.first c.args.carried.edges c.in_ok-earlier.earlier.edges c.split_below.new.self.edges c.args.new.edges c.in_ok-rest.rest.edges
    c.in_ok-earlier.ensures.whole c.in_ok-rest.ensures.all.edges c.cursor.ensures.order c.in_ok-rest.ensures.all.order c.in_ok-earlier.ensures.below c.in_ok-earlier.ensures.rest c.in-Some.ensures.first

pub returns-clause-all : goal.returns-clause-all
returns-clause-all c = record {
  edges = subst (λ l. SameBag l (c.args.carried.edges ++ c.args.new.edges)) (sym c.in_ok-all.ensures.edges)
      (all_same c.in-Some.first c.args.carried.edges c.in_ok-earlier.earlier.edges c.split_below.new.self.edges c.args.new.edges c.in_ok-rest.rest.edges
      c.in_ok-earlier.ensures.whole c.in_ok-rest.ensures.all.edges);
  order = search rules;
  kinds = search rules;
  capacity = search rules;
}

pub returns-clause-pools : goal.returns-clause-pools
returns-clause-pools c =
    c.joined.ensures.pools ∙ c.in_order.ensures.pools ∙ ap (λ s. s.capacity) c.in_ok-earlier.ensures.pools
    ∙ batches_taken-capacity (c.in_ok-earlier.earlier.batches + c.split_below.new.self.batches - c.args.carried.batches) c.args.pools.now (cells_of c.args.carried)

pub returns-clause-limit : goal.returns-clause-limit
returns-clause-limit c =
    c.joined.ensures.limit ∙ c.in_order.ensures.limit ∙ ap (λ s. s.limit) c.in_ok-earlier.ensures.pools
    ∙ batches_taken-limit (c.in_ok-earlier.earlier.batches + c.split_below.new.self.batches - c.args.carried.batches) c.args.pools.now (cells_of c.args.carried)

pub returns-in_err-all-clause-pools : goal.returns-in_err-all-clause-pools
returns-in_err-all-clause-pools c =
    c.joined.ensures.pools ∙ c.in_order.ensures.pools ∙ ap (λ s. s.capacity) c.in_ok-earlier.ensures.pools
    ∙ batches_taken-capacity (c.in_ok-earlier.earlier.batches + c.split_below.new.self.batches - c.args.carried.batches) c.args.pools.now (cells_of c.args.carried)

pub returns-in_err-all-clause-limit : goal.returns-in_err-all-clause-limit
returns-in_err-all-clause-limit c =
    c.joined.ensures.limit ∙ c.in_order.ensures.limit ∙ ap (λ s. s.limit) c.in_ok-earlier.ensures.pools
    ∙ batches_taken-limit (c.in_ok-earlier.earlier.batches + c.split_below.new.self.batches - c.args.carried.batches) c.args.pools.now (cells_of c.args.carried)
