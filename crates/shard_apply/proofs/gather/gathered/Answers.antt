use Rattle.std.proofs.Common.{◌≡◌, ◌<◌, ◌∙◌, Some, List, length, get_or, ap, sym, subst, arith}
use Rattle.std.specs.Prelude.{IsOk, IfOk, flat_map}
use Rattle.std.proofs.lemmas.List.{get_or-map, length-map}
use Rattle.tw_rows.specs.Bag.{SameBag}
use Rattle.edge_stream.specs.Listing.{EdgeListView, cells_of}
use Rattle.shard_apply.specs.Stepping.{edges_answered, first_list}
use Rattle.shard_apply.proofs.Faults.{all_fine, least_told, as_many, list_is, lists_alike, with_item, edges_of_lists, edges_of_shards}
use Rattle.shard_apply.proofs.gather.gathered.Goals as goal

pub returns-in-Some-clause-overflow : goal.returns-in-Some-clause-overflow
returns-in-Some-clause-overflow g c time is = least_told time _ (sym c.worst_fault.ensures ∙ c.in-Some.is ∙ ap Some is)

pub take_answers-requires-after_bounds : goal.take_answers-requires-after_bounds
take_answers-requires-after_bounds g c κs within k d low =
    let shards = c.args.shards.now in
    let fine = all_fine _ (sym c.worst_fault.ensures ∙ c.in_default.is) in
    subst IsOk (get_or-map (λ s. s.answer) shards k d d.answer low) (fine k d.answer (omega (arith, low, length-map shards (λ s. s.answer))))

pub merged-requires-clause-alike : goal.merged-requires-clause-alike
merged-requires-clause-alike g c =
    let shards = c.args.shards.now in
    let lists = c.in_ok-lists.lists.items in
    with_item shards c.requires.some (λ s.
    subst (λ (ls : List EdgeListView). (k : _) (d : EdgeListView) → k < length ls → cells_of (get_or ls k d) ≡ cells_of (first_list ls)) (sym c.deref.ensures.value)
    (lists_alike (λ s. s.answer) lists shards c.in_ok-lists.ensures.lists s c.requires.some c.requires.alike))

pub give_back-requires-clause-capacities : goal.give_back-requires-clause-capacities
give_back-requires-clause-capacities g c κs within i d e low =
    let shards = c.args.shards.now in
    let left = c.take_answers.new.shards in
    let lists = c.in_ok-lists.lists.items in
    let are = c.in_ok-lists.ensures.lists in
    let many = as_many (λ s. s.answer) lists shards are in
    let same = c.take_answers.ensures.capacities in
    let long : length left ≡ length shards = sym (length-map left (λ s. s.pools.capacity)) ∙ ap length same ∙ length-map shards (λ s. s.pools.capacity) in
    let own = subst (λ r. IfOk r (λ a. a.capacity ≡ (get_or shards i e).pools.capacity)) (list_is (λ s. s.answer) lists shards are i d e low) (c.requires.capacities i e (omega (arith, low, many))) in
    own
    ∙ sym (get_or-map (λ s. s.pools.capacity) shards i e 0 (omega (arith, low, many)))
    ∙ ap (λ cs. get_or cs i 0) (sym same)
    ∙ get_or-map (λ s. s.pools.capacity) left i e 0 (omega (arith, low, many, long))

pub returns-clause-ok : goal.returns-clause-ok
returns-clause-ok g c k d low =
    let shards = c.args.shards.now in
    let fine = all_fine _ (sym c.worst_fault.ensures ∙ c.in_default.is) in
    subst IsOk (get_or-map (λ s. s.answer) shards k d d.answer low) (fine k d.answer (omega (arith, low, length-map shards (λ s. s.answer))))

pub returns-clause-edges : goal.returns-clause-edges
returns-clause-edges g c =
    let shards = c.args.shards.now in
    let lists = c.in_ok-lists.lists.items in
    subst (SameBag c.in_ok-whole.whole.edges)
    (ap (flat_map (λ l. l.edges)) c.deref.ensures.value ∙ sym (edges_of_lists lists) ∙ ap (flat_map edges_answered) c.in_ok-lists.ensures.lists ∙ edges_of_shards (λ s. s.answer) shards)
    c.in_ok-whole.ensures.edges

pub returns-clause-kinds : goal.returns-clause-kinds
returns-clause-kinds g c k d low =
    let shards = c.args.shards.now in
    let lists = c.in_ok-lists.lists.items in
    let are = c.in_ok-lists.ensures.lists in
    let whole = c.in_ok-whole.whole in
    let many = as_many (λ s. s.answer) lists shards are in
    let within : k < length lists = omega (arith, low, many) in
    let first = c.in_ok-whole.ensures.kinds ∙ ap (λ ls. cells_of (first_list ls)) c.deref.ensures.value in
    let alike = lists_alike (λ s. s.answer) lists shards are d c.requires.some c.requires.alike k whole within in
    subst (λ r. IfOk r (λ a. cells_of whole ≡ cells_of a)) (sym (list_is (λ s. s.answer) lists shards are k whole d within)) (first ∙ sym alike)
