use Rattle.std.proofs.Common.{◌≡◌, ◌<◌, ◌∙◌, true, length, take, drop, sym, ap, arith, append-nil}
use Rattle.std.specs.Prelude.{filter}
use Rattle.std.specs.List.{list_all}
use Rattle.batch.specs.Rows.{edges_of, kept}
use Rattle.edge_history.specs.Order.{is_below, is_from}
use Rattle.edge_stream.specs.Sides.{is_on_side}
use Rattle.edge_stream.specs.declared.cut.Side.TheVariants.{Below}
use Rattle.edge_stream.specs.Listing.{edges_in}
use Rattle.edge_stream.proofs.Rows.{edges-kept}
use Rattle.edge_stream.proofs.CutLists.{whole_lower, whole_upper, none_left, rest_is_from, parted_lower, parted_upper, found_at, same_item}
use Rattle.edge_stream.proofs.cut.part_at.Goals as goal
use Rattle.edge_stream.proofs.cut.part_at.Goals.{then-place-len-via-then-place-len, then-place-len-via-else-place-len+then-all_on_side}

pub returns-then-place-len-clause-lower : goal.returns-then-place-len-clause-lower
returns-then-place-len-clause-lower c =
    let bs = c.args.batches.now in
    let place = c.args.place in
    let low = c.requires.below in
    let high : list_all (is_from c.args.t) (edges_in (drop place bs.items)) ≡ true = elim c.then-place-len.branch [
      | then-place-len-via-then-place-len w ↦ none_left c.args.t bs.items place low (omega (arith, w.if-place-len.true, c.len.ensures, bs.ok.0))
      | then-place-len-via-else-place-len+then-all_on_side w ↦
          let lt : place < length bs.items = omega (arith, w.if-place-len.false, c.len.ensures, bs.ok.0, c.requires.place) in
          let b = w.index.result.now in
          rest_is_from c.args.t bs.items place low b lt w.index.ensures c.requires.rises (c.requires.next b (found_at bs.items place b lt w.index.ensures))
          (sym w.all_on_side.ensures.all ∙ w.if-all_on_side.true)
    ] in
    ap edges_in (append-nil (take place bs.items)) ∙ whole_lower c.args.t bs.items place low high

pub returns-then-place-len-clause-upper : goal.returns-then-place-len-clause-upper
returns-then-place-len-clause-upper c =
    let bs = c.args.batches.now in
    let place = c.args.place in
    let low = c.requires.below in
    let high : list_all (is_from c.args.t) (edges_in (drop place bs.items)) ≡ true = elim c.then-place-len.branch [
      | then-place-len-via-then-place-len w ↦ none_left c.args.t bs.items place low (omega (arith, w.if-place-len.true, c.len.ensures, bs.ok.0))
      | then-place-len-via-else-place-len+then-all_on_side w ↦
          let lt : place < length bs.items = omega (arith, w.if-place-len.false, c.len.ensures, bs.ok.0, c.requires.place) in
          let b = w.index.result.now in
          rest_is_from c.args.t bs.items place low b lt w.index.ensures c.requires.rises (c.requires.next b (found_at bs.items place b lt w.index.ensures))
          (sym w.all_on_side.ensures.all ∙ w.if-all_on_side.true)
    ] in
    whole_upper c.args.t bs.items place low high

pub returns-clause-lower : goal.returns-clause-lower
returns-clause-lower c =
    let xs = c.args.batches.now.items in
    let lt : c.args.place < length xs = omega (arith, c.if-place-len.false, c.len.ensures, c.args.batches.now.ok.0, c.requires.place) in
    let b = c.index-2.result.now in
    let still = c.replace-part.ensures.value ∙ same_item xs c.args.place b c.index_mut.result.now lt c.index-2.ensures c.index_mut.ensures.value in
    let lower : edges_of c.keep.new.self.rows ≡ filter (is_below c.args.t) (edges_of b.rows) =
    ap (λ x. edges_of x.rows) c.keep.ensures ∙ ap (λ x. edges_of (kept x.rows c.in_ok-lower.lower.items)) still
    ∙ ap (λ m. edges_of (kept b.rows m)) c.in_ok-lower.ensures ∙ edges-kept (is_on_side Below c.args.t) b.rows in
    parted_lower c.args.t xs c.args.place c.requires.below b lt c.index-2.ensures c.requires.rises (c.requires.next b (found_at xs c.args.place b lt c.index-2.ensures)) c.keep.new.self c.replace-part.new.dest lower

pub returns-clause-upper : goal.returns-clause-upper
returns-clause-upper c =
    let xs = c.args.batches.now.items in
    let lt : c.args.place < length xs = omega (arith, c.if-place-len.false, c.len.ensures, c.args.batches.now.ok.0, c.requires.place) in
    let b = c.index-3.result.now in
    parted_upper c.args.t xs c.args.place c.requires.below b lt c.index-3.ensures c.requires.rises (c.requires.next b (found_at xs c.args.place b lt c.index-3.ensures)) c.replace-part.new.dest
    (ap (λ x. edges_of x.rows) c.replace-part.ensures.after ∙ c.in_ok-later.ensures.edges)
