use Rattle.std.proofs.Common.{◌≡◌, ◌∙◌, ◌<◌, sym, arith, inl, inr, slice_index_or}
use Rattle.std.proofs.lemmas.List.{get_or_read}
use Rattle.dataflow.proofs.LastRead.{is_below, is_equal}
use Rattle.dataflow.proofs.readers.Readers.is_needed.Goals as goal

pub returns-then-from-index : goal.returns-then-from-index
returns-then-from-index c =
    let readers = c.requires.readers in
    let read = readers.of_nodes c.args.from c.args.child c.requires.child in
    let child = c.requires.child in
    let long = readers.nodes in
    let at : c.index.result.now ≡ slice_index_or c.args.self.now.nodes.items c.args.child 0 = get_or_read c.args.self.now.nodes.items c.args.child c.index.result.now (omega (arith, child, long)) c.index.ensures 0 in
    let low : c.args.from < slice_index_or c.args.self.now.nodes.items c.args.child 0 = (let t = c.if-from-index.true in omega (arith, t, at)) in
    (λ t. inr (read.0 low), λ needed. (let t = c.if-from-index.true in (is_below (c.args.from < c.index.result.now) c.args.from c.index.result.now (λ x. x, λ x. x)).1 t))

pub returns-else-from-index : goal.returns-else-from-index
returns-else-from-index c =
    let readers = c.requires.readers in
    let read = readers.of_nodes c.args.from c.args.child c.requires.child in
    let child = c.requires.child in
    let long = readers.nodes in
    let at : c.index.result.now ≡ slice_index_or c.args.self.now.nodes.items c.args.child 0 = get_or_read c.args.self.now.nodes.items c.args.child c.index.result.now (omega (arith, child, long)) c.index.ensures 0 in
    let root = c.root.ensures.root in
    let same = is_equal c.root.result c.args.child in (
      λ t. inl (sym (same.0 t) ∙ root),
      λ needed. elim needed [
        | inl is ↦ same.1 (root ∙ sym is)
        | inr reads ↦ absurd (let low = read.1 reads in let t = c.if-from-index.false in omega (arith, t, at, low))
      ],
    )
