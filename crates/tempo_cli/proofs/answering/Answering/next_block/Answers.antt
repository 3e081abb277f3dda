use Rattle.std.proofs.Common.{◌≤◌, ◌<◌, ◌∙◌, length, refl, sym, ap, subst}
use Rattle.std.specs.List.{All}
use Rattle.wire_lines.specs.Cutter.{CutterState}
use Rattle.wire_lines.specs.Block.{block_lines}
use Rattle.wire_lines.proofs.Blocks.{block_short, after_block-longest}
use Rattle.tempo_cli.proofs.Blocks.{are_next, no_header_comes, comes_lines, gives_lines, fewer_left, none_taken}
use Rattle.tempo_cli.proofs.answering.Answering.next_block.Goals as goal

pub returns-in_default-clause-longest : goal.returns-in_default-clause-longest
returns-in_default-clause-longest g c = ap (λ (x : CutterState). x.longest) c.next_block.follows.holds-at-none ∙ (after_block-longest c.args.self.now.cutter ∙ c.requires.longest)

pub returns-in_default-clause-none : goal.returns-in_default-clause-none
returns-in_default-clause-none g c = none_taken c.args.self.now _ c.next_block.follows.holds-at-none (c.in_default.ensures.none.0 refl)

pub feed_block-requires-clause-short : goal.feed_block-requires-clause-short
feed_block-requires-clause-short g c = λ κs k. rw c.in-Some.ensures.some.1
    (subst (λ m. All (λ l. length l ≤ m) (block_lines c.args.self.now.cutter)) c.requires.longest (block_short c.args.self.now.cutter))

pub returns-clause-longest : goal.returns-clause-longest
returns-clause-longest g c = ap (λ (x : CutterState). x.longest) c.next_block.follows.holds-at-none ∙ (after_block-longest c.args.self.now.cutter ∙ c.requires.longest)

pub returns-clause-comes : goal.returns-clause-comes
returns-clause-comes g c = λ q bytes given h.
    let s = c.args.self.now in
    let none = no_header_comes s c.passed.ensures c.may_be_header.ensures c.if-may_be_header.false in
    comes_lines h c.engine_number-first.result (are_next h c.in-Some.block.number c.engine_number-first.result c.in-Some.ensures.some.0 c.engine_number-first.ensures none) _ refl refl refl c.next_block.follows.holds-at-none
    c.feed_block.result _ c.in-Some.ensures.some.1
    (λ fine. c.feed_block.ensures.fed fine q.plan q.policy h.engine.fed h.engine.took)
    (λ fine. c.feed_block.ensures.text fine q.plan q.policy h.engine.fed h.engine.took)
    (λ f is. c.feed_block.ensures.fault f is q.plan q.policy h.engine.fed h.engine.took)

pub returns-clause-gives : goal.returns-clause-gives
returns-clause-gives g c = λ k bytes given h.
    gives_lines h c.in-Some.block.number c.engine_number-first.result c.in-Some.ensures.some.0 c.engine_number-first.ensures _ refl refl c.feed_block.ensures.plan c.next_block.follows.holds-at-none
    c.feed_block.result _ c.in-Some.ensures.some.1 (λ fine. c.feed_block.ensures.kept ∙ fine) (λ f is. c.feed_block.ensures.bad h.fine f is)

pub returns-clause-less : goal.returns-clause-less
returns-clause-less g c = subst (λ (x : CutterState). length x.rest < length c.args.self.now.cutter.rest) (sym c.next_block.follows.holds-at-none)
    (fewer_left c.args.self.now.cutter c.in-Some.block.bytes.now c.in-Some.ensures.some.1)
