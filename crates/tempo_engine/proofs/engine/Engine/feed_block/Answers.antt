use Rattle.std.proofs.Common.{◌≡◌, ◌++◌, List, false, None, subst}
use Rattle.plan_model.specs.IsPlan.{PlanParts}
use Rattle.admission.specs.Entries.{Told}
use Rattle.tempo_engine.specs.Went.{GoesOn, WhateverFed}
use Rattle.tempo_engine.specs.Fed.{last_number}
use Rattle.tempo_engine.specs.Block.{between_feeds, told_block, GrowsWith, StopsIn, BadIn}
use Rattle.tempo_engine.proofs.Holding.{lines_hold, tells_of_lines}
use Rattle.tempo_engine.proofs.Keeping.{still_goes_on, feeds_on, fed_next, fault_none, fault_some, last_kept}
use Rattle.tempo_engine.proofs.engine.Engine.feed_block.Goals as goal

pub feed_lines-fed-requires-clause-run : goal.feed_lines-fed-requires-clause-run
feed_lines-fed-requires-clause-run g c κs within =
    let goes : GoesOn None false c.self.inside.parts = subst (λ b. GoesOn None b c.self.inside.parts) c.if-self.false (subst (λ f. GoesOn f c.self.inside.ended c.self.inside.parts) c.in_default.is c.self.invariant) in
    goes.run

pub feed_lines-fed-requires-clause-took : goal.feed_lines-fed-requires-clause-took
feed_lines-fed-requires-clause-took g c κs within =
    let goes : GoesOn None false c.self.inside.parts = subst (λ b. GoesOn None b c.self.inside.parts) c.if-self.false (subst (λ f. GoesOn f c.self.inside.ended c.self.inside.parts) c.in_default.is c.self.invariant) in
    goes.took

pub invariant_of-self : goal.invariant_of-self
invariant_of-self g c =
    let goes : GoesOn None false c.self.inside.parts = subst (λ b. GoesOn None b c.self.inside.parts) c.if-self.false (subst (λ f. GoesOn f c.self.inside.ended c.self.inside.parts) c.in_default.is c.self.invariant) in
    still_goes_on (λ plan. told_block plan c.args.first c.args.lines.now) c.feed_lines-fed.result c.self.inside.parts c.feed_lines-fed.new.self c.fault_in-self-inside.result c.self.inside.ended c.if-self.false
    c.feed_lines-fed.ensures.fed c.fault_in-self-inside.ensures.ok c.feed_lines-fed.ensures.run c.feed_lines-fed.ensures.thawed c.fault_in-self-inside.ensures.err goes

pub returns-clause-lists : goal.returns-clause-lists
returns-clause-lists g c =
    rw (← c.self.view_is)
    (fault_none c.feed_lines-fed.result c.fault_in-self-inside.result c.fault_in-self-inside.ensures.err
    (feeds_on (λ plan. told_block plan c.args.first c.args.lines.now) c.feed_lines-fed.result c.self.inside.parts c.feed_lines-fed.new.self c.fault_in-self-inside.result c.self.inside.ended c.if-self.false
    c.feed_lines-fed.ensures.fed c.fault_in-self-inside.ensures.ok c.self.inside.lines c.unwrap_or-self-inside.result c.self.inside.fault c.self.inside.ended
    (last_kept (λ last. (plan : PlanParts) (lines : List Told) → last ≡ last_number (lines ++ told_block plan c.args.first c.args.lines.now)) c.feed_lines-fed.result c.unwrap_or-self-inside.result c.self.inside.lines
    c.feed_lines-fed.ensures.last c.unwrap_or-self-inside.ensures)))

pub returns-clause-fed : goal.returns-clause-fed
returns-clause-fed g c =
    rw (← c.self.view_is)
    (fault_none c.feed_lines-fed.result c.fault_in-self-inside.result c.fault_in-self-inside.ensures.err
    (fed_next (λ plan. told_block plan c.args.first c.args.lines.now) c.feed_lines-fed.result c.self.inside.parts c.feed_lines-fed.new.self c.fault_in-self-inside.result c.self.inside.ended c.if-self.false
    c.feed_lines-fed.ensures.fed c.fault_in-self-inside.ensures.ok c.self.inside.lines c.unwrap_or-self-inside.result c.self.inside.fault c.self.inside.ended
    (last_kept (λ last. (plan : PlanParts) (lines : List Told) → last ≡ last_number (lines ++ told_block plan c.args.first c.args.lines.now)) c.feed_lines-fed.result c.unwrap_or-self-inside.result c.self.inside.lines
    c.feed_lines-fed.ensures.last c.unwrap_or-self-inside.ensures)))

pub returns-clause-holds : goal.returns-clause-holds
returns-clause-holds g c =
    rw (← c.self.view_is)
    (fault_none c.feed_lines-fed.result c.fault_in-self-inside.result c.fault_in-self-inside.ensures.err
    (lines_hold c.plans_keep_at_most.ensures c.feed_lines-fed.result c.self.inside.parts c.feed_lines-fed.new.self c.each_text_once.ensures c.fault_in-self-inside.result c.fault_in-self-inside.ensures.ok
    c.self.inside.lines c.unwrap_or-self-inside.result c.self.inside.fault c.self.inside.ended c.self.inside.ended (λ plan. told_block plan c.args.first c.args.lines.now) c.feed_lines-fed.ensures.fed))

pub returns-clause-text : goal.returns-clause-text
returns-clause-text g c =
    rw (← c.self.view_is)
    (λ none. tells_of_lines c.self.inside.parts c.self.inside.lines c.self.inside.fault c.self.inside.ended
    (λ plan policy lines. GrowsWith plan policy lines (told_block plan c.args.first c.args.lines.now) c.feed_lines-fed.new.text.items)
    (fault_none c.feed_lines-fed.result c.fault_in-self-inside.result c.fault_in-self-inside.ensures.err c.feed_lines-fed.ensures.text none))

pub returns-clause-fault : goal.returns-clause-fault
returns-clause-fault g c =
    rw (← c.self.view_is)
    (λ f is. tells_of_lines c.self.inside.parts c.self.inside.lines c.self.inside.fault c.self.inside.ended
    (λ plan policy lines. StopsIn plan policy lines c.args.first (between_feeds c.args.lines.now) c.feed_lines-fed.new.text.items f)
    (fault_some (λ f. WhateverFed c.self.inside.parts (λ plan policy lines given lists. StopsIn plan policy lines c.args.first (between_feeds c.args.lines.now) c.feed_lines-fed.new.text.items f))
    c.feed_lines-fed.result c.fault_in-self-inside.result c.fault_in-self-inside.ensures.ok c.fault_in-self-inside.ensures.err c.feed_lines-fed.ensures.fault f is))

pub returns-clause-bad : goal.returns-clause-bad
returns-clause-bad g c =
    rw (← c.self.view_is)
    (λ none f is. fault_some (BadIn c.self.inside.parts.dataflow.plan c.args.first (between_feeds c.args.lines.now)) c.feed_lines-fed.result c.fault_in-self-inside.result c.fault_in-self-inside.ensures.ok c.fault_in-self-inside.ensures.err c.feed_lines-fed.ensures.bad f is)
