use Rattle.std.proofs.Common.{◌∙◌, ◌≤◌, [], ◌∷◌, All, length, refl, subst}
use Rattle.std.proofs.Math.Facts.{Fits-lt-pow}
use Rattle.std.proofs.lemmas.List.Elements.{All-head, All-tail}
use Rattle.tempo_engine.specs.Block.{between_feeds}
use Rattle.tempo_engine.specs.Output.{told}
use Rattle.tempo_engine.specs.Faults.{IsBadOf}
use Rattle.tempo_engine.proofs.Keeping.{took_on}
use Rattle.tempo_engine.proofs.Blocks.{no_line, line_more, all_fed, all_grown, last_told, stops, bad_there}
use Rattle.tempo_engine.proofs.parts.Parts.feed_lines.Goals as goal

pub lines-init : goal.lines-init
lines-init g c = record {
  short = c.requires.short;
  run = c.requires.run;
  took = c.requires.took;
  thawed = refl;
  plan = refl;
  workers = refl;
  front = no_line c.args.self.now c.args.first (between_feeds c.args.lines.now) (Fits-lt-pow c.ranges.first) c.args.text.now.items c.requires.empty;
}

pub feed_line-requires-clause-short : goal.feed_line-requires-clause-short
feed_line-requires-clause-short g c κs within =
    let first = c.split_line.ensures.first in
    All-head (λ line. length line ≤ 65536) c.split_line.result.0.now first.0 (subst (All (λ line. length line ≤ 65536)) first.1 c.lines.invariant.short)

pub returns-in-Err-clause-fault : goal.returns-in-Err-clause-fault
returns-in-Err-clause-fault g c =
    let first = c.split_line.ensures.first in
    stops c.args.self.now c.args.first (between_feeds c.args.lines.now) c.lines.self c.lines.number (between_feeds c.lines.rest.now) c.lines.text.items c.lines.invariant.front c.split_line.result.0.now first.0 first.1
    c.feed_line.new.text.items c.in-Err.ensures.kept c.in-Err.fault c.in-Err.ensures.fault

pub returns-in-Err-clause-bad : goal.returns-in-Err-clause-bad
returns-in-Err-clause-bad g c =
    let first = c.split_line.ensures.first in
    bad_there c.args.self.now c.args.first (between_feeds c.args.lines.now) c.lines.self c.lines.number (between_feeds c.lines.rest.now) c.lines.text.items c.lines.invariant.front c.split_line.result.0.now first.0 first.1
    c.args.self.now.dataflow.plan c.in-Err.fault (subst (λ plan. IsBadOf plan c.lines.number c.split_line.result.0.now c.in-Err.fault) c.lines.invariant.plan c.in-Err.ensures.bad)

pub returns-in-None-clause-last : goal.returns-in-None-clause-last
returns-in-None-clause-last g c =
    let last = (rw c.in-None.is at c.split_line.ensures.none) in
    last_told c.args.self.now c.args.first (between_feeds c.args.lines.now) c.lines.self c.lines.number (between_feeds c.lines.rest.now) c.lines.text.items c.lines.invariant.front c.split_line.result.0.now [] last refl

pub returns-in-None-clause-fed : goal.returns-in-None-clause-fed
returns-in-None-clause-fed g c =
    let last = (rw c.in-None.is at c.split_line.ensures.none) in
    all_fed c.args.self.now c.args.first (between_feeds c.args.lines.now) c.lines.self c.lines.number (between_feeds c.lines.rest.now) c.lines.text.items c.lines.invariant.front c.split_line.result.0.now [] last
    c.feed_line.new.self c.in-Ok.ensures.fed refl

pub returns-in-None-clause-text : goal.returns-in-None-clause-text
returns-in-None-clause-text g c =
    let last = (rw c.in-None.is at c.split_line.ensures.none) in
    all_grown c.args.self.now c.args.first (between_feeds c.args.lines.now) c.lines.self c.lines.number (between_feeds c.lines.rest.now) c.lines.text.items c.lines.invariant.front c.split_line.result.0.now [] last
    c.feed_line.new.self c.in-Ok.ensures.fed c.feed_line.new.text.items c.in-Ok.ensures.text refl

pub lines-preserved : goal.lines-preserved
lines-preserved g c =
    let before = c.lines.invariant in
    let more = (rw c.in-Some.is at c.split_line.ensures.more) in
    record {
      short = All-tail (λ line. length line ≤ 65536) c.split_line.result.0.now (between_feeds c.in-Some.behind.now) (subst (All (λ line. length line ≤ 65536)) more.1 before.short);
      run = c.in-Ok.ensures.run;
      took = took_on (λ plan. told plan c.lines.number c.split_line.result.0.now ∷ []) c.lines.self c.feed_line.new.self c.in-Ok.ensures.fed c.feed_line.ensures.thawed before.took;
      thawed = c.feed_line.ensures.thawed ∙ before.thawed;
      plan = c.feed_line.ensures.plan ∙ before.plan;
      workers = c.feed_line.ensures.workers ∙ before.workers;
      front =
          line_more c.args.self.now c.args.first (between_feeds c.args.lines.now) c.lines.self c.lines.number (between_feeds c.lines.rest.now) c.lines.text.items before.front c.split_line.result.0.now
          (between_feeds c.in-Some.behind.now) more.1 c.feed_line.new.self c.in-Ok.ensures.fed c.feed_line.new.text.items c.in-Ok.ensures.text c.saturating_add-number.result c.saturating_add-number.ensures;
    }
