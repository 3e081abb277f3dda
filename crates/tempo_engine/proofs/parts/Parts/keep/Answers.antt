use Rattle.std.specs.Prelude.{◌≡◌, ◌<◌, length, map}
use Rattle.std.proofs.Common.{sym, ap, ◌∙◌, subst}
use Rattle.frozen_state.specs.Forms.{shards_of}
use Rattle.tempo_engine.specs.Kept.{KeptView}
use Rattle.tempo_engine.proofs.PartCounting.{counts_same}
use Rattle.tempo_engine.proofs.Counting.{kept_few}
use Rattle.tempo_engine.proofs.Thawing.{freeze_fits, shown_stands}
use Rattle.tempo_engine.proofs.parts.Parts.keep.Goals as goal

pub returns-clause-fits : goal.returns-clause-fits
returns-clause-fits c = λ plan policy w given lists whole going went shown.
    let e = c.args.self.now in
    let total : length c.streams-count.result.now ≡ length plan.streams = ap length (c.streams-count.ensures.streams ∙ ap (λ q. q.streams) (c.plan.ensures ∙ went.planned)) in
    freeze_fits e.dataflow.workers plan whole policy w going given lists e went _ c.released-last.ensures c.each_text_once.ensures
    (λ s low. c.in_ok-bounds.ensures.bounds e.texts w.after given went.took.follows s (subst (λ n. s < n) (sym total) low))
    (λ s low. c.in_ok-marks.ensures.marks e.texts w.after given went.took.follows s (subst (λ n. s < n) (sym total) low))
    c.in_ok-input.ensures.resumes (c.in_ok-nodes.ensures.states e.texts w.last) (c.in_ok-nodes.ensures.resumes e.texts w.last given lists) c.in_ok-output.ensures.resumes shown

pub returns-clause-shards : goal.returns-clause-shards
returns-clause-shards c =
    let e = c.args.self.now in
    let states = c.in_ok-nodes.ensures.states e.texts e.ingress.released c.requires.can in
    counts_same (shards_of e.dataflow.workers) e.dataflow.plan.nodes _ states.count (λ i n x here there. (states.each i n x here there).many)

pub returns-clause-few : goal.returns-clause-few
returns-clause-few c = λ plan policy w given lists whole going went.
    let e = c.args.self.now in
    let k : KeptView = record {
      last = c.released-last.result;
      bounds = c.in_ok-bounds.bounds.items;
      marks = c.in_ok-marks.marks.items;
      input = c.in_ok-input.input;
      nodes = map (λ shards. shards.items) c.in_ok-nodes.nodes.items;
      output = c.in_ok-output.output;
    } in
    let held = c.in_ok-input.ensures.few e.texts w.after given went.took.follows in
    kept_few plan w lists e k (rw (went.fixed.count, went.released) at held) c.in_ok-nodes.ensures.saves
    (c.in_ok-output.ensures.few e.texts (lists plan.root) e.closed (shown_stands plan policy w given lists e went c.each_text_once.ensures))
