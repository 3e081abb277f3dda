use Rattle.std.proofs.Common.{◌++◌, ◌∷◌, [], refl, sym, append-nil}
use Rattle.tempo_cli.proofs.Fronts.{front_again}
use Rattle.tempo_cli.proofs.resuming.Restoring.take_lines.Goals as goal

pub loop-frozen-init : goal.loop-frozen-init
loop-frozen-init c = record {
  longest = c.requires.longest;
  going = c.requires.going;
  reads = λ form bytes given h few. (given, ([], sym (append-nil given)), h);
}

pub loop-frozen-preserved : goal.loop-frozen-preserved
loop-frozen-preserved c = record {
  longest = c.in-Taken.ensures.longest;
  going = c.in-Taken.ensures.going;
  reads = λ form bytes given h few.
      let w = c.loop-frozen.invariant.reads form bytes given h few in
      let comes = c.in-Taken.ensures.comes form bytes w.0 w.2 few in
      (w.0 ++ comes.0 ∷ [], front_again given w.0 (w.0 ++ comes.0 ∷ []) w.1 (comes.0 ∷ [], refl), comes.1);
}

pub loop-frozen-smaller : goal.loop-frozen-smaller
loop-frozen-smaller c = c.in-Taken.ensures.less

pub returns-in-More : goal.returns-in-More
returns-in-More c = record {
  longest = c.in-More.ensures.longest;
  comes = λ form bytes given h few.
      let w = c.loop-frozen.invariant.reads form bytes given h few in
      (w.0, w.1, c.in-More.ensures.comes form bytes w.0 w.2 few);
  going = λ e. c.in-More.ensures.going;
  wants = λ e. c.in-More.ensures.wants refl;
  own = tt;
}

pub returns-in-Whole : goal.returns-in-Whole
returns-in-Whole c = record {
  longest = c.in-Whole.ensures.longest;
  comes = λ form bytes given h few.
      let w = c.loop-frozen.invariant.reads form bytes given h few in
      let comes = c.in-Whole.ensures.comes form bytes w.0 w.2 few in
      (w.0 ++ comes.0 ∷ [], front_again given w.0 (w.0 ++ comes.0 ∷ []) w.1 (comes.0 ∷ [], refl), comes.1);
  going = λ e. absurd (cc);
  wants = λ e. absurd (cc);
  own = tt;
}

pub returns-in-Stop : goal.returns-in-Stop
returns-in-Stop c = record {
  longest = c.in-Stop.ensures.longest;
  comes = λ form bytes given h few.
      let w = c.loop-frozen.invariant.reads form bytes given h few in
      (w.0, w.1, c.in-Stop.ensures.comes form bytes w.0 w.2 few);
  going = λ e. absurd (cc);
  wants = λ e. absurd (cc);
  own = c.in-Stop.ensures.own;
}
