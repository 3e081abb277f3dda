use Rattle.std.proofs.Common.{◌≡◌, ◌++◌, ◌∷◌, [], List, ℕ, Ok, refl, ◌∙◌, ap, arith, subst}
use Rattle.std.proofs.lemmas.Result.{err_from_is_err_and}
use Rattle.wire_lines.specs.Journal.{In, Adds, ins}
use Rattle.wire_lines.proofs.Growth.{Grows-none, Grows-adds, Grows-same, Grows-weaker}
use Rattle.tempo_cli.proofs.Awaiting.{awaits_first, failed, none_left, few_read, awaits_on, came_in, broke_off, came_last, broke_last}
use Rattle.tempo_cli.proofs.Journals.{limit-is, no_bytes, some_read, own_counts}
use Rattle.tempo_cli.proofs.Taking.{reads_fed, reads_none}
use Rattle.tempo_cli.proofs.resuming.read_back.Goals as goal

pub loop-left-init : goal.loop-left-init
loop-left-init g c = record {
  awaits = λ form h. Grows-none _ (awaits_first _ (omega (arith, limit-is)) h);
  reads = refl;
  writes = refl;
  wants = c.requires.wants;
  going = c.requires.going;
}

pub loop-left-preserved : goal.loop-left-preserved
loop-left-preserved g c =
    let read = c.in_ok-count.ensures.read in
    let b : List ℕ = read.piece in
    let r = some_read c.in_ok-count.count c.loop-left.left c.asked.result b read.count c.if-count-eq0.false c.in_ok-count.ensures.bound c.asked.ensures in
    record {
      awaits = λ form h. Grows-adds (c.loop-left.invariant.awaits form h) read.told (λ J w.
          let fed = reads_fed w.reads _ b read.state (read.lines (ins J) w.given w.reads.within.cuts) refl refl in
          let comes = c.in_ok-frozen-2.ensures.comes form (ins J ++ b) w.given fed (few_read c.loop-left.invariant.wants w b r.within) in
          awaits_on c.loop-left.invariant.wants w b c.in_ok-count.count r.is r.some r.piece r.few _ (rw c.in_default.is at comes));
      reads = c.in_ok-count.ensures.cause.same ∙ c.loop-left.invariant.reads;
      writes = c.in_ok-count.ensures.other.same ∙ c.loop-left.invariant.writes;
      wants = c.in_ok-frozen-2.ensures.wants (ap Ok c.in_default.is);
      going = c.in_ok-frozen-2.ensures.going (ap Ok c.in_default.is);
    }

pub returns-in_err-count-clause-broke : goal.returns-in_err-count-clause-broke
returns-in_err-count-clause-broke g c = let p = err_from_is_err_and c.from_residual.result c.from_residual.ensures.1 in rw (p.1, p.2) (λ form h.
    Grows-weaker (Grows-same (c.loop-left.invariant.awaits form h) c.in_err-count.ensures.read.told) (λ J w. failed c.loop-left.invariant.wants w))

pub returns-in_err-frozen-clause-broke : goal.returns-in_err-frozen-clause-broke
returns-in_err-frozen-clause-broke g c =
    let read = c.in_ok-count.ensures.read in
    let none : read.piece ≡ [] = no_bytes read.piece c.in_ok-count.count read.count c.if-count-eq0.true in
    let p = err_from_is_err_and c.from_residual-in_err-frozen.result c.from_residual-in_err-frozen.ensures.1 in rw (p.1, p.2) (λ form h.
    Grows-adds (c.loop-left.invariant.awaits form h) (subst (λ b. Adds (g.W.Wire.journal c.loop-left.wire) (g.W.Wire.journal c.read_from.new.wire) (In b ∷ [])) none read.told) (λ J w.
    let fed = reads_none w.reads _ read.piece none read.state (read.lines (ins J) w.given w.reads.within.cuts) refl refl in
    broke_last c.loop-left.invariant.wants w c.in_err-frozen.field-0.0 (c.in_err-frozen.ensures.stops form (ins J) w.given fed)))

pub returns-in_err-frozen-clause-counts : goal.returns-in_err-frozen-clause-counts
returns-in_err-frozen-clause-counts g c = let p = err_from_is_err_and c.from_residual-in_err-frozen.result c.from_residual-in_err-frozen.ensures.1 in rw (p.1, p.2)
    (own_counts _ _ _ _ _ c.in_err-frozen.ensures.own (c.in_ok-count.ensures.cause.same ∙ c.loop-left.invariant.reads) (c.in_ok-count.ensures.other.same ∙ c.loop-left.invariant.writes))

pub returns-then-count-eq0-clause-came : goal.returns-then-count-eq0-clause-came
returns-then-count-eq0-clause-came g c =
    let read = c.in_ok-count.ensures.read in
    let none : read.piece ≡ [] = no_bytes read.piece c.in_ok-count.count read.count c.if-count-eq0.true in
    λ form h. Grows-adds (c.loop-left.invariant.awaits form h) (subst (λ b. Adds (g.W.Wire.journal c.loop-left.wire) (g.W.Wire.journal c.read_from.new.wire) (In b ∷ [])) none read.told) (λ J w.
    let fed = reads_none w.reads _ read.piece none read.state (read.lines (ins J) w.given w.reads.within.cuts) refl refl in
    came_last c.loop-left.invariant.wants w _ c.in_ok-frozen.frozen (c.in_ok-frozen.ensures.whole form (ins J) w.given fed) (c.in_ok-frozen.ensures.number form (ins J) w.given fed))

pub returns-in_err-frozen-2-clause-broke : goal.returns-in_err-frozen-2-clause-broke
returns-in_err-frozen-2-clause-broke g c =
    let read = c.in_ok-count.ensures.read in
    let b : List ℕ = read.piece in
    let r = some_read c.in_ok-count.count c.loop-left.left c.asked.result b read.count c.if-count-eq0.false c.in_ok-count.ensures.bound c.asked.ensures in
    let p = err_from_is_err_and c.from_residual-in_err-frozen-2.result c.from_residual-in_err-frozen-2.ensures.1 in rw (p.1, p.2) (λ form h.
    Grows-adds (c.loop-left.invariant.awaits form h) read.told (λ J w.
    let fed = reads_fed w.reads _ b read.state (read.lines (ins J) w.given w.reads.within.cuts) refl refl in
    broke_off c.loop-left.invariant.wants w b c.in_ok-count.count r.is r.some r.piece r.few c.take_lines.new.self c.in_err-frozen-2.field-0.0
    (c.in_err-frozen-2.ensures.comes form (ins J ++ b) w.given fed (few_read c.loop-left.invariant.wants w b r.within))))

pub returns-in_err-frozen-2-clause-counts : goal.returns-in_err-frozen-2-clause-counts
returns-in_err-frozen-2-clause-counts g c = let p = err_from_is_err_and c.from_residual-in_err-frozen-2.result c.from_residual-in_err-frozen-2.ensures.1 in rw (p.1, p.2)
    (own_counts _ _ _ _ _ c.in_err-frozen-2.ensures.own (c.in_ok-count.ensures.cause.same ∙ c.loop-left.invariant.reads) (c.in_ok-count.ensures.other.same ∙ c.loop-left.invariant.writes))

pub returns-in-Some-clause-came : goal.returns-in-Some-clause-came
returns-in-Some-clause-came g c =
    let read = c.in_ok-count.ensures.read in
    let b : List ℕ = read.piece in
    let r = some_read c.in_ok-count.count c.loop-left.left c.asked.result b read.count c.if-count-eq0.false c.in_ok-count.ensures.bound c.asked.ensures in
    λ form h. Grows-adds (c.loop-left.invariant.awaits form h) read.told (λ J w.
    let fed = reads_fed w.reads _ b read.state (read.lines (ins J) w.given w.reads.within.cuts) refl refl in
    let comes = c.in_ok-frozen-2.ensures.comes form (ins J ++ b) w.given fed (few_read c.loop-left.invariant.wants w b r.within) in
    came_in c.loop-left.invariant.wants w b c.in_ok-count.count r.is r.some r.piece r.few _ c.in-Some.frozen (rw c.in-Some.is at comes))

pub returns-clause-broke : goal.returns-clause-broke
returns-clause-broke g c = λ form h. Grows-weaker (c.loop-left.invariant.awaits form h) (λ J w. absurd (none_left c.loop-left.invariant.wants w (omega arith)))
