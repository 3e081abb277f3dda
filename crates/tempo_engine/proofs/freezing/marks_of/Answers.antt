use Rattle.std.specs.Prelude.{◌+◌, get_or}
use Rattle.std.proofs.Common.{◌≡◌, ◌∙◌, ℕ, List, length, ap, sym, subst, arith}
use Rattle.std.proofs.lemmas.List.{length_push}
use Rattle.tempo_engine.proofs.Thawing.{times_next}
use Rattle.tempo_engine.proofs.freezing.marks_of.Goals as goal

pub loop-stream-preserved : goal.loop-stream-preserved
loop-stream-preserved c =
    let before = c.loop-stream.invariant in
    let pushed = c.in_ok-push.ensures.items in
    let items = c.loop-stream.times.items in
    let t = c.mark.result in
    record {
      count = ap length pushed ∙ length_push items t ∙ ap (λ m. m + 1) before.count;
      times = λ texts a given follows s low. subst (λ l. a.mark s ≡ get_or l s 0) (sym {A = List ℕ} pushed)
          (times_next a.mark c.loop-stream.stream t items before.count (before.times texts a given follows) (c.mark.ensures texts a given follows) s low);
    }

pub returns-clause-marks : goal.returns-clause-marks
returns-clause-marks c = λ texts a given follows s low. (let t = c.loop-stream-test.false in c.loop-stream.invariant.times texts a given follows s (omega (arith, t, low)))
