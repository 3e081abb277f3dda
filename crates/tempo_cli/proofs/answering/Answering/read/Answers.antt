use Rattle.std.proofs.Common.{◌≡◌, [], ◌∷◌, List, ℕ, refl, sym, ◌∙◌, ap, subst}
use Rattle.wire_lines.specs.Cutter.{CutterState}
use Rattle.wire_lines.specs.Reading.{fed}
use Rattle.tempo_cli.specs.Feeding.{WantsBytes}
use Rattle.tempo_cli.proofs.answering.Answering.read.Goals as goal

fed_longest : (s : CutterState) (piece : List ℕ) → (fed s piece).longest ≡ s.longest
fed_longest s [] = refl
fed_longest s (b ∷ bs) = refl

fed_total : (s : CutterState) (piece : List ℕ) → (fed s piece).total ≡ s.total
fed_total s [] = refl
fed_total s (b ∷ bs) = refl

pub returns-clause-longest : goal.returns-clause-longest
returns-clause-longest g c =
    let r = c.read_from.ensures.read in
    ap (λ (s : CutterState). s.longest) r.state ∙ fed_longest c.args.self.now.cutter r.piece ∙ c.requires.wants.longest

pub returns-clause-taken : goal.returns-clause-taken
returns-clause-taken g c =
    let r = c.read_from.ensures.read in
    let old = c.args.self.now.cutter in
    record {
      piece = r.piece;
      count = r.count;
      told = r.told;
      holds = λ q bytes given h. record {
        header = h.header;
        base = h.base;
        low = h.low;
        skipped = h.skipped;
        passed = h.passed;
        within = record {
          longest = ap (λ (s : CutterState). s.longest) r.state ∙ fed_longest old r.piece ∙ h.within.longest;
          total = ap (λ (s : CutterState). s.total) r.state ∙ fed_total old r.piece ∙ h.within.total;
          cuts = r.lines bytes given h.within.cuts;
          fine = h.within.fine;
        };
        engine = h.engine;
      };
      gives = λ k bytes given h. record {
        cut = record {
          longest = ap (λ (s : CutterState). s.longest) r.state ∙ fed_longest old r.piece ∙ h.cut.longest;
          total = ap (λ (s : CutterState). s.total) r.state ∙ fed_total old r.piece ∙ h.cut.total;
          cuts = r.lines bytes given h.cut.cuts;
          fine = refl;
        };
        fine = h.fine;
        rules = h.rules;
        low = h.low;
        passed = h.passed;
      };
      wants = λ none. subst WantsBytes (sym (r.state ∙ ap (fed old) none)) c.requires.wants;
    }
