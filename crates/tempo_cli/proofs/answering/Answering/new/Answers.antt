use Rattle.std.proofs.Common.{◌∙◌, ℕ, [], refl, sym, ap, arith, subst}
use Rattle.wire_lines.specs.Cutter.{CutterState, opening}
use Rattle.tempo_cli.specs.Feeding.{WantsBytes}
use Rattle.tempo_cli.proofs.Journals.{limit-is}
use Rattle.tempo_cli.proofs.answering.Answering.new.Goals as goal

-- before the first byte
wants_first : (total : ℕ) → WantsBytes (opening 65536 total)
wants_first total = record { longest = refl; wants_bytes = refl; one_line = refl; short = omega arith }

pub returns-clause-holds : goal.returns-clause-holds
returns-clause-holds c = record {
  header = refl;
  base = refl;
  low = omega arith;
  skipped = refl;
  passed = omega arith;
  within = record {
    longest = ap (λ (s : CutterState). s.longest) c.in_ok-cutter.ensures.state;
    total = ap (λ (s : CutterState). s.total) c.in_ok-cutter.ensures.state ∙ sym limit-is;
    cuts = c.in_ok-cutter.ensures.lines;
    fine = refl;
  };
  engine = record { fed = []; is = refl; took = c.in_ok-engine.ensures.fed; same = refl };
}

pub returns-clause-wants : goal.returns-clause-wants
returns-clause-wants c = subst WantsBytes (sym c.in_ok-cutter.ensures.state) (wants_first _)
