-- What the lines of an input say, numbered from 1, and what a plan answers to them.
use Rattle.std.specs.Prelude.{ℕ, suc, Bool, false, List, [], ◌∷◌, Ok, Err, if◌then◌else◌, nat_lt, nat_eq, ◌&&◌, cond, length}
use Rattle.tw_rows.specs.declared.schema.StreamDef.{StreamDef}
use Rattle.plan_model.specs.IsPlan.{PlanParts}
use Rattle.row_reader.specs.Entry.{Read, entry}
use Rattle.row_reader.specs.declared.entry.BadLine.TheVariants.{TooLong}
use Rattle.row_reader.specs.declared.entry.Entry.TheVariants.{Skip}
use Rattle.admission.specs.Entries.{Told}
use Rattle.admission.specs.Progress.{fault}
use Rattle.admission.specs.declared.policy.Policy.{Policy}
use Rattle.tempo_engine.specs.Output.{plan_text}
use Rattle.tempo_cli.specs.Answers.{Answers}

-- what the line of a number says. A line of more than 65,536 bytes is too long whatever it says; with a header line 1 says
-- nothing
unfoldable pub entry_at : List StreamDef → Bool → ℕ → List ℕ → Read
entry_at streams header number line =
    if nat_lt 65536 (length line) then Err TooLong
    else if header && nat_eq number 1 then Ok Skip
    else entry streams (nat_eq number 1) line

abbrev pub told_at : List StreamDef → Bool → ℕ → List ℕ → Told
told_at streams header number line = record { number = number; read = entry_at streams header number line }

-- what lines say, of which the first has the number n. With a header, `x` and `y` from 1 on: 1 says nothing, 2 what `y` says
abbrev pub told_from : List StreamDef → Bool → ℕ → List (List ℕ) → List Told
told_from streams header n [] = []
told_from streams header n (line ∷ lines) = told_at streams header n line ∷ told_from streams header (suc n) lines

abbrev pub told : List StreamDef → Bool → List (List ℕ) → List Told
told streams header lines = told_from streams header 1 lines

-- what the lines say that are fed, of which the first has the number n: all but a header. With a header, `x` and `y` from 1 on: line 2
-- alone, which says what `y` says
abbrev pub fed_from : List StreamDef → Bool → ℕ → List (List ℕ) → List Told
fed_from streams header n [] = []
fed_from streams header n (line ∷ lines) =
    cond (header && nat_eq n 1) (fed_from streams header (suc n) lines) (told_at streams false n line ∷ fed_from streams header (suc n) lines)

abbrev pub fed : List StreamDef → Bool → List (List ℕ) → List Told
fed streams header lines = fed_from streams header 1 lines

-- the fault and the text of lines under a plan and a policy, with a header or without
abbrev pub answers : PlanParts → Policy → Bool → Answers
answers plan policy header = record {
  fault = λ lines ended. fault plan policy (told plan.streams header lines) ended;
  text = λ lines ended. plan_text plan policy (told plan.streams header lines) ended;
}
