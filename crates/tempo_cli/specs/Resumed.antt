-- What is asked of a run that is frozen at the end of its input, and of one that goes on from a checkpoint.
use Rattle.std.specs.Prelude.{suc, List, ◌++◌, length, drop, false, ℕ}
use Rattle.tw_rows.specs.declared.schema.StreamDef.{StreamDef}
use Rattle.plan_model.specs.IsPlan.{PlanParts}
use Rattle.admission.specs.Entries.{Told}
use Rattle.admission.specs.Progress.{fault}
use Rattle.admission.specs.declared.policy.Policy.{Policy}
use Rattle.tempo_engine.specs.Fed.{last_number}
use Rattle.tempo_engine.specs.Output.{plan_text}
use Rattle.tempo_cli.specs.Answers.{Answers}
use Rattle.tempo_cli.specs.Told.{told_from}

-- what is asked of an input that goes on, also where it has ended: nothing is due for its end
abbrev pub going_on : Answers → Answers
going_on a = record { fault = λ lines ended. a.fault lines false; text = λ lines ended. a.text lines false }

-- what the lines say behind the first k, which are a checkpoint: their numbers go on from that of the last line before it. Where
-- lines 1 and 2 were before it, the first line behind it is line 3
abbrev pub later : List StreamDef → List Told → ℕ → List (List ℕ) → List Told
later streams before k lines = told_from streams false (suc (last_number before)) (drop k lines)

-- the fault and the text of the lines before a checkpoint and those behind it, without the text of those before it, which another
-- run wrote. Until the k lines of the checkpoint came in there is no fault and no text. Of `s,start,1,inf,a,1` and `*,punct,3` before
-- it and `s,end,4,1,a,1` behind it: `out,end,4,1,a,1`, once a punctuation is due
abbrev pub resumed : PlanParts → Policy → List Told → ℕ → Answers
resumed plan policy before k = record {
  fault = λ lines ended. fault plan policy (before ++ later plan.streams before k lines) ended;
  text = λ lines ended.
      drop (length (plan_text plan policy before false)) (plan_text plan policy (before ++ later plan.streams before k lines) ended);
}
