-- Runs that crashes ended, each gone on with by the next one.
use Rattle.std.specs.Prelude.{◌≡◌, ◌+◌, ◌++◌, ℕ, true, Option, Some, None, List, [], ◌∷◌, length, take}
use Rattle.wire_lines.specs.Journal.{Entry, Did, Sync, ins, outs, ended}
use Rattle.wire_lines.specs.Lines.{joined}
use Rattle.tempo_cli.specs.Answers.{IsFront}
use Rattle.tempo_cli.specs.Keeping.{Task, query_of, answers_of, task_after, IsRecovered}
use Rattle.tempo_cli.specs.KeptStatus.{IsTaken}

-- a run that a crash ended: what it did behind its start, what the crash left of the output's file, and what it left of FILE; None:
-- FILE as it was before the run
pub record Crash : Type 0 where
  pub did : List Entry
  pub output : List ℕ
  pub kept : Option (List ℕ)

-- it left all that the output's file had at the start, and all that had gone out when it was brought to the disk. What is behind that
-- may be anything
pub record HasLeft (file : List ℕ) (c : Crash) : Type 0 where
  pub start : IsFront file c.output
  pub synced : (front back : List Entry) → c.did ≡ front ++ Did Sync ∷ back → IsFront (file ++ outs front) c.output

-- the lines are not a header alone, behind which lines are numbered as if it were none
abbrev pub IsNoHeader : Task → List (List ℕ) → Type 0
IsNoHeader t taken = (query_of t).header ≡ true → length taken ≡ 1 → ⊥

-- the next run goes on from a checkpoint of this one
pub record GoesBehind (t : Task) (c : Crash) (bytes : List ℕ) (all : List (List ℕ)) (Next : Task → List (List ℕ) → Type 0) : Type 0 where
  pub kept : IsRecovered t c.did bytes
  pub no_header : IsNoHeader t kept.taken
  pub more : List (List ℕ)
  pub all_is : all ≡ kept.taken ++ more
  pub next : Next (task_after t kept.taken) more

-- where FILE is as it was, it is one of the same task
abbrev pub GoesOn : Task → Crash → Option (List ℕ) → List (List ℕ) → (Task → List (List ℕ) → Type 0) → Type 0
GoesOn t c None all Next = Next t all
GoesOn t c (Some bytes) all Next = GoesBehind t c bytes all Next

-- runs that crashes ended, the first one of task t, before which the output's file had these bytes. u is the task of the run behind
-- them, and `left` what the output's file has before it; and `all` are the lines that u goes on behind
abbrev pub AreGoneOn : Task → List ℕ → List Crash → Task → List ℕ → List (List ℕ) → Type 0
AreGoneOn t file [] u left all = (u ≡ t) × (left ≡ file) × (all ≡ [])
AreGoneOn t file (c ∷ crashes) u left all =
    HasLeft (take t.start.output file) c × GoesOn t c c.kept all (λ v more. AreGoneOn v c.output crashes u left more)

-- the last run, which did J, and those before it made of the output's file what one run makes that no crash ends: behind what it had,
-- the text of all whole lines, those that were taken before and those of the bytes that came in to the last run
pub record IsUnbroken (t u : Task) (file left : List ℕ) (all : List (List ℕ)) (J : List Entry) : Type 0 where
  pub input : u.start.input ≡ t.start.input + length (joined all)
  pub out : List ℕ
  pub output : take u.start.output left ++ outs J ≡ take t.start.output file ++ out
  pub end : IsTaken (answers_of t) (joined all ++ ins J) out (ended J)
