-- A wire over files in memory.
use Rattle.std.specs.Prelude.{ℕ, ◌+◌, ◌-◌, ◌^◌, ◌++◌, min, List, [], ◌∷◌, length, take, Option}
use Rattle.wire_lines.specs.Journal.{Entry, In, Out, Did, Start, AtEnd, CutAt, Sync, Keep}
use Rattle.kept_wire.specs.MediumMemory.{MemoryView, started, restarted}
use Rattle.kept_wire.specs.declared.memory.Done.{Done}
use Rattle.kept_wire.specs.declared.memory.Done.TheVariants as done

-- input: all of its file; step: the most bytes that a read gives; taken: how many bytes of the input are behind it; output: all of the
-- output's file; kept: how many bytes of it a crash leaves; file: the medium of FILE; calls: how many reads, writes, starts and syncs
-- may still go on
pub record WireView : Type 0 where
  pub input : List ℕ
  pub step : ℕ
  pub taken : ℕ
  pub output : List ℕ
  pub kept : ℕ
  pub file : MemoryView
  pub calls : ℕ
  pub journal : List Entry
  pub read_faults : ℕ
  pub write_faults : ℕ

-- the entry that a call added
abbrev pub entry_of : Done → Entry
entry_of (done.In v) = In v.items
entry_of (done.Out v) = Out v.items
entry_of (done.StartNew output) = Did (Start 0 (AtEnd output))
entry_of (done.StartAt input output) = Did (Start input (CutAt output))
entry_of done.Sync = Did Sync
entry_of (done.Keep v) = Did (Keep v.items)

-- the journal once FILE was replaced by these bytes, or a crash may leave them there
abbrev pub with_keep : WireView → List ℕ → List Entry
with_keep w bytes = w.journal ++ Did (Keep bytes) ∷ []

-- nothing has come in or gone out; `output` stands in the output's file, and a crash leaves `kept` bytes of it
abbrev pub opened : List ℕ → ℕ → List ℕ → ℕ → MemoryView → ℕ → WireView
opened input step output kept file calls = record {
  input = input;
  step = step;
  taken = 0;
  output = output;
  kept = kept;
  file = file;
  calls = calls;
  journal = [];
  read_faults = 0;
  write_faults = 0;
}

-- the output's file after a crash that left so many more bytes than those that are kept, or all
abbrev pub output_left : WireView → ℕ → List ℕ
output_left w more = take (w.kept + min more (length w.output - w.kept)) w.output

-- what the next process finds after a crash that left FILE so
abbrev pub crashed : WireView → ℕ → Option (List ℕ) → WireView
crashed w more left =
    opened w.input w.step (output_left w more) (length (output_left w more)) (started left (2 ^ 64 - 1)) (2 ^ 64 - 1)

-- what it finds where the machine went on
abbrev pub killed : WireView → WireView
killed w = opened w.input w.step w.output w.kept (restarted w.file.told.now) (2 ^ 64 - 1)
