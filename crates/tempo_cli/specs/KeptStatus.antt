-- Statuses of runs that keep checkpoints.
use Rattle.std.specs.Prelude.{◌≡◌, ◌⊎◌, ℕ, Bool, true, false, List, codes, Result, Ok, Err}
use Rattle.wire_lines.specs.Faults.{Rose}
use Rattle.wire_lines.specs.Journal.{Entry, SentAll, SentFront}
use Rattle.tempo_cli.specs.Answers.{Answers}
use Rattle.tempo_cli.specs.Feeding.{IsAsked, IsOwn}
use Rattle.tempo_cli.specs.Jobs.{HasQueryReason}
use Rattle.tempo_cli.specs.Status.{Counts, IsNoted, exit_of, note_of}
use Rattle.tempo_cli.specs.Table.{IsEnd, IsCutOff, IsShort}
use Rattle.tempo_cli.specs.declared.status.Status.{Status}
use Rattle.tempo_cli.specs.declared.status.Status.TheVariants as statuses
use Rattle.tempo_cli.specs.declared.kept_status.KeptStatus.{KeptStatus}
use Rattle.tempo_cli.specs.declared.kept_status.KeptStatus.TheVariants.{Ended, CheckpointFailed}

-- the exit number of the program
abbrev pub kept_exit : KeptStatus → ℕ
kept_exit (Ended status) = exit_of status
kept_exit CheckpointFailed = 13

-- what is told of it on the notes
abbrev pub kept_note : KeptStatus → List ℕ
kept_note (Ended status) = note_of status
kept_note CheckpointFailed = codes "checkpoint failed\n"

-- the status of what ended so: Done, or what ended it
abbrev pub kept_of : {T : Type 0} → Result T KeptStatus → KeptStatus
kept_of (Ok done) = Ended statuses.Done
kept_of (Err status) = status

-- all whole lines that came in were taken, and all that they call for was written
pub record IsTaken (a : Answers) (bytes out : List ℕ) (ended : Bool) : Type 0 where
  pub at_end : ended ≡ true
  pub whole : IsCutOff a bytes out false

-- the table of a run for which the end of its input is none: it takes the whole lines alone. Where a checkpoint failed, what is
-- written is the text of the first lines
abbrev pub IsKeptEnd : Answers → KeptStatus → List ℕ → List ℕ → Bool → Type 0
IsKeptEnd a (Ended statuses.Done) bytes out ended = IsTaken a bytes out ended
IsKeptEnd a (Ended status) bytes out ended = IsEnd a status bytes out false
IsKeptEnd a CheckpointFailed bytes out ended = IsShort a bytes out false

-- a failed checkpoint is told only where a count of faults rose, and every other status as of any run
abbrev pub KeptCounts : ℕ → ℕ → ℕ → ℕ → KeptStatus → Type 0
KeptCounts reads reads' writes writes' (Ended status) = Counts reads reads' writes writes' status
KeptCounts reads reads' writes writes' CheckpointFailed = Rose reads reads' ⊎ Rose writes writes'

-- no call failed
abbrev pub StaysCounted : ℕ → ℕ → ℕ → ℕ → Type 0
StaysCounted reads reads' writes writes' = (reads' ≡ reads) × (writes' ≡ writes)

-- the note of the status went out, or its first bytes where a write failed, and nothing came in
abbrev pub IsKeptNoted : KeptStatus → ℕ → ℕ → List Entry → Type 0
IsKeptNoted (Ended status) writes writes' K = IsNoted status writes writes' K
IsKeptNoted CheckpointFailed writes writes' K = SentAll (kept_note CheckpointFailed) K ⊎ (Rose writes writes' × SentFront (kept_note CheckpointFailed) K)

-- BadQuery comes where the query has that fault alone, and BadWords never
abbrev pub HasKeptReason : List ℕ → KeptStatus → Type 0
HasKeptReason query (Ended status) = HasQueryReason query status
HasKeptReason query CheckpointFailed = Unit {0}

-- no status tells of the words or of the query
abbrev pub IsKeptAsked : KeptStatus → Type 0
IsKeptAsked (Ended status) = IsAsked status
IsKeptAsked CheckpointFailed = Unit {0}

-- the status tells nothing of the words or of the query, and of a failed call only where a count of faults rose
abbrev pub TellsEnd : ℕ → ℕ → ℕ → ℕ → KeptStatus → Type 0
TellsEnd reads reads' writes writes' status = IsKeptAsked status × KeptCounts reads reads' writes writes' status

-- FILE was refused, or the run was out of memory before that was known
abbrev pub IsRefused : Status → Type 0
IsRefused (statuses.BadCheckpoint line) = Unit {0}
IsRefused statuses.Memory = Unit {0}
IsRefused status = ⊥

-- or FILE could not be read
abbrev pub IsRefusal : KeptStatus → Type 0
IsRefusal (Ended status) = IsRefused status
IsRefusal CheckpointFailed = Unit {0}

-- it ended, and its status tells of no wire
abbrev pub IsEndedOwn : KeptStatus → Type 0
IsEndedOwn (Ended status) = IsOwn status
IsEndedOwn CheckpointFailed = ⊥
