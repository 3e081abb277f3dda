-- Statuses: their exit numbers, their notes, and the counts of faults that they go with.
use Rattle.std.specs.Prelude.{◌≡◌, ◌⊎◌, ℕ, List, [], ◌∷◌, ◌++◌, Option, Some, None, codes, decimal}
use Rattle.std.specs.List.{All}
use Rattle.wire_lines.specs.Faults.{Rose}
use Rattle.wire_lines.specs.Journal.{Entry, outs, IsOut, SentAll, SentFront}
use Rattle.row_reader.specs.FieldTexts.{time_text}
use Rattle.plan_model.specs.declared.fault.QueryFault.{QueryFault}
use Rattle.plan_model.specs.declared.fault.QueryFault.TheVariants.{Syntax, LongExpr, TooLarge, UnknownName, TypeClash}
use Rattle.plan_model.specs.declared.fault.QueryFault.TheVariants.{NotEventLevel, BadWindow, ReachTooLong, TooManyNodes}
use Rattle.plan_model.specs.declared.fault.QueryFault.TheVariants.{TooManyColumns, NameTaken}
use Rattle.row_reader.specs.declared.entry.BadLine.{BadLine}
use Rattle.row_reader.specs.declared.entry.BadLine.TheVariants.{TooLong, NotUtf8, StrayReturn, OddQuotes, UnknownStream}
use Rattle.row_reader.specs.declared.entry.BadLine.TheVariants.{UnknownKind, WrongFields, BadTime, BadLife, BadValue}
use Rattle.row_reader.specs.declared.entry.BadLine.TheVariants.{NoStart}
use Rattle.tempo_cli.specs.Answers.{IsFront}
use Rattle.tempo_cli.specs.declared.status.Status.{Status}
use Rattle.tempo_cli.specs.declared.status.Status.TheVariants.{Done, BadWords, BadQuery, Malformed, Late, Overflow}
use Rattle.tempo_cli.specs.declared.status.Status.TheVariants.{InputTooLong, ReadFault, WriteFault, Memory}
use Rattle.tempo_cli.specs.declared.status.Status.TheVariants.{BadCheckpoint}

-- the exit number of the program
abbrev pub exit_of : Status → ℕ
exit_of Done = 0
exit_of BadWords = 2
exit_of (BadQuery fault) = 3
exit_of (Malformed line cause) = 4
exit_of (Late line time bound) = 5
exit_of (Overflow punct node time) = 6
exit_of InputTooLong = 7
exit_of ReadFault = 8
exit_of WriteFault = 9
exit_of Memory = 10
exit_of (BadCheckpoint line) = 12

-- what is told of a query: the words, and the offset or the number of an item where one is told. Of a type clash in item 2:
-- `type clash in item 2`
abbrev pub fault_words : QueryFault → List ℕ
fault_words (Syntax at) = codes "syntax at "
fault_words (LongExpr at) = codes "expression too long at "
fault_words TooLarge = codes "text too large"
fault_words (UnknownName item) = codes "unknown name in item "
fault_words (TypeClash item) = codes "type clash in item "
fault_words (NotEventLevel item) = codes "not event level in item "
fault_words (BadWindow item) = codes "bad window in item "
fault_words (ReachTooLong item) = codes "reach too long in item "
fault_words (TooManyNodes item) = codes "too many nodes in item "
fault_words (TooManyColumns item) = codes "too many columns in item "
fault_words (NameTaken item) = codes "name taken in item "

abbrev pub fault_place : QueryFault → Option ℕ
fault_place (Syntax at) = Some at
fault_place (LongExpr at) = Some at
fault_place TooLarge = None
fault_place (UnknownName item) = Some item
fault_place (TypeClash item) = Some item
fault_place (NotEventLevel item) = Some item
fault_place (BadWindow item) = Some item
fault_place (ReachTooLong item) = Some item
fault_place (TooManyNodes item) = Some item
fault_place (TooManyColumns item) = Some item
fault_place (NameTaken item) = Some item

-- what is told of a bad line
abbrev pub cause_words : BadLine → List ℕ
cause_words TooLong = codes "too long"
cause_words NotUtf8 = codes "not utf-8"
cause_words StrayReturn = codes "stray return"
cause_words OddQuotes = codes "odd quotes"
cause_words UnknownStream = codes "unknown stream"
cause_words UnknownKind = codes "unknown kind"
cause_words WrongFields = codes "wrong number of fields"
cause_words BadTime = codes "bad time"
cause_words BadLife = codes "bad life"
cause_words (BadValue column) = codes "bad value in column "
cause_words NoStart = codes "no open start"

abbrev pub cause_place : BadLine → Option ℕ
cause_place (BadValue column) = Some column
cause_place cause = None

-- a number where there is one: 2 for Some 2
abbrev pub place_text : Option ℕ → List ℕ
place_text None = []
place_text (Some n) = decimal n

-- the pieces of the note, one after the other, an LF at its end
abbrev pub note_pieces : Status → List (List ℕ)
note_pieces Done = []
note_pieces BadWords = []
note_pieces (BadQuery fault) = codes "query: " ∷ fault_words fault ∷ place_text (fault_place fault) ∷ codes "\n" ∷ []
note_pieces (Malformed line cause) = codes "line " ∷ decimal line ∷ codes ": " ∷ cause_words cause ∷ place_text (cause_place cause) ∷ codes "\n" ∷ []
note_pieces (Late line time bound) =
    codes "line " ∷ decimal line ∷ codes ": late, " ∷ time_text time ∷ codes " below " ∷ time_text bound ∷ codes "\n" ∷ []
note_pieces (Overflow punct node time) =
    codes "node " ∷ decimal node ∷ codes ": overflow at " ∷ time_text time ∷ codes ", closing " ∷ time_text punct ∷ codes "\n" ∷ []
note_pieces InputTooLong = codes "input too long\n" ∷ []
note_pieces ReadFault = codes "read failed\n" ∷ []
note_pieces WriteFault = codes "write failed\n" ∷ []
note_pieces Memory = codes "no memory\n" ∷ []
note_pieces (BadCheckpoint line) = codes "line " ∷ decimal line ∷ codes ": not a checkpoint\n" ∷ []

abbrev pub joined_pieces : List (List ℕ) → List ℕ
joined_pieces [] = []
joined_pieces (piece ∷ pieces) = piece ++ joined_pieces pieces

-- what is told of a status on the notes: `line 4: late, 6 below 7` and an LF. For BadWords it is the text of the reader of the
-- words, and not stated
abbrev pub note_of : Status → List ℕ
note_of status = joined_pieces (note_pieces status)

-- a fault of the wire is told only where its count rose, and every other status only where no call failed
abbrev pub Counts : ℕ → ℕ → ℕ → ℕ → Status → Type 0
Counts reads reads' writes writes' ReadFault = Rose reads reads'
Counts reads reads' writes writes' WriteFault = Rose writes writes'
Counts reads reads' writes writes' status = (reads' ≡ reads) × (writes' ≡ writes)

-- what went out is the note of the status, or its first bytes where a write failed
abbrev pub IsNote : Status → ℕ → ℕ → List ℕ → Type 0
IsNote BadWords writes writes' bytes = Unit {0}
IsNote status writes writes' bytes = (bytes ≡ note_of status) ⊎ (Rose writes writes' × IsFront bytes (note_of status))

-- the note of the status went out, or some of it, and nothing came in
pub record IsNoted (status : Status) (writes writes' : ℕ) (K : List Entry) : Type 0 where
  pub outs_alone : All IsOut K
  pub note : IsNote status writes writes' (outs K)

-- the text of a refusal of the words went out, or its first bytes where a write failed; where there is none nothing did
abbrev pub IsRefusalTold : Option (List ℕ) → ℕ → ℕ → List Entry → Type 0
IsRefusalTold None writes writes' K = K ≡ []
IsRefusalTold (Some text) writes writes' K = SentAll text K ⊎ (Rose writes writes' × SentFront text K)
