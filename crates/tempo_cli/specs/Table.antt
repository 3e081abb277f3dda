-- What a run has done, by its status, for any faults and any text. `bytes` are all that came in, `out` all that went out, and
-- `ended` says whether the input has ended.
use Rattle.std.specs.Prelude.{◌≡◌, ◌≤◌, ◌+◌, ◌^◌, ℕ, Bool, true, false, List, [], ◌∷◌, ◌++◌, Some, None, take, length}
use Rattle.wire_lines.specs.Journal.{Entry, In, Out, Did, ins, outs, ended}
use Rattle.wire_lines.specs.Lines.{whole, rest, lines}
use Rattle.admission.specs.Progress.{Fault, Malformed as WasBad, TooLate, Overflowed}
use Rattle.tempo_cli.specs.Answers.{Answers, IsFront}
use Rattle.tempo_cli.specs.declared.status.Status.{Status}
use Rattle.tempo_cli.specs.declared.status.Status.TheVariants.{Done, BadWords, BadQuery, Malformed, Late, Overflow}
use Rattle.tempo_cli.specs.declared.status.Status.TheVariants.{InputTooLong, ReadFault, WriteFault, Memory}
use Rattle.tempo_cli.specs.declared.status.Status.TheVariants.{BadCheckpoint}

-- the most bytes of the input
unfoldable pub limit : ℕ
limit = 2 ^ 40

-- a read may come: the input goes on, its lines have no fault, and all that they call for so far is written
pub record IsReady (a : Answers) (K : List Entry) : Type 0 where
  pub goes_on : ended K ≡ false
  pub few : length (ins K) ≤ limit
  pub no_fault : a.fault (lines (ins K) false) false ≡ None
  pub written : outs K ≡ a.text (lines (ins K) false) false

-- one read takes 65,536 bytes at most, and none past number 2^40 + 1
pub record IsPiece (K : List Entry) (bytes : List ℕ) : Type 0 where
  pub short : length bytes ≤ 65536
  pub within : length (ins K) + length bytes ≤ limit + 1

-- a read may come before each In of the entries, which came after K
abbrev pub IsPromptAfter : Answers → List Entry → List Entry → Type 0
IsPromptAfter a K [] = Unit {0}
IsPromptAfter a K (In bytes ∷ J) = IsReady a K × IsPiece K bytes × IsPromptAfter a (K ++ In bytes ∷ []) J
IsPromptAfter a K (Out bytes ∷ J) = IsPromptAfter a (K ++ Out bytes ∷ []) J
IsPromptAfter a K (Did mark ∷ J) = IsPromptAfter a (K ++ Did mark ∷ []) J

abbrev pub IsPrompt : Answers → List Entry → Type 0
IsPrompt a J = IsPromptAfter a [] J

pub record IsDone (a : Answers) (bytes out : List ℕ) (ended : Bool) : Type 0 where
  pub at_end : ended ≡ true
  pub no_fault : a.fault (lines bytes true) true ≡ None
  pub written : out ≡ a.text (lines bytes true) true

-- The lines have this fault, those of the first 2^40 bytes and those of all bytes: the two differ where one byte more came in.
-- All that was due before it is written.
pub record IsRefused (a : Answers) (bytes out : List ℕ) (ended : Bool) (fault : Fault) : Type 0 where
  pub within : a.fault (lines (take limit bytes) ended) ended ≡ Some fault
  pub first : a.fault (lines bytes ended) ended ≡ Some fault
  pub written : out ≡ a.text (lines bytes ended) ended

-- one byte more than the input may have came in, the whole lines among those that it may have are without fault, and so is the
-- rest of them, which counts by its length alone
pub record IsTooLong (a : Answers) (bytes out : List ℕ) : Type 0 where
  pub long : length bytes ≡ limit + 1
  pub short : length (rest (take limit bytes)) ≤ 65536
  pub no_fault : a.fault (whole (take limit bytes)) false ≡ None
  pub written : out ≡ a.text (whole (take limit bytes)) false

-- a read failed: the input goes on, and what came in so far has no fault
pub record IsCutOff (a : Answers) (bytes out : List ℕ) (ended : Bool) : Type 0 where
  pub goes_on : ended ≡ false
  pub no_fault : a.fault (lines bytes ended) false ≡ None
  pub written : out ≡ a.text (lines bytes ended) false

-- out of memory: what is written is the text of the first k lines
pub record IsShort (a : Answers) (bytes out : List ℕ) (ended : Bool) : Type 0 where
  pub k : ℕ
  pub few : k ≤ length (lines bytes ended)
  pub written : out ≡ a.text (take k (lines bytes ended)) false

-- the table, row by row. Where a query is answered, words and query have no fault, and no checkpoint is read
abbrev pub IsEnd : Answers → Status → List ℕ → List ℕ → Bool → Type 0
IsEnd a Done bytes out ended = IsDone a bytes out ended
IsEnd a BadWords bytes out ended = ⊥
IsEnd a (BadQuery fault) bytes out ended = ⊥
IsEnd a (Malformed line cause) bytes out ended = IsRefused a bytes out ended (WasBad line cause)
IsEnd a (Late line time bound) bytes out ended = IsRefused a bytes out ended (TooLate line time bound)
IsEnd a (Overflow punct node time) bytes out ended = IsRefused a bytes out ended (Overflowed punct (record { node = node; time = time }))
IsEnd a InputTooLong bytes out ended = IsTooLong a bytes out
IsEnd a ReadFault bytes out ended = IsCutOff a bytes out ended
IsEnd a WriteFault bytes out ended = IsFront out (a.text (lines bytes ended) ended)
IsEnd a Memory bytes out ended = IsShort a bytes out ended
IsEnd a (BadCheckpoint line) bytes out ended = ⊥

-- the run was prompt, and ended as its status says. J is what it added to the journal
pub record Ends (a : Answers) (status : Status) (J : List Entry) : Type 0 where
  pub prompt : IsPrompt a J
  pub end : IsEnd a status (ins J) (outs J) (ended J)
