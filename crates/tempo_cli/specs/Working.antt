-- What private contracts say of a run in the midst of its lines.
use Rattle.std.specs.Prelude.{◌≡◌, ◌+◌, ◌≤◌, ℕ, Bool, false, true, Option, List, ◌++◌, length, Result, Ok, Err}
use Rattle.std.specs.List.{All}
use Rattle.wire_lines.specs.Journal.{Entry, Grows, ins, outs, ended, IsOut}
use Rattle.tempo_cli.specs.Answers.{Answers}
use Rattle.tempo_cli.specs.Feeding.{Asked, answers_to, Holds, LineRules, HasGiven, StopsFor}
use Rattle.tempo_cli.specs.Table.{limit, Ends, IsEnd, IsPrompt}
use Rattle.tempo_cli.specs.declared.answering.Answering.{Answering}
use Rattle.tempo_cli.specs.declared.status.Status.{Status}
use Rattle.tempo_cli.specs.declared.status.Status.TheVariants.{Done}

-- the status of a run that ended so: Done, or what ended it
abbrev pub status_of : {T : Type 0} → Result T Status → Status
status_of (Ok done) = Done
status_of (Err status) = status

-- after the lines given, more lines of the bytes were taken, and what the text grew by was written
pub record Worked (q : Asked) (bytes : List ℕ) (given : List (List ℕ)) (s : Answering) (O : List Entry) : Type 0 where
  pub outs_alone : All IsOut O
  pub more : List (List ℕ)
  pub holds : Holds q bytes more s
  pub grown : (answers_to q).text more false ≡ (answers_to q).text given false ++ outs O

-- after the lines given, the run ended, whether or not the input ends here
pub record Stopped (q : Asked) (bytes : List ℕ) (given : List (List ℕ)) (status : Status) (O : List Entry) : Type 0 where
  pub outs_alone : All IsOut O
  pub end : (ended : Bool) → IsEnd (answers_to q) status bytes ((answers_to q).text given false ++ outs O) ended

-- all whole lines that came in are worked through, and the journal tells what was written for them
abbrev pub WorksThrough : Option (List Entry) → Option (List Entry) → Answering → Answering → Type 0
WorksThrough before now old new = (q : Asked) (bytes : List ℕ) (given : List (List ℕ)) → Holds q bytes given old → length bytes ≤ limit + 1 →
    Grows before now (Worked q bytes given new)

-- a line, or what it made due, ended the run
abbrev pub StopsWith : Option (List Entry) → Option (List Entry) → Answering → Status → Type 0
StopsWith before now old status = (q : Asked) (bytes : List ℕ) (given : List (List ℕ)) → Holds q bytes given old → length bytes ≤ limit + 1 →
    Grows before now (Stopped q bytes given status)

-- whatever the engine is: what was written is written, and more lines of the bytes were given
pub record GivesOn (k : LineRules) (bytes : List ℕ) (s : Answering) (O : List Entry) : Type 0 where
  pub outs_alone : All IsOut O
  pub more : List (List ℕ)
  pub gives : HasGiven k bytes more s

-- or the run ended so, whether or not the input ends here
pub record GivesOut (k : LineRules) (bytes : List ℕ) (status : Status) (O : List Entry) : Type 0 where
  pub outs_alone : All IsOut O
  pub reason : (ended : Bool) → StopsFor k status bytes ended

-- whatever lines of whatever bytes were given
abbrev pub AfterGiven : Option (List Entry) → Option (List Entry) → Answering → (LineRules → List ℕ → List Entry → Type 0) → Type 0
AfterGiven before now s P = (k : LineRules) (bytes : List ℕ) (given : List (List ℕ)) → HasGiven k bytes given s → length bytes ≤ limit + 1 →
    Grows before now (P k bytes)

-- so many bytes may still come
pub record MayCome (k : LineRules) (s : Answering) (left : ℕ) (J : List Entry) : Type 0 where
  pub given : List (List ℕ)
  pub gives : HasGiven k (ins J) given s
  pub goes_on : ended J ≡ false
  pub count : length (ins J) + left ≡ limit + 1

-- the input has ended, and all lines that came in were given, but a last one that no LF ends
pub record HasAllCome (k : LineRules) (s : Answering) (J : List Entry) : Type 0 where
  pub given : List (List ℕ)
  pub gives : HasGiven k (ins J) given s
  pub at_end : ended J ≡ true

-- the run ended so, for a reason that is in what came in
abbrev pub EndsFor : LineRules → Status → List Entry → Type 0
EndsFor k status J = StopsFor k status (ins J) (ended J)

-- whatever came in before, and then all of both
abbrev pub WhateverCame : Option (List Entry) → Option (List Entry) → Answering → ℕ → (LineRules → List Entry → Type 0) → Type 0
WhateverCame before now s left P = (k : LineRules) (J : List Entry) → MayCome k s left J → Grows before now (λ K. P k (J ++ K))

-- before a read: all lines that came in were taken, what they call for is written, and so many bytes may still come
pub record Reading (q : Asked) (s : Answering) (left : ℕ) (J : List Entry) : Type 0 where
  pub prompt : IsPrompt (answers_to q) J
  pub goes_on : ended J ≡ false
  pub given : List (List ℕ)
  pub holds : Holds q (ins J) given s
  pub written : outs J ≡ (answers_to q).text given false
  pub count : length (ins J) + left ≡ limit + 1

-- the input has ended: all lines that came in were taken, but a last one that no LF ends, and what they call for is written
pub record AtEnd (q : Asked) (s : Answering) (J : List Entry) : Type 0 where
  pub prompt : IsPrompt (answers_to q) J
  pub at_end : ended J ≡ true
  pub given : List (List ℕ)
  pub holds : Holds q (ins J) given s
  pub written : outs J ≡ (answers_to q).text given false

-- the run ended so while the input goes on
pub record Stops (a : Answers) (status : Status) (J : List Entry) : Type 0 where
  pub ends : Ends a status J
  pub goes_on : ended J ≡ false

-- whatever was read before, and then this
abbrev pub WhateverRead : Option (List Entry) → Option (List Entry) → Answering → ℕ → (Asked → List Entry → Type 0) → Type 0
WhateverRead before now old left P = (q : Asked) (J : List Entry) → Reading q old left J → Grows before now (λ K. P q (J ++ K))

-- after the lines given, and the end of the input
pub record EndsWith (q : Asked) (bytes : List ℕ) (given : List (List ℕ)) (status : Status) (O : List Entry) : Type 0 where
  pub outs_alone : All IsOut O
  pub end : IsEnd (answers_to q) status bytes ((answers_to q).text given false ++ outs O) true

-- so the run ends
abbrev pub EndsAll : Option (List Entry) → Option (List Entry) → Answering → Status → Type 0
EndsAll before now old status =
    (q : Asked) (bytes : List ℕ) (given : List (List ℕ)) → Holds q bytes given old → Grows before now (EndsWith q bytes given status)
