-- What private contracts say of a run that writes a checkpoint at the end of its input.
use Rattle.std.specs.Prelude.{◌≡◌, ◌≤◌, ◌<◌, ◌^◌, ◌++◌, ℕ, Bool, true, false, Option, List, length}
use Rattle.std.specs.List.{All}
use Rattle.wire_lines.specs.Journal.{Entry, Grows, IsOut, outs, SentAll, SentFront}
use Rattle.wire_lines.specs.Lines.{lines}
use Rattle.frozen_state.specs.Frozen.{FrozenView}
use Rattle.checkpoint.specs.Form.{FormView, form_of}
use Rattle.checkpoint.specs.Writing.{bytes_of}
use Rattle.tempo_engine.specs.Went.{EngineView}
use Rattle.tempo_engine.specs.Frozen.{Fits}
use Rattle.tempo_engine.specs.declared.fault.EngineFault.{EngineFault}
use Rattle.tempo_cli.specs.Answers.{Answers}
use Rattle.tempo_cli.specs.Table.{IsEnd}
use Rattle.tempo_cli.specs.Resumed.{going_on}
use Rattle.tempo_cli.specs.Feeding.{Asked, answers_to, fed_by, status_at, Holds}
use Rattle.tempo_cli.specs.Freezing.{IsShort, Froze, Freezes, IsFreezeEnd}
use Rattle.tempo_cli.specs.Working.{Reading}
use Rattle.tempo_cli.specs.declared.answering.Answering.{Answering}
use Rattle.tempo_cli.specs.declared.status.Status.{Status}
use Rattle.tempo_cli.specs.declared.status.Status.TheVariants.{Done, WriteFault, Memory}

-- the engine has as many workers and the same plan, and for it the input goes on where it did
abbrev pub StaysOpen : EngineView → EngineView → Type 0
StaysOpen old new =
    (new.parts.dataflow.workers ≡ old.parts.dataflow.workers) × (new.ended ≡ old.ended) × (new.parts.dataflow.plan ≡ old.parts.dataflow.plan)

-- the engine's fault ended the run, in which nothing is due for the end of the input
pub record StopsGoing (a : Answers) (status : Status) (bytes out : List ℕ) (ended : Bool) : Type 0 where
  pub fault : EngineFault
  pub is : status ≡ status_at fault
  pub end : IsEnd (going_on a) (status_at fault) bytes out ended

-- the form is that of the checkpoints of the query with so many workers, and the numbers of its options are ones of 64 bits
pub record IsFormFor (query : List ℕ) (workers : ℕ) (q : Asked) (form : FormView) : Type 0 where
  pub form_is : form ≡ form_of query workers q.policy q.plan
  pub workers_fit : workers < 2 ^ 64
  pub lateness_fits : q.policy.lateness < 2 ^ 64
  pub period_fits : q.policy.period < 2 ^ 64

-- the lines C are a checkpoint of this form after these lines of an input
abbrev pub FrozeAfter : FormView → ℕ → Asked → List (List ℕ) → List (List ℕ) → Type 0
FrozeAfter form workers q lines C = Froze form (Fits workers q.plan q.policy (fed_by q lines)) C

-- its number and its texts are small enough for a checkpoint
abbrev pub IsSmall : FrozenView → Type 0
IsSmall f = (f.lines ≤ 2 ^ 62) × All (λ t. length t ≤ 65530) f.texts

-- the bytes of the lines went out; or a prefix of them did, and a call of the wire failed; or it was out of memory for a line that
-- is longer than a line of input may be
abbrev pub SendsLines : List (List ℕ) → Option (List Entry) → Option (List Entry) → Status → Type 0
SendsLines lines before now Done = Grows before now (SentAll (bytes_of lines))
SendsLines lines before now WriteFault = Grows before now (SentFront (bytes_of lines))
SendsLines lines before now Memory = All IsShort lines → ⊥
SendsLines lines before now status = ⊥

-- after the lines given, and the end of the input
pub record FreezesWith (form : FormView) (workers : ℕ) (q : Asked) (bytes : List ℕ) (given : List (List ℕ)) (status : Status)
    (O : List Entry) : Type 0 where
  pub outs_alone : All IsOut O
  pub end : IsFreezeEnd (answers_to q) (FrozeAfter form workers q (lines bytes true)) status bytes ((answers_to q).text given false ++ outs O) true

-- so the run ends
abbrev pub FreezesAll : Option (List Entry) → Option (List Entry) → FormView → Answering → Status → Type 0
FreezesAll before now form old status =
    (query : List ℕ) (q : Asked) (bytes : List ℕ) (given : List (List ℕ)) →
    IsFormFor query old.engine.parts.dataflow.workers q form → Holds q bytes given old →
    Grows before now (FreezesWith form old.engine.parts.dataflow.workers q bytes given status)

-- whatever was read before, and then the rest of the run
abbrev pub FreezesOn : Option (List Entry) → Option (List Entry) → FormView → Answering → ℕ → Status → Type 0
FreezesOn before now form old left status =
    (query : List ℕ) (q : Asked) (J : List Entry) → IsFormFor query old.engine.parts.dataflow.workers q form → Reading q old left J →
    Grows before now (λ K. Freezes (answers_to q) (FrozeAfter form old.engine.parts.dataflow.workers q) status (J ++ K))
