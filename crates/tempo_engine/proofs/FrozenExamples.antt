-- How many entries may be frozen, computed on cases.
use Rattle.std.specs.Prelude.{◌≡◌, ℕ, None, Ok, List, [], ◌∷◌, refl}
use Rattle.tw_rows.specs.Instant.{inf}
use Rattle.tw_rows.specs.declared.schema.StreamDef.{StreamDef}
use Rattle.row_reader.specs.declared.form.Form.TheVariants as forms
use Rattle.edge_stream.specs.declared.saved.SavedEntry.{SavedEntry}
use Rattle.plan_model.specs.declared.node.Node.TheVariants.{Source, Delay}
use Rattle.plan_model.specs.IsPlan.{PlanParts}
use Rattle.row_reader.specs.declared.entry.Entry.{Entry}
use Rattle.row_reader.specs.declared.entry.Entry.TheVariants.{Punct, Event}
use Rattle.admission.specs.declared.policy.Lateness.TheVariants.{Refuse}
use Rattle.admission.specs.declared.policy.Policy.{Policy}
use Rattle.admission.specs.Entries.{Told}
use Rattle.frozen_state.specs.declared.owner.Owner.TheVariants.{In, Out}
use Rattle.tempo_engine.specs.Entries.{entries_of, may_freeze}

abbrev an_entry : SavedEntry
an_entry = record { part = 0; sync = 1; other = inf; cells = [] }

three_entries : entries_of (record { owner = In; shard = 0; saved = an_entry ∷ [] } ∷ record { owner = Out; shard = 0; saved = an_entry ∷ an_entry ∷ [] } ∷ []) ≡ 3
three_entries = refl

abbrev a_stream : StreamDef
a_stream = record { name = []; schema = [] }

abbrev delayed : PlanParts
delayed = record { streams = a_stream ∷ []; nodes = Source 0 ∷ Delay 0 5 ∷ []; schemas = []; root = 1 }

abbrev plain : Policy
plain = record { lateness = 0; late = Refuse; period = 0 }

abbrev line : ℕ → Entry → Told
line number says = record { number = number; read = Ok says }

-- `s,interval,1,9` and `*,punct,3`
abbrev two_lines : List Told
two_lines = line 1 (Event 0 forms.Interval 1 9 []) ∷ line 2 (Punct None 3) ∷ []

seven_may_be_frozen : may_freeze delayed plain two_lines two_lines ≡ 7
unfolding inf
seven_may_be_frozen = refl

-- before the first punctuation no row of the root counts: only what is held of the stream
two_may_be_frozen : may_freeze delayed plain [] (line 1 (Event 0 forms.Interval 1 9 []) ∷ []) ≡ 2
unfolding inf
two_may_be_frozen = refl
