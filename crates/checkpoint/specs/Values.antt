-- What the types of the program keep of what is frozen, whatever it is.
use Rattle.std.specs.Prelude.{◌<◌, ◌≤◌, ◌^◌, All}
use Rattle.std.specs.Str.{IsUtf8}
use Rattle.tw_rows.specs.Instant.{inf}
use Rattle.tw_rows.specs.Cells.{datum_kind}
use Rattle.tw_rows.specs.declared.cells.Datum.{Datum}
use Rattle.edge_stream.specs.declared.saved.SavedEntry.{SavedEntry}
use Rattle.frozen_state.specs.declared.frozen.FrozenPart.{FrozenPart}
use Rattle.frozen_state.specs.Frozen.{FrozenView}
use Rattle.checkpoint.specs.Lines.{IsOwner, IsCell}

-- an int of 64 bits, a place below 2^64
abbrev pub IsDatum : Datum → Type 0
IsDatum d = IsCell (datum_kind d) d

pub record IsEntryValue (e : SavedEntry) : Type 0 where
  pub part : e.part < 2 ^ 64
  pub sync : e.sync ≤ inf
  pub other : e.other ≤ inf
  pub cells : All IsDatum e.cells

pub record IsPartValue (p : FrozenPart) : Type 0 where
  pub owner : IsOwner p.owner
  pub shard : p.shard < 2 ^ 64
  pub entries : All IsEntryValue p.saved

pub record IsFrozenValue (f : FrozenView) : Type 0 where
  pub last : f.last ≤ inf
  pub bounds : All (λ t. t ≤ inf) f.bounds
  pub marks : All (λ t. t ≤ inf) f.marks
  pub texts : All IsUtf8 f.texts
  pub parts : All IsPartValue f.parts
