-- What a wire over files did where it failed to keep the state of a run.
use Rattle.std.specs.Prelude.{◌≡◌, ◌⊎◌, ℕ, List, [], ◌∷◌, Option}
use Rattle.wire_lines.specs.Journal.{Entry, Did, Keep, Adds}
use Rattle.kept_wire.specs.Calls.{Told}

-- it stands in the journal, since FILE may have these bytes from here on; or nothing was done to FILE
abbrev pub HasNotKept : Option (List Entry) → Option (List Entry) → Option Told → Option Told → List ℕ → Type 0
HasNotKept before now file_before file_now bytes = Adds before now (Did (Keep bytes) ∷ []) ⊎ (Adds before now [] × (file_now ≡ file_before))
