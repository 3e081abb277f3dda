-- FILE is opened, from call to call.
use Rattle.std.proofs.Common.{◌≡◌, inl, inr, [], Option, Some, None, Result, Ok, Err, IsErr, refl, ◌∙◌, ap}
use Rattle.std.specs.Prelude.{ℕ, Vec}
use Rattle.std.specs.declared.alloc.Global.{Global}
use Rattle.kept_wire.specs.declared.medium.Name.TheVariants.{File}
use Rattle.kept_wire.specs.declared.medium.ReadFault.{ReadFault}
use Rattle.kept_wire.specs.Disk.{settled}
use Rattle.kept_wire.specs.Calls.{Told, HasRead, HasSynced, HasSyncedFolder, with_synced, with_lost}
use Rattle.kept_wire.specs.Replaced.{StaysWhole}
use Rattle.kept_wire.specs.Opened.{HasOpened}
use Rattle.kept_wire.proofs.Going.{starts, goes_on}
use Rattle.kept_wire.proofs.AsItWas.{same_whole, synced_whole, lost_whole, settled_whole, leaves_seen, leaves_none}

module _ (old : Told) where
  pub after_read : (result : Result (Option (Vec ℕ Global)) ReadFault) (new : Told) → HasRead result old new → StaysWhole [] old new
  after_read result new read = goes_on [] old _ _ result old new (starts [] old) read.passes (λ d is. same_whole old.now d is)

  pub after_sync : {T E : Type 0} (result : Result T E) (found : Option (Vec ℕ Global)) (mid new : Told)
      → HasRead (Ok found) old mid → HasSynced File result mid new → StaysWhole [] old new
  after_sync result found mid new read sync =
      let now : mid.now ≡ old.now = read.passes.ok in
      goes_on [] old _ _ result mid new (after_read (Ok found) mid read) sync (λ d may. elim may [
        | inl same ↦ same_whole old.now d (same ∙ now)
        | inr (inl torn) ↦ lost_whole old.now d (torn ∙ ap (with_lost File) now)
        | inr (inr all) ↦ synced_whole old.now d (all ∙ ap (with_synced File) now)
      ])

  pub after_folder : {T E A B : Type 0} (value : A) (result : Result T E) (found : Option (Vec ℕ Global)) (first mid new : Told)
      → HasRead (Ok found) old first → HasSynced {E = B} File (Ok value) first mid → HasSyncedFolder result mid new → StaysWhole [] old new
  after_folder value result found first mid new read sync folder =
      let now : mid.now ≡ with_synced File old.now = sync.ok ∙ ap (with_synced File) read.passes.ok in
      goes_on [] old _ _ result mid new (after_sync (Ok value) found first mid read sync) folder (λ d may. elim may [
        | inl same ↦ synced_whole old.now d (same ∙ now)
        | inr all ↦ settled_whole old.now (with_synced File old.now) d (synced_whole old.now (with_synced File old.now) refl) (all ∙ ap settled now)
      ])

  -- the same where there is no file
  pub after_folder_alone : {T E : Type 0} (result : Result T E) (found : Option (Vec ℕ Global)) (mid new : Told)
      → HasRead (Ok found) old mid → HasSyncedFolder result mid new → StaysWhole [] old new
  after_folder_alone result found mid new read folder =
      let now : mid.now ≡ old.now = read.passes.ok in
      goes_on [] old _ _ result mid new (after_read (Ok found) mid read) folder (λ d may. elim may [
        | inl same ↦ same_whole old.now d (same ∙ now)
        | inr all ↦ settled_whole old.now old.now d (same_whole old.now old.now refl) (all ∙ ap settled now)
      ])

  pub opened_fails : (result : Result (Option (Vec ℕ Global)) ReadFault) (new : Told) → IsErr result → StaysWhole [] old new → HasOpened result old new
  opened_fails (Ok value) new is so_far = absurd (cc is)
  opened_fails (Err error) new is so_far = record { whole = so_far; seen = tt; only = tt }

  pub opened_some : {A B C D : Type 0} (a : A) (b : B) (bytes : Vec ℕ Global) (first mid new : Told)
      → HasRead (Ok (Some bytes)) old first → HasSynced {E = C} File (Ok a) first mid → HasSyncedFolder {E = D} (Ok b) mid new
      → HasOpened (Ok (Some bytes)) old new
  opened_some a b bytes first mid new read sync folder = record {
    whole = after_folder a (Ok b) (Some bytes) first mid new read sync folder;
    seen = read.seen;
    only = λ not_torn. leaves_seen old.now new.now (Some bytes.items) read.seen
        (folder.ok ∙ ap settled (sync.ok ∙ ap (with_synced File) read.passes.ok)) not_torn;
  }

  pub opened_none : {B D : Type 0} (b : B) (mid new : Told)
      → HasRead (Ok None) old mid → HasSyncedFolder {E = D} (Ok b) mid new → HasOpened (Ok None) old new
  opened_none b mid new read folder = record {
    whole = after_folder_alone (Ok b) None mid new read folder;
    seen = read.seen;
    only = λ not_torn. leaves_none old.now new.now read.seen (folder.ok ∙ ap settled read.passes.ok) not_torn;
  }
