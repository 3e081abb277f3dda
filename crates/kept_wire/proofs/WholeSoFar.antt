-- FILE stays whole while it is replaced, from call to call.
use Rattle.std.proofs.Common.{◌≡◌, inl, inr, ℕ, List, [], ◌∷◌, Result, Ok, Err, IsErr, sym, ◌∙◌}
use Rattle.std.proofs.Common.{ap, subst}
use Rattle.kept_wire.specs.declared.medium.Name.TheVariants.{Next}
use Rattle.kept_wire.specs.Disk.{Content, Synced, Written, Torn, Disk, with_content, renamed, settled, LeavesOnly}
use Rattle.kept_wire.specs.Calls.{Told, HasWritten, HasSynced, HasRenamed, HasSyncedFolder, with_synced, with_lost}
use Rattle.kept_wire.specs.Replaced.{IsWhole, StaysWhole, HasReplaced}
use Rattle.kept_wire.proofs.Going.{starts, goes_on}

module _ (bytes : List ℕ) (old : Told) where
  -- what FILE.new is makes no difference
  beside : (c : Content) (d : Disk) → d ≡ with_content Next c old.now → IsWhole old.now (bytes ∷ []) d
  beside c d is = subst (IsWhole old.now (bytes ∷ [])) (sym is) (λ left may. inl may)

  written : {T E : Type 0} (result : Result T E) (new : Told) → HasWritten Next bytes result old new → StaysWhole (bytes ∷ []) old new
  written result new call = goes_on (bytes ∷ []) old _ _ result old new (starts (bytes ∷ []) old) call (λ d may. elim may [
    | inl same ↦ subst (IsWhole old.now (bytes ∷ [])) (sym same) (λ left l. inl l)
    | inr (inl torn) ↦ beside Torn d torn
    | inr (inr all) ↦ beside (Written bytes) d all
  ])

  -- up to the sync of FILE.new
  pub brought : {T E : Type 0} (value : T) (result : Result T E) (mid new : Told)
      → HasWritten {E = E} Next bytes (Ok value) old mid → HasSynced Next result mid new → StaysWhole (bytes ∷ []) old new
  brought value result mid new write sync =
      goes_on (bytes ∷ []) old _ _ result mid new (written (Ok value) mid write) sync (λ d may. elim may [
        | inl same ↦ beside (Written bytes) d (same ∙ write.ok)
        | inr (inl torn) ↦ beside Torn d (torn ∙ ap (with_lost Next) write.ok)
        | inr (inr all) ↦ beside (Synced bytes) d (all ∙ ap (with_synced Next) write.ok)
      ])

  -- the disk before the rename
  abbrev ready : Disk
  ready = with_content Next (Synced bytes) old.now

  put : IsWhole old.now (bytes ∷ []) (renamed ready)
  put left (inl is) = inr (inl is)
  put left (inr may) = inl may

  -- up to the rename
  pub taken : {T E : Type 0} (value : T) (result : Result T E) (first mid new : Told)
      → HasWritten {E = E} Next bytes (Ok value) old first → HasSynced {E = E} Next (Ok value) first mid → HasRenamed result mid new
      → StaysWhole (bytes ∷ []) old new
  taken value result first mid new write sync rename =
      let is : mid.now ≡ ready = sync.ok ∙ ap (with_synced Next) write.ok in
      goes_on (bytes ∷ []) old _ _ result mid new (brought value (Ok value) first mid write sync) rename (λ d may. elim may [
        | inl same ↦ beside (Synced bytes) d (same ∙ is)
        | inr all ↦ subst (IsWhole old.now (bytes ∷ [])) (sym (all ∙ ap renamed is)) put
      ])

  only : LeavesOnly bytes (settled (renamed ready))
  only left (inl is) = is
  only left (inr none) = absurd none

  settles : {T E : Type 0} (result : Result T E) (mid new : Told)
      → StaysWhole (bytes ∷ []) old mid → mid.now ≡ renamed ready → HasSyncedFolder result mid new → StaysWhole (bytes ∷ []) old new
  settles result mid new so_far is call = goes_on (bytes ∷ []) old _ _ result mid new so_far call (λ d may. elim may [
    | inl same ↦ subst (IsWhole old.now (bytes ∷ [])) (sym (same ∙ is)) put
    | inr all ↦ subst (IsWhole old.now (bytes ∷ [])) (sym (all ∙ ap settled is)) (λ left l. inr (inl (only left l)))
  ])

  -- once the folder is synced a crash leaves the new bytes
  pub replaced : {T E : Type 0} (result : Result T E) (mid new : Told)
      → StaysWhole (bytes ∷ []) old mid → mid.now ≡ renamed ready → HasSyncedFolder result mid new → HasReplaced bytes result old new
  replaced (Ok value) mid new so_far is call = record {
    whole = settles (Ok value) mid new so_far is call;
    read = ap (λ (d : Disk). d.file) (call.ok ∙ ap settled is);
    ok = subst (LeavesOnly bytes) (sym (call.ok ∙ ap settled is)) only;
    left = ap (λ (d : Disk). d.next) (call.ok ∙ ap settled is);
  }
  replaced (Err error) mid new so_far is call = record { whole = settles (Err error) mid new so_far is call; read = tt; ok = tt; left = tt }

  -- a call failed, and nothing is promised of Ok
  pub fails : {T E : Type 0} (result : Result T E) (new : Told)
      → IsErr result → StaysWhole (bytes ∷ []) old new → HasReplaced bytes result old new
  fails (Ok value) new is so_far = absurd (cc is)
  fails (Err error) new is so_far = record { whole = so_far; read = tt; ok = tt; left = tt }
