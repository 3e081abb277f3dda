use Rattle.std.proofs.Common.{Ok, Err, subst}
use Rattle.kept_wire.specs.Calls.{HasRead}
use Rattle.kept_wire.proofs.OpenedSoFar.{after_sync, after_folder, after_folder_alone, opened_fails, opened_some, opened_none}
use Rattle.kept_wire.proofs.opening.open.Goals as goal

pub returns-in_err-sync_folder-clause-told : goal.returns-in_err-sync_folder-clause-told
returns-in_err-sync_folder-clause-told g c = record {
  gone = λ old is.
      let r = c.in_ok-found.ensures.told.gone old is in
      let f = c.in_err-sync_folder.ensures.told.gone r.0 r.1 in
      let whole = after_folder_alone old (Err c.in_err-sync_folder.field-0.0) c.in_ok-found.found r.0 f.0 r.2 f.2 in
      (f.0, f.1, opened_fails old c.from_residual-in_err-sync_folder.result f.0 c.from_residual-in_err-sync_folder.ensures.0 whole);
}

pub returns-in_default-clause-told : goal.returns-in_default-clause-told
returns-in_default-clause-told g c = record {
  gone = λ old is.
      let r = c.in_ok-found.ensures.told.gone old is in
      let f = c.in_ok-sync_folder.ensures.told.gone r.0 r.1 in
      let none = subst (λ found. HasRead (Ok found) old r.0) c.in_default.is r.2 in
      (f.0, f.1, opened_none old tt r.0 f.0 none f.2);
}

pub returns-in_err-sync-clause-told : goal.returns-in_err-sync-clause-told
returns-in_err-sync-clause-told g c = record {
  gone = λ old is.
      let r = c.in_ok-found.ensures.told.gone old is in
      let s = c.in_err-sync.ensures.told.gone r.0 r.1 in
      let whole = after_sync old (Err c.in_err-sync.field-0.0) c.in_ok-found.found r.0 s.0 r.2 s.2 in
      (s.0, s.1, opened_fails old c.from_residual-in_err-sync.result s.0 c.from_residual-in_err-sync.ensures.0 whole);
}

pub returns-in_err-sync_folder-2-clause-told : goal.returns-in_err-sync_folder-2-clause-told
returns-in_err-sync_folder-2-clause-told g c = record {
  gone = λ old is.
      let r = c.in_ok-found.ensures.told.gone old is in
      let s = c.in_ok-sync.ensures.told.gone r.0 r.1 in
      let f = c.in_err-sync_folder-2.ensures.told.gone s.0 s.1 in
      let whole = after_folder old tt (Err c.in_err-sync_folder-2.field-0.0) c.in_ok-found.found r.0 s.0 f.0 r.2 s.2 f.2 in
      (f.0, f.1, opened_fails old c.from_residual-in_err-sync_folder-2.result f.0 c.from_residual-in_err-sync_folder-2.ensures.0 whole);
}

pub returns-clause-told : goal.returns-clause-told
returns-clause-told g c = record {
  gone = λ old is.
      let r = c.in_ok-found.ensures.told.gone old is in
      let s = c.in_ok-sync.ensures.told.gone r.0 r.1 in
      let f = c.in_ok-sync_folder-2.ensures.told.gone s.0 s.1 in
      let some = subst (λ found. HasRead (Ok found) old r.0) c.in-Some.is r.2 in
      (f.0, f.1, opened_some old tt tt c.in-Some.bytes r.0 s.0 f.0 some s.2 f.2);
}
