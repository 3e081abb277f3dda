use Rattle.std.proofs.Common.{◌∙◌, ap, Ok, Err}
use Rattle.kept_wire.specs.declared.medium.Name.TheVariants.{Next}
use Rattle.kept_wire.specs.Disk.{renamed}
use Rattle.kept_wire.specs.Calls.{with_synced}
use Rattle.kept_wire.proofs.WholeSoFar.{brought, taken, replaced, fails}
use Rattle.kept_wire.proofs.replacing.replace.Goals as goal

pub returns-in_err-sync-clause-told : goal.returns-in_err-sync-clause-told
returns-in_err-sync-clause-told g c = record {
  gone = λ old is.
      let w = c.in_ok-write.ensures.told.gone old is in
      let s = c.in_err-sync.ensures.told.gone w.0 w.1 in
      let whole = brought c.args.bytes.now old tt (Err c.in_err-sync.field-0.0) w.0 s.0 w.2 s.2 in
      (s.0, s.1, fails c.args.bytes.now old c.from_residual-in_err-sync.result s.0 c.from_residual-in_err-sync.ensures.0 whole);
}

pub returns-in_err-rename-clause-told : goal.returns-in_err-rename-clause-told
returns-in_err-rename-clause-told g c = record {
  gone = λ old is.
      let w = c.in_ok-write.ensures.told.gone old is in
      let s = c.in_ok-sync.ensures.told.gone w.0 w.1 in
      let r = c.in_err-rename.ensures.told.gone s.0 s.1 in
      let whole = taken c.args.bytes.now old tt (Err c.in_err-rename.field-0.0) w.0 s.0 r.0 w.2 s.2 r.2 in
      (r.0, r.1, fails c.args.bytes.now old c.from_residual-in_err-rename.result r.0 c.from_residual-in_err-rename.ensures.0 whole);
}

pub returns-clause-told : goal.returns-clause-told
returns-clause-told g c = record {
  gone = λ old is.
      let w = c.in_ok-write.ensures.told.gone old is in
      let s = c.in_ok-sync.ensures.told.gone w.0 w.1 in
      let r = c.in_ok-rename.ensures.told.gone s.0 s.1 in
      let f = c.sync_folder.ensures.told.gone r.0 r.1 in
      let whole = taken c.args.bytes.now old tt (Ok c.in_ok-rename.field-0) w.0 s.0 r.0 w.2 s.2 r.2 in
      let new = r.2.ok ∙ ap renamed (s.2.ok ∙ ap (with_synced Next) w.2.ok) in
      (f.0, f.1, replaced c.args.bytes.now old c.sync_folder.result r.0 f.0 whole new f.2);
}
