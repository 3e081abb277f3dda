use Rattle.std.specs.Prelude.{◌≡◌, true, Option, Some, None, is_some, refl}
use Rattle.std.specs.Option.{option_copied}
use Rattle.std.proofs.Common.{sym, ◌∙◌, subst}
use denote.Bor.{Bor}
use Rattle.tw_rows.specs.declared.edge.HeldRow.{HeldRow}
use Rattle.snapshot_agg.proofs.Rerunning.{rerun, begun_some, begun_none}
use Rattle.snapshot_agg.proofs.passes.start_key.Goals as goal

some_there : (r : Option (Bor HeldRow)) (o : Option HeldRow) → option_copied r ≡ o → is_some r ≡ true → is_some o ≡ true
some_there None o e h = absurd (cc)
some_there (Some x) o e h = subst (λ q. is_some q ≡ true) e refl

pub returns-then-is_some-clause-run : goal.returns-then-is_some-clause-run
returns-then-is_some-clause-run c =
    rerun c.args.running.now c.args.key.now _ (begun_some c.args.t _ _ (some_there c.get.result _ c.get.ensures.value (sym c.is_some.ensures ∙ c.if-is_some.true)))

pub returns-in-None-clause-run : goal.returns-in-None-clause-run
returns-in-None-clause-run c = rerun c.args.running.now c.args.key.now _ (begun_none c.args.t _ _ (sym c.in-None.is))
