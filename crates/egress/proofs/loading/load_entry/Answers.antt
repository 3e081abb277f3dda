use Rattle.std.specs.Prelude.{◌≡◌, true, false}
use Rattle.std.proofs.Common.{refl}
use Rattle.egress.proofs.loading.load_entry.Goals as goal

pub comes_after-requires : goal.comes_after-requires
comes_after-requires c = c.requires.starts_rise c.args.entry.now.cells

pub comes_after-requires-2 : goal.comes_after-requires-2
comes_after-requires-2 c = c.requires.ends_rise c.args.entry.now.cells

pub returns-then-not-is_kept-clause-refused : goal.returns-then-not-is_kept-clause-refused
returns-then-not-is_kept-clause-refused c = λ is follows. let z : false ≡ true = c.if-not-is_kept.ensures.1 follows.kept in cc

pub returns-then-not-comes_after-clause-refused : goal.returns-then-not-comes_after-clause-refused
returns-then-not-comes_after-clause-refused c = λ is follows. let z : false ≡ true = c.if-not-comes_after.ensures.1 follows.starts_rise in cc

pub returns-then-not-comes_after-2-clause-refused : goal.returns-then-not-comes_after-2-clause-refused
returns-then-not-comes_after-2-clause-refused c = λ is follows. let z : false ≡ true = c.if-not-comes_after-2.ensures.1 follows.ends_rise in cc

pub returns-clause-follows : goal.returns-clause-follows
returns-clause-follows c = record {
  kept = c.if-not-is_kept.ensures.0 refl;
  starts_rise = c.if-not-comes_after.ensures.0 refl;
  ends_rise = c.if-not-comes_after-2.ensures.0 refl;
}
