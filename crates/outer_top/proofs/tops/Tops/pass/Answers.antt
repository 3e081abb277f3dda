use Rattle.std.proofs.Common.{◌∙◌, arith, refl}
use Rattle.outer_top.proofs.Passing.{taken_none, taken_more, settled_none, settled_more, passed_by, changes_like, settles_like, keys_like}
use Rattle.outer_top.proofs.tops.Tops.pass.Goals as goal

pub changes-init : goal.changes-init
changes-init c =
    let s = c.args.self.now in
    record {
      like = record { key = refl; by = refl; most = refl };
      taken = taken_none s.key.columns s.by s.most c.args.now.now c.args.lost.now.items c.args.won.now.items s.keys.entries;
    }

pub changes-preserved : goal.changes-preserved
changes-preserved c =
    let s = c.args.self.now in
    let l = c.changes.self in
    let like = c.changes.invariant.like in
    let more = c.in_ok-change.ensures.like in
    let t = changes_like s.key.columns l.key.columns s.by l.by c.edge-item.result c.changes.lost.items c.change.new.lost.items c.changes.won.items c.change.new.won.items l.keys.entries
    c.change.new.self.keys.entries like.key like.by c.in_ok-change.ensures.changes in
    record {
      like = record { key = more.key ∙ like.key; by = more.by ∙ like.by; most = more.most ∙ like.most };
      taken = taken_more s.key.columns s.by s.most c.args.now.now c.changes.edge-index c.edge-item.result t.0 c.args.lost.now.items c.changes.lost.items c.change.new.lost.items
          c.args.won.now.items c.changes.won.items c.change.new.won.items s.keys.entries l.keys.entries c.change.new.self.keys.entries c.changes-test.true c.edge-item.is c.changes.invariant.taken t.1 t.2;
    }

pub settles-init : goal.settles-init
settles-init c =
    let s = c.changes.self in
    record {
      like = record { key = refl; by = refl; most = refl };
      settled = settled_none s.key.columns s.by s.most c.args.now.now c.changes.lost.items c.changes.won.items s.keys.entries;
    }

pub settle-requires : goal.settle-requires
settle-requires c = let a = c.settles.invariant.like.most in let b = c.changes.invariant.like.most in let d = c.requires in omega (arith, a, b, d)

pub settles-preserved : goal.settles-preserved
settles-preserved c =
    let s = c.changes.self in
    let l = c.settles.self in
    let like = c.settles.invariant.like in
    let more = c.in_ok-settle.ensures.like in
    let x = c.edge-item-in-settles in
    let t = settles_like s.key.columns l.key.columns s.most l.most x.result c.settles.lost.items c.settle.new.lost.items c.settles.won.items c.settle.new.won.items l.keys.entries
    c.settle.new.self.keys.entries like.key like.most c.in_ok-settle.ensures.settles in
    record {
      like = record { key = more.key ∙ like.key; by = more.by ∙ like.by; most = more.most ∙ like.most };
      settled = settled_more s.key.columns s.by s.most c.args.now.now c.settles.edge-index x.result c.changes.lost.items c.settles.lost.items c.settle.new.lost.items
          c.changes.won.items c.settles.won.items c.settle.new.won.items s.keys.entries l.keys.entries c.settle.new.self.keys.entries c.settles-test.true x.is c.settles.invariant.settled t;
    }

pub returns-clause-passed : goal.returns-clause-passed
returns-clause-passed c =
    let s = c.args.self.now in
    let l = c.changes.self in
    let like = c.changes.invariant.like in
    passed_by s.key.columns s.by s.most c.args.now.now c.changes.edge-index c.settles.edge-index c.args.lost.now.items c.changes.lost.items c.settles.lost.items
    c.args.won.now.items c.changes.won.items c.settles.won.items s.keys.entries l.keys.entries c.settles.self.keys.entries c.changes-test.false c.settles-test.false c.changes.invariant.taken
    (keys_like s.key.columns l.key.columns s.by l.by s.most l.most c.args.now.now c.settles.edge-index c.changes.lost.items c.settles.lost.items c.changes.won.items c.settles.won.items
    l.keys.entries c.settles.self.keys.entries like.key like.by like.most c.settles.invariant.settled) c.len.ensures.unique

pub returns-clause-like : goal.returns-clause-like
returns-clause-like c =
    let like = c.changes.invariant.like in
    let more = c.settles.invariant.like in
    record { key = more.key ∙ like.key; by = more.by ∙ like.by; most = more.most ∙ like.most }
