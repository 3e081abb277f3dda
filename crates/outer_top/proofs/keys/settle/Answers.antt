use Rattle.std.proofs.Common.{sym, ap, subst, refl}
use Rattle.outer_top.specs.TopKeys.{SettlesKey}
use Rattle.outer_top.proofs.TopKeys.{settles_none, settles_found, settles_gone, set_there}
use Rattle.outer_top.proofs.keys.settle.Goals as goal

pub returns-in_default : goal.returns-in_default
returns-in_default c =
    let es = c.args.keys.now.entries in
    subst (SettlesKey c.args.key.now c.args.most c.args.lost.now.items c.args.lost.now.items c.args.won.now.items c.args.won.now.items es) (sym (ap (λ m. m.entries) c.get_mut.follows.holds-at-none))
    (settles_none c.args.key.now c.args.most c.args.lost.now.items c.args.lost.now.items c.args.won.now.items c.args.won.now.items es c.in_default.ensures.value refl refl)

pub returns-then-is_empty : goal.returns-then-is_empty
returns-then-is_empty c =
    let es = c.args.keys.now.entries in
    let fs = (c.get_mut.follows.lender c.settle_rows.new.self).entries in
    let is = (c.get_mut.follows.holds c.settle_rows.new.self).0 in
    let empty = c.is_empty.ensures c.if-is_empty.true in
    settles_gone c.args.key.now c.args.most c.args.lost.now.items c.settle_rows.new.lost.items c.args.won.now.items c.settle_rows.new.won.items es fs c.in-Some.ranked.now c.settle_rows.new.self
    c.in-Some.ensures.unique c.in-Some.ensures.value is c.in_ok-settle_rows.ensures c.let_go.new.keys.entries empty
    (c.let_go.ensures c.settle_rows.new.self (set_there c.args.key.now es fs c.in-Some.ranked.now c.settle_rows.new.self c.in-Some.ensures.value is) empty)

pub returns-else-is_empty : goal.returns-else-is_empty
returns-else-is_empty c =
    let es = c.args.keys.now.entries in
    let fs = (c.get_mut.follows.lender c.settle_rows.new.self).entries in
    settles_found c.args.key.now c.args.most c.args.lost.now.items c.settle_rows.new.lost.items c.args.won.now.items c.settle_rows.new.won.items es fs c.in-Some.ranked.now c.settle_rows.new.self
    c.in-Some.ensures.unique c.in-Some.ensures.value (c.get_mut.follows.holds c.settle_rows.new.self).0 c.in_ok-settle_rows.ensures
