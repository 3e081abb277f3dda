use Rattle.std.proofs.Common.{refl}
use Rattle.ingress.proofs.Leaving.{released_follows, released_later, released_placed, shape_left}
use Rattle.ingress.proofs.ingress.Ingress.release.Goals as goal

pub invariant_of-self : goal.invariant_of-self
invariant_of-self c = record {
  shape = shape_left c.args.p _ c.args.self.now.capacity _ c.args.self.now.held.waiting.items c.drop_below.new.self.waiting.items c.drop_below.ensures.waiting c.drop_below.ensures.len c.args.self.now.shape;
  above = c.args.self.now.above;
}

pub returns-clause-follows : goal.returns-clause-follows
returns-clause-follows c = λ texts a given f.
    released_follows c.args.self.now c.args.p c.in_ok-lists.lists.items texts a given c.in_ok-lists.ensures.edges f _ c.requires.rises c.copy_below.ensures.within
    (record { policy = refl; kinds = refl; capacity = refl }) refl refl c.drop_below.ensures.waiting c.drop_below.ensures.len c.drop_below.ensures.opens

pub returns-clause-admits : goal.returns-clause-admits
returns-clause-admits c = λ texts a given f low. record {
  follows = released_follows c.args.self.now c.args.p c.in_ok-lists.lists.items texts a given c.in_ok-lists.ensures.edges f _ c.requires.rises c.copy_below.ensures.within
      (record { policy = refl; kinds = refl; capacity = refl }) refl refl c.drop_below.ensures.waiting c.drop_below.ensures.len c.drop_below.ensures.opens;
  low = low;
}

pub returns-clause-later : goal.returns-clause-later
returns-clause-later c = λ texts a given f. released_later c.args.self.now c.args.p c.in_ok-lists.lists.items texts a given c.in_ok-lists.ensures.edges f

pub returns-clause-placed : goal.returns-clause-placed
returns-clause-placed c = λ texts a given f.
    released_placed c.args.self.now c.args.p c.in_ok-lists.lists.items texts a given c.in_ok-lists.ensures.edges f c.drop_below.new.self.waiting.items c.requires.rises c.copy_below.ensures.within c.drop_below.ensures.waiting
