-- So many edges are taken, and then so many keys are settled.
use Rattle.outer_top.specs.TopKeys.{HasTaken, HasSettledKeys}
use Rattle.outer_top.specs.TopLikes.{IsLike}
use Rattle.outer_top.proofs.tops.Tops.pass.Given as goal

abbrev pub invariant-changes : goal.invariant-changes
invariant-changes l = record {
  like : IsLike l.initial.self l.self;
  taken : HasTaken l.initial.self.key.columns l.initial.self.by l.initial.self.most l.now l.edge-index l.initial.lost.items l.lost.items l.initial.won.items l.won.items l.initial.self.keys.entries l.self.keys.entries;
}

abbrev pub invariant-settles : goal.invariant-settles
invariant-settles l = record {
  like : IsLike l.initial.self l.self;
  settled : HasSettledKeys l.initial.self.key.columns l.initial.self.by l.initial.self.most l.now l.edge-index l.initial.lost.items l.lost.items l.initial.won.items l.won.items l.initial.self.keys.entries l.self.keys.entries;
}
