use Rattle.std.specs.Hash.{le_bytes}
use Rattle.std.proofs.Common.{◌∙◌, sym, ap, arith}
use Rattle.std.proofs.lemmas.Nat.{from_le_bytes-to_le_bytes_8}
use Rattle.synopsis.specs.Words.{joined}
use Rattle.synopsis.specs.Hashing.{written}
use Rattle.synopsis.proofs.word_hasher.WordHasherHasher.write_usize.Goals as goal

pub returns : goal.returns
unfolding written le_bytes
returns c =
    let same = from_le_bytes-to_le_bytes_8 c.args.i (omega (arith, c.ranges.i)) in
    ap (λ n. record c.args.self.now { state = n }) (c.join-self.ensures ∙ ap (joined c.args.self.now.state) (sym same))
