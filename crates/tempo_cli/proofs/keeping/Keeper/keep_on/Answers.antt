use Rattle.std.proofs.Common.{◌≡◌, ◌≤◌, ◌<◌, ◌+◌, ◌∙◌, ◌++◌, [], ◌∷◌, length, refl, sym, arith, subst}
use Rattle.std.proofs.lemmas.List.{append-nil}
use Rattle.std.proofs.lemmas.Result.{err_from_is_err_and}
use Rattle.wire_lines.specs.Journal.{In, Adds}
use Rattle.wire_lines.proofs.Growth.{Grows-none, Grows-same, Grows-weaker}
use Rattle.tempo_cli.specs.Feeding.{Holds}
use Rattle.tempo_cli.proofs.Journals.{no_bytes, limit-is}
use Rattle.tempo_cli.specs.Standing.{MayRead}
use Rattle.tempo_cli.specs.Keeping.{query_of}
use Rattle.tempo_cli.proofs.Bytes.{read_ends, never_over}
use Rattle.tempo_cli.proofs.Walks.{reads_taken, reads_end, ends_kept_at, ends_failed_at}
use Rattle.tempo_cli.proofs.keeping.Keeper.keep_on.Goals as goal

pub reads-init : goal.reads-init
reads-init g c = (c.requires.wants, c.requires.going, λ t every J m. Grows-none _ (subst (MayRead t every c.args.self.now 1099511627777) (sym (append-nil J)) (subst (λ n. MayRead t every c.args.self.now (n + 1) J) limit-is m)), (refl, refl))

pub returns-in_err-count-clause-ends : goal.returns-in_err-count-clause-ends
returns-in_err-count-clause-ends g c = let p = err_from_is_err_and c.from_residual.result c.from_residual.ensures.1 in rw (p.1, p.2)
    (λ t every J m. Grows-weaker (Grows-same (c.reads.invariant.2 t every J m) c.in_err-count.ensures.taken.told) (λ K r. read_ends c.reads.invariant.0 r))

pub returns-clause-ends : goal.returns-clause-ends
returns-clause-ends g c = λ t every J m. Grows-weaker (c.reads.invariant.2 t every J m) (λ K r. absurd (never_over c.reads.invariant.0 r (omega arith)))

pub returns-then-count-eq0-clause-ends : goal.returns-then-count-eq0-clause-ends
returns-then-count-eq0-clause-ends g c = λ t every J m.
    let taken = c.in_ok-count.ensures.taken in
    let none : taken.piece ≡ [] = no_bytes taken.piece c.in_ok-count.count taken.count c.if-count-eq0.true in
    ends_kept_at J (c.reads.invariant.2 t every J m) (subst (λ b. Adds (g.W.Wire.journal c.reads.wire) (g.W.Wire.journal c.read.new.wire) (In b ∷ [])) none taken.told)
    c.reads.invariant.0 (taken.wants none) (c.in_ok-count.ensures.open.0, refl, refl, refl, refl, refl)
    (λ bytes given h. subst (λ b. Holds (query_of t) (bytes ++ b) given c.read.new.self) none (taken.holds (query_of t) bytes given h))
    c.in_ok-take_checkpoint.ensures.same.0 c.in_ok-take_checkpoint.ensures.ok

pub returns-in_err-take_checkpoint-clause-ends : goal.returns-in_err-take_checkpoint-clause-ends
returns-in_err-take_checkpoint-clause-ends g c = let p = err_from_is_err_and c.from_residual-in_err-take_checkpoint.result c.from_residual-in_err-take_checkpoint.ensures.1 in rw (p.1, p.2) (λ t every J m.
    let taken = c.in_ok-count.ensures.taken in
    let none : taken.piece ≡ [] = no_bytes taken.piece c.in_ok-count.count taken.count c.if-count-eq0.true in
    ends_failed_at J (c.reads.invariant.2 t every J m) (subst (λ b. Adds (g.W.Wire.journal c.reads.wire) (g.W.Wire.journal c.read.new.wire) (In b ∷ [])) none taken.told)
    c.reads.invariant.0 (taken.wants none) (c.in_ok-count.ensures.open.0, refl, refl, refl, refl, refl)
    (λ bytes given h. subst (λ b. Holds (query_of t) (bytes ++ b) given c.read.new.self) none (taken.holds (query_of t) bytes given h))
    _ c.in_err-take_checkpoint.ensures.wanting c.in_err-take_checkpoint.ensures.err)

pub reads-preserved : goal.reads-preserved
reads-preserved g c =
    let taken = c.in_ok-count.ensures.taken in
    let n : c.in_ok-count.count ≡ length taken.piece = sym taken.count in
    let some : 0 < c.in_ok-count.count = omega (arith, c.if-count-eq0.false) in
    let few : c.in_ok-count.count ≤ c.reads.left = omega (arith, c.in_ok-count.ensures.bound, c.piece.ensures) in
    let short : length taken.piece ≤ 65536 = omega (arith, n, c.in_ok-count.ensures.bound, c.piece.ensures) in (
      c.in_ok-take_lines.ensures.wants,
      c.in_ok-take_lines.ensures.going,
      λ t every J m. reads_taken J taken.piece (c.reads.invariant.2 t every J m) taken.told c.reads.invariant.0 (c.in_ok-count.ensures.open.0, refl, refl, refl, refl, refl)
          (taken.holds (query_of t)) c.in_ok-count.count n some short few c.in_ok-take_lines.ensures.ok,
      (c.in_ok-take_lines.ensures.counted.0 ∙ (c.in_ok-count.ensures.cause.same ∙ c.reads.invariant.3.0), c.in_ok-take_lines.ensures.counted.1 ∙ (c.in_ok-count.ensures.other.same ∙ c.reads.invariant.3.1)),
    )

pub returns-in_err-take_lines-clause-ends : goal.returns-in_err-take_lines-clause-ends
returns-in_err-take_lines-clause-ends g c =
    let taken = c.in_ok-count.ensures.taken in
    let n : c.in_ok-count.count ≡ length taken.piece = sym taken.count in
    let some : 0 < c.in_ok-count.count = omega (arith, c.if-count-eq0.false) in
    let few : c.in_ok-count.count ≤ c.reads.left = omega (arith, c.in_ok-count.ensures.bound, c.piece.ensures) in
    let short : length taken.piece ≤ 65536 = omega (arith, n, c.in_ok-count.ensures.bound, c.piece.ensures) in
    let p = err_from_is_err_and c.from_residual-in_err-take_lines.result c.from_residual-in_err-take_lines.ensures.1 in rw (p.1, p.2)
    (λ t every J m. reads_end J taken.piece (c.reads.invariant.2 t every J m) taken.told c.reads.invariant.0 (c.in_ok-count.ensures.open.0, refl, refl, refl, refl, refl)
    (taken.holds (query_of t)) _ c.in_ok-count.count n some short few c.in_err-take_lines.ensures.err)
