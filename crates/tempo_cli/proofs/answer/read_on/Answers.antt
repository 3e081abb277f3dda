use Rattle.std.proofs.Common.{◌≡◌, ◌-◌, ◌++◌, ◌∷◌, [], List, ℕ, refl, sym, ◌∙◌, ap, arith, append_assoc, subst}
use Rattle.std.proofs.lemmas.List.{append-nil}
use Rattle.std.proofs.lemmas.Result.{err_from_is_err_and}
use Rattle.wire_lines.specs.Journal.{Entry, In, Adds, ins}
use Rattle.wire_lines.proofs.Growth.{Grows-none, Grows-adds, Grows-same, Grows-weaker}
use Rattle.tempo_cli.specs.Feeding.{Holds, HasGiven}
use Rattle.tempo_cli.specs.Working.{Reading, AtEnd, MayCome}
use Rattle.tempo_cli.proofs.Journals.{Grows-then, came_last, came_on, came_off, came_all, AfterRead, after_read, all_read, few_at, after_on, after_stop, read_failed, never_full, no_bytes, some_read, risen, counts_after}
use Rattle.tempo_cli.proofs.Halting.{stays_on}
use Rattle.tempo_cli.proofs.answer.read_on.Goals as goal

pub loop-left-init : goal.loop-left-init
loop-left-init g c = (λ q J h. Grows-none _ (subst (Reading q c.args.answering.now c.args.most) (sym (append-nil J)) h), refl, refl, c.requires.wants, λ k J h. Grows-none _ (subst (MayCome k c.args.answering.now c.args.most) (sym (append-nil J)) h), (refl, refl, refl))

pub returns-in_err-count-clause-err : goal.returns-in_err-count-clause-err
returns-in_err-count-clause-err g c = let p = err_from_is_err_and c.from_residual.result c.from_residual.ensures.1 in rw (p.1, p.2) (λ q J h. Grows-weaker (Grows-same (c.loop-left.invariant.0 q J h) c.in_err-count.ensures.taken.told) (λ K r. read_failed {J = J ++ K} c.loop-left.invariant.3 r))

pub returns-in_err-count-clause-asked : goal.returns-in_err-count-clause-asked
returns-in_err-count-clause-asked g c = let p = err_from_is_err_and c.from_residual.result c.from_residual.ensures.1 in rw (p.1, p.2) tt

pub returns-in_err-count-clause-counts : goal.returns-in_err-count-clause-counts
returns-in_err-count-clause-counts g c = let p = err_from_is_err_and c.from_residual.result c.from_residual.ensures.1 in rw (p.1, p.2) (risen _ _ _ c.loop-left.invariant.1 c.in_err-count.ensures.cause.failed)

pub returns-then-count-eq0-clause-ok : goal.returns-then-count-eq0-clause-ok
returns-then-count-eq0-clause-ok g c = λ q J h.
    let taken = c.in_ok-count.ensures.taken in
    let none : taken.piece ≡ [] = no_bytes taken.piece c.in_ok-count.count taken.count c.if-count-eq0.true in
    Grows-adds (c.loop-left.invariant.0 q J h) (subst (λ b. Adds (g.W.Wire.journal c.loop-left.wire) (g.W.Wire.journal c.read.new.wire) (In b ∷ [])) none taken.told)
    (λ K r. subst (AtEnd q c.read.new.self) (append_assoc J K (In [] ∷ []))
    (all_read {J = J ++ K} c.loop-left.invariant.3 r
    (subst (λ b. Holds q b r.given c.read.new.self) (ap (λ b. ins (J ++ K) ++ b) none ∙ append-nil (ins (J ++ K))) (taken.holds q (ins (J ++ K)) r.given r.holds))))

pub returns-then-count-eq0-clause-wants : goal.returns-then-count-eq0-clause-wants
returns-then-count-eq0-clause-wants g c =
    let taken = c.in_ok-count.ensures.taken in
    taken.wants (no_bytes taken.piece c.in_ok-count.count taken.count c.if-count-eq0.true)

pub returns-then-count-eq0-clause-same : goal.returns-then-count-eq0-clause-same
returns-then-count-eq0-clause-same g c = (c.in_ok-count.ensures.cause.same ∙ c.loop-left.invariant.1, c.in_ok-count.ensures.other.same ∙ c.loop-left.invariant.2)

pub returns-clause-err : goal.returns-clause-err
returns-clause-err g c = λ q J h. Grows-weaker (c.loop-left.invariant.0 q J h) (λ K r. absurd (never_full {J = J ++ K} c.loop-left.left (omega arith) c.loop-left.invariant.3 r))

pub loop-left-preserved : goal.loop-left-preserved
loop-left-preserved g c =
    let taken = c.in_ok-count.ensures.taken in
    let b : List ℕ = taken.piece in
    let r = some_read c.in_ok-count.count c.loop-left.left c.asked.result b taken.count c.if-count-eq0.false c.in_ok-count.ensures.bound c.asked.ensures in (
      λ q J h. Grows-then {P = λ K. AfterRead q c.loop-left.answering c.loop-left.left b (J ++ K)} (Grows-adds (c.loop-left.invariant.0 q J h) taken.told (λ K r. after_read J K b r))
          (λ (K : List Entry) (p : AfterRead q c.loop-left.answering c.loop-left.left b (J ++ K)). c.in_ok-work.ensures.ok _ (ins p.before ++ b) p.reading.given (taken.holds _ (ins p.before) p.reading.given p.reading.holds) (few_at b r.within p.reading))
          (λ K O p w. after_on J K O b c.in_ok-count.count r.is r.some r.piece r.few c.loop-left.invariant.3 p w),
      c.in_ok-work.ensures.same.0 ∙ c.in_ok-count.ensures.cause.same ∙ c.loop-left.invariant.1,
      c.in_ok-work.ensures.same.1 ∙ c.in_ok-count.ensures.other.same ∙ c.loop-left.invariant.2,
      c.in_ok-work.ensures.wants,
      λ k J h. Grows-then {P = λ K. MayCome k c.read.new.self (c.loop-left.left - c.in_ok-count.count) (J ++ K)} (Grows-adds (c.loop-left.invariant.4 k J h) taken.told (λ K m. came_last J K b c.in_ok-count.count r.is r.some r.few m (taken.gives k)))
          (λ (K : List Entry) (p : MayCome k c.read.new.self (c.loop-left.left - c.in_ok-count.count) (J ++ K)). c.in_ok-work.ensures.gives k (ins (J ++ K)) p.given p.gives (omega (arith, p.count)))
          (λ K O p o. came_on J K O p o),
      stays_on c.loop-left.invariant.5 (stays_on c.in_ok-count.ensures.open c.in_ok-work.ensures.open),
    )

pub returns-in_err-work-clause-err : goal.returns-in_err-work-clause-err
returns-in_err-work-clause-err g c =
    let taken = c.in_ok-count.ensures.taken in
    let b : List ℕ = taken.piece in
    let r = some_read c.in_ok-count.count c.loop-left.left c.asked.result b taken.count c.if-count-eq0.false c.in_ok-count.ensures.bound c.asked.ensures in
    let p = err_from_is_err_and c.from_residual-in_err-work.result c.from_residual-in_err-work.ensures.1 in rw (p.1, p.2) (λ q J h. Grows-then {P = λ K. AfterRead q c.loop-left.answering c.loop-left.left b (J ++ K)} (Grows-adds (c.loop-left.invariant.0 q J h) taken.told (λ K r. after_read J K b r))
    (λ (K : List Entry) (p : AfterRead q c.loop-left.answering c.loop-left.left b (J ++ K)). c.in_err-work.ensures.err _ (ins p.before ++ b) p.reading.given (taken.holds _ (ins p.before) p.reading.given p.reading.holds) (few_at b r.within p.reading))
    (λ K O p w. after_stop J K O b c.in_ok-count.count c.in_err-work.field-0.0 r.is r.some r.piece r.few c.loop-left.invariant.3 p w))

pub returns-in_err-work-clause-asked : goal.returns-in_err-work-clause-asked
returns-in_err-work-clause-asked g c = let p = err_from_is_err_and c.from_residual-in_err-work.result c.from_residual-in_err-work.ensures.1 in rw (p.1, p.2) c.in_err-work.ensures.asked

pub returns-in_err-work-clause-counts : goal.returns-in_err-work-clause-counts
returns-in_err-work-clause-counts g c =
    let p = err_from_is_err_and c.from_residual-in_err-work.result c.from_residual-in_err-work.ensures.1 in rw (p.1, p.2) (counts_after _ _ _ _ _ _ _ (c.in_ok-count.ensures.cause.same ∙ c.loop-left.invariant.1) (c.in_ok-count.ensures.other.same ∙ c.loop-left.invariant.2) c.in_err-work.ensures.counts)

pub returns-in_err-count-clause-reason : goal.returns-in_err-count-clause-reason
returns-in_err-count-clause-reason g c = let p = err_from_is_err_and c.from_residual.result c.from_residual.ensures.1 in rw (p.1, p.2) (λ k J h. Grows-weaker (Grows-same (c.loop-left.invariant.4 k J h) c.in_err-count.ensures.taken.told) (λ K m. tt))

pub returns-then-count-eq0-clause-came : goal.returns-then-count-eq0-clause-came
returns-then-count-eq0-clause-came g c = λ k J h.
    let taken = c.in_ok-count.ensures.taken in
    let none : taken.piece ≡ [] = no_bytes taken.piece c.in_ok-count.count taken.count c.if-count-eq0.true in
    Grows-adds (c.loop-left.invariant.4 k J h) (subst (λ b. Adds (g.W.Wire.journal c.loop-left.wire) (g.W.Wire.journal c.read.new.wire) (In b ∷ [])) none taken.told)
    (λ K m. came_all J K m (subst (λ b. HasGiven k b m.given c.read.new.self) (ap (λ b. ins (J ++ K) ++ b) none ∙ append-nil (ins (J ++ K))) (taken.gives k (ins (J ++ K)) m.given m.gives)))

pub returns-clause-reason : goal.returns-clause-reason
returns-clause-reason g c = λ k J h. Grows-weaker (c.loop-left.invariant.4 k J h) (λ K m. omega (arith, m.count))

pub returns-in_err-work-clause-reason : goal.returns-in_err-work-clause-reason
returns-in_err-work-clause-reason g c =
    let taken = c.in_ok-count.ensures.taken in
    let b : List ℕ = taken.piece in
    let r = some_read c.in_ok-count.count c.loop-left.left c.asked.result b taken.count c.if-count-eq0.false c.in_ok-count.ensures.bound c.asked.ensures in
    let p = err_from_is_err_and c.from_residual-in_err-work.result c.from_residual-in_err-work.ensures.1 in rw (p.1, p.2) (λ k J h.
    Grows-then {P = λ K. MayCome k c.read.new.self (c.loop-left.left - c.in_ok-count.count) (J ++ K)} (Grows-adds (c.loop-left.invariant.4 k J h) taken.told (λ K m. came_last J K b c.in_ok-count.count r.is r.some r.few m (taken.gives k)))
    (λ (K : List Entry) (p : MayCome k c.read.new.self (c.loop-left.left - c.in_ok-count.count) (J ++ K)). c.in_err-work.ensures.reason k (ins (J ++ K)) p.given p.gives (omega (arith, p.count)))
    (λ K O p o. came_off J K O c.in_err-work.field-0.0 o))

pub returns-then-count-eq0-clause-open : goal.returns-then-count-eq0-clause-open
returns-then-count-eq0-clause-open g c = stays_on c.loop-left.invariant.5 c.in_ok-count.ensures.open
