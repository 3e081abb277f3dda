-- What was kept can be gone on from.
use Rattle.std.proofs.Common.{◌≡◌, ◌++◌, ℕ, List, [], ◌∷◌, sym, ◌∙◌, ap, subst, append_assoc, append-nil}
use Rattle.wire_lines.specs.Journal.{Entry, In, Out, Did, Start, Sync, Keep, ins, outs}
use Rattle.wire_lines.specs.Lines.{whole}
use Rattle.wire_lines.proofs.Growth.{ins-append, outs-append}
use Rattle.tempo_cli.specs.Restoring.{AreFront}
use Rattle.tempo_cli.proofs.Fronts.{front_again}
use Rattle.command_line.specs.Words.{AreWithin}
use Rattle.tempo_cli.specs.Keeping.{Task, task_after, KeepsAfter, MayKeep, IsRecovered}
use Rattle.tempo_cli.proofs.Feeds.{read_back}
use Rattle.tempo_cli.proofs.Wholes.{whole_front}

-- before each of them it might be kept
kept_at : (t : Task) (P : List Entry) (counts : List ℕ) (front back : List Entry) (bytes : List ℕ) → KeepsAfter t P counts (front ++ Did (Keep bytes) ∷ back) →
    (taken : List (List ℕ)) × MayKeep t (P ++ front) taken bytes
kept_at t P [] [] back bytes h = absurd h
kept_at t P (n ∷ counts) [] back bytes h = (h.0.0, subst (λ K. MayKeep t K h.0.0 bytes) (sym (append-nil P)) h.0.2)
kept_at t P counts (In b ∷ front) back bytes h = let r = kept_at t (P ++ In b ∷ []) counts front back bytes h in (r.0, subst (λ K. MayKeep t K r.0 bytes) (append_assoc P (In b ∷ []) front) r.1)
kept_at t P counts (Out b ∷ front) back bytes h = let r = kept_at t (P ++ Out b ∷ []) counts front back bytes h in (r.0, subst (λ K. MayKeep t K r.0 bytes) (append_assoc P (Out b ∷ []) front) r.1)
kept_at t P counts (Did (Start i o) ∷ front) back bytes h = absurd h
kept_at t P counts (Did Sync ∷ front) back bytes h = let r = kept_at t (P ++ Did Sync ∷ []) counts front back bytes h in (r.0, subst (λ K. MayKeep t K r.0 bytes) (append_assoc P (Did Sync ∷ []) front) r.1)
kept_at t P [] (Did (Keep b) ∷ front) back bytes h = absurd h
kept_at t P (n ∷ counts) (Did (Keep b) ∷ front) back bytes h =
    let r = kept_at t (P ++ Did (Keep b) ∷ []) counts front back bytes h.1 in (r.0, subst (λ K. MayKeep t K r.0 bytes) (append_assoc P (Did (Keep b) ∷ []) front) r.1)

pub recovered : (t : Task) → AreWithin t.asked → (counts : List ℕ) (K after : List Entry) → KeepsAfter t [] counts (K ++ after) → (front back : List Entry) (bytes : List ℕ) → K ≡ front ++ Did (Keep bytes) ∷ back → IsRecovered t K bytes
recovered t within counts K after keeps front back bytes is =
    let all : K ++ after ≡ front ++ Did (Keep bytes) ∷ (back ++ after) = ap (λ x. x ++ after) is ∙ append_assoc front (Did (Keep bytes) ∷ back) after in
    let r = kept_at t [] counts front (back ++ after) bytes (subst (KeepsAfter t [] counts) all keeps) in
    let m = r.1 in
    let came : ins K ≡ ins front ++ ins back = ap ins is ∙ ins-append front (Did (Keep bytes) ∷ back) in
    let s = m.synced in
    record {
      taken = r.0;
      came = front_again r.0 (whole (ins front)) (whole (ins K)) m.came (subst (λ b. AreFront (whole (ins front)) (whole b)) (sym came) (whole_front (ins front) (ins back)));
      fine = m.fine;
      starts = read_back (task_after t r.0) bytes within m.starts;
      front = s.front;
      back = s.back ++ Did (Keep bytes) ∷ back;
      are = is ∙ (ap (λ x. x ++ Did (Keep bytes) ∷ back) s.are ∙ append_assoc s.front (Did Sync ∷ s.back) (Did (Keep bytes) ∷ back));
      text = sym (append-nil (outs s.front)) ∙ (ap (λ x. outs s.front ++ x) (sym s.silent) ∙ (sym (outs-append s.front (Did Sync ∷ s.back)) ∙ (ap outs (sym s.are) ∙ m.written)));
    }
