-- From call to call of a run.
use Rattle.std.proofs.Common.{◌≡◌, ◌<◌, ◌≤◌, ◌+◌, ◌-◌, ◌++◌, ℕ, min, List, [], ◌∷◌, length, Bool, true, false, Option, refl, sym, ◌∙◌, ap, subst, append_assoc, append-nil}
use Rattle.std.specs.Prelude.{nat_le}
use Rattle.wire_lines.specs.Journal.{Entry, In, Adds, Grows, SentAll, SentFront, ins, outs}
use Rattle.wire_lines.proofs.Growth.{Grows-none, Grows-adds, Grows-weaker}
use Rattle.tempo_cli.specs.Table.{limit, IsEnd}
use Rattle.tempo_cli.specs.Feeding.{Holds, WantsBytes}
use Rattle.tempo_cli.specs.Holding.{HoldsOn}
use Rattle.tempo_cli.specs.declared.answering.Answering.{Answering}
use Rattle.tempo_cli.specs.declared.status.Status.{Status}
use Rattle.tempo_cli.specs.declared.status.Status.TheVariants as statuses
use Rattle.tempo_cli.proofs.Journals.{Grows-then}
use Rattle.tempo_cli.specs.Keeping.{Task, query_of, answers_of, Keeps, due_in, last_behind}
use Rattle.tempo_cli.specs.Standing.{Stands, Begun, Under, Owes, MayRead, Fails, IsWanting, SaysSame, WhateverStands, WhateverText, TakesOn, EndsAt, TakesHeld, EndsHeld}
use Rattle.tempo_cli.specs.declared.keeping.Keeper.{Keeper}
use Rattle.tempo_cli.specs.declared.kept_status.KeptStatus.{KeptStatus}
use Rattle.tempo_cli.specs.declared.kept_status.KeptStatus.TheVariants.{Ended}
use Rattle.tempo_cli.proofs.Standing.{AfterLine, all_sent, some_sent, line_stops, under_out, under_cut, after_line, none_held, line_out, line_cut, none_due, one_kept, one_failed}
use Rattle.tempo_cli.proofs.Bytes.{OnlyAnswers, came_in, count_in, all_in, all_kept, all_failed, started, unstarted}

-- no line was taken yet, and nothing is held
pub none_taken : (a : Option (List Entry)) (k : Keeper) (held : List ℕ) → held ≡ [] → TakesHeld a a k [] k held
none_taken a k held none = λ t every J u. Grows-none a (subst (λ N. Owes t every k held N × (ins N ≡ ins J)) (sym (append-nil J)) (subst (λ x. Owes t every k x J) (sym none) u, refl))

-- what is held was not written to its end
pub held_cut : {a b : Option (List Entry)} {k : Keeper} {held : List ℕ} → Grows a b (SentFront held) → EndsHeld a b k held (Ended statuses.WriteFault)
held_cut {a} {b} {k} {held} sent = λ t every J u. Grows-weaker sent (λ O s. under_cut u held refl O s)

module _ {a b c : Option (List Entry)} {k l : Keeper} {held after : List ℕ} (first : TakesHeld a b k held l after) where
  -- more were, or the run ended
  pub more_taken : {m : Keeper} {last : List ℕ} → TakesHeld b c l after m last → TakesHeld a c k held m last
  more_taken {m} {last} then = λ t every J u. Grows-then {P = λ K. Owes t every l after (J ++ K) × (ins (J ++ K) ≡ ins J)} (first t every J u)
      (λ (K : List Entry) (p : Owes t every l after (J ++ K) × (ins (J ++ K) ≡ ins J)). then t every (J ++ K) p.0)
      (λ K M p q. subst (λ N. Owes t every m last N × (ins N ≡ ins J)) (append_assoc J K M) (q.0, q.1 ∙ p.1))

  pub held_ends : (status : KeptStatus) → EndsHeld b c l after status → EndsHeld a c k held status
  held_ends status then = λ t every J u. Grows-then {P = λ K. Owes t every l after (J ++ K) × (ins (J ++ K) ≡ ins J)} (first t every J u)
      (λ (K : List Entry) (p : Owes t every l after (J ++ K) × (ins (J ++ K) ≡ ins J)). then t every (J ++ K) p.0)
      (λ K M p q. subst (Keeps t every status) (append_assoc J K M) q)

  -- and all that was held was written
  pub taken_sent : held ≡ [] → Grows b c (SentAll after) → TakesOn a c k l
  taken_sent none sent = λ t every J u. Grows-then {P = λ K. Owes t every l after (J ++ K) × (ins (J ++ K) ≡ ins J)} (first t every J (subst (λ x. Owes t every k x J) (sym none) (none_held J u))) (λ K p. sent)
      (λ K O p s. subst (λ N. Under t every l N × (ins N ≡ ins J)) (append_assoc J K O)
      (let now = under_out p.0 O (outs ((J ++ K) ++ O)) s.outs_alone (all_sent (J ++ K) O s) in (now.0, now.1 ∙ p.1)))

  pub sent_ends : Grows b c (SentFront after) → EndsHeld a c k held (Ended statuses.WriteFault)
  sent_ends sent = held_ends (Ended statuses.WriteFault) (held_cut sent)

-- nothing was held before
pub ends_at : {a b : Option (List Entry)} {k : Keeper} (status : KeptStatus) → EndsHeld a b k [] status → EndsAt a b k status
ends_at status ends = λ t every J u. ends t every J (none_held J u)

-- a read gave these bytes
record HasRead (t : Task) (every : ℕ) (k k' : Keeper) (left : ℕ) (b : List ℕ) (N : List Entry) : Type 0 where
  before : List Entry
  is : N ≡ before ++ In b ∷ []
  may : MayRead t every k left before

read_one : {t : Task} {every : ℕ} {k : Keeper} (k' : Keeper) {left : ℕ} (b : List ℕ) (J K : List Entry) → MayRead t every k left (J ++ K) → HasRead t every k k' left b (J ++ (K ++ In b ∷ []))
read_one k' b J K m = record { before = J ++ K; is = sym (append_assoc J K (In b ∷ [])); may = m }

module _ {a b c : Option (List Entry)} {k k' : Keeper} {left : ℕ} {t : Task} {every : ℕ} (J : List Entry) (piece : List ℕ) (so_far : Grows a b (λ K. MayRead t every k left (J ++ K))) (told : Adds b c (In piece ∷ []))
    (wants : WantsBytes k.answering.cutter) (only : OnlyAnswers k k') (holds : (bytes : List ℕ) (given : List (List ℕ)) → Holds (query_of t) bytes given k.answering → Holds (query_of t) (bytes ++ piece) given k'.answering) where
  reads : Grows a c (λ K. HasRead t every k k' left piece (J ++ K))
  reads = Grows-adds so_far told (λ K m. read_one k' piece J K m)

  under_read : (short : length piece ≤ 65536) (some : 0 < length piece) (few : length piece ≤ left) (N : List Entry) → HasRead t every k k' left piece N → Under t every k' N
  under_read short some few N h =
      subst (Under t every k') (sym h.is) (came_in wants h.may k' piece only some short few (holds (ins h.before) h.may.under.given h.may.under.stands.holds))

  -- and its lines were taken
  pub reads_taken : {d : Option (List Entry)} {m : Keeper} (n : ℕ) → n ≡ length piece → 0 < n → length piece ≤ 65536 → n ≤ left → TakesOn c d k' m → Grows a d (λ K. MayRead t every m (left - n) (J ++ K))
  reads_taken {d} {m} n is some short few takes = Grows-then {P = λ K. HasRead t every k k' left piece (J ++ K)} reads
      (λ (K : List Entry) (h : HasRead t every k k' left piece (J ++ K)). takes t every (J ++ K) (under_read short (subst (λ x. 0 < x) is some) (subst (λ x. x ≤ left) is few) (J ++ K) h))
      (λ K M h q. subst (MayRead t every m (left - n)) (append_assoc J K M) (record { under = q.0; count = count_in wants h.may piece n ((J ++ K) ++ M) is few (q.1 ∙ ap ins h.is) }))

  pub reads_end : {d : Option (List Entry)} (status : KeptStatus) (n : ℕ) → n ≡ length piece → 0 < n → length piece ≤ 65536 → n ≤ left → EndsAt c d k' status → Grows a d (λ K. Keeps t every status (J ++ K))
  reads_end {d} status n is some short few ends = Grows-then {P = λ K. HasRead t every k k' left piece (J ++ K)} reads
      (λ (K : List Entry) (h : HasRead t every k k' left piece (J ++ K)). ends t every (J ++ K) (under_read short (subst (λ x. 0 < x) is some) (subst (λ x. x ≤ left) is few) (J ++ K) h))
      (λ K M h q. subst (Keeps t every status) (append_assoc J K M) q)

-- the input has ended, and a checkpoint was kept
module _ {a b c : Option (List Entry)} {k k' : Keeper} {left : ℕ} {t : Task} {every : ℕ} (J : List Entry) (so_far : Grows a b (λ K. MayRead t every k left (J ++ K))) (told : Adds b c (In [] ∷ []))
    (wants : WantsBytes k.answering.cutter) (done : WantsBytes k'.answering.cutter) (only : OnlyAnswers k k')
    (holds : (bytes : List ℕ) (given : List (List ℕ)) → Holds (query_of t) bytes given k.answering → Holds (query_of t) (bytes ++ []) given k'.answering) where
  all_read : Grows a c (λ K. HasRead t every k k' left [] (J ++ K))
  all_read = Grows-adds so_far told (λ K m. read_one k' [] J K m)

  at_end : (N : List Entry) (h : HasRead t every k k' left [] N) → Stands t k' (h.before ++ In [] ∷ []) h.may.under.given (due_in t every h.may.under.given (length h.may.under.given)).counts
  at_end N h = all_in wants h.may k' only (holds (ins h.before) h.may.under.given h.may.under.stands.holds)

  pub ends_kept_at : {d : Option (List Entry)} {m : Keeper} → m.answering ≡ k'.answering →
      WhateverStands k' (λ t J given counts. Grows c d (λ K. SaysSame J (J ++ K) × Stands t m (J ++ K) given (counts ++ length given ∷ []))) → Grows a d (λ K. Keeps t every (Ended statuses.Done) (J ++ K))
  ends_kept_at {d} {m} same kept = Grows-then {P = λ K. HasRead t every k k' left [] (J ++ K)} all_read
      (λ (K : List Entry) (h : HasRead t every k k' left [] (J ++ K)). kept t (h.before ++ In [] ∷ []) h.may.under.given _ (at_end (J ++ K) h))
      (λ K M h q. subst (Keeps t every (Ended statuses.Done)) (ap (λ x. x ++ M) (sym h.is) ∙ append_assoc J K M)
      (all_kept wants h.may m ((h.before ++ In [] ∷ []) ++ M) (subst (λ (x : Answering). WantsBytes x.cutter) (sym same) done) q))

  pub ends_failed_at : {d : Option (List Entry)} (status : KeptStatus) → IsWanting status →
      WhateverStands k' (λ t J given counts. Grows c d (λ K. SaysSame J (J ++ K) × Fails t given counts (J ++ K))) → Grows a d (λ K. Keeps t every status (J ++ K))
  ends_failed_at {d} status wanting failed = Grows-then {P = λ K. HasRead t every k k' left [] (J ++ K)} all_read
      (λ (K : List Entry) (h : HasRead t every k k' left [] (J ++ K)). failed t (h.before ++ In [] ∷ []) h.may.under.given _ (at_end (J ++ K) h))
      (λ K M h q. subst (Keeps t every status) (ap (λ x. x ++ M) (sym h.is) ∙ append_assoc J K M)
      (all_failed wants h.may k' status ((h.before ++ In [] ∷ []) ++ M) done (holds (ins h.before) h.may.under.given h.may.under.stands.holds) wanting q))

-- from the start on
pub begins : {a b c : Option (List Entry)} {k m : Keeper} {t : Task} {every : ℕ} {P : List Entry → Type 0} → Begun t every k → m.every ≡ k.every →
    WhateverStands k (λ t J given counts. m.kept_at ≡ last_behind t given) → WhateverStands k (λ t J given counts. Grows a b (λ K. SaysSame J (J ++ K) × Stands t m (J ++ K) given (counts ++ length given ∷ []))) →
    ((J : List Entry) → MayRead t every m (limit + 1) J → Grows b c (λ K. P (J ++ K))) → Grows a c P
begins {a} {b} {c} {k} {m} {t} {every} {P} begun each at kept then = Grows-then {P = λ K. SaysSame [] K × Stands t m K [] (0 ∷ [])} (kept t [] [] [] begun.0)
    (λ (K : List Entry) (p : SaysSame [] K × Stands t m K [] (0 ∷ [])). then K (started m K begun each (at t [] [] [] begun.0) p))
    (λ K M p q. q)

pub begins_not : {a b : Option (List Entry)} {k : Keeper} {t : Task} {every : ℕ} (status : KeptStatus) → Begun t every k → IsWanting status →
    WhateverStands k (λ t J given counts. Grows a b (λ K. SaysSame J (J ++ K) × Fails t given counts (J ++ K))) → Grows a b (Keeps t every status)
begins_not {a} {b} {k} {t} {every} status begun wanting failed = Grows-weaker (failed t [] [] [] begun.0) (λ K f. unstarted every status K wanting f)

-- what was held was written, and the run ended behind it
pub sent_stops : {a b : Option (List Entry)} {k : Keeper} {held : List ℕ} (status : Status) → Grows a b (SentAll held) →
    ((t : Task) (every : ℕ) (J : List Entry) (u : Under t every k J) → IsEnd (answers_of t) status (ins J) ((answers_of t).text u.given false) false) → EndsHeld a b k held (Ended status)
sent_stops {a} {b} {k} {held} status sent ends = λ t every J u. Grows-weaker sent (λ O s.
    let now = under_out u O (outs (J ++ O)) s.outs_alone (all_sent J O s) in line_stops now.0 status (ends t every (J ++ O) now.0))

-- a line was taken, and what it calls for is written, but for what is held behind it
abbrev pub HoldsLine : Option (List Entry) → Option (List Entry) → Keeper → List ℕ → Keeper → List ℕ → Type 0
HoldsLine a b k held l after = (t : Task) (every : ℕ) (J : List Entry) → Owes t every k held J → Grows a b (λ O. AfterLine t every l (outs (J ++ O) ++ after) J (J ++ O))

-- all of it is written
abbrev pub WritesLine : Option (List Entry) → Option (List Entry) → Keeper → List ℕ → Keeper → Type 0
WritesLine a b k held l = (t : Task) (every : ℕ) (J : List Entry) → Owes t every k held J → Grows a b (λ O. AfterLine t every l (outs (J ++ O)) J (J ++ O))

-- the test tells whether a checkpoint is due
abbrev pub TellsDue : Keeper → Bool → Type 0
TellsDue l due = WhateverText l (λ t J given counts. due ≡ nat_le (l.kept_at + l.every) (last_behind t given))

-- a line more makes this due
abbrev pub GivesLine : Keeper → List ℕ → Keeper → List ℕ → Type 0
GivesLine k held l due = (t : Task) (every : ℕ) (J : List Entry) (u : Owes t every k held J) →
    (line : List ℕ) × Holds (query_of t) (ins J) (u.given ++ line ∷ []) l.answering × ((answers_of t).text (u.given ++ line ∷ []) false ≡ (answers_of t).text u.given false ++ due)

module _ {k l : Keeper} {held due : List ℕ} (gives : GivesLine k held l due) (workers : l.answering.engine.parts.dataflow.workers ≡ k.answering.engine.parts.dataflow.workers) (form : l.form ≡ k.form) (each : l.every ≡ k.every)
    (input : l.input ≡ k.input) (output : l.output ≡ min (k.output + length due) 18446744073709551615) (at : l.kept_at ≡ k.kept_at) where
  line_after : (t : Task) (every : ℕ) (J : List Entry) → Owes t every k held J → AfterLine t every l ((outs J ++ held) ++ due) J J
  line_after t every J u = let g = gives t every J u in after_line u l due g.0 g.1 g.2 workers form each input output at

  -- which is held, or written with what was held
  pub line_held : {a b : Option (List Entry)} {after : List ℕ} → Grows a b (HoldsOn held due after) → HoldsLine a b k held l after
  line_held {a} {b} {after} on = λ t every J u. Grows-weaker on (λ O s. line_out (line_after t every J u) O (outs (J ++ O) ++ after) s.outs_alone (some_sent J O held due after s))

  -- or a write of both failed
  pub line_unheld : {a b : Option (List Entry)} → Grows a b (SentFront (held ++ due)) → EndsHeld a b k held (Ended statuses.WriteFault)
  line_unheld {a} {b} sent = λ t every J u. Grows-weaker sent (λ O s. line_cut (line_after t every J u) (held ++ due) (append_assoc (outs J) held due) O s)

pub line_not_due : {a b : Option (List Entry)} {k l : Keeper} {held after : List ℕ} (due : Bool) → HoldsLine a b k held l after → TellsDue l due → due ≡ false → TakesHeld a b k held l after
line_not_due {a} {b} {k} {l} {held} {after} due holds tells e = λ t every J u. Grows-weaker (holds t every J u)
    (λ O h. none_due h due (tells t (outs (J ++ O) ++ after) (J ++ O) (h.given ++ h.line ∷ []) _ h.stands) e)

-- what is held was written, or not to its end
pub line_sent : {a b c : Option (List Entry)} {k l : Keeper} {held after : List ℕ} → HoldsLine a b k held l after → Grows b c (SentAll after) → WritesLine a c k held l
line_sent {a} {b} {c} {k} {l} {held} {after} holds sent = λ t every J u. Grows-then {P = λ O. AfterLine t every l (outs (J ++ O) ++ after) J (J ++ O)} (holds t every J u) (λ O h. sent)
    (λ O K h s. subst (λ N. AfterLine t every l (outs N) J N) (append_assoc J O K) (line_out h K (outs ((J ++ O) ++ K)) s.outs_alone (all_sent (J ++ O) K s)))

pub line_unsent : {a b c : Option (List Entry)} {k l : Keeper} {held after : List ℕ} → HoldsLine a b k held l after → Grows b c (SentFront after) → EndsHeld a c k held (Ended statuses.WriteFault)
line_unsent {a} {b} {c} {k} {l} {held} {after} holds sent = λ t every J u. Grows-then {P = λ O. AfterLine t every l (outs (J ++ O) ++ after) J (J ++ O)} (holds t every J u) (λ O h. sent)
    (λ O K h s. subst (Keeps t every (Ended statuses.WriteFault)) (append_assoc J O K) (line_cut h after refl K s))

module _ {a b c : Option (List Entry)} {k l m : Keeper} {held : List ℕ} (due : Bool) (writes : WritesLine a b k held l) (tells : TellsDue l due) (is : due ≡ true) where
  pub line_kept : {after : List ℕ} → after ≡ [] → m.every ≡ l.every → WhateverStands l (λ t J given counts. m.kept_at ≡ last_behind t given) →
      WhateverStands l (λ t J given counts. Grows b c (λ K. SaysSame J (J ++ K) × Stands t m (J ++ K) given (counts ++ length given ∷ []))) → TakesHeld a c k held m after
  line_kept {after} none each at kept = λ t every J u. Grows-then {P = λ O. AfterLine t every l (outs (J ++ O)) J (J ++ O)} (writes t every J u)
      (λ (O : List Entry) (h : AfterLine t every l (outs (J ++ O)) J (J ++ O)). kept t (J ++ O) (h.given ++ h.line ∷ []) _ h.stands)
      (λ O K h q. subst (λ N. Owes t every m after N × (ins N ≡ ins J)) (append_assoc J O K)
      (let now = one_kept h due (tells t (outs (J ++ O)) (J ++ O) (h.given ++ h.line ∷ []) _ h.stands) is m ((J ++ O) ++ K) each (at t (J ++ O) (h.given ++ h.line ∷ []) _ h.stands) q in
      (subst (λ x. Owes t every m x ((J ++ O) ++ K)) (sym none) (none_held ((J ++ O) ++ K) now.0), now.1)))

pub line_failed : {a b c : Option (List Entry)} {k l : Keeper} {held : List ℕ} (due : Bool) (status : KeptStatus) → WritesLine a b k held l → TellsDue l due → due ≡ true → IsWanting status →
    WhateverStands l (λ t J given counts. Grows b c (λ K. SaysSame J (J ++ K) × Fails t given counts (J ++ K))) → EndsHeld a c k held status
line_failed {a} {b} {c} {k} {l} {held} due status writes tells is wanting failed = λ t every J u. Grows-then {P = λ O. AfterLine t every l (outs (J ++ O)) J (J ++ O)} (writes t every J u)
    (λ (O : List Entry) (h : AfterLine t every l (outs (J ++ O)) J (J ++ O)). failed t (J ++ O) (h.given ++ h.line ∷ []) _ h.stands)
    (λ O K h q. subst (Keeps t every status) (append_assoc J O K) (one_failed h due (tells t (outs (J ++ O)) (J ++ O) (h.given ++ h.line ∷ []) _ h.stands) is status ((J ++ O) ++ K) wanting q))
