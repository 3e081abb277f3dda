-- From read to read, and to the end.
use Rattle.std.proofs.Common.{◌≡◌, ◌≢◌, ◌≤◌, ◌<◌, ℕ, suc, min, ◌+◌, ◌-◌, List, [], ◌∷◌, ◌++◌, length, Bool, true, false, Option, Some, refl, sym, ◌∙◌, ap, arith, append_assoc, subst}
use Rattle.std.specs.Prelude.{◌||◌, ◌^◌}
use Rattle.std.specs.List.{All}
use Rattle.std.proofs.lemmas.List.{append-nil, append_cancel_left, length-append}
use Rattle.wire_lines.specs.Journal.{Entry, In, Out, Did, ins, outs, ended, IsOut, Grows}
use Rattle.wire_lines.specs.Faults.{Rose}
use Rattle.wire_lines.proofs.Growth.{ins-append, outs-append}
use Rattle.tempo_cli.specs.Answers.{Answers}
use Rattle.tempo_cli.specs.Table.{limit, IsReady, IsPiece, IsPromptAfter, IsPrompt, IsEnd, Ends}
use Rattle.tempo_cli.specs.Feeding.{Asked, answers_to, Holds, LineRules, HasGiven, StopsFor, WantsBytes, IsOwn}
use Rattle.tempo_cli.specs.Status.{Counts}
use Rattle.tempo_cli.specs.Working.{Worked, Stopped, EndsWith, Reading, AtEnd, Stops, GivesOn, GivesOut, MayCome, HasAllCome, EndsFor}
use Rattle.tempo_cli.specs.declared.answering.Answering.{Answering}
use Rattle.tempo_cli.specs.declared.status.Status.{Status}
use Rattle.tempo_cli.specs.declared.status.Status.TheVariants as statuses
use Rattle.tempo_cli.proofs.Moves.{lines_are, few_bytes, cut_off}

-- one growth after another, where the second depends on the first
pub Grows-then : {a b c : Option (List Entry)} {P R : List Entry → Type 0} {Q : (J : List Entry) → P J → List Entry → Type 0} → Grows a b P → ((J : List Entry) (p : P J) → Grows b c (Q J p)) →
    ((J K : List Entry) (p : P J) → Q J p K → R (J ++ K)) → Grows a c R
Grows-then {a} {b} {c} {P} {R} {Q} first then step = record {
  grown = λ told e.
      let before = first.grown told e in
      let after = (then before.0 before.2).grown (told ++ before.0) before.1 in
      (before.0 ++ after.0, after.1 ∙ ap Some (append_assoc told before.0 after.0), step before.0 after.0 before.2 after.2);
}

pub ended-append : (J K : List Entry) → ended (J ++ K) ≡ (ended J || ended K)
ended-append [] K = refl
ended-append (In [] ∷ J) K = refl
ended-append (In (b ∷ bs) ∷ J) K = ended-append J K
ended-append (Out b ∷ J) K = ended-append J K
ended-append (Did mark ∷ J) K = ended-append J K

pub ins_outs : (K : List Entry) → All IsOut K → ins K ≡ []
ins_outs [] a = refl
ins_outs (In b ∷ K) a = absurd (a 0 (In b) (omega arith))
ins_outs (Out b ∷ K) a = ins_outs K (λ k d h. a (suc k) d (omega arith))
ins_outs (Did mark ∷ K) a = absurd (a 0 (Did mark) (omega arith))

ended_outs : (K : List Entry) → All IsOut K → ended K ≡ false
ended_outs [] a = refl
ended_outs (In b ∷ K) a = absurd (a 0 (In b) (omega arith))
ended_outs (Out b ∷ K) a = ended_outs K (λ k d h. a (suc k) d (omega arith))
ended_outs (Did mark ∷ K) a = absurd (a 0 (Did mark) (omega arith))

pub prompt_in : (a : Answers) (K J : List Entry) (b : List ℕ) → IsPromptAfter a K J → IsReady a (K ++ J) → IsPiece (K ++ J) b → IsPromptAfter a K (J ++ In b ∷ [])
prompt_in a K [] b p ready piece = (rw append-nil at ready, rw append-nil at piece, tt)
prompt_in a K (In bytes ∷ J) b p ready piece = (p.0, p.1, prompt_in a (K ++ In bytes ∷ []) J b p.2 (rw append_assoc ready) (rw append_assoc piece))
prompt_in a K (Out bytes ∷ J) b p ready piece = prompt_in a (K ++ Out bytes ∷ []) J b p (rw append_assoc ready) (rw append_assoc piece)
prompt_in a K (Did mark ∷ J) b p ready piece = prompt_in a (K ++ Did mark ∷ []) J b p (rw append_assoc ready) (rw append_assoc piece)

pub prompt_outs : (a : Answers) (K J O : List Entry) → All IsOut O → IsPromptAfter a K J → IsPromptAfter a K (J ++ O)
prompt_outs a K [] [] o p = tt
prompt_outs a K [] (In b ∷ O) o p = absurd (o 0 (In b) (omega arith))
prompt_outs a K [] (Out b ∷ O) o p = prompt_outs a (K ++ Out b ∷ []) [] O (λ k d h. o (suc k) d (omega arith)) tt
prompt_outs a K [] (Did mark ∷ O) o p = absurd (o 0 (Did mark) (omega arith))
prompt_outs a K (In bytes ∷ J) O o p = (p.0, p.1, prompt_outs a (K ++ In bytes ∷ []) J O o p.2)
prompt_outs a K (Out bytes ∷ J) O o p = prompt_outs a (K ++ Out bytes ∷ []) J O o p
prompt_outs a K (Did mark ∷ J) O o p = prompt_outs a (K ++ Did mark ∷ []) J O o p

-- a read of b, and what was written after it
pub ins_after : (J O : List Entry) (b : List ℕ) → All IsOut O → ins ((J ++ In b ∷ []) ++ O) ≡ ins J ++ b
ins_after J O b o = ins-append (J ++ In b ∷ []) O ∙ (ap (λ x. ins (J ++ In b ∷ []) ++ x) (ins_outs O o) ∙ (append-nil (ins (J ++ In b ∷ [])) ∙ (ins-append J (In b ∷ []) ∙ ap (λ x. ins J ++ x) (append-nil b))))

pub outs_after : (J O : List Entry) (b : List ℕ) → outs ((J ++ In b ∷ []) ++ O) ≡ outs J ++ outs O
outs_after J O b = outs-append (J ++ In b ∷ []) O ∙ ap (λ x. x ++ outs O) (outs-append J (In b ∷ []) ∙ append-nil (outs J))

pub read_on : (J : List Entry) (b : List ℕ) → ended J ≡ false → 0 < length b → ended (J ++ In b ∷ []) ≡ false
read_on J [] e h = absurd (omega arith)
read_on J (x ∷ b) e h = ended-append J (In (x ∷ b) ∷ []) ∙ ap (λ t. t || false) e

goes_on_after : (J O : List Entry) (b : List ℕ) → ended J ≡ false → 0 < length b → All IsOut O → ended ((J ++ In b ∷ []) ++ O) ≡ false
goes_on_after J O b e some o = ended-append (J ++ In b ∷ []) O ∙ (ap (λ t. t || ended O) (read_on J b e some) ∙ ended_outs O o)

-- the table looks at what came in, what went out and whether the input has ended
pub same_end : (a : Answers) (status : Status) (b b' o o' : List ℕ) (e e' : Bool) → b' ≡ b → o' ≡ o → e' ≡ e → IsEnd a status b o e → IsEnd a status b' o' e'
same_end a status b b' o o' e e' p q r h = rw (p, q, r) h

-- before a read
pub ready : {q : Asked} {s : Answering} {left : ℕ} {J : List Entry} → WantsBytes s.cutter → Reading q s left J → IsReady (answers_to q) J
ready {q} {s} {left} {J} wants r =
    let ls = lines_are r.holds.within wants.wants_bytes in
    record {
      goes_on = r.goes_on;
      few = few_bytes r.holds.within wants.wants_bytes;
      no_fault = ap (λ x. (answers_to q).fault x false) ls ∙ r.holds.within.fine;
      written = r.written ∙ ap (λ x. (answers_to q).text x false) (sym ls);
    }

pub at_start : {q : Asked} {s : Answering} (left : ℕ) → left ≡ limit + 1 → (answers_to q).text [] false ≡ [] → Holds q [] [] s → Reading q s left []
at_start {q} {s} left is silent holds = record { prompt = tt; goes_on = refl; given = []; holds = holds; written = sym silent; count = omega arith }

-- as many bytes as may come
pub few_at : {q : Asked} {s : Answering} {left : ℕ} {J : List Entry} (b : List ℕ) → length b ≤ left → Reading q s left J → length (ins J ++ b) ≤ limit + 1
few_at {q} {s} {left} {J} b few r = omega (arith, length-append (ins J) b, r.count, few)

prompt_after : {q : Asked} {s : Answering} {left : ℕ} {J : List Entry} (b : List ℕ) (O : List Entry) → WantsBytes s.cutter → length b ≤ 65536 → length b ≤ left → All IsOut O → Reading q s left J → IsPrompt (answers_to q) ((J ++ In b ∷ []) ++ O)
prompt_after {q} {s} {left} {J} b O wants piece few o r =
    prompt_outs (answers_to q) [] (J ++ In b ∷ []) O o (prompt_in (answers_to q) [] J b r.prompt (ready wants r) (record { short = piece; within = omega (arith, r.count, few) }))

-- a read gave some bytes, and their lines were worked through
pub reads_on : {q : Asked} {s t : Answering} {left : ℕ} {J O : List Entry} (b : List ℕ) (n : ℕ) → n ≡ length b → 0 < n → length b ≤ 65536 → n ≤ left → WantsBytes s.cutter → (r : Reading q s left J) →
    Worked q (ins J ++ b) r.given t O → Reading q t (left - n) ((J ++ In b ∷ []) ++ O)
reads_on {q} {s} {t} {left} {J} {O} b n is some piece few wants r w = record {
  prompt = prompt_after {q = q} {s = s} {left = left} {J = J} b O wants piece (omega arith) w.outs_alone r;
  goes_on = goes_on_after J O b r.goes_on (omega arith) w.outs_alone;
  given = w.more;
  holds = rw (ins_after J O b w.outs_alone) w.holds;
  written = outs_after J O b ∙ (ap (λ x. x ++ outs O) r.written ∙ sym w.grown);
  count = omega (arith, ap length (ins_after J O b w.outs_alone), length-append (ins J) b, r.count);
}

-- or the run ended at one of them
pub reads_stop : {q : Asked} {s : Answering} {left : ℕ} {J O : List Entry} (b : List ℕ) (n : ℕ) (status : Status) → n ≡ length b → 0 < n → length b ≤ 65536 → n ≤ left → WantsBytes s.cutter → (r : Reading q s left J) →
    Stopped q (ins J ++ b) r.given status O → Stops (answers_to q) status ((J ++ In b ∷ []) ++ O)
reads_stop {q} {s} {left} {J} {O} b n status is some piece few wants r w = record {
  ends = record {
    prompt = prompt_after {q = q} {s = s} {left = left} {J = J} b O wants piece (omega arith) w.outs_alone r;
    end = same_end (answers_to q) status _ _ _ _ _ _ (ins_after J O b w.outs_alone) (outs_after J O b ∙ ap (λ x. x ++ outs O) r.written) (goes_on_after J O b r.goes_on (omega arith) w.outs_alone) (w.end false);
  };
  goes_on = goes_on_after J O b r.goes_on (omega arith) w.outs_alone;
}

-- the lines of what came in were worked through
pub works_on : {q : Asked} {s t : Answering} {left : ℕ} {J O : List Entry} → (r : Reading q s left J) → Worked q (ins J) r.given t O → Reading q t left (J ++ O)
works_on {q} {s} {t} {left} {J} {O} r w =
    let came : ins (J ++ O) ≡ ins J = ins-append J O ∙ (ap (λ x. ins J ++ x) (ins_outs O w.outs_alone) ∙ append-nil (ins J)) in
    record {
      prompt = prompt_outs (answers_to q) [] J O w.outs_alone r.prompt;
      goes_on = ended-append J O ∙ (ap (λ x. x || ended O) r.goes_on ∙ ended_outs O w.outs_alone);
      given = w.more;
      holds = subst (λ b. Holds q b w.more t) (sym came) w.holds;
      written = outs-append J O ∙ (ap (λ x. x ++ outs O) r.written ∙ sym w.grown);
      count = omega (arith, ap length came, r.count);
    }

pub works_stop : {q : Asked} {s : Answering} {left : ℕ} {J O : List Entry} (status : Status) → (r : Reading q s left J) → Stopped q (ins J) r.given status O → Ends (answers_to q) status (J ++ O)
works_stop {q} {s} {left} {J} {O} status r w = record {
  prompt = prompt_outs (answers_to q) [] J O w.outs_alone r.prompt;
  end = same_end (answers_to q) status _ _ _ _ _ _
      (ins-append J O ∙ (ap (λ x. ins J ++ x) (ins_outs O w.outs_alone) ∙ append-nil (ins J)))
      (outs-append J O ∙ ap (λ x. x ++ outs O) r.written)
      (ended-append J O ∙ (ap (λ x. x || ended O) r.goes_on ∙ ended_outs O w.outs_alone))
      (w.end false);
}

-- as many bytes as may come
pub few_came : {q : Asked} {s : Answering} {left : ℕ} {J : List Entry} → Reading q s left J → length (ins J) ≤ limit + 1
few_came {q} {s} {left} {J} r = omega (arith, r.count)

-- the input had ended, and what was due at its end was written
pub end_outs : {a : Answers} (J O : List Entry) (status : Status) → IsPrompt a J → ended J ≡ true → All IsOut O → IsEnd a status (ins J) (outs J ++ outs O) true → Ends a status (J ++ O)
end_outs {a} J O status prompt over o end = record {
  prompt = prompt_outs a [] J O o prompt;
  end = same_end a status _ _ _ _ _ _
      (ins-append J O ∙ (ap (λ x. ins J ++ x) (ins_outs O o) ∙ append-nil (ins J)))
      (outs-append J O)
      (ended-append J O ∙ ap (λ x. x || ended O) over)
      end;
}

-- two things are known of what a journal grew by
some_same : {X : Type 0} (x y : X) → Some x ≡ Some y → x ≡ y
some_same x y e = cc

pub Grows-all : {a b : Option (List Entry)} {P : List Entry → Type 0} {X : Type 0} {Q : X → List Entry → Type 0} → Grows a b P → ((x : X) → Grows a b (Q x)) → Grows a b (λ K. P K × ((x : X) → Q x K))
Grows-all {a} {b} {P} {X} {Q} first each = record {
  grown = λ told e.
      let p = first.grown told e in
      (p.0, p.1, (p.2, λ x. (let q = (each x).grown told e in subst (Q x) (append_cancel_left told q.0 p.0 (some_same (told ++ q.0) (told ++ p.0) (sym q.1 ∙ p.1))) q.2)));
}

-- a read gave no bytes: the input has ended
pub all_read : {q : Asked} {s t : Answering} {left : ℕ} {J : List Entry} → WantsBytes s.cutter → (r : Reading q s left J) → Holds q (ins J) r.given t → AtEnd q t (J ++ In [] ∷ [])
all_read {q} {s} {t} {left} {J} wants r holds =
    let came : ins (J ++ In [] ∷ []) ≡ ins J = ins-append J (In [] ∷ []) ∙ append-nil (ins J) in
    record {
      prompt = prompt_in (answers_to q) [] J [] r.prompt (ready wants r) (record { short = omega arith; within = omega (arith, r.count) });
      at_end = ended-append J (In [] ∷ []) ∙ ap (λ t. t || true) r.goes_on;
      given = r.given;
      holds = subst (λ b. Holds q b r.given t) (sym came) holds;
      written = outs-append J (In [] ∷ []) ∙ (append-nil (outs J) ∙ r.written);
    }

-- and what was due was written
pub ends_all : {q : Asked} {s : Answering} {J O : List Entry} (status : Status) → (r : AtEnd q s J) → EndsWith q (ins J) r.given status O → Ends (answers_to q) status (J ++ O)
ends_all {q} {s} {J} {O} status r w = record {
  prompt = prompt_outs (answers_to q) [] J O w.outs_alone r.prompt;
  end = same_end (answers_to q) status _ _ _ _ _ _
      (ins-append J O ∙ (ap (λ x. ins J ++ x) (ins_outs O w.outs_alone) ∙ append-nil (ins J)))
      (outs-append J O ∙ ap (λ x. x ++ outs O) r.written)
      (ended-append J O ∙ ap (λ t. t || ended O) r.at_end)
      w.end;
}

pub read_failed : {q : Asked} {s : Answering} {left : ℕ} {J : List Entry} → WantsBytes s.cutter → Reading q s left J → Stops (answers_to q) statuses.ReadFault J
read_failed {q} {s} {left} {J} wants r = record {
  ends = record {
    prompt = r.prompt;
    end = same_end (answers_to q) statuses.ReadFault _ _ _ _ _ _ refl r.written r.goes_on (cut_off r.holds.within wants.wants_bytes);
  };
  goes_on = r.goes_on;
}

-- before the first read
pub no_memory : (a : Answers) → a.text [] false ≡ [] → Ends a statuses.Memory []
no_memory a silent = record { prompt = tt; end = record { k = 0; few = omega arith; written = sym silent } }

-- more bytes are never wanted than may come
pub never_full : {q : Asked} {s : Answering} {J : List Entry} (left : ℕ) → left ≡ 0 → WantsBytes s.cutter → Reading q s left J → ⊥
never_full {q} {s} {J} left e wants r = omega (arith, r.count, few_bytes r.holds.within wants.wants_bytes)

-- a read gave these bytes: some, no more than it asked for, and no more than may come
pub record IsRead (n left : ℕ) (b : List ℕ) : Type 0 where
  pub is : n ≡ length b
  pub some : 0 < n
  pub few : n ≤ left
  pub piece : length b ≤ 65536
  pub within : length b ≤ left

pub some_read : (n left most : ℕ) (b : List ℕ) → length b ≡ n → n ≢ 0 → n ≤ most → most ≡ min left 65536 → IsRead n left b
some_read n left most b is some low asked = record { is = sym is; some = omega (arith, some); few = omega arith; piece = omega arith; within = omega arith }

-- a read of 0 bytes
pub no_bytes : (piece : List ℕ) (n : ℕ) → length piece ≡ n → n ≡ 0 → piece ≡ []
no_bytes [] n e z = refl
no_bytes (b ∷ bs) n e z = absurd (omega (arith, e, z))

pub risen : (a b c : ℕ) → a ≡ b → Rose a c → Rose b c
risen a b c e h = let P : ℕ → Type 0 = λ x. Rose x c in subst P e h

-- a read of these bytes came last
pub record AfterRead (q : Asked) (s : Answering) (left : ℕ) (b : List ℕ) (now : List Entry) : Type 0 where
  pub before : List Entry
  pub is : now ≡ before ++ In b ∷ []
  pub reading : Reading q s left before

pub after_read : {q : Asked} {s : Answering} {left : ℕ} (J K : List Entry) (b : List ℕ) → Reading q s left (J ++ K) → AfterRead q s left b (J ++ (K ++ In b ∷ []))
after_read {q} {s} {left} J K b r = record { before = J ++ K; is = sym (append_assoc J K (In b ∷ [])); reading = r }

pub after_on : {q : Asked} {s t : Answering} {left : ℕ} (J K O : List Entry) (b : List ℕ) (n : ℕ) → n ≡ length b → 0 < n → length b ≤ 65536 → n ≤ left → WantsBytes s.cutter → (p : AfterRead q s left b (J ++ K)) →
    Worked q (ins p.before ++ b) p.reading.given t O → Reading q t (left - n) (J ++ (K ++ O))
after_on {q} {s} {t} {left} J K O b n is some piece few wants p w =
    subst (Reading q t (left - n)) (ap (λ x. x ++ O) (sym p.is) ∙ append_assoc J K O) (reads_on b n is some piece few wants p.reading w)

pub after_stop : {q : Asked} {s : Answering} {left : ℕ} (J K O : List Entry) (b : List ℕ) (n : ℕ) (status : Status) → n ≡ length b → 0 < n → length b ≤ 65536 → n ≤ left → WantsBytes s.cutter → (p : AfterRead q s left b (J ++ K)) →
    Stopped q (ins p.before ++ b) p.reading.given status O → Stops (answers_to q) status (J ++ (K ++ O))
after_stop {q} {s} {left} J K O b n status is some piece few wants p w =
    subst (Stops (answers_to q) status) (ap (λ x. x ++ O) (sym p.is) ∙ append_assoc J K O) (reads_stop b n status is some piece few wants p.reading w)

-- the bytes of what came in, and then some was written
ins_more : (J K O : List Entry) → All IsOut O → ins (J ++ (K ++ O)) ≡ ins (J ++ K)
ins_more J K O o = ap ins (sym (append_assoc J K O)) ∙ (ins-append (J ++ K) O ∙ (ap (λ x. ins (J ++ K) ++ x) (ins_outs O o) ∙ append-nil (ins (J ++ K))))

-- whatever the engine is: bytes came in, and their lines were given
pub came_last : {k : LineRules} {s t : Answering} {left : ℕ} (J K : List Entry) (b : List ℕ) (n : ℕ) → n ≡ length b → 0 < n → n ≤ left → MayCome k s left (J ++ K) →
    ((bytes : List ℕ) (given : List (List ℕ)) → HasGiven k bytes given s → HasGiven k (bytes ++ b) given t) → MayCome k t (left - n) (J ++ (K ++ In b ∷ []))
came_last {k} {s} {t} {left} J K b n is some few m gives =
    let e : ins (J ++ (K ++ In b ∷ [])) ≡ ins (J ++ K) ++ b =
    ap ins (sym (append_assoc J K (In b ∷ []))) ∙ (ins-append (J ++ K) (In b ∷ []) ∙ ap (λ x. ins (J ++ K) ++ x) (append-nil b)) in
    record {
      given = m.given;
      gives = subst (λ x. HasGiven k x m.given t) (sym e) (gives (ins (J ++ K)) m.given m.gives);
      goes_on = ap ended (sym (append_assoc J K (In b ∷ []))) ∙ read_on (J ++ K) b m.goes_on (omega arith);
      count = omega (arith, ap length e, length-append (ins (J ++ K)) b, m.count);
    }

pub came_on : {k : LineRules} {s t : Answering} {left : ℕ} (J K O : List Entry) → MayCome k s left (J ++ K) → GivesOn k (ins (J ++ K)) t O → MayCome k t left (J ++ (K ++ O))
came_on {k} {s} {t} {left} J K O m o = record {
  given = o.more;
  gives = subst (λ x. HasGiven k x o.more t) (sym (ins_more J K O o.outs_alone)) o.gives;
  goes_on = ap ended (sym (append_assoc J K O)) ∙ (ended-append (J ++ K) O ∙ (ap (λ x. x || ended O) m.goes_on ∙ ended_outs O o.outs_alone));
  count = omega (arith, ap length (ins_more J K O o.outs_alone), m.count);
}

-- or the run ended
pub came_off : {k : LineRules} (J K O : List Entry) (status : Status) → GivesOut k (ins (J ++ K)) status O → EndsFor k status (J ++ (K ++ O))
came_off {k} J K O status o = subst (λ x. StopsFor k status x (ended (J ++ (K ++ O)))) (sym (ins_more J K O o.outs_alone)) (o.reason (ended (J ++ (K ++ O))))

-- or a read gave no bytes: the input has ended
pub came_all : {k : LineRules} {s t : Answering} {left : ℕ} (J K : List Entry) → (m : MayCome k s left (J ++ K)) → HasGiven k (ins (J ++ K)) m.given t → HasAllCome k t (J ++ (K ++ In [] ∷ []))
came_all {k} {s} {t} {left} J K m gives =
    let e : ins (J ++ (K ++ In [] ∷ [])) ≡ ins (J ++ K) = ap ins (sym (append_assoc J K (In [] ∷ []))) ∙ (ins-append (J ++ K) (In [] ∷ []) ∙ append-nil (ins (J ++ K))) in
    record {
      given = m.given;
      gives = subst (λ x. HasGiven k x m.given t) (sym e) gives;
      at_end = ap ended (sym (append_assoc J K (In [] ∷ []))) ∙ (ended-append (J ++ K) (In [] ∷ []) ∙ ap (λ t. t || true) m.goes_on);
    }

-- what was due at the end was written
pub came_end : {k : LineRules} {s : Answering} (J K O : List Entry) (status : Status) → All IsOut O → HasAllCome k s (J ++ K) → StopsFor k status (ins (J ++ K)) true → EndsFor k status (J ++ (K ++ O))
came_end {k} {s} J K O status o m why =
    let over : ended (J ++ (K ++ O)) ≡ true = ap ended (sym (append_assoc J K O)) ∙ (ended-append (J ++ K) O ∙ ap (λ x. x || ended O) m.at_end) in
    subst (λ x. StopsFor k status x (ended (J ++ (K ++ O)))) (sym (ins_more J K O o)) (subst (StopsFor k status (ins (J ++ K))) (sym over) why)

-- where no call failed
pub own_counts : (r r' w w' : ℕ) (status : Status) → IsOwn status → r' ≡ r → w' ≡ w → Counts r r' w w' status
own_counts r r' w w' statuses.ReadFault own p e = absurd own
own_counts r r' w w' statuses.WriteFault own p e = absurd own
own_counts r r' w w' status own p e = (p, e)

-- after calls none of which failed
pub counts_after : (r0 r r' w0 w w' : ℕ) (status : Status) → r ≡ r0 → w ≡ w0 → Counts r r' w w' status → Counts r0 r' w0 w' status
counts_after r0 r r' w0 w w' status p e h =
    subst (λ x. Counts x r' w0 w' status) p (subst (λ x. Counts r r' x w' status) e h)

-- what was written in two parts
pub written_both : (x y z : List ℕ) (O K : List Entry) → y ≡ outs O → z ≡ outs K → (x ++ y) ++ z ≡ x ++ outs (O ++ K)
written_both x y z O K p e = append_assoc x y z ∙ ap (λ t. x ++ t) (ap (λ t. t ++ z) p ∙ (ap (λ t. outs O ++ t) e ∙ sym (outs-append O K)))

pub limit-is : limit ≡ 2 ^ 40
unfolding limit
limit-is = refl
