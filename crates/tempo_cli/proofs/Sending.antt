-- Lines of a checkpoint that are held in a buffer, and written where it has many.
use Rattle.std.proofs.Common.{◌≡◌, ◌≤◌, ℕ, suc, Option, List, [], ◌∷◌, ◌++◌, length, sym, ◌∙◌, ap, arith, append_assoc, subst}
use Rattle.std.specs.Prelude.{All, Vec, vec_capacity}
use Rattle.std.proofs.lemmas.List.{length-append}
use Rattle.std.proofs.lemmas.List.Elements.{All-append}
use Rattle.wire_lines.specs.Journal.{Entry, Grows, IsOut, outs, SentAll, SentFront}
use Rattle.wire_lines.proofs.Growth.{SentBefore, Grows-none, Grows-grows, outs-append, sent_none, sent_all}
use Rattle.checkpoint.specs.Writing.{bytes_of, LacksRoomToFeed}
use Rattle.checkpoint.proofs.Left.{bytes_more}
use Rattle.tempo_cli.specs.Freezing.{IsShort}

-- of all lines these are left: what went out, what the buffer holds and they are all bytes, and it has room for many
pub record IsSending {Z : Type 0} (all left : List (List ℕ)) (v : Vec ℕ Z) (before now : Option (List Entry)) : Type 0 where
  pub room : 131073 ≤ vec_capacity v
  pub short : All IsShort all → All IsShort left
  pub sent : Grows before now (SentBefore (bytes_of all) (v.items ++ bytes_of left))

-- what was held went out
sent_held : {all : List ℕ} (held rest : List ℕ) (O K : List Entry) → SentBefore all (held ++ rest) O → SentAll held K → SentBefore all rest (O ++ K)
sent_held {all} held rest O K s t = record {
  outs_alone = All-append IsOut O K s.outs_alone t.outs_alone;
  so_far = s.so_far ∙ (ap (λ x. outs O ++ (x ++ rest)) (sym t.all)
      ∙ (sym (append_assoc (outs O) (outs K) rest) ∙ ap (λ x. x ++ rest) (sym (outs-append O K))));
}

-- or a prefix of it
sent_some : {all : List ℕ} (held rest : List ℕ) (O K : List Entry) → SentBefore all (held ++ rest) O → SentFront held K → SentFront all (O ++ K)
sent_some {all} held rest O K s t = record {
  outs_alone = All-append IsOut O K s.outs_alone t.outs_alone;
  after = t.after ++ rest;
  front = s.so_far ∙ (ap (λ x. outs O ++ (x ++ rest)) t.front
      ∙ (ap (λ x. outs O ++ x) (append_assoc (outs K) t.after rest)
      ∙ (sym (append_assoc (outs O) (outs K) (t.after ++ rest)) ∙ ap (λ x. x ++ (t.after ++ rest)) (sym (outs-append O K)))));
}

-- before the first line
pub none_sent : {Z : Type 0} {all left : List (List ℕ)} {v : Vec ℕ Z} (now : Option (List Entry)) → 131073 ≤ vec_capacity v → v.items ≡ [] → left ≡ all → IsSending all left v now now
none_sent {Z} {all} {left} {v} now room none is = record {
  room = room;
  short = λ h. subst (All IsShort) (sym is) h;
  sent = subst (λ x. Grows now now (SentBefore (bytes_of all) x)) (sym (ap (λ x. x ++ bytes_of left) none ∙ ap bytes_of is)) (Grows-none now (sent_none (bytes_of all)));
}

-- nothing more is held
pub same_held : {Z : Type 0} {all left : List (List ℕ)} {v w : Vec ℕ Z} {before now : Option (List Entry)} → IsSending all left v before now → w.items ≡ v.items → vec_capacity v ≤ vec_capacity w →
    IsSending all left w before now
same_held {Z} {all} {left} {v} {w} {before} {now} s same grown = record {
  room = omega (arith, s.room, grown);
  short = s.short;
  sent = subst (λ x. Grows before now (SentBefore (bytes_of all) (x ++ bytes_of left))) (sym same) s.sent;
}

-- one line more is held
pub one_more : {Z : Type 0} {all left rest : List (List ℕ)} {v w : Vec ℕ Z} {before now : Option (List Entry)} → IsSending all left v before now →
    (line : List ℕ) × ((left ≡ line ∷ rest) × (w.items ≡ v.items ++ (line ++ 10 ∷ []))) → vec_capacity v ≤ vec_capacity w → IsSending all rest w before now
one_more {Z} {all} {left} {rest} {v} {w} {before} {now} s (line, (is, more)) grown = record {
  room = omega (arith, s.room, grown);
  short = λ h k d low. (subst (All IsShort) is (s.short h)) (suc k) d (omega arith);
  sent = subst (λ x. Grows before now (SentBefore (bytes_of all) x)) (sym (bytes_more left rest v.items w.items line is more)) s.sent;
}

-- all that was held went out
pub held_sent : {Z : Type 0} {all left : List (List ℕ)} {w : Vec ℕ Z} (v : Vec ℕ Z) {before mid now : Option (List Entry)} → IsSending all left v before mid → Grows mid now (SentAll v.items) →
    w.items ≡ [] → vec_capacity w ≡ vec_capacity v → IsSending all left w before now
held_sent {Z} {all} {left} {w} v {before} {mid} {now} s t none same = record {
  room = omega (arith, s.room, same);
  short = s.short;
  sent = subst (λ x. Grows before now (SentBefore (bytes_of all) (x ++ bytes_of left))) (sym none)
      (Grows-grows s.sent t (λ O K a b. sent_held v.items (bytes_of left) O K a b));
}

-- or a prefix of it
pub front_sent : {Z : Type 0} {all left : List (List ℕ)} (v : Vec ℕ Z) {before mid now : Option (List Entry)} → IsSending all left v before mid → Grows mid now (SentFront v.items) →
    Grows before now (SentFront (bytes_of all))
front_sent {Z} {all} {left} v s t = Grows-grows s.sent t (λ O K a b. sent_some v.items (bytes_of left) O K a b)

-- after the last line
pub last_sent : {Z : Type 0} {all left : List (List ℕ)} (v : Vec ℕ Z) {before mid now : Option (List Entry)} → IsSending all left v before mid → left ≡ [] → Grows mid now (SentAll v.items) →
    Grows before now (SentAll (bytes_of all))
last_sent {Z} {all} {left} v s none t =
    Grows-grows s.sent t (λ O K a b. sent_all (bytes_of left) (O ++ K) (ap (λ x. length (bytes_of x)) none) (sent_held v.items (bytes_of left) O K a b))

-- the buffer has room for a short line
pub has_room : {Z : Type 0} {all left : List (List ℕ)} {v : Vec ℕ Z} {before now : Option (List Entry)} → IsSending all left v before now → length v.items ≤ 65536 → LacksRoomToFeed left v →
    All IsShort all → ⊥
has_room {Z} {all} {left} {v} s few l h =
    let low : length l.line ≤ 65536 = (subst (All IsShort) l.next (s.short h)) 0 l.line (omega arith) in
    omega (arith, low, few, s.room, l.lacks, length-append l.line (10 ∷ []))
