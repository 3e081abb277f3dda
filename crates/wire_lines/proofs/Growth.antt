-- How journals grow, step by step.
use Rattle.std.proofs.Common.{◌≡◌, ℕ, List, [], ◌∷◌, ◌++◌, length, take, drop, Option, Some, refl, ap, sym, ◌∙◌, append_assoc, arith}
use Rattle.std.proofs.lemmas.List.Elements.{All-push, All-nil}
use Rattle.std.proofs.lemmas.List.{append-nil, take-append-drop}
use Rattle.std.proofs.lemmas.Slice.{between_to_end}
use Rattle.std.specs.List.{between}
use Rattle.std.specs.List.{All}
use Rattle.wire_lines.specs.Journal.{Entry, In, Out, Did, ins, outs, IsOut, Adds, Grows, SentAll, SentFront}

-- nothing was added
pub Grows-none : {P : List Entry → Type 0} (x : Option (List Entry)) → P [] → Grows x x P
Grows-none {P} x p = record { grown = λ told e. ([], e ∙ ap Some (sym (append-nil told)), p) }

-- and then these entries were added
pub Grows-adds : {a b c : Option (List Entry)} {P Q : List Entry → Type 0} {K : List Entry} → Grows a b P → Adds b c K → ((J : List Entry) → P J → Q (J ++ K)) → Grows a c Q
Grows-adds {a} {b} {c} {P} {Q} {K} grows adds step = record {
  grown = λ told e.
      let before = grows.grown told e in
      (before.0 ++ K, adds.added (told ++ before.0) before.1 ∙ ap Some (append_assoc told before.0 K), step before.0 before.2);
}

-- a property that follows
pub Grows-weaker : {a b : Option (List Entry)} {P Q : List Entry → Type 0} → Grows a b P → ((J : List Entry) → P J → Q J) → Grows a b Q
Grows-weaker {a} {b} {P} {Q} grows step = record { grown = λ told e. let before = grows.grown told e in (before.0, before.1, step before.0 before.2) }

-- after nothing was added
pub Grows-same : {a b c : Option (List Entry)} {P : List Entry → Type 0} → Grows a b P → Adds b c [] → Grows a c P
Grows-same {a} {b} {c} {P} grows adds = record {
  grown = λ told e.
      let before = grows.grown told e in
      (before.0, adds.added (told ++ before.0) before.1 ∙ ap Some (append-nil (told ++ before.0)), before.2);
}

-- one growth after another
pub Grows-grows : {a b c : Option (List Entry)} {P Q R : List Entry → Type 0} → Grows a b P → Grows b c Q → ((J K : List Entry) → P J → Q K → R (J ++ K)) → Grows a c R
Grows-grows {a} {b} {c} {P} {Q} {R} first then step = record {
  grown = λ told e.
      let before = first.grown told e in
      let after = then.grown (told ++ before.0) before.1 in
      (before.0 ++ after.0, after.1 ∙ ap Some (append_assoc told before.0 after.0), step before.0 after.0 before.2 after.2);
}

pub outs-append : (J K : List Entry) → outs (J ++ K) ≡ outs J ++ outs K
outs-append [] K = refl
outs-append (In bytes ∷ J) K = outs-append J K
outs-append (Did mark ∷ J) K = outs-append J K
outs-append (Out bytes ∷ J) K = ap (λ x. bytes ++ x) (outs-append J K) ∙ sym (append_assoc bytes (outs J) (outs K))

pub ins-append : (J K : List Entry) → ins (J ++ K) ≡ ins J ++ ins K
ins-append [] K = refl
ins-append (Out bytes ∷ J) K = ins-append J K
ins-append (Did mark ∷ J) K = ins-append J K
ins-append (In bytes ∷ J) K = ap (λ x. bytes ++ x) (ins-append J K) ∙ sym (append_assoc bytes (ins J) (ins K))

-- a prefix of the bytes went out, and the rest is still to come
pub record SentBefore (bytes rest : List ℕ) (entries : List Entry) : Type 0 where
  pub outs_alone : All IsOut entries
  pub so_far : bytes ≡ outs entries ++ rest

-- at first nothing went out
pub sent_none : (bytes : List ℕ) → SentBefore bytes bytes []
sent_none bytes = record { outs_alone = All-nil IsOut; so_far = refl }

-- and then n bytes of the rest
pub sent_more : {bytes rest : List ℕ} (n : ℕ) (J : List Entry) → SentBefore bytes rest J → SentBefore bytes (between n (length rest) rest) (J ++ Out (take n rest) ∷ [])
sent_more {bytes} {rest} n J s = rw (between_to_end rest n (length rest) (omega arith)) (record {
  outs_alone = All-push IsOut J (Out (take n rest)) s.outs_alone tt;
  so_far = s.so_far ∙ ap (λ x. outs J ++ x) (sym (take-append-drop n rest)) ∙ sym (append_assoc (outs J) (take n rest) (drop n rest))
      ∙ ap (λ x. x ++ drop n rest) (sym (outs-append J (Out (take n rest) ∷ []) ∙ ap (λ x. outs J ++ x) (append-nil (take n rest))));
})

-- what went out is a prefix of the bytes
pub sent_front : {bytes rest : List ℕ} (J : List Entry) → SentBefore bytes rest J → SentFront bytes J
sent_front {bytes} {rest} J s = record { outs_alone = s.outs_alone; after = rest; front = s.so_far }

-- and all of them where nothing is left
pub sent_all : {bytes : List ℕ} (rest : List ℕ) (J : List Entry) → length rest ≡ 0 → SentBefore bytes rest J → SentAll bytes J
sent_all {bytes} [] J e s = record { outs_alone = s.outs_alone; all = sym (s.so_far ∙ append-nil (outs J)) }
sent_all {bytes} (x ∷ rest) J e s = absurd (omega arith)
