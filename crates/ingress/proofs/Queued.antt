-- The open starts in a map, where those of one key are set.
use Rattle.std.specs.Prelude.{◌≡◌, ◌<◌, nat_eq, Bool, true, false, cond, Option, Some, None, List, [], ◌∷◌, ◌++◌, length, drop, refl}
use Rattle.std.specs.declared.collections.VecDeque.{VecDeque}
use Rattle.std.proofs.Common.{sym, ◌∙◌, ap, subst, arith}
use Rattle.std.proofs.lemmas.Bool.Decides.{nat_tests}
use Rattle.std.proofs.lemmas.List.{length-append}
use Rattle.indexmap.specs.IndexMap.{IndexMap, get}
use Rattle.ingress.specs.declared.opens.OpenKey.{OpenKey}
use Rattle.ingress.specs.declared.opens.OpenStart.{OpenStart}
use Rattle.ingress.specs.OpenKeys.{same_key, same_key-Decides, starts_if, starts_in, names_none, NoneIsEmpty}

pub none_left : (xs : List OpenStart) → length xs ≡ 0 → xs ≡ []
none_left [] e = refl
none_left (x ∷ xs) e = absurd (omega (arith, e))

module _ {S T : Type 0} (m n : IndexMap OpenKey (VecDeque OpenStart S) T) (k : OpenKey) where
  set_starts : (f : List OpenStart → List OpenStart) (o : Option (VecDeque OpenStart S)) →
      ((q : OpenKey) → get same_key n q ≡ cond (same_key k q) o (get same_key m q)) → starts_if o ≡ f (starts_in m k) →
      (r : OpenKey) → starts_in n r ≡ cond (same_key k r) (f (starts_in m r)) (starts_in m r)
  set_starts f o set is r = ap starts_if (set r) ∙ pick (same_key k r) refl
    where
      pick : (b : Bool) → same_key k r ≡ b → starts_if (cond b o (get same_key m r)) ≡ cond b (f (starts_in m r)) (starts_in m r)
      pick true e = is ∙ ap (λ x. f (starts_in m x)) ((same_key-Decides k r).0 e)
      pick false e = refl

  same_either : (b : Bool) (xs : List OpenStart) → cond b xs xs ≡ xs
  same_either true xs = refl
  same_either false xs = refl

  -- a key that names none
  pub none_closed : get same_key m k ≡ None → n ≡ m →
      (r : OpenKey) → starts_in n r ≡ cond (same_key k r) (drop 1 (starts_in m r)) (starts_in m r)
  none_closed none same r = ap (λ x. starts_in x r) same ∙ pick (same_key k r) refl
    where
      pick : (b : Bool) → same_key k r ≡ b → starts_in m r ≡ cond b (drop 1 (starts_in m r)) (starts_in m r)
      pick true e =
          let empty : starts_in m r ≡ [] = ap (starts_in m) (sym ((same_key-Decides k r).0 e)) ∙ ap starts_if none in
          empty ∙ ap (drop 1) (sym empty)
      pick false e = refl

  module _ (d d2 : VecDeque OpenStart S) (found : Some d ≡ get same_key m k)
      (set : (q : OpenKey) → get same_key n q ≡ cond (same_key k q) (Some d2) (get same_key m q)) where
    are : d.items ≡ starts_in m k
    are = ap starts_if found

    pub pushed_starts : (x : OpenStart) → d2.items ≡ d.items ++ x ∷ [] →
        (r : OpenKey) → starts_in n r ≡ cond (same_key k r) (starts_in m r ++ x ∷ []) (starts_in m r)
    pushed_starts x e = set_starts (λ l. l ++ x ∷ []) (Some d2) set (e ∙ ap (λ l. l ++ x ∷ []) are)

    pub kept_starts : d2.items ≡ d.items → (r : OpenKey) → starts_in n r ≡ starts_in m r
    kept_starts e r = set_starts (λ l. l) (Some d2) set (e ∙ are) r ∙ same_either (same_key k r) (starts_in m r)

    pub closed_starts : d2.items ≡ drop 1 d.items →
        (r : OpenKey) → starts_in n r ≡ cond (same_key k r) (drop 1 (starts_in m r)) (starts_in m r)
    closed_starts e = set_starts (drop 1) (Some d2) set (e ∙ ap (drop 1) are)

    -- and the key is let go where it names none
    pub gone_starts : (n2 : IndexMap OpenKey (VecDeque OpenStart S) T) → d2.items ≡ drop 1 d.items → d2.items ≡ [] →
        ((q : OpenKey) → get same_key n2 q ≡ cond (same_key k q) None (get same_key n q)) →
        (r : OpenKey) → starts_in n2 r ≡ cond (same_key k r) (drop 1 (starts_in m r)) (starts_in m r)
    gone_starts n2 e empty gone r = ap starts_if (gone r) ∙ (pick (same_key k r) refl ∙ closed_starts e r)
      where
        pick : (b : Bool) → same_key k r ≡ b → starts_if (cond b None (get same_key n r)) ≡ starts_in n r
        pick true f = sym empty ∙ sym (ap starts_if (set r) ∙ ap (λ b. starts_if (cond b (Some d2) (get same_key m r))) f)
        pick false f = refl

  pub new_starts : (x : OpenStart) (d d2 : VecDeque OpenStart S) → get same_key m k ≡ None → d.items ≡ [] → d2.items ≡ d.items ++ x ∷ [] →
      (m2 : IndexMap OpenKey (VecDeque OpenStart S) T) → m2 ≡ m →
      ((q : OpenKey) → get same_key n q ≡ cond (same_key k q) (Some d2) (get same_key m2 q)) →
      (r : OpenKey) → starts_in n r ≡ cond (same_key k r) (starts_in m r ++ x ∷ []) (starts_in m r)
  new_starts x d d2 none empty e m2 same set = set_starts (λ l. l ++ x ∷ []) (Some d2)
      (λ q. set q ∙ ap (λ z. cond (same_key k q) (Some d2) (get same_key z q)) same)
      (e ∙ ap (λ l. l ++ x ∷ []) (empty ∙ sym (ap starts_if none)))

  -- no key is empty still, where this one is not or is gone
  pub some_set : NoneIsEmpty m → (o : Option (VecDeque OpenStart S)) → names_none o ≡ false → ((q : OpenKey) → get same_key n q ≡ cond (same_key k q) o (get same_key m q)) → NoneIsEmpty n
  some_set h o some set q = ap names_none (set q) ∙ pick (same_key k q)
    where
      pick : (b : Bool) → names_none (cond b o (get same_key m q)) ≡ false
      pick true = some
      pick false = h q

  -- the starts of a key that the map has
  pub some_there : NoneIsEmpty m → (d : VecDeque OpenStart S) → Some d ≡ get same_key m k → 0 < length d.items
  some_there h d found = let e : nat_eq (length d.items) 0 ≡ false = ap names_none found ∙ h k in grind (arith, nat_tests)

pub some_long : {S : Type 0} (d : VecDeque OpenStart S) → 0 < length d.items → names_none (Some d) ≡ false
some_long d some = grind (arith, nat_tests)

-- a map that is the same
pub some_same : {S T : Type 0} (m n : IndexMap OpenKey (VecDeque OpenStart S) T) → NoneIsEmpty m → n ≡ m → NoneIsEmpty n
some_same m n h e = subst NoneIsEmpty (sym e) h

pub some_pushed : (xs ys : List OpenStart) (x : OpenStart) → ys ≡ xs ++ x ∷ [] → 0 < length ys
some_pushed xs ys x e = omega (arith, ap length e, length-append xs (x ∷ []))

-- a map that lets a key go from one where it was set
pub some_gone : {S T : Type 0} (m n n2 : IndexMap OpenKey (VecDeque OpenStart S) T) (k : OpenKey) (o : Option (VecDeque OpenStart S)) → NoneIsEmpty m →
    ((q : OpenKey) → get same_key n q ≡ cond (same_key k q) o (get same_key m q)) → ((q : OpenKey) → get same_key n2 q ≡ cond (same_key k q) None (get same_key n q)) → NoneIsEmpty n2
some_gone m n n2 k o h set gone = some_set m n2 k h None refl (λ q. gone q ∙ pick q (same_key k q) refl)
  where
    pick : (q : OpenKey) (b : Bool) → same_key k q ≡ b → cond b None (get same_key n q) ≡ cond b None (get same_key m q)
    pick q true e = refl
    pick q false e = set q ∙ ap (λ b. cond b o (get same_key m q)) e
