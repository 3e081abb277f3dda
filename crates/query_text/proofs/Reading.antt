-- The machine over any stack: what it has read can be completed, and it looks at no token before its turn.
use Rattle.std.proofs.Common.{◌≡◌, ◌≤◌, suc, Bool, true, false, cond, ◌&&◌, List, [], ◌∷◌, ◌++◌, length, Option, Some, None, refl, ap, sym, subst, length-append, arith}
use Rattle.query_text.specs.declared.symbol.Symbol.{Symbol}
use Rattle.query_text.specs.declared.symbol.Symbol.TheVariants as Y
use Rattle.query_text.specs.Grammar as G
use Rattle.query_text.specs.Token.{Token, kind}
use Rattle.query_text.specs.Machine.{Choice, take, skip, no, pushed, choose, after, stuck, stuck_then, may_end, all_may_end}
use Rattle.query_text.proofs.Derives.{Means, Derives, derives_split, filled}
use Rattle.query_text.proofs.Sound.{Sound, sound}

pushed_sound : (s : Symbol) (k k' : List Symbol) (t : Token) (w z : List Token) (c : Choice) (x : Option (List Symbol))
    → Sound c t (Means s) → (x ≡ Some k' → Derives k (t ∷ w) z) → pushed c k x ≡ Some k' → Derives k' w z → Derives (s ∷ k) (t ∷ w) z
pushed_sound s k k' t w z (take g) x h go e d =
    let q : g ++ k ≡ k' = cc in
    let r = derives_split g k w z (subst (λ (y : List Symbol). Derives y w z) (sym q) d) in
    record { middle = r.middle; first = h w r.middle r.first; second = r.second }
pushed_sound s k k' t w z skip x h go e d = record { middle = t ∷ w; first = h (t ∷ w); second = go e }
pushed_sound s k k' t w z no x h go e d = cc

after_sound : (k k' : List Symbol) (t : Token) (w z : List Token) → after k (kind t) ≡ Some k' → Derives k' w z → Derives k (t ∷ w) z
unfolding after
after_sound [] k' t w z e d = cc
after_sound (s ∷ k) k' t w z e d = pushed_sound s k k' t w z (choose s (kind t)) (after k (kind t)) (sound s t) (λ f. after_sound k k' t w z f d) e d

pub record Completes (k : List Symbol) (front : List Token) : Type 0 where
  pub rest : List Token
  pub derives : Derives k (front ++ rest) []

any : (k : List Symbol) → Completes k []
any [] = record { rest = []; derives = refl }
any (s ∷ k) = let r = any k in let f = filled s r.rest in
    record { rest = f.tokens; derives = record { middle = r.rest; first = f.means; second = r.derives } }

pub record Stops (k : List Symbol) (ts z : List Token) : Type 0 where
  pub front : List Token
  pub whole : ts ≡ front ++ z
  pub completes : Completes k front

stops_then : (k : List Symbol) (t : Token) (ts z : List Token) (a : Option (List Symbol))
    → ((k' : List Symbol) → a ≡ Some k' → (w : List Token) → Derives k' w [] → Derives k (t ∷ w) [])
    → ((k' : List Symbol) → stuck k' ts ≡ Some z → Stops k' ts z)
    → stuck_then (λ k'. stuck k' ts) a (t ∷ ts) ≡ Some z → Stops k (t ∷ ts) z
stops_then k t ts z None s go e = record { front = []; whole = cc; completes = any k }
stops_then k t ts z (Some k') s go e =
    let r = go k' e in
    record {
      front = t ∷ r.front;
      whole = ap (λ x. t ∷ x) r.whole;
      completes = record { rest = r.completes.rest; derives = s k' refl (r.front ++ r.completes.rest) r.completes.derives };
    }

-- where the machine stops, the tokens before can be completed
pub stops : (k : List Symbol) (ts z : List Token) → stuck k ts ≡ Some z → Stops k ts z
unfolding stuck
stops k [] z e = stops_end k z (all_may_end k) e
  where
    stops_end : (k : List Symbol) (z : List Token) (b : Bool) → cond b None (Some []) ≡ Some z → Stops k [] z
    stops_end k z true e = cc
    stops_end k z false e = record { front = []; whole = cc; completes = any k }
stops k (t ∷ ts) z e = stops_then k t ts z (after k (kind t)) (λ k' f w d. after_sound k k' t w [] f d) (λ k' f. stops k' ts z f) e

shorter_then : (t : Token) (ts z : List Token) (a : Option (List Symbol)) → ((k' : List Symbol) → stuck k' ts ≡ Some z → length z ≤ length ts)
    → stuck_then (λ k'. stuck k' ts) a (t ∷ ts) ≡ Some z → length z ≤ suc (length ts)
shorter_then t ts z None go e = let f : z ≡ t ∷ ts = cc in rw f (omega arith)
shorter_then t ts z (Some k) go e = let h = go k e in omega arith

shorter : (k : List Symbol) (ts z : List Token) → stuck k ts ≡ Some z → length z ≤ length ts
unfolding stuck
shorter k [] z e = shorter_end z (all_may_end k) e
  where
    shorter_end : (z : List Token) (b : Bool) → cond b None (Some []) ≡ Some z → length z ≤ 0
    shorter_end z true e = cc
    shorter_end z false e = let f : z ≡ [] = cc in rw f (omega arith)
shorter k (t ∷ ts) z e = shorter_then t ts z (after k (kind t)) (λ k' f. shorter k' ts z f) e

-- whatever follows the token that can't come, the machine stops at it
pub stops_again : (front : List Token) (k : List Symbol) (t : Token) (more other : List Token) → stuck k (front ++ t ∷ more) ≡ Some (t ∷ more) → stuck k (front ++ t ∷ other) ≡ Some (t ∷ other)
unfolding stuck
stops_again [] k t more other e = here (after k (kind t)) e
  where
    here : (a : Option (List Symbol)) → stuck_then (λ k'. stuck k' more) a (t ∷ more) ≡ Some (t ∷ more) → stuck_then (λ k'. stuck k' other) a (t ∷ other) ≡ Some (t ∷ other)
    here None e = refl
    here (Some k') e = absurd (let h = shorter k' more (t ∷ more) e in omega arith)
stops_again (x ∷ front) k t more other e = there (after k (kind x)) (λ k'. stops_again front k' t more other) e
  where
    there : (a : Option (List Symbol)) → ((k' : List Symbol) → stuck k' (front ++ t ∷ more) ≡ Some (t ∷ more) → stuck k' (front ++ t ∷ other) ≡ Some (t ∷ other))
        → stuck_then (λ k'. stuck k' (front ++ t ∷ more)) a (x ∷ (front ++ t ∷ more)) ≡ Some (t ∷ more) → stuck_then (λ k'. stuck k' (front ++ t ∷ other)) a (x ∷ (front ++ t ∷ other)) ≡ Some (t ∷ other)
    there None again e = absurd (let f : x ∷ (front ++ t ∷ more) ≡ t ∷ more = cc in omega (arith, ap length f, length-append front (t ∷ more)))
    there (Some k') again e = again k' e

-- what may end stands for nothing too
ends_sound : (s : Symbol) → may_end s ≡ true → Means s [] []
ends_sound Y.Stream e = cc
ends_sound Y.Streams e = record { it = []; spells = refl }
ends_sound Y.Col e = cc
ends_sound Y.ColKind e = cc
ends_sound Y.Cols e = record { it = []; spells = refl }
ends_sound Y.Lets e = record { it = []; spells = refl }
ends_sound Y.Pipe e = cc
ends_sound Y.Steps e = record { it = []; spells = refl }
ends_sound Y.Step e = cc
ends_sound Y.Item e = cc
ends_sound Y.ItemRest e = λ n. record { it = G.alone n; spells = refl }
ends_sound Y.Items e = record { it = []; spells = refl }
ends_sound Y.Agg e = cc
ends_sound Y.Aggs e = record { it = []; spells = refl }
ends_sound Y.By e = record { it = G.no_by; spells = refl }
ends_sound Y.On e = record { it = G.no_on; spells = refl }
ends_sound Y.Names e = cc
ends_sound Y.MoreNames e = record { it = []; spells = refl }
ends_sound Y.Expr e = cc
ends_sound Y.Ors e = record { it = G.no_or; spells = refl }
ends_sound Y.Conj e = cc
ends_sound Y.Ands e = record { it = G.no_and; spells = refl }
ends_sound Y.Neg e = cc
ends_sound Y.Test e = record { it = G.no_test; spells = refl }
ends_sound Y.Sum e = cc
ends_sound Y.Terms e = record { it = G.no_term; spells = refl }
ends_sound Y.Prod e = cc
ends_sound Y.Factors e = record { it = G.no_factor; spells = refl }
ends_sound Y.Unary e = cc
ends_sound Y.Atom e = cc
ends_sound Y.Named e = cc
ends_sound Y.Int e = cc
ends_sound Y.Pos e = cc
ends_sound Y.Places e = cc
ends_sound Y.Per e = record { it = G.no_per; spells = refl }
ends_sound Y.Else e = record { it = G.no_else; spells = refl }
ends_sound Y.Lits e = record { it = []; spells = refl }
ends_sound Y.Lit e = cc
ends_sound Y.Unsigned e = cc
ends_sound (Y.Word s) e = cc

all_end_sound : (k : List Symbol) → all_may_end k ≡ true → Derives k [] []
all_end_sound [] e = refl
all_end_sound (s ∷ k) e = both (may_end s) (all_may_end k) (ends_sound s) (all_end_sound k) e
  where
    both : (a b : Bool) → (a ≡ true → Means s [] []) → (b ≡ true → Derives k [] []) → (a && b) ≡ true → Derives (s ∷ k) [] []
    both true true m d e = record { middle = []; first = m refl; second = d refl }
    both true false m d e = cc
    both false b m d e = cc

abbrev finish : Bool → Option (List Token)
finish b = cond b None (Some [])

ends_none : (k : List Symbol) (b : Bool) → (b ≡ true → Derives k [] []) → finish b ≡ None → Derives k [] []
ends_none k true d e = d refl
ends_none k false d e = cc

-- what the machine reads to its end is spelled by its stack
pub reads_all : (k : List Symbol) (ts : List Token) → stuck k ts ≡ None → Derives k ts []
unfolding stuck
reads_all k [] e = ends_none k (all_may_end k) (all_end_sound k) e
reads_all k (t ∷ ts) e = on (after k (kind t)) (λ k' f d. after_sound k k' t ts [] f d) (λ k' f. reads_all k' ts f) e
  where
    on : (a : Option (List Symbol)) → ((k' : List Symbol) → a ≡ Some k' → Derives k' ts [] → Derives k (t ∷ ts) []) → ((k' : List Symbol) → stuck k' ts ≡ None → Derives k' ts [])
        → stuck_then (λ k'. stuck k' ts) a (t ∷ ts) ≡ None → Derives k (t ∷ ts) []
    on None s go e = cc
    on (Some k') s go e = s k' refl (go k' e)
