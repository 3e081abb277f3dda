-- Steps over the same multisets of events give the same multisets of events.
use Rattle.std.specs.Prelude.{◌≡◌, ℕ, ◌+◌, nat_lt, nat_le, nat_eq, Bool, true, false, cond, not, ◌&&◌, List, [], ◌∷◌, map, filter, refl}
use Rattle.std.proofs.Common.{sym, ◌∙◌, ap, arith}
use Rattle.std.proofs.lemmas.Bool.Decides.{nat_tests}
use Rattle.tw_rows.specs.Instant.{inf, later}
use Rattle.tw_rows.specs.Bag.{total, SameBag}
use Rattle.tw_rows.specs.Event.{Event, lives_at, alive}
use Rattle.tw_rows.proofs.Bags.{SameBag-refl, SameBag-map, SameBag-filter, SameBag-flat_map, total-map, total_same}
use Rattle.tw_rows.proofs.Lives.{total-alive}
use Rattle.key_nodes.specs.Clips.{clip, clipped}
use Rattle.key_nodes.specs.Follows.{starts_within, followed_one, followed}
use Rattle.key_nodes.specs.Sessions.{least, any_between, session_end, session, sessions}
use Rattle.key_nodes.proofs.Bags.{any_of_same}
use Rattle.key_nodes.proofs.Least.{least_le}
use Rattle.plan_model.specs.Lives.{in_sessions}

-- the rows that are alive
pub alive_same : {R : Type 0} (a b : List (Event R)) (t : ℕ) → SameBag a b → SameBag (alive a t) (alive b t)
alive_same a b t h = record {
  weigh = λ w. total-alive w a t ∙ (h.weigh (λ e. cond (lives_at t e) (w e.row) 0) ∙ sym (total-alive w b t));
}

-- the least of some numbers
le_itself : (x : ℕ) → nat_le x x ≡ true
le_itself x = grind (arith, nat_tests)

le_both : (x y : ℕ) → nat_le x y ≡ true → nat_le y x ≡ true → x ≡ y
le_both x y h k = grind (arith, nat_tests)

pub least_same : (m : ℕ) (xs ys : List ℕ) → SameBag xs ys → least m xs ≡ least m ys
least_same m xs ys h =
    le_both (least m xs) (least m ys)
    (sym (alike (least m xs)) ∙ le_itself (least m xs))
    (alike (least m ys) ∙ le_itself (least m ys))
  where
    alike : (t : ℕ) → nat_le t (least m xs) ≡ nat_le t (least m ys)
    alike t = least_le t m xs ∙ (ap (λ k. nat_le t m && k) (ap (λ n. nat_eq n 0) (h.weigh (λ n. cond (nat_lt n t) 1 0))) ∙ sym (least_le t m ys))

map_alike : {X Y : Type 0} (f g : X → Y) (xs ys : List X) → ((x : X) → f x ≡ g x) → SameBag xs ys → SameBag (map f xs) (map g ys)
map_alike f g xs ys same h = record {
  weigh = λ w. total-map w f xs ∙ (total_same _ (λ x. w (g x)) xs (λ x. ap w (same x)) ∙ (h.weigh (λ x. w (g x)) ∙ sym (total-map w g ys)));
}

filter_alike : {X : Type 0} (p q : X → Bool) (xs : List X) → ((x : X) → p x ≡ q x) → filter p xs ≡ filter q xs
filter_alike p q [] same = refl
filter_alike p q (x ∷ xs) same =
    ap (λ l. cond (p x) (x ∷ l) l) (filter_alike p q xs same) ∙ ap (λ b. cond b (x ∷ filter q xs) (filter q xs)) (same x)

-- the ends of sessions
end_same : (timeout from : ℕ) (a b : List ℕ) → SameBag a b → session_end timeout a from ≡ session_end timeout b from
end_same timeout from a b h =
    ap (λ l. least inf (map (later timeout) l)) (filter_alike _ (λ s. nat_le from s && not (any_between b s (s + timeout))) a
    (λ s. ap (λ c. nat_le from s && not c) (any_of_same (λ x. nat_lt s x && nat_lt x (s + timeout)) a b h)))
    ∙ least_same inf _ _ (SameBag-map (later timeout) _ _ (SameBag-filter _ a b h))

pub sessions_same : {R K : Type 0} (key : R → K) (same : K → K → Bool) (timeout : ℕ) (a b : List (Event R)) → SameBag a b → SameBag (sessions key same timeout a) (sessions key same timeout b)
sessions_same {R} key same timeout a b h = map_alike (session key same timeout a) (session key same timeout b) a b one h
  where
    one : (e : Event R) → session key same timeout a e ≡ session key same timeout b e
    one e = ap (λ n. record { row = e.row; start = e.start; end = n })
        (end_same timeout e.start _ _ (SameBag-map (λ x. x.start) _ _ (SameBag-filter (λ x. same (key e.row) (key x.row)) a b h)))

pub in_sessions_same : {R K : Type 0} (key : R → K) (same : K → K → Bool) (timeout : ℕ) (a b : List (Event R)) → SameBag a b → SameBag (in_sessions key same timeout a) (in_sessions key same timeout b)
in_sessions_same key same timeout a b h = pick (nat_lt 0 timeout)
  where
    pick : (p : Bool) → SameBag (cond p (sessions key same timeout a) []) (cond p (sessions key same timeout b) [])
    pick true = sessions_same key same timeout a b h
    pick false = SameBag-refl []

-- the ends of clipped events
pub clipped_same : {L R : Type 0} (meets : L → R → Bool) (a c : List (Event L)) (b d : List (Event R)) → SameBag a c → SameBag b d → SameBag (clipped meets a b) (clipped meets c d)
clipped_same {L} meets a c b d h k = map_alike (clip meets b) (clip meets d) a c one h
  where
    one : (e : Event L) → clip meets b e ≡ clip meets d e
    one e = ap (λ n. record { row = e.row; start = e.start; end = n })
        (least_same e.end _ _ (SameBag-map (λ x. x.start) _ _ (SameBag-filter (λ x. meets e.row x.row && nat_lt e.start x.start) b d k)))

-- followed events
pub followed_same : {L R P : Type 0} (meets : L → R → Bool) (pair : L → R → P) (within : ℕ) (a c : List (Event L)) (b d : List (Event R)) → SameBag a c → SameBag b d →
    SameBag (followed meets pair within a b) (followed meets pair within c d)
followed_same {L} {R} meets pair within a c b d h k =
    SameBag-flat_map _ _ a c h (λ x. SameBag-flat_map (followed_one meets pair within b x) (followed_one meets pair within d x) b d k (λ y. one x y))
  where
    one : (x : Event L) (y : Event R) → SameBag (followed_one meets pair within b x y) (followed_one meets pair within d x y)
    one x y = record {
      weigh = λ w. ap (λ n. total w (cond (starts_within meets within x y && not n) (record { row = pair x.row y.row; start = y.start; end = later within x.start } ∷ []) []))
          (any_of_same (λ z. starts_within meets within x z && nat_lt z.start y.start) b d k);
    }
