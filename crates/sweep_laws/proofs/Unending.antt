-- Sides of which only starts matter.
use Rattle.std.specs.Prelude.{◌≡◌, ℕ, ◌≤◌, ◌&&◌, nat_lt, Bool, true, false, cond, List, [], ◌∷◌, map, filter, refl}
use Rattle.std.proofs.Common.{sym, ◌∙◌, ap, arith}
use Rattle.std.proofs.lemmas.Bool.Decides.{nat_tests}
use Rattle.tw_rows.specs.Instant.{inf}
use Rattle.tw_rows.specs.Bag.{SameBag, total}
use Rattle.tw_rows.specs.Event.{AreEvents}
use Rattle.tw_rows.specs.declared.cells.Datum.{Datum}
use Rattle.tw_rows.specs.declared.edge.Edge.{Edge}
use Rattle.tw_rows.proofs.Bags.{total-map, total-filter, total-flat_map}
use Rattle.edge_history.specs.Order.{failing}
use Rattle.edge_history.specs.History.{CellEvent}
use Rattle.edge_history.specs.Balance.{news_of, news}
use Rattle.edge_history.specs.Opens.{is_start}
use Rattle.edge_history.proofs.Sums.{sum_eq}
use Rattle.edge_history.proofs.Telling.{is_event}
use Rattle.key_nodes.specs.Sessions.{least, session_end, session, sessions}
use Rattle.key_nodes.specs.Clips.{clip, clipped}
use Rattle.sweep_laws.specs.Unending.{unending}

unending_one : (w : Edge → ℕ) (c d : ℕ) (e : CellEvent) → d ≤ inf → is_event e ≡ true →
    total (λ x. cond (is_start x) (w x) 0) (news_of c d e) ≡ total w (news_of c d (unending e))
unending_one w c d e high h = grind (arith, nat_tests)

pub starts_are_news : (c d : ℕ) (a : List CellEvent) → d ≤ inf → failing is_event a ≡ 0 → SameBag (filter is_start (news c d a)) (news c d (map unending a))
starts_are_news c d a high valid = record {
  weigh = λ w.
      let s : Edge → ℕ = λ x. cond (is_start x) (w x) 0 in
      total-filter w is_start (news c d a) ∙ total-flat_map s (news_of c d) a
      ∙ sum_eq is_event _ _ a (λ e h. unending_one w c d e high h) valid
      ∙ sym (total-flat_map w (news_of c d) (map unending a) ∙ total-map (λ e. total w (news_of c d e)) unending a);
}

pub unending_valid : (a : List CellEvent) → AreEvents a → AreEvents (map unending a)
unending_valid [] h = tt
unending_valid (e ∷ es) h = (omega (arith, h), omega arith, unending_valid es h.2)

-- the starts of the events that a test of row and start chooses
starts_same : (p : List Datum → ℕ → Bool) (b : List CellEvent) →
    map (λ (e : CellEvent). e.start) (filter (λ e. p e.row e.start) (map unending b)) ≡ map (λ (e : CellEvent). e.start) (filter (λ e. p e.row e.start) b)
starts_same p [] = refl
starts_same p (e ∷ es) = pick (p e.row e.start) (starts_same p es)
  where
    pick : (c : Bool) → map (λ (e : CellEvent). e.start) (filter (λ e. p e.row e.start) (map unending es)) ≡ map (λ (e : CellEvent). e.start) (filter (λ e. p e.row e.start) es) →
        map (λ (e : CellEvent). e.start) (cond c (unending e ∷ filter (λ e. p e.row e.start) (map unending es)) (filter (λ e. p e.row e.start) (map unending es)))
        ≡ map (λ (e : CellEvent). e.start) (cond c (e ∷ filter (λ e. p e.row e.start) es) (filter (λ e. p e.row e.start) es))
    pick true rest = ap (λ l. e.start ∷ l) rest
    pick false rest = rest

pub sessions_unending : {K : Type 0} (key : List Datum → K) (same : K → K → Bool) (timeout : ℕ) (a : List CellEvent) → sessions key same timeout (map unending a) ≡ sessions key same timeout a
sessions_unending key same timeout a = go a
  where
    one : (e : CellEvent) → session key same timeout (map unending a) (unending e) ≡ session key same timeout a e
    one e =
        let make : List ℕ → CellEvent = λ s. record { row = e.row; start = e.start; end = session_end timeout s e.start } in
        ap make (starts_same (λ row n. same (key e.row) (key row)) a)

    go : (es : List CellEvent) → map (session key same timeout (map unending a)) (map unending es) ≡ map (session key same timeout a) es
    go [] = refl
    go (e ∷ es) = λ i. one e i ∷ go es i

pub clipped_unending : (meets : List Datum → List Datum → Bool) (a b : List CellEvent) → clipped meets a (map unending b) ≡ clipped meets a b
clipped_unending meets a b = go a
  where
    one : (e : CellEvent) → clip meets (map unending b) e ≡ clip meets b e
    one e =
        let make : List ℕ → CellEvent = λ s. record { row = e.row; start = e.start; end = least e.end s } in
        ap make (starts_same (λ row n. meets e.row row && nat_lt e.start n) b)

    go : (es : List CellEvent) → map (clip meets (map unending b)) es ≡ map (clip meets b) es
    go [] = refl
    go (e ∷ es) = λ i. one e i ∷ go es i
