-- A sweep from instant to instant: what it has shown, and what is open.
use Rattle.std.specs.Prelude.{◌≡◌, ℕ, suc, ◌+◌, ◌-◌, ◌<◌, ◌≤◌, List, [], ◌++◌}
use Rattle.std.proofs.Common.{sym, ◌∙◌, ap, subst, arith}
use Rattle.std.proofs.lemmas.List.{append-nil}
use Rattle.std.proofs.lemmas.List.Concat.{flat_map-append}
use Rattle.tw_rows.specs.Bag.{SameBag}
use Rattle.tw_rows.specs.Rows.{Row}
use Rattle.tw_rows.specs.declared.kind.Kind.{Kind}
use Rattle.plan_model.specs.Opens.{before}
use Rattle.plan_model.specs.Changes.{changes_at, changes}
use Rattle.plan_model.proofs.Counting.{changes-add}
use Rattle.plan_model.proofs.Steady.{quiet}
use Rattle.egress.specs.Instants.{AreOpen}
use Rattle.egress.specs.Print.{line_text, print}
use Rattle.egress.specs.Reached.{Reached}
use Rattle.egress.proofs.Touched.{quiet_open}

-- the changes up to a later instant are those so far, and those from there on
in_parts : (rows : ℕ → List Row) (a t u : ℕ) → a ≤ t → t ≤ u → changes rows a (u - a) ≡ changes rows a (t - a) ++ changes rows t (u - t)
in_parts rows a t u low high =
    let e : u - a ≡ (t - a) + (u - t) = omega (arith, low, high) in
    let f : a + (t - a) ≡ t = omega (arith, low) in
    ap (changes rows a) e ∙ changes-add rows a (t - a) (u - t) ∙ ap (λ x. changes rows a (t - a) ++ changes rows x (u - t)) f

one_instant : (rows : ℕ → List Row) (t : ℕ) → changes rows t (suc t - t) ≡ changes_at rows t
unfolding changes
one_instant rows t = let e : suc t - t ≡ 1 = omega arith in ap (changes rows t) e ∙ append-nil (changes_at rows t)

module _ (rows : ℕ → List Row) (kinds : List Kind) where
  pub reached_first : (a : ℕ) (since : Row → List ℕ) → AreOpen rows a since → Reached rows kinds a a since []
  unfolding changes
  reached_first a since h = record {
    low = omega arith;
    shown = let e : a - a ≡ 0 = omega arith in sym (ap (λ n. print kinds (changes rows a n)) e);
    opened = h;
  }

  pub reached_next : (a t : ℕ) (since since2 : Row → List ℕ) (text text2 : List ℕ) → Reached rows kinds a t since text →
      text2 ≡ text ++ print kinds (changes_at rows t) → AreOpen rows (suc t) since2 → Reached rows kinds a (suc t) since2 text2
  reached_next a t since since2 text text2 r e h = record {
    low = let z = r.low in omega (arith, z);
    shown =
        e ∙ ap (λ l. l ++ print kinds (changes_at rows t)) r.shown
        ∙ sym (flat_map-append (line_text kinds) (changes rows a (t - a)) (changes_at rows t))
        ∙ ap (print kinds) (
        ap (λ l. changes rows a (t - a) ++ l) (sym (one_instant rows t))
        ∙ sym (in_parts rows a t (suc t) r.low (omega arith)));
    opened = h;
  }

  pub reached_later : (a t u : ℕ) (since : Row → List ℕ) (text : List ℕ) → t ≤ u →
      ((v : ℕ) → t ≤ v → v < u → SameBag (before rows v) (rows v)) → Reached rows kinds a t since text → Reached rows kinds a u since text
  reached_later a t u since text high still r =
      let e : t + (u - t) ≡ u = omega (arith, high) in
      record {
        low = let z = r.low in omega (arith, z, high);
        shown =
            r.shown
            ∙ ap (print kinds) (
            sym (append-nil (changes rows a (t - a)))
            ∙ ap (λ l. changes rows a (t - a) ++ l) (sym (quiet rows t (u - t) (λ v from below. still v from (omega (arith, below, high)))))
            ∙ sym (in_parts rows a t u r.low high));
        opened = subst (λ v. AreOpen rows v since) e (quiet_open rows t (u - t) since (λ v from below. still v from (omega (arith, below, high))) r.opened);
      }
