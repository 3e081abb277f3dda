-- How far a sweep has come.
use Rattle.std.specs.Prelude.{◌≡◌, ℕ, ◌-◌, ◌≤◌, List}
use Rattle.tw_rows.specs.Rows.{Row}
use Rattle.tw_rows.specs.declared.kind.Kind.{Kind}
use Rattle.plan_model.specs.Changes.{changes}
use Rattle.egress.specs.Instants.{AreOpen}
use Rattle.egress.specs.Print.{print}

-- all instants from a up to t are shown, t not, and these are the open starts just before t. From 3 to 5 the text has the
-- lines of 3 and 4
pub record Reached (rows : ℕ → List Row) (kinds : List Kind) (a t : ℕ) (since : Row → List ℕ) (text : List ℕ) : Type 0 where
  pub low : a ≤ t
  pub shown : text ≡ print kinds (changes rows a (t - a))
  pub opened : AreOpen rows t since
