-- What admission keeps from line to line.
use Rattle.std.specs.Prelude.{◌≡◌, ◌≢◌, ℕ, ◌<◌, ◌≤◌, Some, List, [], ◌∷◌}
use Rattle.tw_rows.specs.Event.{AreEvents, Known}
use Rattle.tw_rows.specs.Instant.{inf}
use Rattle.row_reader.specs.declared.entry.Entry.{Entry}
use Rattle.row_reader.specs.declared.entry.Entry.TheVariants.{Punct, Event}
use Rattle.admission.specs.Admission.{Admission, rows}
use Rattle.admission.specs.Progress.{Progress}

-- the events have lifetimes, no mark is above its bound, and no bound above infinity
pub record IsSound (a : Admission) : Type 0 where
  pub made : (s : ℕ) → AreEvents (a.made s)
  pub marks : (s : ℕ) → a.mark s ≤ a.bound s
  pub low : (s : ℕ) → a.bound s ≤ inf

-- from a to b no bound falls, what is known of a stream below its bound stays, and of streams past the declared ones all
pub record Goes (streams : ℕ) (a b : Admission) : Type 0 where
  pub sound : IsSound b
  pub bounds : (s : ℕ) → a.bound s ≤ b.bound s
  pub known : (s c : ℕ) → c ≤ a.bound s → Known c (rows a s) (rows b s)
  pub others : (s c : ℕ) → streams ≤ s → c ≤ inf → Known c (rows a s) (rows b s)

-- the entry is an event or a punctuation of another stream than s
abbrev pub IsOfAnother : ℕ → Entry → Type 0
IsOfAnother s (Event k form sync other row) = s ≢ k
IsOfAnother s (Punct (Some k) time) = s ≢ k
IsOfAnother s entry = ⊥

-- each punctuation is above the one before it, and the first above p. Above 3: 5, 9
abbrev pub RiseAbove : ℕ → List ℕ → Type 0
RiseAbove p [] = Unit {0}
RiseAbove p (d ∷ ds) = (p < d) × RiseAbove d ds

-- the last punctuation, and p where there is none
abbrev pub last_of : ℕ → List ℕ → ℕ
last_of p [] = p
last_of p (d ∷ ds) = last_of d ds

-- the punctuations rise up to the last one, and no bound of a declared stream is below that
pub record IsGoing (streams : ℕ) (w : Progress) : Type 0 where
  pub sound : IsSound w.after
  pub low : w.last ≤ inf
  pub below : (s : ℕ) → s < streams → w.last ≤ w.after.bound s
  pub rise : RiseAbove 0 w.dues
  pub last : last_of 0 w.dues ≡ w.last
