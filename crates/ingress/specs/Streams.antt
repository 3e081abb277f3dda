-- The bounds and the marks of the declared streams.
use Rattle.std.specs.Prelude.{ℕ, ◌≤◌, max, List, length, get_or}
use Rattle.admission.specs.Admission.{least, stepped}
use Rattle.admission.specs.declared.policy.Policy.{Policy}
use Rattle.ingress.specs.declared.watermarks.Watermark.{Watermark}

abbrev pub unraised : Watermark
unraised = record { bound = 0; mark = 0 }

-- the bound and the mark of stream s, and 0 of a stream that nobody declared
abbrev pub bound_in : List Watermark → ℕ → ℕ
bound_in streams s = (get_or streams s unraised).bound

abbrev pub mark_in : List Watermark → ℕ → ℕ
mark_in streams s = (get_or streams s unraised).mark

-- no bound is below the mark of its stream
abbrev pub AreAbove : List Watermark → Type 0
AreAbove streams = (s : ℕ) → mark_in streams s ≤ bound_in streams s

-- the greatest punctuation that the bounds and marks allow: with the period 10, bounds 25 and 14 and marks 0 it is 10
abbrev pub allowed_in : Policy → List Watermark → ℕ
allowed_in policy streams =
    max (stepped policy.period (least (length streams) (bound_in streams))) (least (length streams) (mark_in streams))
