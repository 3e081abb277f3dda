-- What one call or two added to a journal.
use Rattle.std.proofs.Common.{◌++◌, List, Option, Some, ◌∙◌, ap, append_assoc}
use Rattle.wire_lines.specs.Journal.{Entry, Adds, Grows}

pub adds_grows : {a b : Option (List Entry)} {P : List Entry → Type 0} {K : List Entry} → Adds a b K → P K → Grows a b P
adds_grows {a} {b} {P} {K} adds p = record { grown = λ told e. (K, adds.added told e, p) }

pub adds_both : {a b c : Option (List Entry)} {P : List Entry → Type 0} {K M : List Entry} → Adds a b K → Adds b c M → P (K ++ M) → Grows a c P
adds_both {a} {b} {c} {P} {K} {M} one two p = record { grown = λ told e. (K ++ M, two.added (told ++ K) (one.added told e) ∙ ap Some (append_assoc told K M), p) }
