-- Where the machine stops is the fault, and what it reads to the end is a query.
use Rattle.std.proofs.Common.{◌≡◌, List, [], ◌∷◌, ◌++◌, Some, None, refl, sym, ◌∙◌, append_assoc}
use Rattle.query_text.specs.Token.{Token}
use Rattle.query_text.specs.Grammar.{query_tokens}
use Rattle.query_text.specs.Machine.{stuck, start}
use Rattle.query_text.specs.Fault.{IsFront, IsFault, IsQuery}
use Rattle.query_text.proofs.Derives.{Derives}
use Rattle.query_text.proofs.Queries.{query_read}
use Rattle.query_text.proofs.Reading.{stops, stops_again, reads_all}

query_of : (w : List Token) → Derives start w [] → IsQuery w
query_of w d = (
  record { stream = d.first.it; streams = d.second.first.it; lets = d.second.second.first.it; body = d.second.second.second.first.it },
  sym (rw (d.first.spells, d.second.first.spells, d.second.second.first.spells, d.second.second.second.first.spells, d.second.second.second.second) refl),
)

front_of : (front rest : List Token) → Derives start (front ++ rest) [] → IsFront front
front_of front rest d = let q = query_of (front ++ rest) d in record { query = q.0; rest = rest; begins = q.1 }

-- what the machine reads to the end is a query
pub read_query : (ts : List Token) → stuck start ts ≡ None → IsQuery ts
read_query ts e = query_of ts (reads_all start ts e)

-- where the machine stops is the first token with which no query begins
pub fault_of : (ts rest : List Token) → stuck start ts ≡ Some rest → IsFault ts rest
fault_of ts rest e =
    let s = stops start ts rest e in
    record {
      front = s.front;
      whole = s.whole;
      good = front_of s.front s.completes.rest s.completes.derives;
      first = λ t more is f.
          let again = stops_again s.front start t more f.rest (rw (← is, ← s.whole) e) in
          let read = query_read f.query in
          let same : query_tokens f.query ≡ s.front ++ t ∷ f.rest = f.begins ∙ append_assoc s.front (t ∷ []) f.rest in
          cc;
      ended = λ h q. let read = query_read q.0 in let same = q.1 in cc;
    }

-- a query has no fault
pub no_fault : (tokens rest : List Token) → IsQuery tokens → IsFault tokens rest → ⊥
no_fault tokens [] q f = f.ended refl q
no_fault tokens (t ∷ more) q f = f.first t more refl (record { query = q.0; rest = more; begins = q.1 ∙ f.whole ∙ sym (append_assoc f.front (t ∷ []) more) })
