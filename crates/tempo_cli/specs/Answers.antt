-- What is asked of an input: which fault its lines have, and which text is written for them.
use Rattle.std.specs.Prelude.{◌≡◌, ℕ, Bool, false, true, List, [], ◌∷◌, ◌++◌, Option, Some, None}
use Rattle.std.specs.List.{All}
use Rattle.wire_lines.specs.Lines.{HasNoLf}
use Rattle.admission.specs.Progress.{Fault}

-- the first fault of the lines of an input that has ended or goes on, and the text that is written for them
pub record Answers : Type 0 where
  pub fault : List (List ℕ) → Bool → Option Fault
  pub text : List (List ℕ) → Bool → List ℕ

-- the bytes begin with these
abbrev pub IsFront : List ℕ → List ℕ → Type 0
IsFront front bytes = (after : List ℕ) × (bytes ≡ front ++ after)

-- What was written stays, whatever lines follow; nothing follows a fault, and the line or the end at which it comes adds
-- nothing to the text.
pub record IsFinal (a : Answers) : Type 0 where
  pub silent : a.text [] false ≡ []
  pub front : (ls more : List (List ℕ)) (ended : Bool) → All HasNoLf (ls ++ more) → IsFront (a.text ls false) (a.text (ls ++ more) ended)
  pub stays : (ls more : List (List ℕ)) (ended : Bool) (f : Fault) → a.fault ls false ≡ Some f → a.fault (ls ++ more) ended ≡ Some f
  pub text_stays : (ls more : List (List ℕ)) (ended : Bool) (f : Fault) → a.fault ls false ≡ Some f → a.text (ls ++ more) ended ≡ a.text ls false
  pub no_more : (ls : List (List ℕ)) (line : List ℕ) (f : Fault) → All HasNoLf (ls ++ line ∷ []) → a.fault ls false ≡ None →
      a.fault (ls ++ line ∷ []) false ≡ Some f → a.text (ls ++ line ∷ []) false ≡ a.text ls false
  pub none_at_end : (ls : List (List ℕ)) (f : Fault) → a.fault ls false ≡ None → a.fault ls true ≡ Some f → a.text ls true ≡ a.text ls false
