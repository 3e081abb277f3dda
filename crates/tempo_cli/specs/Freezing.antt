-- What a run has done that writes a checkpoint at the end of its input, by its status.
use Rattle.std.specs.Prelude.{◌≡◌, ◌≤◌, ◌⊎◌, ◌++◌, ℕ, Bool, true, false, List, None, length, All}
use Rattle.wire_lines.specs.Journal.{Entry, ins, outs, ended}
use Rattle.wire_lines.specs.Lines.{lines}
use Rattle.frozen_state.specs.Frozen.{FrozenView}
use Rattle.checkpoint.specs.Form.{FormView}
use Rattle.checkpoint.specs.Text.{checkpoint_lines, IsOfForm}
use Rattle.checkpoint.specs.Writing.{bytes_of}
use Rattle.tempo_cli.specs.Answers.{Answers, IsFront}
use Rattle.tempo_cli.specs.Table.{IsEnd, IsPrompt}
use Rattle.tempo_cli.specs.Resumed.{going_on}
use Rattle.tempo_cli.specs.declared.status.Status.{Status}
use Rattle.tempo_cli.specs.declared.status.Status.TheVariants.{Done, WriteFault}

-- the line is no longer than a line of input may be
abbrev pub IsShort : List ℕ → Type 0
IsShort line = length line ≤ 65536

-- this has a text of this form, no line of which is longer than a line of input may be
pub record HasText (form : FormView) (frozen : FrozenView) : Type 0 where
  pub of_form : IsOfForm form frozen
  pub short : All IsShort (checkpoint_lines form.head frozen)

-- the lines C are a checkpoint of this form of something that fits, and each of them is short
pub record Froze (form : FormView) (Fits : FrozenView → Type 0) (C : List (List ℕ)) : Type 0 where
  pub frozen : FrozenView
  pub fits : Fits frozen
  pub of_form : IsOfForm form frozen
  pub text : C ≡ checkpoint_lines form.head frozen
  pub short : All IsShort C

-- all that the lines call for was written, and then a checkpoint
pub record IsFrozen (a : Answers) (Froze : List (List ℕ) → Type 0) (bytes out : List ℕ) (ended : Bool) : Type 0 where
  pub at_end : ended ≡ true
  pub no_fault : a.fault (lines bytes true) false ≡ None
  pub C : List (List ℕ)
  pub froze : Froze C
  pub written : out ≡ a.text (lines bytes true) false ++ bytes_of C

-- a prefix of that was; of the checkpoint only where the input has ended
abbrev pub IsFrontFrozen : Answers → (List (List ℕ) → Type 0) → List ℕ → List ℕ → Bool → Type 0
IsFrontFrozen a Froze bytes out ended = IsFront out (a.text (lines bytes ended) false)
    ⊎ ((ended ≡ true) × ((C : List (List ℕ)) × (Froze C × IsFront out (a.text (lines bytes true) false ++ bytes_of C))))

-- the table of a run whose input goes on, but for a checkpoint at the end
abbrev pub IsFreezeEnd : Answers → (List (List ℕ) → Type 0) → Status → List ℕ → List ℕ → Bool → Type 0
IsFreezeEnd a Froze Done bytes out ended = IsFrozen a Froze bytes out ended
IsFreezeEnd a Froze WriteFault bytes out ended = IsFrontFrozen a Froze bytes out ended
IsFreezeEnd a Froze status bytes out ended = IsEnd (going_on a) status bytes out ended

-- the run was prompt, and ended as its status says. Froze says of lines, all that came in, and a checkpoint that it is of those lines
pub record Freezes (a : Answers) (Froze : List (List ℕ) → List (List ℕ) → Type 0) (status : Status) (J : List Entry) : Type 0 where
  pub prompt : IsPrompt a J
  pub end : IsFreezeEnd a (Froze (lines (ins J) true)) status (ins J) (outs J) (ended J)
