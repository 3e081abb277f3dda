-- What is done at a symbol whose rule begins with another part.
use Rattle.std.proofs.Common.{◌≡◌, List, ◌++◌, sym, append_assoc, Result, Ok, Err, IfOk}
use Rattle.query_text.specs.declared.symbol.Symbol.{Symbol}
use Rattle.query_text.specs.declared.stack.Taken.{Taken}
use Rattle.query_text.specs.declared.stack.Taken.TheVariants as R
use Rattle.query_text.specs.Machine.{Choice, take, skip, no, before}
use Rattle.query_text.specs.Parsing.{Did}
use Rattle.query_text.proofs.Sound.{Decides}

did : (c : Choice) (more : List Symbol) (x : Taken) (mid old new : List Symbol) → Decides c → mid ≡ more ++ old → Did c x mid new → Did (before c more) x old new
did (take g) more R.Word mid old new h e d = rw (d, e) (sym (append_assoc g more old))
did (take g) more R.Nothing mid old new h e d = absurd d
did (take g) more R.Stop mid old new h e d = absurd d
did skip more x mid old new h e d = absurd h
did no more R.Word mid old new h e d = absurd d
did no more R.Nothing mid old new h e d = absurd d
did no more R.Stop mid old new h e d = tt

-- the rest was put on the stack first
pub did_before : {E : Type 0} (c : Choice) (more : List Symbol) (r : Result Taken E) (mid old new : List Symbol) → Decides c → mid ≡ more ++ old → IfOk r (λ x. Did c x mid new) → IfOk r (λ x. Did (before c more) x old new)
did_before c more (Ok x) mid old new h e d = did c more x mid old new h e d
did_before c more (Err x) mid old new h e d = tt
