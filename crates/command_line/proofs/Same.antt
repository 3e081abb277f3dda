-- What is asked for is the same where each part is.
use Rattle.std.proofs.Common.{◌≡◌, ℕ, Bool, Option, Some, refl}
use Rattle.clap.specs.Walk.{Text}
use Rattle.admission.specs.declared.policy.Policy.{Policy}
use Rattle.admission.specs.declared.policy.Lateness.{Lateness}
use Rattle.command_line.specs.Words.{Asked, Kept}
use Rattle.command_line.specs.declared.words.Mode.{Mode}

abbrev pub asked_with : Text → Mode → ℕ → ℕ → Bool → Policy → ℕ → ℕ → Option Kept → Asked
asked_with query mode batch workers header policy number events keeping = record { query = query; mode = mode; batch = batch; workers = workers; header = header; policy = policy; number = number; events = events; keeping = keeping }

pub asked_is : (q r : Text) (m o : Mode) (b d : ℕ) (w v : ℕ) (h i : Bool) (p s : Policy) (n k : ℕ) (e f : ℕ) (x y : Option Kept) →
    q ≡ r → m ≡ o → b ≡ d → w ≡ v → h ≡ i → p ≡ s → n ≡ k → e ≡ f → x ≡ y → asked_with q m b w h p n e x ≡ asked_with r o d v i s k f y
asked_is q r m o b d w v h i p s n k e f x y query mode batch workers header policy number events keeping = rw (query, mode, batch, workers, header, policy, number, events, keeping) refl

abbrev pub policy_with : ℕ → Lateness → ℕ → Policy
policy_with lateness late period = record { lateness = lateness; late = late; period = period }

pub policy_is : (x y : ℕ) (l m : Lateness) (p q : ℕ) → x ≡ y → l ≡ m → p ≡ q → policy_with x l p ≡ policy_with y m q
policy_is x y l m p q lateness late period = rw (lateness, late, period) refl

abbrev pub kept_with : Text → ℕ → Text → Text → Kept
kept_with checkpoint every input output = record { checkpoint = checkpoint; every = every; input = input; output = output }

pub kept_is : (c d : Text) (e f : ℕ) (i j o p : Text) → c ≡ d → e ≡ f → i ≡ j → o ≡ p → kept_with c e i o ≡ kept_with d f j p
kept_is c d e f i j o p checkpoint every input output = rw (checkpoint, every, input, output) refl
