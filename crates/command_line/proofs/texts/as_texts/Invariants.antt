use Rattle.std.proofs.Common.{◌≡◌, map, take}
use Rattle.command_line.proofs.texts.as_texts.Given as goal

abbrev pub invariant-loop-word : goal.invariant-loop-word
invariant-loop-word l = map (λ t. t.now) l.texts.items ≡ map (λ w. w.bytes.items) (take l.word-index l.words)
