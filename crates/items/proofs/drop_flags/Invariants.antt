use mathlib.Core.Path.{◌≡◌}
use Rattle.items.specs.Calls.{rest_word, sweep_to}
use Rattle.items.proofs.drop_flags.Given as goal

abbrev pub invariant-loop-w : goal.invariant-loop-w
invariant-loop-w l = l.w-items ≡ sweep_to rest_word l.w-index l.initial.w-items
