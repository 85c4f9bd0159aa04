-- `frame_text::write_hex` meets its contract: each iteration writes one digit.
use Rattle.frame_text.proofs.laws.Stores.{Writing}
use Rattle.frame_text.proofs.write_hex.Given as goal

abbrev pub invariant-loop-place : goal.invariant-loop-place
invariant-loop-place l = Writing l.initial.output l.at l.width l.value l.output l.place l.rest
