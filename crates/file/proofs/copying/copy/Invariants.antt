-- `file::copying::copy` meets its contract: the bytes so far stand in front of the rest of the buffer.
use Rattle.std.proofs.Common.{◌≡◌, ◌≤◌, ◌++◌, length, take, drop}
use Rattle.file.proofs.copying.copy.Given as goal

abbrev pub invariant-loop-done : goal.invariant-loop-done
invariant-loop-done l = (l.buffer ≡ take l.done l.part ++ drop l.done l.initial.buffer) × (l.done ≤ length l.part)
