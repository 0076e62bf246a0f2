-- What a call answers (document 01, "Grounds for turning something away": "A refusal returns its number"), and what it leaves in a
-- buffer that it writes.
use Rattle.std.specs.Prelude.{ℕ, List, ◌++◌, cond, length, drop, eqb}

-- refused by a number, or done with a value
pub data Result (A : Type 0) : Type 0 where
  refused : ℕ → Result A
  done : A → Result A

-- by the first ground that holds, 0 where none does
unfoldable pub result_of : {A : Type 0} → ℕ → A → Result A
result_of reason value = cond (eqb reason 0) (done value) (refused reason)

-- the number that a C call returns: 0 where it is done
unfoldable pub number_in : {A : Type 0} → Result A → ℕ
number_in (refused n) = n
number_in (done value) = 0

-- "Past the bytes a call writes, a buffer keeps its content."
unfoldable pub written_in : List ℕ → List ℕ → List ℕ
written_in buffer bytes = bytes ++ drop (length bytes) buffer
