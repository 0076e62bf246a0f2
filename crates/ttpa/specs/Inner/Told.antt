-- What a C call tells of the answer of the layer below: its number, and what it puts into lent words.
use Rattle.std.specs.Prelude.{ℕ, List}
use Rattle.file.specs.Rules.Results.{Result, number_in}
use Rattle.naming.specs.Rules.Position.{Position}
use Rattle.naming.specs.Rules.Step.{StepDone}
use Rattle.ttpa.specs.Rules.Calls.{lent_after, step_senders, step_words_lem}

-- of one that is done with a number, as a round with its senders and a writer with a length: number and lent word
unfoldable pub number_told : Result ℕ → ℕ → ℕ × ℕ
number_told r word = (number_in r, lent_after r word (λ (n : ℕ). n))

-- of a step that leaves this position: number, senders and run
unfoldable pub step_told : Result StepDone → Position → ℕ → List ℕ → ℕ × ℕ × List ℕ
step_told r p senders run = (number_in r, step_senders r senders, step_words_lem r p run)
