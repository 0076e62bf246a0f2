-- No two answers are taken to the same: the maps of `specs/Inner/LineAnswers.antt` can be undone.
-- Assumes nothing.
use Rattle.std.proofs.Common.{◌≡◌, refl, sym, ◌∙◌, ap}
use Rattle.file.specs.Rules.Results.{Result, refused, done}
use Rattle.line.specs.declared.pattern.PatternClass.{PatternClass}
use Rattle.line.specs.declared.pattern.PatternClass.TheVariants as classes
use Rattle.line.specs.Rules.Patterns.{PatternClass as Class, data_byte, firework, broken}
use Rattle.line.specs.Inner.LineAnswers.{class_in, read_of}
use Rattle.file.specs.Inner.Refusals.{Answered}
use Rattle.std.specs.Prelude.{Ok, Err}
use Rattle.file.proofs.Distinct.{refusal_in, refusal_back}

class : Class → PatternClass
class data_byte = classes.DataByte
class firework = classes.Firework
class broken = classes.Broken

answer : Result Class → Answered PatternClass
answer (refused n) = Err (refusal_in n)
answer (done c) = Ok (class c)

class_back : (c : PatternClass) → class (class_in c) ≡ c
unfolding class class_in
class_back classes.DataByte = refl
class_back classes.Firework = refl
class_back classes.Broken = refl

answer_back : (a : Answered PatternClass) → answer (read_of a) ≡ a
unfolding answer read_of
answer_back (Err why) = ap Err (refusal_back why)
answer_back (Ok c) = ap Ok (class_back c)

pub answers_distinct : (a b : Answered PatternClass) → read_of a ≡ read_of b → a ≡ b
answers_distinct a b h = sym (answer_back a) ∙ (ap answer h ∙ answer_back b)
