-- The code's answers in the terms of the rules. No two are taken to the same.
use Rattle.std.specs.Prelude.{Ok, Err}
use Rattle.file.specs.Rules.Results.{Result, refused, done}
use Rattle.file.specs.Inner.Refusals.{Answered, refusal_number}
use Rattle.line.specs.declared.pattern.PatternClass.{PatternClass}
use Rattle.line.specs.declared.pattern.PatternClass.TheVariants as classes
use Rattle.line.specs.Rules.Patterns.{PatternClass as Class, data_byte, firework, broken}

unfoldable pub class_in : PatternClass → Class
class_in classes.DataByte = data_byte
class_in classes.Firework = firework
class_in classes.Broken = broken

unfoldable pub read_of : Answered PatternClass → Result Class
read_of (Err why) = refused (refusal_number why)
read_of (Ok c) = done (class_in c)
