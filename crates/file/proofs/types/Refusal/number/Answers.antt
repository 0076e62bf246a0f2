-- `file::types::Refusal::number` meets its contract: each refusal has its number.
-- Assumes nothing.
use Rattle.std.proofs.Common.{◌≡◌, ◌+◌, refl}
use denote.Enum.Declared.{tag_of}
use Rattle.file.specs.contracts.types.Refusal.{the_type}
use Rattle.file.specs.declared.types.Refusal.{Refusal}
use Rattle.file.specs.declared.types.Refusal.TheVariants as grounds
use Rattle.file.specs.Inner.Refusals.{refusal_number}
use Rattle.file.proofs.types.Refusal.number.Goals as goal

numbered : (why : Refusal) → tag_of the_type why + 1 ≡ refusal_number why
unfolding refusal_number
numbered grounds.Size = refl
numbered grounds.Mark = refl
numbered grounds.Edition = refl
numbered grounds.Length = refl
numbered grounds.Header = refl
numbered grounds.Layout = refl
numbered grounds.NeededFile = refl
numbered grounds.PhysicalNames = refl
numbered grounds.Buffer = refl
numbered grounds.Firework = refl
numbered grounds.FrameLength = refl
numbered grounds.Check = refl
numbered grounds.Operation = refl
numbered grounds.BroadcastRead = refl
numbered grounds.ListedName = refl
numbered grounds.NameTwice = refl
numbered grounds.RunPosition = refl
numbered grounds.FileNumber = refl
numbered grounds.Trace = refl
numbered grounds.TwoSenders = refl
numbered grounds.OwnerBuffer = refl
numbered grounds.LogicalNames = refl
numbered grounds.MultiplexedSend = refl
numbered grounds.Summary = refl
numbered grounds.EditionLimits = refl
numbered grounds.ConversionBuffer = refl
numbered grounds.Screen = refl
numbered grounds.ScreenWaiting = refl
numbered grounds.SharedName = refl
numbered grounds.JoinedLimits = refl
numbered grounds.Pattern = refl

pub returns : goal.returns
returns c = numbered c.args.self
