-- An accepted survey gives all that the readers ask.
use Rattle.file.proofs.Surveyed.{survey-placed}
use Rattle.file_cases.proofs.describe.describe.Goals as goal

pub slaves-requires : goal.slaves-requires
slaves-requires g c = survey-placed c.survey-answer.ensures c.in-Ok.is
