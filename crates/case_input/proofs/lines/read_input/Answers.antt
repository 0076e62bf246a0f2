-- What is read is the start of the input, where that is known.
use Rattle.case_input.proofs.Reading.{first_of_known}
use Rattle.case_input.proofs.lines.read_input.Goals as goal

pub returns : goal.returns
returns g c =
    first_of_known g.R.Read.remaining c.args.input c.take.result.inner _ c.take.result.limit c.new-bytes.result.items _ c.take.ensures.inner c.take.ensures.limit c.new-bytes.ensures.items c.in_ok-read_to_end.ensures.bytes
