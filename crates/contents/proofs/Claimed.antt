-- Each claim of specs/Claims, and the theorem that has it as its type.
use Rattle.contents.specs.Claims.ContentsRead.{AnsweredExactly, EachFileRead, NoneExactly, MostBytes, BufferLeft, UnknownEdition}
use Rattle.contents.proofs.ContentsRead.{answered_exactly, each-file-read, none_exactly, most_bytes, buffer-left, contents-edition}

pub held-answered_exactly : AnsweredExactly
held-answered_exactly = answered_exactly

pub held-each-file-read : EachFileRead
held-each-file-read = each-file-read

pub held-none_exactly : NoneExactly
held-none_exactly = none_exactly

pub held-most-bytes : MostBytes
held-most-bytes = most_bytes

pub held-buffer-left : BufferLeft
held-buffer-left = buffer-left

pub held_unknown_edition : UnknownEdition
held_unknown_edition = contents-edition
