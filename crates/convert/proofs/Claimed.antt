-- Each claim of specs/Claims, and the theorem that has it as its type.
use Rattle.convert.specs.Claims.ConversionGrounds.{GroundsInOrder, OnlyNarrowingExceeds, UnknownEdition}
use Rattle.convert.specs.Claims.Forms.{WrittenExactly, CallConverts, CallsComeBack, CallWidens, CallCopies}
use Rattle.convert.proofs.ConversionGrounds.{grounds_in_order, only_narrowing, convert-edition}
use Rattle.convert.proofs.Forms.{written_exactly, call_converts, calls_come_back, call_widens, call_copies}

pub held_grounds_in_order : GroundsInOrder
held_grounds_in_order = grounds_in_order

pub held-only_narrowing_exceeds : OnlyNarrowingExceeds
held-only_narrowing_exceeds = only_narrowing

pub held_unknown_edition : UnknownEdition
held_unknown_edition = convert-edition

pub held-written_exactly : WrittenExactly
held-written_exactly = written_exactly

pub held-call_converts : CallConverts
held-call_converts = call_converts

pub held_calls_come_back : CallsComeBack
held_calls_come_back = calls_come_back

pub held-call_widens : CallWidens
held-call_widens = call_widens

pub held-call_copies : CallCopies
held-call_copies = call_copies
