-- Each claim of specs/Claims, and the theorem that has it as its type.
use Rattle.join.specs.Claims.JoinGrounds.{JoinedLength, GroundsInOrder, UnknownEdition}
use Rattle.join.specs.Claims.Result.{WrittenExactly, CallJoins, NamesApart, JoinLoads}
use Rattle.join.specs.Claims.JoinEditions.{SecondInEither, JoinedForms}
use Rattle.join.proofs.JoinGrounds.{grounds_in_order, join-edition}
use Rattle.join.proofs.Result.{written_exactly, call-joins, names_apart, join-loads}
use Rattle.join.proofs.JoinEditions.{lengths_joined, second_in_either, joined_forms}

pub held-joined-length : JoinedLength
held-joined-length = lengths_joined

pub held_grounds_in_order : GroundsInOrder
held_grounds_in_order = grounds_in_order

pub held_unknown_edition : UnknownEdition
held_unknown_edition = join-edition

pub held-written_exactly : WrittenExactly
held-written_exactly = written_exactly

pub held-call-joins : CallJoins
held-call-joins = call-joins

pub held-names-apart : NamesApart
held-names-apart = names_apart

pub held-join-loads : JoinLoads
held-join-loads = join-loads

pub held-second_in_either : SecondInEither
held-second_in_either = second_in_either

pub held-joined_forms : JoinedForms
held-joined_forms = joined_forms
