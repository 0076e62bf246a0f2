-- Each claim of specs/Claims, and the theorem that has it as its type.
use Rattle.file.specs.Claims.Accepted.{AcceptedExactly, LoadedExactly, FileGroundsFirst, ClusterComesBack, FileComesBack}
use Rattle.file.specs.Claims.Edition.{ThirdGround, UnknownEdition, UnknownEditionAnswer}
use Rattle.file.specs.Claims.EditionOne.{EditionOne}
use Rattle.file.specs.Claims.EditionTwo.{EditionTwo}
use Rattle.file.specs.Claims.Editions.{ConvertsWhereItFits, WidenedComesBack, OwnEditionCopies, HandheldRefuses}
use Rattle.file.specs.Claims.LogicalNames.{AnyNamesAccepted}
use Rattle.file.proofs.Accepted.{accepted_exactly, load_accepts, file_grounds_first, decode-encode, encode-decode}
use Rattle.file.proofs.Edition.{third_ground, unknown_edition, unknown_edition-answer}
use Rattle.file.proofs.EditionOne.{edition-one}
use Rattle.file.proofs.EditionTwo.{edition-two}
use Rattle.file.proofs.Editions.{converts, widened, copies, handheld}
use Rattle.file.proofs.LogicalNames.{any_names-accepted}

pub held-accepted_exactly : AcceptedExactly
held-accepted_exactly = accepted_exactly

pub held-loaded_exactly : LoadedExactly
held-loaded_exactly = load_accepts

pub held-file_grounds_first : FileGroundsFirst
held-file_grounds_first = file_grounds_first

pub held-cluster_comes_back : ClusterComesBack
held-cluster_comes_back = decode-encode

pub held-file_comes_back : FileComesBack
held-file_comes_back = encode-decode

pub held_third_ground : ThirdGround
held_third_ground = third_ground

pub held_unknown_edition : UnknownEdition
held_unknown_edition = unknown_edition

pub held_unknown_edition-answer : UnknownEditionAnswer
held_unknown_edition-answer = unknown_edition-answer

pub held-edition-one : EditionOne
held-edition-one = edition-one

pub held-edition-two : EditionTwo
held-edition-two = edition-two

pub held_converts_where_it_fits : ConvertsWhereItFits
held_converts_where_it_fits = converts

pub held_widened_comes_back : WidenedComesBack
held_widened_comes_back = widened

pub held_own_edition_copies : OwnEditionCopies
held_own_edition_copies = copies

pub held_handheld_refuses : HandheldRefuses
held_handheld_refuses = handheld

pub held_any_names-accepted : AnyNamesAccepted
held_any_names-accepted = any_names-accepted
