-- Each claim of specs/Claims, and the theorem that has it as its type.
use Rattle.listing_text.specs.Claims.Closed.{ListingClosed}
use Rattle.listing_text.specs.Claims.Edition.{UnknownEditionListed}
use Rattle.listing_text.specs.Claims.Listed.{ListingEnded, NamesListed, RefusedListed}
use Rattle.listing_text.proofs.ClosedLaws.{listing_closed, unknown_edition-listed, listing-ended, listing-names, listing-refused}

pub held-listing_closed : ListingClosed
held-listing_closed = listing_closed

pub held_unknown_edition-listed : UnknownEditionListed
held_unknown_edition-listed = unknown_edition-listed

pub held-listing-ended : ListingEnded
held-listing-ended = listing-ended

pub held-names-listed : NamesListed
held-names-listed = listing-names

pub held-refused-listed : RefusedListed
held-refused-listed = listing-refused
