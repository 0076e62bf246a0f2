-- The laws of multipartner rounds, layer by layer; a module cites those above it. Each function's own proof stands in the folder of its
-- source file.

-- what a round keeps and what it leaves alone
pub mod StoresKept
pub mod Unstored
-- entries, a slave's act, its round file, stores, the entries still to look at, the search for the acting entry, a slot's senders, the
-- slots
pub mod EntryLaws
pub mod EntryExamples
pub mod SlotActLaws
pub mod RoundFileLaws
pub mod StoreLaws
pub mod OpenLaws
pub mod SearchLaws
pub mod HearLaws
pub mod SlotLaws
