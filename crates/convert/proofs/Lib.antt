-- The laws of conversions, layer by layer; a module cites those above it. Each function's own proof stands in the folder of its source
-- file.

-- a file in both editions, computed from the rules
pub mod Examples
-- bytes that are put one behind the other; the widths of the editions
pub mod Putting
pub mod EditionLaws
-- what an accepted file says of its slaves and their files, and their sizes at either width
pub mod SlaveLaws
pub mod SizeLaws
pub mod ReadLaws
-- the parts of a form
pub mod HeaderLaws
pub mod EntryLaws
pub mod TableLaws
pub mod DirectoryLaws
pub mod SlavePutLaws
pub mod BodyLaws
pub mod FormLaws
-- the call, by its answers
pub mod Calls
pub mod ConversionGrounds
pub mod Forms
-- files of so many slaves, and those of them that 25 refuses
pub mod Numbered
pub mod Witnesses
-- each claim with its theorem
pub mod Claimed
