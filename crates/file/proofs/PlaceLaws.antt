-- The two places of a slave in an accepted file: each is a number of the machine, and so is a place in the records that every slave has,
-- which lies within the bytes. What the readers by places ask, for a search to find.
-- Assumes nothing.
use Rattle.std.proofs.Common.{ℕ, ◌+◌, ◌*◌, ◌≤◌, ◌<◌, arith, List, length, get_or, w64, Fits}
use Rattle.file.specs.Rules.Layout.{record_size}
use Rattle.file.specs.Inner.Layout.{needed_configuration, needed_documentation, long_width}
use Rattle.file.specs.Inner.Places.{configuration_index, documentation_index}
use Rattle.file.specs.Inner.Accepted.{slave_count, Placed}
use Rattle.file.proofs.ReaderLaws.{length_limit, configuration-within, documentation-within}

module _ {f places : List ℕ} (h : Placed f places) (s : ℕ) (l : s < slave_count f) where
  pub configuration-fits : Fits w64 (get_or places (configuration_index s) 0)
  configuration-fits = record { fits = omega (arith, configuration-within h s l, length_limit h.file) }

  pub configuration-record-fits : (r : ℕ) → r ≤ needed_configuration → Fits w64 (get_or places (configuration_index s) 0 + record_size * r)
  configuration-record-fits r few = record { fits = omega (arith, configuration-within h s l, length_limit h.file) }

  pub configuration-byte-fits : (k : ℕ) → k < 16 → Fits w64 (get_or places (configuration_index s) 0 + k)
  configuration-byte-fits k few = record { fits = omega (arith, configuration-within h s l, length_limit h.file) }

  pub configuration-byte : (k : ℕ) → k < 16 → get_or places (configuration_index s) 0 + k < length f
  configuration-byte k few = omega (arith, configuration-within h s l)

  pub configuration-long : (k : ℕ) → k + long_width ≤ 16 → get_or places (configuration_index s) 0 + k + long_width ≤ length f
  configuration-long k few = omega (arith, configuration-within h s l)

  pub documentation-fits : Fits w64 (get_or places (documentation_index s) 0)
  documentation-fits = record { fits = omega (arith, documentation-within h s l, length_limit h.file) }

  pub documentation-record-fits : (r : ℕ) → r ≤ needed_documentation → Fits w64 (get_or places (documentation_index s) 0 + record_size * r)
  documentation-record-fits r few = record { fits = omega (arith, documentation-within h s l, length_limit h.file) }

  pub documentation-long : (k : ℕ) → k + long_width ≤ 12 → get_or places (documentation_index s) 0 + k + long_width ≤ length f
  documentation-long k few = omega (arith, documentation-within h s l)
