-- Who is awake, by the sleep byte; and that a sleeping slave takes no part in a master-slave round: it is not addressed, sends nothing and
-- stays as it is.
-- Assumes nothing.
use Prim.Native.Nat.{ℕ}
use native.Mathlib.Omega.{arith}
use mathlib.Core.Path.{◌≡◌, refl, sym, ◌∙◌}
use mathlib.Core.List.{List, []}
use mathlib.Core.Bool.{true, false, not}
use lib.Dec.{eqb, leb}
use borrow.Author.Tests.{eqb-true, eq-eqb, ne_eqb}
use Rattle.file.specs.Rules.Cluster.{Slave, is_awake, logical_name, physical_name, comparison_value, broadcast}
use Rattle.file.proofs.Order.{both_false_left, both_false_right}
use Rattle.master_slave.specs.Rules.Slaves.{Duty, nothing, reading, writing, comparing, baptizing, sleeping, addresses, addressed, answers_read}
use Rattle.master_slave.specs.Rules.Slaves.{answers_compare, reply_to, takes_write, takes_name, slave_after, falls_asleep}

-- ---- the sleep byte, by which the claims say who is awake, and the rules' own test

module _ (s : Slave) where
  pub awake-byte : eqb s.asleep 0 ≡ is_awake s
  unfolding is_awake
  awake-byte = refl

  pub is-awake : s.asleep ≡ 0 → is_awake s ≡ true
  is-awake none = sym awake-byte ∙ eq-eqb s.asleep 0 none

  pub byte-awake : is_awake s ≡ true → s.asleep ≡ 0
  byte-awake awake = eqb-true s.asleep 0 (awake-byte ∙ awake)

  pub is-asleep : s.asleep ≡ 1 → is_awake s ≡ false
  is-asleep one = sym awake-byte ∙ ne_eqb s.asleep 0 (λ e. omega arith)

-- ---- a sleeping slave

module _ (s : Slave) (asleep : is_awake s ≡ false) where
  pub asleep_unaddressed : (name : ℕ) → addressed name s ≡ false
  unfolding addressed
  asleep_unaddressed name = both_false_left (addresses name (logical_name s)) asleep

  unread : (name n r : ℕ) → answers_read name n r s ≡ false
  unfolding answers_read
  unread name n r = both_false_left _ (asleep_unaddressed name)

  uncompared : (name : ℕ) → answers_compare name s ≡ false
  unfolding answers_compare
  uncompared name = both_false_right (not (eqb name broadcast)) (both_false_left (leb (comparison_value s) (physical_name s)) (asleep_unaddressed name))

  unwritten : (name n r : ℕ) → takes_write name n r s ≡ false
  unfolding takes_write
  unwritten name n r = both_false_left _ (asleep_unaddressed name)

  unbaptized : (name : ℕ) → takes_name name s ≡ false
  unfolding takes_name
  unbaptized name = both_false_left _ (asleep_unaddressed name)

  pub asleep_quiet : (o : Duty) → reply_to o s ≡ []
  unfolding reply_to
  asleep_quiet nothing = refl
  asleep_quiet (reading name n r) = rw (unread name n r)
  asleep_quiet (writing name n r) = refl
  asleep_quiet (comparing name) = rw (uncompared name)
  asleep_quiet (baptizing name) = refl
  asleep_quiet (sleeping name) = refl

  pub asleep_stays : (o : Duty) (bytes : List ℕ) → slave_after o bytes s ≡ s
  unfolding slave_after
  asleep_stays nothing bytes = refl
  asleep_stays (reading name n r) bytes = refl
  asleep_stays (writing name n r) bytes = rw (unwritten name n r)
  asleep_stays (comparing name) bytes = refl
  asleep_stays (baptizing name) bytes = rw (unbaptized name)
  asleep_stays (sleeping name) bytes = refl

  -- it wakes by the very execute that puts others to sleep
  pub asleep-wakes : (o : Duty) → falls_asleep o s ≡ false
  unfolding falls_asleep
  asleep-wakes nothing = refl
  asleep-wakes (reading name n r) = refl
  asleep-wakes (writing name n r) = refl
  asleep-wakes (comparing name) = refl
  asleep-wakes (baptizing name) = refl
  asleep-wakes (sleeping name) = both_false_left _ (asleep_unaddressed name)
