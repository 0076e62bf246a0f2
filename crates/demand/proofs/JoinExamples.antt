-- Naming after a join, computed: of two files with two slaves each, one of the first is unnamed, and one of the second has a name that the
-- first holds. What the claims ask is met: the call returns 0, and a step may follow.
-- Assumes nothing.
use Prim.Native.Nat.{ℕ}
use mathlib.Core.Path.{◌≡◌, refl, ◌∙◌}
use mathlib.Core.List.{List, [], ◌∷◌}
use Rattle.file.specs.Rules.Bytes.{Bytes, all_empty, all_next}
use Rattle.file.specs.Rules.Order.{first_of, both, either}
use Rattle.file.specs.Rules.Results.{number_in}
use Rattle.file.specs.Rules.FileGrounds.{is_among, has_repeat}
use Rattle.file.proofs.BytesBelow.{all_below, bytes_below}
use Rattle.join.proofs.Examples.{two, room, joins}
use Rattle.naming.specs.Rules.Account.{names_of, names_in_lem, insert, falling, unnamed_among, names_held, account_of}
use Rattle.naming.specs.Rules.RunGrounds.{unfit_name, names_grounds, start_ground}
use Rattle.ttpa.specs.Rules.Calls.{join_call, lent_after}
use Rattle.demand.specs.Claims.DemandCalls.{CCall, ttpa_step, given-step, after_calls, slaves_in, CallsDemand, started, is-step}
use Rattle.demand.specs.Claims.Join.{unnamed_or_held, unnamed_joined, joined_by}
use Rattle.demand.proofs.DemandCalls.{start-number, steps-permitted}
use Rattle.demand.proofs.Join.{naming_after-join-call}

-- 0x04 and unnamed; 0x04, which is turned, and 0x05
abbrev pub first : List ℕ
first = two 0x04 0x10 0xFF 0x11

abbrev pub second : List ℕ
second = two 0x04 0x12 0x05 0x13

-- unnamed in the second file stays so; 0xFF of the first is no name that is held
abbrev pub other : List ℕ
other = two 0xFF 0x12 0x05 0x13

pub record Unnamed : Type 0 where
  pub returns : (join_call first second (room 176) 0).0 ≡ 0
  pub leaves : (join_call first second (room 176) 0).1 ≡ 176
  pub are : unnamed_among (slaves_in (joined_by first second (room 176) 0)) ≡ 0x700000011 ∷ 0x700000012 ∷ []
  pub expected : unnamed_joined first second ≡ 0x700000011 ∷ 0x700000012 ∷ []
  pub waiting : (account_of (slaves_in (joined_by first second (room 176) 0)) (0x06 ∷ [])).waiting ≡ 0x700000012 ∷ 0x700000011 ∷ []
  pub other_are : unnamed_among (slaves_in (joined_by first other (room 176) 0)) ≡ 0x700000011 ∷ 0x700000012 ∷ []
  pub other_expected : unnamed_joined first other ≡ 0x700000011 ∷ 0x700000012 ∷ []

pub unnamed_computed : Unnamed
unfolding joins join_call lent_after number_in unnamed_joined unnamed_or_held names_in_lem names_of names_held unnamed_among account_of falling insert
unnamed_computed =
    record { returns = refl; leaves = refl; are = refl; expected = refl; waiting = refl; other_are = refl; other_expected = refl }

-- ---- a step on the joined file

first-bytes : Bytes first
unfolding all_below both
first-bytes = bytes_below first refl

second-bytes : Bytes second
unfolding all_below both
second-bytes = bytes_below second refl

name-bytes : Bytes (0x06 ∷ [])
unfolding all_below both
name-bytes = bytes_below (0x06 ∷ []) refl

name-starts : start_ground (0x06 ∷ []) ≡ 0
unfolding start_ground names_grounds first_of unfit_name has_repeat is_among both either
name-starts = refl

abbrev one-step : List CCall
one-step = ttpa_step (room 64) 0 ∷ []

pub step-after-join :
    (run : List ℕ)
    → CallsDemand (joined_by first second (room 176) 0) (0x06 ∷ []) one-step
    (after_calls (0x06 ∷ []) (started (joined_by first second (room 176) 0) (0x06 ∷ []) run) one-step)
step-after-join run =
    (naming_after-join-call first second (room 176) 0 first-bytes second-bytes unnamed_computed.returns).demand (0x06 ∷ []) name-bytes run
    (start-number (0x06 ∷ []) run ∙ name-starts) (ttpa_step (room 64) 0 ∷ []) (all_next given-step all_empty)
    (steps-permitted (0x06 ∷ []) (started (joined_by first second (room 176) 0) (0x06 ∷ []) run) (ttpa_step (room 64) 0 ∷ []) (all_next is-step all_empty))
