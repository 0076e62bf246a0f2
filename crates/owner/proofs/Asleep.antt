-- The plan does not ask who sleeps, nor does the call that writes the owner file.
-- Assumes nothing.
use Rattle.std.proofs.Common.{ℕ, zero, suc, ◌≡◌, refl, sym, ap, ◌∙◌, ◌≢◌, List, [], ◌∷◌, map, Bool, length, eqb, leb, ltb, eqb-true}
use borrow.Author.Tests.{eqb-false}
use Rattle.file.specs.Rules.Order.{both}
use Rattle.file.specs.Rules.Cluster.{File, Slave, Cluster, bytes_in, logical_name}
use Rattle.file.specs.Rules.Decode.{decode}
use Rattle.file.specs.Rules.Changes.{with_sleep}
use Rattle.file.specs.Rules.FileGrounds.{file_ground}
use Rattle.file.proofs.Order.{by_case}
use Rattle.master_slave.specs.Rules.Slaves.{is_unnamed}
use Rattle.multipartner.specs.Rules.Entries.{Entry, Acting, no_entry, acts, acting}
use Rattle.multipartner.specs.Rules.Multipartner.{within, send_place, plans_from}
use Rattle.master_slave.specs.Rules.Bus.{slots}
use Rattle.owner.specs.Rules.Plan.{rounds, is_owned, is_multiplexed_receive, sends_in, senders_among, senders_in, some_below, two_send_in, two_send, some_entry}
use Rattle.owner.specs.Rules.Plan.{some_entry_of, is_multiplexed_send, multiplexed_send}
use Rattle.owner.specs.Rules.OwnerFile.{name_of, owner_of, last_owned, owners_below, owners_of, row_of, rows_below, index_of, index_below, owner_file}
use Rattle.owner.specs.Rules.OwnerWriting.{too_short, owner_ground, owner_on}
use Rattle.owner.specs.Claims.Call.{files_of, PlannedAwake}
use Rattle.owner.proofs.Calls.{file_decides, after-file}

-- ---- a slave

bytes_slept : (s : Slave) (b n : ℕ) → bytes_in (with_sleep s b) n ≡ bytes_in s n
unfolding bytes_in with_sleep
bytes_slept s b n = refl

name_slept : (s : Slave) (b : ℕ) → logical_name (with_sleep s b) ≡ logical_name s
unfolding logical_name
name_slept s b = rw (bytes_slept s b 0x08)

unnamed_slept : (s : Slave) (b : ℕ) → is_unnamed (with_sleep s b) ≡ is_unnamed s
unfolding is_unnamed
unnamed_slept s b = rw (name_slept s b)

place_slept : (s : Slave) (b slot : ℕ) (a : Acting) → send_place (with_sleep s b) slot a ≡ send_place s slot a
unfolding send_place within
place_slept s b slot no_entry = refl
place_slept s b slot (acts e) = rw (bytes_slept s b e.file)

sends_slept : (round slot : ℕ) (s : Slave) (b : ℕ) → sends_in round slot (with_sleep s b) ≡ sends_in round slot s
unfolding sends_in plans_from
sends_slept round slot s b =
    rw (unnamed_slept s b, bytes_slept s b round, place_slept s b slot (acting is_multiplexed_receive (bytes_in s round) slot))

entry_slept : (test : Entry → Bool) (round : ℕ) (s : Slave) (b : ℕ) → some_entry test round (with_sleep s b) ≡ some_entry test round s
unfolding some_entry
entry_slept test round s b = rw (unnamed_slept s b, bytes_slept s b round)

-- ---- all slaves

below_alike : (f g : ℕ → Bool) → ((k : ℕ) → f k ≡ g k) → (n : ℕ) → some_below f n ≡ some_below g n
unfolding some_below
below_alike f g same zero = refl
below_alike f g same (suc n) = rw (below_alike f g same n, same n)

length-map : (f : Slave → Slave) (ss : List Slave) → length (map f ss) ≡ length ss
length-map f [] = refl
length-map f (s ∷ ss) = ap suc (length-map f ss)

module _ (asleep : Slave → ℕ) where
  abbrev slept : Slave → Slave
  slept s = with_sleep s (asleep s)

  among_slept : (round slot : ℕ) (ss : List Slave) → senders_among round slot (map slept ss) ≡ map slept (senders_among round slot ss)
  unfolding senders_among
  among_slept round slot [] = refl
  among_slept round slot (s ∷ ss) =
      rw (sends_slept round slot s (asleep s), among_slept round slot ss)
      (by_case (sends_in round slot s) (λ e. rw e) (λ e. rw e))

  senders_slept : (round slot : ℕ) (ss : List Slave) → senders_in round slot (map slept ss) ≡ map slept (senders_in round slot ss)
  unfolding senders_in
  senders_slept round zero ss = refl
  senders_slept round (suc slot) ss = among_slept round (suc slot) ss

  count_slept : (round slot : ℕ) (ss : List Slave) → length (senders_in round slot (map slept ss)) ≡ length (senders_in round slot ss)
  count_slept round slot ss = rw (senders_slept round slot ss, length-map slept (senders_in round slot ss))

  first_slept : (ss : List Slave) → name_of (map slept ss) ≡ name_of ss
  unfolding name_of
  first_slept [] = refl
  first_slept (s ∷ ss) = name_slept s (asleep s)

  owner_slept : (master round : ℕ) (ss : List Slave) (slot : ℕ) → owner_of master round (map slept ss) slot ≡ owner_of master round ss slot
  unfolding owner_of
  owner_slept master round ss zero = refl
  owner_slept master round ss (suc slot) = rw (senders_slept round (suc slot) ss, first_slept (senders_in round (suc slot) ss))

  last_slept : (round : ℕ) (ss : List Slave) (n : ℕ) → last_owned round (map slept ss) n ≡ last_owned round ss n
  unfolding last_owned
  last_slept round ss zero = refl
  last_slept round ss (suc n) = rw (count_slept round (suc n) ss, last_slept round ss n)

  owners_slept : (master round : ℕ) (ss : List Slave) (n : ℕ) → owners_below master round (map slept ss) n ≡ owners_below master round ss n
  unfolding owners_below
  owners_slept master round ss zero = refl
  owners_slept master round ss (suc n) = rw (owners_slept master round ss n, owner_slept master round ss n)

  row_slept : (master : ℕ) (ss : List Slave) (round : ℕ) → row_of master (map slept ss) round ≡ row_of master ss round
  unfolding row_of owners_of
  row_slept master ss round = rw (last_slept round ss 63, owners_slept master round ss _)

  rows_slept : (master : ℕ) (ss : List Slave) (n : ℕ) → rows_below master (map slept ss) n ≡ rows_below master ss n
  unfolding rows_below
  rows_slept master ss zero = refl
  rows_slept master ss (suc n) = rw (rows_slept master ss n, row_slept master ss n)

  index_slept : (master : ℕ) (ss : List Slave) (n : ℕ) → index_below master (map slept ss) n ≡ index_below master ss n
  unfolding index_below index_of
  index_slept master ss zero = refl
  index_slept master ss (suc n) = rw (index_slept master ss n, rows_slept master ss n)

  entries_slept : (test : Entry → Bool) (round : ℕ) (ss : List Slave) → some_entry_of test round (map slept ss) ≡ some_entry_of test round ss
  unfolding some_entry_of
  entries_slept test round [] = refl
  entries_slept test round (s ∷ ss) = rw (entry_slept test round s (asleep s), entries_slept test round ss)

  two_slept : (round : ℕ) (ss : List Slave) → two_send_in round (map slept ss) ≡ two_send_in round ss
  unfolding two_send_in
  two_slept round ss = below_alike _ _ (λ k. ap (leb 2) (count_slept round k ss)) slots

-- whoever sleeps, the owner file, 20 and 23 are the same
record SamePlan (master : ℕ) (ss ts : List Slave) : Type 0 where
  pub bytes : owner_file master ts ≡ owner_file master ss
  pub two : two_send ts ≡ two_send ss
  pub multiplexed : multiplexed_send ts ≡ multiplexed_send ss

plan_slept : (master : ℕ) (ss : List Slave) (asleep : Slave → ℕ) → SamePlan master ss (map (slept asleep) ss)
unfolding owner_file two_send multiplexed_send
plan_slept master ss asleep =
    record {
      bytes = rw (index_slept asleep master ss rounds, rows_slept asleep master ss rounds);
      two = below_alike _ _ (λ k. ap (both (is_owned k)) (two_slept asleep k ss)) rounds;
      multiplexed = below_alike _ _ (λ k. ap (both (is_owned k)) (entries_slept asleep is_multiplexed_send k ss)) rounds;
    }

-- ---- slaves of the same files: with all of them awake they are the same

awake_with : List File → Slave
awake_with files = record { asleep = 0; files = files }

abbrev woken : List Slave → List Slave
woken ss = map (slept (λ s. 0)) ss

woken_files : (ss : List Slave) → woken ss ≡ map awake_with (map (λ (s : Slave). s.files) ss)
unfolding with_sleep awake_with
woken_files [] = refl
woken_files (s ∷ ss) = ap (λ (rest : List Slave). awake_with s.files ∷ rest) (woken_files ss)

same_plan : (master : ℕ) (c d : Cluster) → files_of d ≡ files_of c → SamePlan master c.slaves d.slaves
same_plan master c d same =
    let plan-c : SamePlan master c.slaves (woken c.slaves) = plan_slept master c.slaves (λ s. 0) in
    let plan-d : SamePlan master d.slaves (woken d.slaves) = plan_slept master d.slaves (λ s. 0) in
    let alike : woken d.slaves ≡ woken c.slaves = woken_files d.slaves ∙ ap (map awake_with) same ∙ sym (woken_files c.slaves) in
    record {
      bytes = sym plan-d.bytes ∙ ap (owner_file master) alike ∙ plan-c.bytes;
      two = sym plan-d.two ∙ ap two_send alike ∙ plan-c.two;
      multiplexed = sym plan-d.multiplexed ∙ ap multiplexed_send alike ∙ plan-c.multiplexed;
    }

-- ---- the call

module _ (f g : List ℕ) (master : ℕ) (buffer : List ℕ) (reason : file_ground g ≡ file_ground f) (plan : SamePlan master (decode f).slaves (decode g).slaves) where
  same-short : too_short buffer master (decode g).slaves ≡ too_short buffer master (decode f).slaves
  unfolding too_short
  same-short = ap (λ (l : List ℕ). ltb (length buffer) (length l)) plan.bytes

  same_ground : owner_ground g master buffer ≡ owner_ground f master buffer
  same_ground =
      by_case (eqb (file_ground f) 0)
      (λ e.
      let accepted : file_ground f ≡ 0 = eqb-true _ _ e in
      after-file g master buffer (reason ∙ accepted) ∙ rw (plan.multiplexed, plan.two, same-short) (sym (after-file f master buffer accepted)))
      (λ e.
      let other : file_ground f ≢ 0 = eqb-false _ _ e in
      file_decides g master buffer (λ z. other (sym reason ∙ z)) ∙ reason ∙ sym (file_decides f master buffer other))

  same-call : owner_on g master buffer ≡ owner_on f master buffer
  unfolding owner_on
  same-call = rw (same_ground, plan.bytes)

pub planned-awake : PlannedAwake
planned-awake f g reason same master buffer = same-call f g master buffer reason (same_plan master (decode f) (decode g) same)
