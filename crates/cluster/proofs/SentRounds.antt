-- A complete master-slave round on an accepted file: both frames are accepted, and it does what its data frame does with its operation
-- pending, over the buffer as it was.
-- Assumes nothing.
use Prim.Native.Nat.{ℕ, ◌≤◌}
use mathlib.Core.Path.{◌≡◌, refl, sym, ap, ◌∙◌}
use mathlib.Core.List.{List, [], ◌∷◌, ◌++◌, map}
use mathlib.Core.Bool.{true, false, not}
use native.Mathlib.Omega.{arith}
use lib.ListN.{length, get_or, drop}
use lib.Seq.{drop_at}
use lib.Dec.{eqb}
use borrow.Author.Tests.{eq-eqb, le-ltb, ltb-false}
use Rattle.file.specs.Rules.Bytes.{Byte, Bytes, all_empty, all_next}
use Rattle.file.specs.Rules.Results.{done}
use Rattle.file.specs.Rules.Cluster.{Slave, Cluster, operation_of, pb2_of, configuration, read_operation, write_operation, execute_operation}
use Rattle.file.specs.Rules.Changes.{with_pending}
use Rattle.file.specs.Rules.Encode.{encode}
use Rattle.file.specs.Rules.Decode.{decode}
use Rattle.file.specs.Rules.FileGrounds.{file_ground}
use Rattle.file.specs.Rules.Legal.{LegalPending}
use Rattle.file.specs.Inner.Accepted.{Becomes}
use Rattle.file.proofs.Accepted.{encode-bytes}
use Rattle.file.specs.Rules.Order.{both}
use Rattle.file.proofs.Order.{by_case}
use Rattle.frame.specs.Rules.Fireworks.{msd, msa, round_of, round_in, data_firework}
use Rattle.frame.specs.Rules.Check.{address_check}
use Rattle.frame.specs.Rules.Frames.{frame_of, address_bytes, address_frame, data_frame, between}
use Rattle.frame.specs.Rules.FrameGrounds.{wrong_frame_length, wrong_check, no_operation, broadcast_read}
use Rattle.frame.proofs.Written.{address-bytes, data-bytes}
use Rattle.master_slave.specs.Rules.Bus.{Senders, slots, answer_bytes, answer_in}
use Rattle.master_slave.specs.Rules.Slaves.{with_address, next_epoch, epoch_raised, sleep_record, execution_of, duty_by, pending_duty, slaves_after, slave_after}
use Rattle.cluster.specs.Rules.RoundGrounds.{short_answer, round_by_lem, write_pending}
use Rattle.master_slave.specs.Rules.Effect.{Effect}
use Rattle.cluster.specs.Rules.Round.{Answer, effect_of, frame_on, round_ground, round_on}
use Rattle.cluster.specs.Rules.MasterSlave.{Sent, address_sent, data_sent, round_sent}
use Rattle.cluster.specs.Inner.EachGround.{no_firework, length_for, wrong_length_on, wrong_check_on, no_operation_on, broadcast_read_on, frame_ground}
use Rattle.master_slave.specs.Inner.Duties.{data_effect}
use Rattle.cluster.specs.Inner.Effects.{carried_by, buffer_by}
use Rattle.master_slave.specs.Inner.Carried.{Carried}
use Rattle.master_slave.specs.Inner.Duties.{after_address, round_data}
use Rattle.cluster.specs.Inner.Sending.{sent_for, DataOf, of_write, of_other, MaySend, asked}
use Rattle.master_slave.specs.declared.types.MasterSlaveRound.{MasterSlaveRound}
use Rattle.master_slave.proofs.Bus.{answer_bytes-length, answer-length}
use Rattle.master_slave.proofs.Kept.{next_epoch-byte}
use Rattle.cluster.proofs.Rounds.{fits-none, address-pending, round-accepted, round-becomes}
use Rattle.cluster.proofs.Sent.{round-fits, alone_fits, frame-fits}

-- a frame that fits, on an accepted file and with a buffer that is long enough, is accepted
pub frame-taken : (file frame buffer : List ℕ) → file_ground file ≡ 0 → short_answer buffer ≡ false → frame_ground (decode file) frame ≡ 0 → round_ground file frame buffer ≡ 0
unfolding short_answer
frame-taken file frame buffer good long fits = round-fits file frame buffer good (ltb-false (length buffer) slots long) fits

-- the buffer of an accepted frame stays as long
pub buffer-long : (r : Senders) (firework : ℕ) (buffer : List ℕ) → short_answer buffer ≡ false → short_answer (answer_in buffer (answer_bytes firework r)) ≡ false
unfolding short_answer
buffer-long r firework buffer long =
    let l : slots ≤ length buffer = ltb-false (length buffer) slots long in
    rw (answer-length buffer firework r l) long

-- of two answers in a buffer the second stays
answered-twice : (e d : Effect) (firework last : ℕ) (buffer : List ℕ) → buffer_by e last (buffer_by d firework buffer) ≡ buffer_by e last buffer
unfolding answer_in
answered-twice e d firework last buffer =
    ap (λ (l : List ℕ). answer_bytes last e.senders ++ l)
    (drop_at (answer_bytes firework d.senders) (drop slots buffer) slots (answer_bytes-length firework d.senders))

-- ---- the data frame, by operation and data

abbrev data_by_lem : ℕ → List ℕ → List ℕ
data_by_lem operation content = data_sent (record { name = 0; file = 0; operation = operation; «record» = 0; content = content })

data_by : (s : Sent) → data_sent s ≡ data_by_lem s.operation s.content
unfolding data_sent
data_by s = refl

firework-bytes : Bytes (data_firework ∷ [])
firework-bytes = let b : Byte data_firework = omega arith in all_next b all_empty

by-round : {operation : ℕ} {content : List ℕ} → DataOf operation content → round_by_lem (data_by_lem operation content) ≡ msd
unfolding data_sent data_frame frame_of round_by_lem round_of round_in
by-round (of_write a b c d) = refl
by-round (of_other e) = rw e

by_first : {operation : ℕ} {content : List ℕ} → DataOf operation content → get_or (data_by_lem operation content) 0 0 ≡ data_firework
unfolding data_sent data_frame frame_of
by_first (of_write a b c d) = refl
by_first (of_other e) = rw e

by_bytes : {operation : ℕ} {content : List ℕ} → DataOf operation content → Bytes (data_by_lem operation content)
unfolding data_sent
by_bytes (of_write a b c d) = data-bytes (all_next a (all_next b (all_next c (all_next d all_empty))))
by_bytes (of_other e) = rw e firework-bytes

by_accepted : (c : Cluster) {operation : ℕ} {content : List ℕ} → DataOf operation content → write_pending c ≡ eqb operation write_operation → frame_ground c (data_by_lem operation content) ≡ 0
unfolding data_sent
by_accepted c (of_write {a} {b} {c = c'} {d} _ _ _ _) w = frame-fits a b c' d c w
by_accepted c (of_other {operation = operation} e) w = rw e (alone_fits c (w ∙ e))

-- the bytes between firework and check are a write's data
by_between : {operation : ℕ} {content : List ℕ} → DataOf operation content → eqb operation write_operation ≡ true → between (data_by_lem operation content) ≡ content
unfolding data_sent data_frame frame_of
by_between (of_write a b c d) e = refl
by_between (of_other n) e = let z = sym n ∙ e in cc

-- ---- what is pending

module _ (c : Cluster) (s : Sent) (may : MaySend s) where
  operation-back : operation_of (pb2_of s.file s.operation) ≡ s.operation
  unfolding pb2_of
  operation-back = let o = may.operation in omega arith

  legal-operation : no_operation (operation_of (pb2_of s.file s.operation)) ≡ false
  unfolding no_operation
  legal-operation = rw operation-back (le-ltb execute_operation s.operation may.operation)

  no_broadcast : broadcast_read (operation_of (pb2_of s.file s.operation)) s.name ≡ false
  no_broadcast = rw operation-back may.broadcast

  pub asked-legal : LegalPending (asked c s)
  unfolding asked with_address pb2_of
  asked-legal =
      let f = may.file in
      let o = may.operation in
      let byte : Byte (pb2_of s.file s.operation) = omega arith in
      address-pending c (next_epoch c.epoch) s.name (pb2_of s.file s.operation) s.«record» (next_epoch-byte c.epoch) may.name byte may.«record»
      legal-operation no_broadcast

  pub asked_duty : pending_duty (asked c s) ≡ duty_by s.name (pb2_of s.file s.operation) s.«record»
  unfolding pending_duty asked with_address with_pending
  asked_duty = refl

  asked-writes : write_pending (asked c s) ≡ eqb s.operation write_operation
  unfolding write_pending both asked with_address with_pending
  asked-writes = ap (λ (n : ℕ). eqb n write_operation) operation-back

  -- ---- the address frame

  address-round : round_by_lem (address_sent c s) ≡ msa
  unfolding address_sent address_frame frame_of round_by_lem round_of round_in
  address-round = refl

  checked : (n : ℕ) → not (eqb n n) ≡ false
  checked n = rw (eq-eqb n n refl)

  address-check : wrong_check_on c msa (address_sent c s) ≡ false
  unfolding wrong_check_on wrong_check address_sent address_frame address_bytes frame_of
  address-check = checked (address_check (next_epoch c.epoch ∷ s.name ∷ pb2_of s.file s.operation ∷ s.«record» ∷ []))

  pub address-accepted : frame_ground c (address_sent c s) ≡ 0
  unfolding frame_ground
  address-accepted =
      rw address-round
      (fits-none c msa (address_sent c s)
      (record {
        firework = unfold no_firework in refl;
        size = unfold wrong_length_on wrong_frame_length length_for address_sent address_frame address_bytes frame_of in refl;
        check = address-check;
        operation = unfold no_operation_on address_sent address_frame address_bytes frame_of in legal-operation;
        broadcast_read = unfold broadcast_read_on address_sent address_frame address_bytes frame_of in no_broadcast;
      }))

  address-after : (frame_on c (address_sent c s)).after ≡ asked c s
  unfolding frame_on asked
  address-after = rw address-round (unfold effect_of address_sent address_frame address_bytes frame_of in refl)

  pub address-sent-bytes : Bytes (address_sent c s)
  unfolding address_sent
  address-sent-bytes =
      let o = may.operation in
      address-bytes (next_epoch c.epoch) s.name s.file s.operation s.«record» (next_epoch-byte c.epoch) may.name
      may.file (omega arith) may.«record»

  -- ---- the data frame

  data-round : round_by_lem (data_sent s) ≡ msd
  data-round = rw (data_by s) (by-round may.content)

  data-first : get_or (data_sent s) 0 0 ≡ data_firework
  data-first = rw (data_by s) (by_first may.content)

  pub data-sent-bytes : Bytes (data_sent s)
  data-sent-bytes = rw (data_by s) (by_bytes may.content)

  pub data-accepted : frame_ground (asked c s) (data_sent s) ≡ 0
  data-accepted = rw (data_by s) (by_accepted (asked c s) may.content asked-writes)

  -- what it does
  pub data-effect : frame_on (asked c s) (data_sent s) ≡ data_effect (asked c s) (between (data_sent s))
  unfolding frame_on
  data-effect = rw data-round (unfold effect_of in refl)

-- ---- the two frames together

module _ (f : List ℕ) {s : Sent} (buffer : List ℕ) (bytes : Bytes f) (good : file_ground f ≡ 0) (long : short_answer buffer ≡ false) (may : MaySend s) where
  first : Answer × List ℕ × List ℕ
  first = round_on f (address_sent (decode f) s) buffer

  first_ground : round_ground f (address_sent (decode f) s) buffer ≡ 0
  first_ground = frame-taken f (address_sent (decode f) s) buffer good long (address-accepted (decode f) s may)

  first-becomes : Becomes first.2 (asked (decode f) s)
  unfolding first
  first-becomes =
      rw (address-after (decode f) s may) at (round-becomes f (address_sent (decode f) s) buffer bytes (address-sent-bytes (decode f) s may) first_ground)

  first-long : short_answer first.1 ≡ false
  unfolding first
  first-long = rw (round-accepted f (address_sent (decode f) s) buffer first_ground) (buffer-long _ _ buffer long)

  second_ground : round_ground first.2 (data_sent s) first.1 ≡ 0
  second_ground =
      frame-taken first.2 (data_sent s) first.1 first-becomes.accepted first-long
      (rw first-becomes.decoded (data-accepted (decode f) s may))

  first-bytes : Bytes first.2
  first-bytes = rw first-becomes.encoded (encode-bytes (asked (decode f) s) first-becomes.legal)

  pub round-sent-becomes : Becomes (round_sent f s buffer).2 (frame_on (asked (decode f) s) (data_sent s)).after
  unfolding round_sent first
  round-sent-becomes =
      rw first-becomes.decoded at (round-becomes first.2 (data_sent s) first.1 first-bytes (data-sent-bytes (decode f) s may) second_ground)

  -- what the data frame does, over the buffer as it was
  pub round_is :
      round_sent f s buffer ≡ (
        carried_by (frame_on (asked (decode f) s) (data_sent s)),
        buffer_by (frame_on (asked (decode f) s) (data_sent s)) data_firework buffer,
        encode (frame_on (asked (decode f) s) (data_sent s)).after,
      )
  unfolding round_sent first
  round_is =
      round-accepted first.2 (data_sent s) first.1 second_ground
      ∙ rw (first-becomes.decoded, data-first (decode f) s may, round-accepted f (address_sent (decode f) s) buffer first_ground, answered-twice)

-- ---- the code's round

-- an operation that is no write does the same whatever the data
executed_alike : (name n r : ℕ) (xs ys : List ℕ) (s : Slave) → slave_after (execution_of name n r) xs s ≡ slave_after (execution_of name n r) ys s
unfolding execution_of
executed_alike name n r xs ys s =
    by_case (eqb n configuration)
    (λ t.
    rw t
    (by_case (eqb r 2)
    (λ two. rw two (unfold slave_after in refl))
    (λ other. rw other (by_case (eqb r 1) (λ one. rw one (unfold slave_after in refl))
    (λ none. rw none (by_case (eqb r sleep_record) (λ four. rw four (unfold slave_after in refl)) (λ last. rw last (unfold slave_after in refl))))))))
    (λ f. rw f (unfold slave_after in refl))

unwritten_alike : (name pb2 pb3 : ℕ) (xs ys : List ℕ) → eqb (operation_of pb2) write_operation ≡ false → (s : Slave) → slave_after (duty_by name pb2 pb3) xs s ≡ slave_after (duty_by name pb2 pb3) ys s
unfolding duty_by
unwritten_alike name pb2 pb3 xs ys e s =
    by_case (eqb (operation_of pb2) read_operation)
    (λ t. rw t (unfold slave_after in refl))
    (λ f.
    rw (f, e)
    (by_case (eqb (operation_of pb2) execute_operation)
    (λ t. rw t (executed_alike name _ pb3 xs ys s))
    (λ none. rw none (unfold slave_after in refl))))

map-alike : (f g : Slave → Slave) → ((s : Slave) → f s ≡ g s) → (ss : List Slave) → map f ss ≡ map g ss
map-alike f g e [] = refl
map-alike f g e (s ∷ ss) = rw (e s, map-alike f g e ss)

module _ (c : Cluster) (r : MasterSlaveRound) (may : MaySend (sent_for r)) where
  round-alike : data_effect (asked c (sent_for r)) (between (data_sent (sent_for r))) ≡ data_effect (asked c (sent_for r)) (round_data r)
  unfolding slaves_after
  round-alike = by_case (eqb (sent_for r).operation write_operation) write other
    where
      write : eqb (sent_for r).operation write_operation ≡ true → data_effect (asked c (sent_for r)) (between (data_sent (sent_for r))) ≡ data_effect (asked c (sent_for r)) (round_data r)
      write e =
          let sent : between (data_sent (sent_for r)) ≡ (sent_for r).content = rw (data_by (sent_for r)) (by_between may.content e) in
          let given : (sent_for r).content ≡ round_data r = rw e in
          ap (λ (l : List ℕ). data_effect (asked c (sent_for r)) l) (sent ∙ given)

      other : eqb (sent_for r).operation write_operation ≡ false → data_effect (asked c (sent_for r)) (between (data_sent (sent_for r))) ≡ data_effect (asked c (sent_for r)) (round_data r)
      other e =
          let none : eqb (operation_of (pb2_of (sent_for r).file (sent_for r).operation)) write_operation ≡ false = rw (operation-back c (sent_for r) may) e in
          let alike = unwritten_alike (sent_for r).name (pb2_of (sent_for r).file (sent_for r).operation) (sent_for r).«record» (between (data_sent (sent_for r))) (round_data r) none in
          let same = map-alike _ _ alike (epoch_raised (asked c (sent_for r))).slaves in
          rw (asked_duty c (sent_for r) may, same)

  module _ {e n : ℕ} (is : e ≡ c.epoch) (next : n ≡ next_epoch e) where
    asked_is : after_address c n r ≡ asked c (sent_for r)
    unfolding after_address asked
    asked_is = rw (next, is)

    pub pending-sent : LegalPending (after_address c n r)
    pending-sent = rw asked_is (asked-legal c (sent_for r) may)

    pub carried-sent :
        {old new file : List ℕ} {mask : ℕ} → Carried (data_effect (after_address c n r) (round_data r)) data_firework old new mask file →
        Carried (frame_on (asked c (sent_for r)) (data_sent (sent_for r))) data_firework old new mask file
    carried-sent k = rw (data-effect c (sent_for r) may, round-alike) (rw asked_is at k)

-- what the code does is the round's two frames
pub sent-done :
    (f : List ℕ) {s : Sent} {old new file : List ℕ} {mask : ℕ} → Becomes f (decode f) → slots ≤ length old → MaySend s →
    Carried (frame_on (asked (decode f) s) (data_sent s)) data_firework old new mask file → (done mask, new, file) ≡ round_sent f s old
sent-done f {old = old} good enough may k =
    let bytes : Bytes f = rw good.encoded (encode-bytes (decode f) good.legal) in
    let long : short_answer old ≡ false = unfold short_answer in le-ltb (length old) slots enough in
    rw (round_is f old bytes good.accepted long may, ← k.senders, ← k.buffer, ← k.becomes.encoded)
