-- A round of the naming run on an accepted file: it may be sent, the file stays accepted, the views change as the round says, and bit 1
-- of the mask says whether someone answers.
-- Assumes nothing.
use Rattle.std.proofs.Common.{ℕ, ◌/◌, ◌%◌, ◌≤◌, ◌<◌, ◌≡◌, refl, sym, ap, ◌∙◌, subst, List, [], ◌∷◌, map, Bool, true, false, cond, arith, eqb, get_or, ne_eqb}
use borrow.Author.Tests.{eqb-false}
use Rattle.file.specs.Rules.Bytes.{Byte, Bytes, All, bytes_of}
use Rattle.file.specs.Rules.Order.{both}
use Rattle.file.specs.Rules.Results.{done}
use Rattle.file.specs.Rules.Layout.{record_size}
use Rattle.file.specs.Rules.Cluster.{Slave, Cluster, unnamed, broadcast, write_operation, execute_operation}
use Rattle.file.specs.Rules.Changes.{with_slaves, with_epoch, with_pending}
use Rattle.file.specs.Rules.Decode.{decode}
use Rattle.file.specs.Rules.FileGrounds.{file_ground}
use Rattle.file.specs.Rules.Legal.{LegalSlave}
use Rattle.file.specs.Inner.Accepted.{Becomes}
use Rattle.file.proofs.Order.{by_case, both_false_right}
use Rattle.file.proofs.Accepted.{accepted-becomes, encode-bytes}
use Rattle.frame.specs.Rules.Frames.{between, data_frame, frame_of}
use Rattle.frame.specs.Rules.FrameGrounds.{broadcast_read}
use Rattle.master_slave.specs.Rules.Bus.{Senders, slots, anyone, sender_mask}
use Rattle.master_slave.specs.Rules.Slaves.{with_address, epoch_raised, pending_duty, sent_to, slaves_after, slave_after, rests_after, rested}
use Rattle.cluster.specs.Rules.RoundGrounds.{short_answer}
use Rattle.cluster.specs.Rules.Round.{Answer, frame_on}
use Rattle.cluster.specs.Rules.MasterSlave.{data_sent, round_sent}
use Rattle.cluster.specs.Inner.Sending.{DataOf, of_write, of_other, MaySend, asked}
use Rattle.master_slave.proofs.Bus.{mask-bit}
use Rattle.cluster.proofs.Sleep.{rested-awake}
use Rattle.cluster.proofs.SentRounds.{asked_duty, data-effect, round-sent-becomes, round_is}
use Rattle.naming.specs.Rules.RunRounds.{RunRound, poll, write_name, write_high, write_low, compare, baptize, sent, at_unnamed, half}
use Rattle.naming.specs.Inner.View.{view_of, view, change_all, answers}
use Rattle.naming.specs.Rules.Step.{is_reply}
use Rattle.naming.specs.Rules.Position.{Position}
use Rattle.naming.specs.Rules.Run.{is_extra, next_round, advance}
use Rattle.naming.proofs.Abstract.{polled, Sendable, of_poll, of_name, of_high, of_low, of_compare, of_baptize}
use Rattle.naming.proofs.SlaveRounds.{carried_out, operation-sent, slaves-send, slaves-change, slaves-rest, never_sleeps}

-- ---- the rounds of a run may be sent

-- the four bytes of a half
half-data : (n : ℕ) → n < half → DataOf write_operation (bytes_of record_size n)
unfolding bytes_of
half-data n small =
    let a : Byte (n / 16777216) = omega arith in
    let b : Byte (n % 16777216 / 65536) = omega arith in
    let c : Byte (n % 16777216 % 65536 / 256) = omega arith in
    let d : Byte (n % 16777216 % 65536 % 256 / 1) = omega arith in
    of_write a b c d

name-data : (n : ℕ) → Byte n → DataOf write_operation (0 ∷ 0 ∷ n ∷ unnamed ∷ [])
name-data n b =
    let none : Byte 0 = omega arith in
    let last : Byte unnamed = omega arith in
    of_write none none b last

at-unnamed :
    {operation : ℕ} {content : List ℕ} (r : ℕ) → operation ≤ execute_operation → Byte r → DataOf operation content →
    MaySend (at_unnamed operation r content)
unfolding at_unnamed broadcast_read
at-unnamed r o b d =
    record {
      name = omega arith;
      file = omega arith;
      operation = o;
      «record» = b;
      broadcast = both_false_right _ refl;
      content = d;
    }

pub may-send : {o : RunRound} → Sendable o → MaySend (sent o)
unfolding sent broadcast_read
may-send (of_poll {n} f) =
    record {
      name = f.byte;
      file = omega arith;
      operation = omega arith;
      «record» = omega arith;
      broadcast = rw (ne_eqb n broadcast f.some) (unfold both in refl);
      content = of_other refl;
    }
may-send (of_name {n} f) = at-unnamed 1 (omega arith) (omega arith) (name-data n f.byte)
may-send (of_high {h = h} k) = at-unnamed 2 (omega arith) (omega arith) (half-data h k)
may-send (of_low {l = l} k) = at-unnamed 3 (omega arith) (omega arith) (half-data l k)
may-send of_compare = at-unnamed 2 (omega arith) (omega arith) (of_other refl)
may-send of_baptize = at-unnamed 1 (omega arith) (omega arith) (of_other refl)

-- ---- what they do

data-content : (o : RunRound) (ss : List Slave) → map (slave_after (carried_out o) (between (data_sent (sent o)))) ss ≡ map (slave_after (carried_out o) (sent o).content) ss
unfolding carried_out slave_after data_sent sent at_unnamed data_frame frame_of bytes_of
data-content (poll n) ss = refl
data-content (write_name n) ss = refl
data-content (write_high h) ss = refl
data-content (write_low l) ss = refl
data-content compare ss = refl
data-content baptize ss = refl

module _ (c : Cluster) {o : RunRound} (f : Sendable o) where
  asked-pending : pending_duty (asked c (sent o)) ≡ carried_out o
  asked-pending = asked_duty c (sent o) (may-send f) ∙ operation-sent o

  -- who sends, and what the slaves become
  data-senders : (frame_on (asked c (sent o)) (data_sent (sent o))).senders ≡ sent_to (carried_out o) c.slaves
  data-senders = rw (data-effect c (sent o) (may-send f), asked-pending) (unfold asked with_address with_pending with_epoch in refl)

  data-slaves : (frame_on (asked c (sent o)) (data_sent (sent o))).after.slaves ≡ map (rests_after (carried_out o)) (map (slave_after (carried_out o) (sent o).content) c.slaves)
  data-slaves =
      rw (data-effect c (sent o) (may-send f), asked-pending)
      (unfold rested slaves_after epoch_raised with_slaves asked with_address with_pending with_epoch in ap (map (rests_after (carried_out o))) (data-content o c.slaves))

  -- who are all awake
  data-awake : All (λ (s : Slave). s.asleep ≡ 0) (frame_on (asked c (sent o)) (data_sent (sent o))).after.slaves
  data-awake = rw (data-effect c (sent o) (may-send f), asked-pending) (rested-awake (carried_out o) (never_sleeps o) _)

-- bit 1 of the mask
bit-one : (r : Senders) (b : Bool) → anyone (r 1) ≡ cond b 1 0 → is_reply (done (sender_mask r)) ≡ b
unfolding is_reply sender_mask
bit-one r b e = rw (mask-bit r slots 1 (omega arith), e) (go b)
  where
    go : (t : Bool) → eqb (cond t 1 0) 1 ≡ t
    go true = refl
    go false = refl

-- what a round makes of a file: all are awake afterwards, whoever slept
pub record Made (f : List ℕ) (o : RunRound) (after : Answer × List ℕ × List ℕ) : Type 0 where
  pub bytes : Bytes after.2
  pub accepted : file_ground after.2 ≡ 0
  pub slaves : (decode after.2).slaves ≡ map (rests_after (carried_out o)) (map (slave_after (carried_out o) (sent o).content) (decode f).slaves)
  pub awake : All (λ (s : Slave). s.asleep ≡ 0) (decode after.2).slaves

-- and where nobody slept, what it makes of the views, and its answer
pub record Seen (f : List ℕ) (o : RunRound) (after : Answer × List ℕ × List ℕ) : Type 0 where
  pub views : view (decode after.2) ≡ change_all o (view (decode f))
  pub heard : is_reply after.0 ≡ answers o (view (decode f))

module _ (f : List ℕ) {o : RunRound} (buffer : List ℕ) (bytes : Bytes f) (good : file_ground f ≡ 0) (long : short_answer buffer ≡ false) (s : Sendable o) where
  becomes : Becomes (round_sent f (sent o) buffer).2 (frame_on (asked (decode f) (sent o)) (data_sent (sent o))).after
  becomes = round-sent-becomes f buffer bytes good long (may-send s)

  replies : (round_sent f (sent o) buffer).0 ≡ done (sender_mask (sent_to (carried_out o) (decode f).slaves))
  replies = rw (round_is f buffer bytes good long (may-send s), data-senders (decode f) s)

  legal-slaves : All LegalSlave (decode f).slaves
  legal-slaves = (accepted-becomes f bytes good).legal.slaves

  pub round-made : Made f o (round_sent f (sent o) buffer)
  round-made =
      record {
        bytes = rw becomes.encoded (encode-bytes _ becomes.legal);
        accepted = becomes.accepted;
        slaves = ap (λ (c : Cluster). c.slaves) becomes.decoded ∙ data-slaves (decode f) s;
        awake = subst (λ (c : Cluster). All (λ (x : Slave). x.asleep ≡ 0) c.slaves) (sym becomes.decoded) (data-awake (decode f) s);
      }

  pub round-seen : All (λ (x : Slave). x.asleep ≡ 0) (decode f).slaves → Seen f o (round_sent f (sent o) buffer)
  unfolding view
  round-seen awake =
      record {
        views =
            ap (map view_of) round-made.slaves
            ∙ slaves-rest (carried_out o) (map (slave_after (carried_out o) (sent o).content) (decode f).slaves)
            ∙ slaves-change s awake legal-slaves;
        heard = rw replies (bit-one (sent_to (carried_out o) (decode f).slaves) (answers o (map view_of (decode f).slaves)) (slaves-send s awake legal-slaves));
      }

-- ---- the run's first round, the extra read, whoever sleeps

-- a read changes no slave, so no view
poll-slaves : (n : ℕ) (bs : List ℕ) (ss : List Slave) → map (slave_after (carried_out (poll n)) bs) ss ≡ ss
unfolding carried_out slave_after
poll-slaves n bs [] = refl
poll-slaves n bs (s ∷ ss) = ap (λ (l : List Slave). s ∷ l) (poll-slaves n bs ss)

poll_views : (f : List ℕ) (n : ℕ) (after : Answer × List ℕ × List ℕ) → Made f (poll n) after → view (decode after.2) ≡ change_all (poll n) (view (decode f))
unfolding view
poll_views f n after m =
    ap (map view_of) m.slaves
    ∙ slaves-rest (carried_out (poll n)) (map (slave_after (carried_out (poll n)) (sent (poll n)).content) (decode f).slaves)
    ∙ ap (map view_of) (poll-slaves n (sent (poll n)).content (decode f).slaves)
    ∙ sym (polled n (map view_of (decode f).slaves))

-- what a step's round makes of the views, and how the position moves on
pub record StepSeen (names f : List ℕ) (p : Position) (after : Answer × List ℕ × List ℕ) : Type 0 where
  pub views : view (decode after.2) ≡ change_all (next_round names p) (view (decode f))
  pub moved : advance names p (is_reply after.0) ≡ advance names p (answers (next_round names p) (view (decode f)))

extra-next : (names : List ℕ) (p : Position) → is_extra p ≡ true → next_round names p ≡ poll (get_or names 0 0)
unfolding next_round
extra-next names p e = rw e

extra_ignores : (names : List ℕ) (p : Position) → is_extra p ≡ true → (a b : Bool) → advance names p a ≡ advance names p b
unfolding advance
extra_ignores names p e a b = rw e

-- the extra read's reply is ignored; before any other round nobody sleeps
pub step-seen :
    (names f : List ℕ) (p : Position) {after : Answer × List ℕ × List ℕ} → Made f (next_round names p) after →
    ((p.counts.rounds ≡ 0 → ⊥) → Seen f (next_round names p) after) → StepSeen names f p after
step-seen names f p {after} m seen =
    by_case (is_extra p)
    (λ e.
    record {
      views =
          subst (λ (o : RunRound). Made f o after → view (decode after.2) ≡ change_all o (view (decode f))) (sym (extra-next names p e))
          (poll_views f (get_or names 0 0) after) m;
      moved = extra_ignores names p e _ _;
    })
    (λ e.
    let s = seen (unfold is_extra in eqb-false _ _ e) in record { views = s.views; moved = ap (advance names p) s.heard })
