-- What the cluster's rules make of a slave in a round of the naming run, by its view: it changes as the view does, and sends
-- in slot 1 where the view says so.
-- Assumes nothing.
use Rattle.std.proofs.Common.{ℕ, ◌+◌, ◌*◌, ◌≤◌, ◌≡◌, refl, sym, ap, ◌∙◌, List, [], ◌∷◌, ◌++◌, map, Bool, true, false, cond, not, arith, length, get_or, eqb, leb, ne_eqb, le-leb}
use Rattle.std.proofs.Math.Seq.{sets}
use Rattle.file.specs.Rules.Bytes.{All, all_empty, all_next, bytes_of}
use Rattle.file.specs.Rules.Order.{both, either}
use Rattle.file.specs.Rules.Layout.{record_size}
use Rattle.file.specs.Rules.Cluster.{Slave, is_awake, bytes_in, configuration, documentation, has_record, record_of, last_record, logical_name, new_logical_name, comparison_value, unnamed, broadcast, pb2_of}
use Rattle.file.specs.Rules.Legal.{LegalSlave}
use Rattle.file.specs.Rules.Changes.{put_in_slave}
use Rattle.file.proofs.Order.{by_case, both-next}
use Rattle.file.proofs.Puts.{in_slave_same, in_slave_other}
use Rattle.master_slave.specs.Rules.Bus.{anyone}
use Rattle.master_slave.specs.Rules.Slaves.{duty_by, execution_of, addresses, addressed, answers_read, read_reply, answers_compare, reply_to, in_slot, sent_to, replaced}
use Rattle.master_slave.specs.Rules.Slaves.{may_write, is_name_record, written, takes_write, takes_name, named, slave_after}
use Rattle.master_slave.specs.Rules.Slaves as Slaves
use Rattle.master_slave.proofs.Untouched.{replaced-other}
use Rattle.master_slave.proofs.WrittenBytes.{replaced_sets}
use Rattle.master_slave.proofs.Kept.{rests_bytes, rests_kept}
use Rattle.master_slave.proofs.Asleep.{is-awake}
use Rattle.naming.specs.Inner.View.{SlaveView, view_of, view_unnamed, comparison_of, unnamed_change, change, replies, someone, answers, change_all}
use Rattle.naming.specs.Rules.RunRounds.{RunRound, poll, write_name, write_high, write_low, compare, baptize, sent, at_unnamed}
use Rattle.naming.proofs.Facts.{Fit}
use Rattle.naming.proofs.Abstract.{Sendable, of_poll, of_name, of_high, of_low, of_compare, of_baptize}
use Rattle.naming.proofs.SlaveViews.{view_by_lem, view-alike, view_by, halves_by, wrote-name, wrote-high, wrote-low, took-name}

-- the rules' operation of each of the run's rounds
unfoldable pub carried_out : RunRound → Slaves.Duty
carried_out (poll n) = Slaves.reading n documentation 1
carried_out (write_name n) = Slaves.writing unnamed configuration 1
carried_out (write_high h) = Slaves.writing unnamed configuration 2
carried_out (write_low l) = Slaves.writing unnamed configuration 3
carried_out compare = Slaves.comparing unnamed
carried_out baptize = Slaves.baptizing unnamed

pub operation-sent : (o : RunRound) → duty_by (sent o).name (pb2_of (sent o).file (sent o).operation) (sent o).«record» ≡ carried_out o
unfolding duty_by execution_of carried_out sent at_unnamed pb2_of
operation-sent (poll n) = refl
operation-sent (write_name n) = refl
operation-sent (write_high h) = refl
operation-sent (write_low l) = refl
operation-sent compare = refl
operation-sent baptize = refl

-- ---- a legal slave

configured : {s : Slave} → LegalSlave s → 16 ≤ length (bytes_in s configuration)
unfolding last_record
configured l = omega (arith, l.configured)

documented : {s : Slave} → LegalSlave s → 12 ≤ length (bytes_in s documentation)
unfolding last_record
documented l = omega (arith, l.documented)

-- at 0xFF the unnamed are addressed, of those that are awake
at-unnamed : (s : Slave) → is_awake s ≡ true → addressed unnamed s ≡ view_unnamed (view_of s)
unfolding addressed addresses view_unnamed view_of
at-unnamed s awake = both-next (addresses unnamed (logical_name s)) awake

-- a named one at its own name
at_name : (n : ℕ) (s : Slave) → is_awake s ≡ true → Fit n → addressed n s ≡ eqb (logical_name s) n
unfolding addressed addresses
at_name n s awake f = rw (both-next (addresses n (logical_name s)) awake, ne_eqb n unnamed f.named, ne_eqb n broadcast f.some)

value_of : (s : Slave) → LegalSlave s → comparison_value s ≡ comparison_of (view_of s)
unfolding comparison_value
value_of s l = halves_by (bytes_in s configuration) (bytes_in s documentation) (configured l) ∙ rw (view_by s)

-- ---- what it becomes

documents_differ : ◌≡◌ {A = ℕ} documentation configuration → ⊥
documents_differ = omega arith

-- the view of a slave with a record of 0x08 replaced
replaced-view : (s : Slave) (k : ℕ) (bs : List ℕ) → view_of (replaced s configuration k bs) ≡ view_by_lem (sets (bytes_in s configuration) k bs) (bytes_in s documentation)
replaced-view s k bs =
    view_by (replaced s configuration k bs)
    ∙ rw (replaced_sets s configuration k bs, replaced-other s configuration k bs documentation documents_differ)

both-last : (b : Bool) → both b (both true (both true true)) ≡ b
unfolding both
both-last true = refl
both-last false = refl

-- a record of 0x08 up to 3 may be written, so the unnamed take the write
writes : (s : Slave) (r : ℕ) → is_awake s ≡ true → LegalSlave s → (r ≡ 0 → ⊥) → r ≤ 3 → takes_write unnamed configuration r s ≡ view_unnamed (view_of s)
unfolding takes_write may_write has_record
writes s r awake l some most =
    let within : 4 * r + 4 ≤ length (bytes_in s configuration) = omega (arith, configured l) in
    let has : leb (4 * r + 4) (length (bytes_in s configuration)) ≡ true = le-leb (4 * r + 4) (length (bytes_in s configuration)) within in
    rw (at-unnamed s awake, has, ne_eqb r 0 some) (both-last (view_unnamed (view_of s)))

-- a write changes the view of those it reaches
write-changes :
    (s : Slave) (r : ℕ) (bs : List ℕ) (o : RunRound) → is_awake s ≡ true → LegalSlave s → (r ≡ 0 → ⊥) → r ≤ 3 →
    view_by_lem (sets (bytes_in s configuration) (record_size * r) (written configuration r bs)) (bytes_in s documentation) ≡ unnamed_change o (view_by_lem (bytes_in s configuration) (bytes_in s documentation)) →
    view_of (slave_after (Slaves.writing unnamed configuration r) bs s) ≡ change o (view_of s)
unfolding slave_after change
write-changes s r bs o awake l some most e =
    rw (writes s r awake l some most)
    (by_case
    {P =
    view_of (cond (view_unnamed (view_of s)) (replaced s configuration (record_size * r) (written configuration r bs)) s) ≡
    cond (view_unnamed (view_of s)) (unnamed_change o (view_of s)) (view_of s)}
    (view_unnamed (view_of s))
    (λ t. rw t (replaced-view s (record_size * r) (written configuration r bs) ∙ e ∙ ap (unnamed_change o) (sym (view_by s))))
    (λ f. rw f))

unchanged : (b : Bool) (v : SlaveView) → v ≡ cond b v v
unchanged true v = refl
unchanged false v = refl

-- a new logical name taken
named-view :
    (s : Slave) → LegalSlave s →
    view_of (named s) ≡
    record {
      physical = (view_of s).physical;
      logical = (view_of s).new_name;
      new_name = (view_of s).new_name;
      high = (view_of s).high;
      low = (view_of s).low;
    }
unfolding named new_logical_name
named-view s l =
    view_by (put_in_slave s configuration 7 (get_or (bytes_in s configuration) 6 0))
    ∙ rw (
      in_slave_same configuration 7 (get_or (bytes_in s configuration) 6 0) s,
      in_slave_other configuration 7 (get_or (bytes_in s configuration) 6 0) s documentation documents_differ,
      view_by s,
    )
    (took-name (bytes_in s configuration) (bytes_in s documentation) (configured l))

names-taken : (s : Slave) → is_awake s ≡ true → LegalSlave s → takes_name unnamed s ≡ both (view_unnamed (view_of s)) (eqb (view_of s).physical (comparison_of (view_of s)))
unfolding takes_name
names-taken s awake l = rw (at-unnamed s awake, value_of s l) (unfold view_of in refl)

baptize_changes : (s : Slave) → is_awake s ≡ true → LegalSlave s → view_of (slave_after (Slaves.baptizing unnamed) [] s) ≡ change baptize (view_of s)
unfolding slave_after change unnamed_change both
baptize_changes s awake l =
    rw (names-taken s awake l)
    (by_case (view_unnamed (view_of s))
    (λ t.
    rw t
    (by_case (eqb (view_of s).physical (comparison_of (view_of s))) (λ y. rw y (named-view s l)) (λ n. rw n)))
    (λ f. rw f))

-- the slave's view after a round of the run
pub slave-changes :
    {o : RunRound} → Sendable o → (s : Slave) → is_awake s ≡ true → LegalSlave s → view_of (slave_after (carried_out o) (sent o).content s) ≡ change o (view_of s)
unfolding carried_out sent at_unnamed written is_name_record both
slave-changes (of_poll f) s awake l = unfold slave_after change unnamed_change in unchanged (view_unnamed (view_of s)) (view_of s)
slave-changes (of_name {n} f) s awake l =
    write-changes s 1 (0 ∷ 0 ∷ n ∷ unnamed ∷ []) (write_name n) awake l (λ (z : 1 ≡ 0). omega arith) (omega arith)
    (wrote-name (bytes_in s configuration) (bytes_in s documentation) (configured l) n)
slave-changes (of_high {h} k) s awake l =
    write-changes s 2 (bytes_of 4 h) (write_high h) awake l (λ (z : 2 ≡ 0). omega arith) (omega arith)
    (wrote-high (bytes_in s configuration) (bytes_in s documentation) (configured l) h k)
slave-changes (of_low {l = h} k) s awake l =
    write-changes s 3 (bytes_of 4 h) (write_low h) awake l (λ (z : 3 ≡ 0). omega arith) (omega arith)
    (wrote-low (bytes_in s configuration) (bytes_in s documentation) (configured l) h k)
slave-changes of_compare s awake l = unfold slave_after change unnamed_change in unchanged (view_unnamed (view_of s)) (view_of s)
slave-changes of_baptize s awake l = baptize_changes s awake l

-- ---- what it sends in slot 1

-- 1 where the test passes
abbrev one_if : Bool → ℕ
one_if b = cond b 1 0

read-begins : (l : List ℕ) → anyone (in_slot (read_reply l) 1) ≡ 1
unfolding read_reply in_slot anyone
read-begins [] = refl
read-begins (b ∷ bs) = refl

turned : (a b : Bool) → both a (both b true) ≡ both b a
unfolding both
turned true true = refl
turned true false = refl
turned false true = refl
turned false false = refl

poll-sends : (n : ℕ) (s : Slave) → is_awake s ≡ true → Fit n → LegalSlave s → answers_read n documentation 1 s ≡ replies (poll n) (view_of s)
unfolding answers_read replies has_record
poll-sends n s awake f l =
    let has : leb 8 (length (bytes_in s documentation)) ≡ true = le-leb 8 (length (bytes_in s documentation)) (omega (arith, documented l)) in
    rw (at_name n s awake f, has) (unfold view_of view_unnamed Slaves.is_unnamed in turned (eqb (logical_name s) n) (not (eqb (logical_name s) unnamed)))

compare-sends : (s : Slave) → is_awake s ≡ true → LegalSlave s → answers_compare unnamed s ≡ replies compare (view_of s)
unfolding answers_compare replies
compare-sends s awake l = rw (at-unnamed s awake, value_of s l) (unfold both view_of in refl)

pub slave-sends : {o : RunRound} → Sendable o → (s : Slave) → is_awake s ≡ true → LegalSlave s → anyone (in_slot (reply_to (carried_out o) s) 1) ≡ one_if (replies o (view_of s))
unfolding carried_out reply_to
slave-sends (of_poll {n} f) s awake l =
    rw (poll-sends n s awake f l)
    (by_case (replies (poll n) (view_of s)) (λ t. rw t (read-begins (record_of s documentation 1))) (λ e. rw e (unfold in_slot anyone in refl)))
slave-sends (of_name f) s awake l = unfold in_slot anyone replies in refl
slave-sends (of_high k) s awake l = unfold in_slot anyone replies in refl
slave-sends (of_low k) s awake l = unfold in_slot anyone replies in refl
slave-sends of_compare s awake l =
    rw (compare-sends s awake l)
    (by_case (replies compare (view_of s)) (λ t. rw t (unfold in_slot anyone in refl)) (λ e. rw e (unfold in_slot anyone in refl)))
slave-sends of_baptize s awake l = unfold in_slot anyone replies in refl

-- ---- all slaves

someone_of : (a b : List ℕ) (x y : Bool) → anyone a ≡ one_if x → anyone b ≡ one_if y → anyone (a ++ b) ≡ one_if (either x y)
unfolding anyone either
someone_of [] b true y p q = absurd (omega arith)
someone_of [] b false y p q = q
someone_of (c ∷ a) b true y p q = refl
someone_of (c ∷ a) b false y p q = absurd (omega arith)

pub slaves-send : {o : RunRound} → Sendable o → {ss : List Slave} → All (λ (s : Slave). s.asleep ≡ 0) ss → All LegalSlave ss → anyone (sent_to (carried_out o) ss 1) ≡ one_if (answers o (map view_of ss))
unfolding sent_to answers someone
slaves-send f all_empty all_empty = unfold anyone in refl
slaves-send {o} f (all_next up ups) (all_next {a = s} {l = ss} l h) =
    someone_of (in_slot (reply_to (carried_out o) s) 1) (sent_to (carried_out o) ss 1) (replies o (view_of s)) (answers o (map view_of ss)) (slave-sends f s (is-awake s up) l) (slaves-send f ups h)

pub slaves-change :
    {o : RunRound} → Sendable o → {ss : List Slave} → All (λ (s : Slave). s.asleep ≡ 0) ss → All LegalSlave ss →
    map view_of (map (slave_after (carried_out o) (sent o).content) ss) ≡ change_all o (map view_of ss)
unfolding change_all
slaves-change f all_empty all_empty = refl
slaves-change f (all_next up ups) (all_next {a = s} l h) = rw (slave-changes f s (is-awake s up) l, slaves-change f ups h)

-- ---- asleep or awake afterwards, the slaves are seen as they were

pub slaves-rest : (o : Slaves.Duty) (ss : List Slave) → map view_of (map (Slaves.rests_after o) ss) ≡ map view_of ss
slaves-rest o [] = refl
slaves-rest o (s ∷ ss) = rw (view-alike s (Slaves.rests_after o s) (rests_bytes o s configuration) (rests_kept o s).name, slaves-rest o ss)

-- and no round of the run puts one to sleep
pub never_sleeps : (o : RunRound) (s : Slave) → Slaves.falls_asleep (carried_out o) s ≡ false
unfolding carried_out Slaves.falls_asleep
never_sleeps (poll n) s = refl
never_sleeps (write_name n) s = refl
never_sleeps (write_high h) s = refl
never_sleeps (write_low l) s = refl
never_sleeps compare s = refl
never_sleeps baptize s = refl
