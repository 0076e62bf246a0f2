-- One slave's part in the data part of a master-slave round: one law for each way out of a function.
-- Assumes nothing.
use Rattle.std.specs.Option.{is_some}
use Prim.Native.Nat.{ℕ, suc, ◌+◌, ◌*◌, ◌≤◌, ◌<◌}
use native.Mathlib.Omega.{arith}
use mathlib.Core.Path.{◌≡◌, refl, sym, ap, ◌∙◌, subst}
use mathlib.Core.Logic.{◌≢◌}
use mathlib.Core.List.{List, [], ◌∷◌}
use mathlib.Core.Bool.{Bool, true, false, cond, not}
use lib.ListN.{length, get_or, set, length-append}
use lib.Seq.{set-get_or, set-set, sets}
use lib.Dec.{eqb, leb}
use borrow.Author.Tests.{eq-eqb, ne_eqb, le-leb, lt-leb, not-true, not-false}
use mir.Val.{Fits}
use mir.Syntax.{w8}
use Rattle.file.specs.Rules.Bytes.{Bytes, all_empty, all_next, part}
use Rattle.file.specs.Rules.Order.{both}
use Rattle.file.specs.Rules.Layout.{record_size}
use Rattle.file.specs.Inner.Layout.{logical_name_place}
use Rattle.file.specs.Rules.Cluster.{Slave, Cluster, is_awake, has_record, record_of, logical_name, physical_name, comparison_value, new_logical_name, configuration, documentation, unnamed, broadcast}
use Rattle.file.specs.Inner.Places.{no_slave_lem, slave_of, file_place, put_byte, put_sleep, put_bytes}
use Rattle.file.specs.Rules.Changes.{put_in_slave, with_slaves}
use Rattle.file.specs.Inner.Accepted.{Becomes, FoundRecord, record_at, find_record}
use Rattle.file.specs.Inner.FileAnswers.{found_record}
use Rattle.file.proofs.Order.{by_case, clash, both_true, both_left, both-next, both_false_left, both_false_right}
use Rattle.file.proofs.Puts.{put_byte-slave-same, put_byte-count, sets_again, has_record-fits}
use Rattle.file.proofs.ReaderLaws.{place-within, part-there}
use Rattle.file.proofs.StoreLaws.{becomes-record}
use Rattle.master_slave.specs.Rules.Slaves.{Duty, nothing, sleeping, sleep_record, falls_asleep, rests_after, addresses, addressed, is_unnamed, reading, writing}
use Rattle.master_slave.specs.Rules.Slaves.{comparing, baptizing, answers_read, read_reply, answers_compare, reply_to, may_write, is_name_record, written}
use Rattle.master_slave.specs.Rules.Slaves.{takes_write, takes_name, named, replaced, slave_after}
use Rattle.master_slave.proofs.Kept.{written-bytes}
use Rattle.master_slave.proofs.Asleep.{asleep_quiet, asleep_stays, asleep-wakes}
use Rattle.master_slave.proofs.WrittenBytes.{written-most}
use Rattle.master_slave.proofs.Hearing.{record_of-length}
use Rattle.master_slave.specs.Inner.Carried.{said, reach_of, Replied, with_slave}
use Rattle.master_slave.specs.Inner.Duties.{data_in, DataPut}
use Rattle.master_slave.specs.declared.types.DataBytes.{DataBytes}
use Rattle.std.specs.Prelude.{Option, Some, None}

-- ---- a record that was looked for

pub record Found (c : Cluster) (s n r place : ℕ) : Type 0 where
  pub has : has_record (slave_of c s) n r ≡ true
  pub at : place ≡ file_place c s n + record_size * r

at_injective : {p q : ℕ} → record_at p ≡ record_at q → p ≡ q
at_injective e = cc

never_at : {A : Type 0} {p : ℕ} → record_at p ≡ FoundRecord.no_record_lem → A
never_at e = let z : ◌≡◌ {A = ℕ} 0 1 = cc in absurd (omega arith)

pub found_facts : (c : Cluster) (s n r : ℕ) {x : Option ℕ} {place : ℕ} → found_record x ≡ find_record c s n r → x ≡ Some place → Found c s n r place
unfolding found_record find_record
found_facts c s n r {x} {place} e is =
    let g : record_at place ≡ cond (has_record (slave_of c s) n r) (record_at (file_place c s n + record_size * r)) FoundRecord.no_record_lem = rw is at e in
    by_case (has_record (slave_of c s) n r)
    (λ t. record { has = t; at = at_injective (rw t at g) })
    (λ t. never_at (rw t at g))

pub missing_facts : (c : Cluster) (s n r : ℕ) {x : Option ℕ} → found_record x ≡ find_record c s n r → x ≡ None → has_record (slave_of c s) n r ≡ false
unfolding found_record find_record
missing_facts c s n r {x} e is =
    let g : FoundRecord.no_record_lem ≡ cond (has_record (slave_of c s) n r) (record_at (file_place c s n + record_size * r)) FoundRecord.no_record_lem = rw is at e in
    by_case (has_record (slave_of c s) n r) (λ t. never_at (sym (rw t at g))) (λ t. t)

pub found_room : {f : List ℕ} {c : Cluster} {s n r place : ℕ} → Becomes f c → Found c s n r place → place + 4 ≤ length f
found_room {f} {c} {s} {n} {r} h x =
    omega (arith, x.at, place-within h s n (omega (arith, has_record-fits (slave_of c s) n r x.has)), has_record-fits (slave_of c s) n r x.has)

pub record-room : {f : List ℕ} (c : Cluster) (s n r : ℕ) {x : Option ℕ} {place : ℕ} → Becomes f c → found_record x ≡ find_record c s n r → x ≡ Some place → place + 4 ≤ length f
record-room c s n r h e is = found_room h (found_facts c s n r e is)

-- ---- replies

pub reply_quiet : {reply : List ℕ} (b : List ℕ) (last : ℕ) → reply ≡ [] → Replied reply b b last last
unfolding said reach_of
reply_quiet b last e = record { buffer = rw e; reach = rw e }

pub reply-full : {reply b new : List ℕ} (last : ℕ) {k : ℕ} → new ≡ said b 1 reply → length reply ≡ suc k → Replied reply b new last (suc k)
unfolding reach_of
reply-full {reply} last {k} e size = record { buffer = e; reach = go reply size }
  where
    go : (l : List ℕ) → length l ≡ suc k → suc k ≡ reach_of last l
    go [] p = absurd (omega arith)
    go (x ∷ xs) p = sym p

both_assoc : (a b d : Bool) → both a (both b d) ≡ both (both a b) d
unfolding both
both_assoc true b d = refl
both_assoc false b d = refl

answers_read_as : (name n r : ℕ) (s : Slave) {own : ℕ} → is_awake s ≡ true → own ≡ logical_name s → answers_read name n r s ≡ both (both (addresses name own) (not (eqb own unnamed))) (has_record s n r)
unfolding answers_read addressed is_unnamed
answers_read_as name n r s {own} awake e = rw (both-next (addresses name (logical_name s)) awake, e) (both_assoc (addresses name (logical_name s)) (not (eqb (logical_name s) unnamed)) (has_record s n r))

reply-read : (name n r : ℕ) (s : Slave) → answers_read name n r s ≡ true → reply_to (reading name n r) s ≡ read_reply (record_of s n r)
unfolding reply_to
reply-read name n r s e = rw e

reply_unread : (name n r : ℕ) (s : Slave) → answers_read name n r s ≡ false → reply_to (reading name n r) s ≡ []
unfolding reply_to
reply_unread name n r s e = rw e

read_reply-length : (l : List ℕ) → length l ≡ 4 → length (read_reply l) ≡ 5
unfolding read_reply
read_reply-length l e = rw (length-append, e)

-- a sleeping slave does not reply, to whatever
pub reply-asleep : (c : Cluster) (s : ℕ) (o : Duty) {up : Bool} (b : List ℕ) (last : ℕ) → up ≡ is_awake (slave_of c s) → not up ≡ true → Replied (reply_to o (slave_of c s)) b b last last
reply-asleep c s o {up} b last is no' = reply_quiet b last (asleep_quiet (slave_of c s) (sym is ∙ not-true up no') o)

-- ---- the ways of a read, of a slave that is awake

module _ {f : List ℕ} {c : Cluster} (h : Becomes f c) (s name n r : ℕ) {own : ℕ} {t up : Bool} (wakes : up ≡ is_awake (slave_of c s)) (is_up : not up ≡ false)
    (named' : own ≡ logical_name (slave_of c s)) (test : t ≡ both (addresses name own) (not (eqb own unnamed))) (b : List ℕ) (last : ℕ) where
  pub read_unaddressed : not t ≡ true → Replied (reply_to (reading name n r) (slave_of c s)) b b last last
  read_unaddressed no' =
      reply_quiet b last
      (reply_unread name n r (slave_of c s)
      (answers_read_as name n r (slave_of c s) (sym wakes ∙ not-false up is_up) named' ∙ both_false_left (has_record (slave_of c s) n r) (sym test ∙ not-true t no')))

  pub read_missing : {x : Option ℕ} → found_record x ≡ find_record c s n r → x ≡ None → Replied (reply_to (reading name n r) (slave_of c s)) b b last last
  read_missing e is =
      reply_quiet b last
      (reply_unread name n r (slave_of c s)
      (answers_read_as name n r (slave_of c s) (sym wakes ∙ not-false up is_up) named' ∙ both_false_right (both (addresses name own) (not (eqb own unnamed))) (missing_facts c s n r e is)))

  pub read_found :
      not t ≡ false → {x : Option ℕ} {place : ℕ} {new : List ℕ} → found_record x ≡ find_record c s n r → x ≡ Some place →
      new ≡ said b 1 (read_reply (part f place 4)) → Replied (reply_to (reading name n r) (slave_of c s)) b new last 5
  unfolding record_of
  read_found yes' {x} {place} e is stored =
      let found : Found c s n r place = found_facts c s n r e is in
      let answers : answers_read name n r (slave_of c s) ≡ true =
      answers_read_as name n r (slave_of c s) (sym wakes ∙ not-false up is_up) named' ∙ both_true (sym test ∙ not-false t yes') found.has
      in
      let bytes : part f place 4 ≡ record_of (slave_of c s) n r =
      ap (λ (p : ℕ). part f p 4) found.at ∙ part-there h s n (record_size * r) record_size (has_record-fits (slave_of c s) n r found.has)
      in
      let reply : reply_to (reading name n r) (slave_of c s) ≡ read_reply (record_of (slave_of c s) n r) = reply-read name n r (slave_of c s) answers in
      reply-full last (stored ∙ ap (λ (l : List ℕ). said b 1 (read_reply l)) bytes ∙ ap (λ (l : List ℕ). said b 1 l) (sym reply))
      (ap length reply ∙ read_reply-length (record_of (slave_of c s) n r) (record_of-length (slave_of c s) n r found.has))

-- ---- the ways of a compare, of a slave that is awake

reply-compare : (name : ℕ) (s : Slave) → answers_compare name s ≡ true → reply_to (comparing name) s ≡ 0 ∷ []
unfolding reply_to
reply-compare name s e = rw e

reply_uncompared : (name : ℕ) (s : Slave) → answers_compare name s ≡ false → reply_to (comparing name) s ≡ []
unfolding reply_to
reply_uncompared name s e = rw e

answers_compare-as :
    (name : ℕ) (s : Slave) {own : ℕ} → is_awake s ≡ true → own ≡ logical_name s →
    answers_compare name s ≡ both (both (not (eqb name broadcast)) (addresses name own)) (leb (comparison_value s) (physical_name s))
unfolding answers_compare addressed
answers_compare-as name s {own} awake e =
    rw (both-next (addresses name (logical_name s)) awake, e)
    (both_assoc (not (eqb name broadcast)) (addresses name (logical_name s)) (leb (comparison_value s) (physical_name s)))

module _ (c : Cluster) (s name : ℕ) {own : ℕ} {t up : Bool} (wakes : up ≡ is_awake (slave_of c s)) (is_up : not up ≡ false)
    (named' : own ≡ logical_name (slave_of c s)) (test : t ≡ both (not (eqb name broadcast)) (addresses name own)) (b : List ℕ) (last : ℕ) where
  pub compare_unaddressed : not t ≡ true → Replied (reply_to (comparing name) (slave_of c s)) b b last last
  compare_unaddressed no' =
      reply_quiet b last
      (reply_uncompared name (slave_of c s)
      (answers_compare-as name (slave_of c s) (sym wakes ∙ not-false up is_up) named' ∙ both_false_left (leb (comparison_value (slave_of c s)) (physical_name (slave_of c s))) (sym test ∙ not-true t no')))

  pub compare-below :
      {value physical : ℕ} → value ≡ comparison_value (slave_of c s) → physical ≡ physical_name (slave_of c s) → physical < value →
      Replied (reply_to (comparing name) (slave_of c s)) b b last last
  compare-below v p less =
      reply_quiet b last
      (reply_uncompared name (slave_of c s)
      (answers_compare-as name (slave_of c s) (sym wakes ∙ not-false up is_up) named' ∙
      both_false_right (both (not (eqb name broadcast)) (addresses name own)) (lt-leb (comparison_value (slave_of c s)) (physical_name (slave_of c s)) (omega arith))))

  pub compare-answers :
      not t ≡ false → {value physical : ℕ} {new : List ℕ} → value ≡ comparison_value (slave_of c s) → physical ≡ physical_name (slave_of c s) → value ≤ physical →
      new ≡ said b 1 (0 ∷ []) → Replied (reply_to (comparing name) (slave_of c s)) b new last 1
  compare-answers yes' v p least stored =
      let reply : reply_to (comparing name) (slave_of c s) ≡ 0 ∷ [] =
      reply-compare name (slave_of c s)
      (answers_compare-as name (slave_of c s) (sym wakes ∙ not-false up is_up) named' ∙
      both_true (sym test ∙ not-false t yes') (le-leb (comparison_value (slave_of c s)) (physical_name (slave_of c s)) (omega arith)))
      in
      reply-full last (stored ∙ ap (λ (l : List ℕ). said b 1 l) (sym reply)) (ap length reply)

-- ---- a slave replaced

-- by itself
pub same-slave : {f : List ℕ} {c : Cluster} (s : ℕ) {x : Slave} → Becomes f c → x ≡ slave_of c s → Becomes f (with_slave c s x)
unfolding with_slave with_slaves slave_of
same-slave {f} {c} s {x} h e =
    let same : set c.slaves s x ≡ c.slaves = ap (λ (y : Slave). set c.slaves s y) e ∙ set-get_or c.slaves s no_slave_lem in
    rw same h

-- a sleeping slave stays as it is, whatever the round
pub after-asleep :
    {f : List ℕ} {c : Cluster} (s : ℕ) (o : Duty) (bytes : List ℕ) {up : Bool} → Becomes f c → up ≡ is_awake (slave_of c s) → not up ≡ true →
    Becomes f (with_slave c s (slave_after o bytes (slave_of c s)))
after-asleep {c = c} s o bytes {up} h is no' = same-slave s h (asleep_stays (slave_of c s) (sym is ∙ not-true up no') o bytes)

put_byte-replaced : (c : Cluster) (s n k b : ℕ) → put_byte c s n k b ≡ with_slave c s (put_in_slave (slave_of c s) n k b)
unfolding put_byte with_slave
put_byte-replaced c s n k b = refl

with_slave_again : (c : Cluster) (s n k b : ℕ) (x : Slave) → with_slave (put_byte c s n k b) s x ≡ with_slave c s x
unfolding with_slave with_slaves put_byte
with_slave_again c s n k b x = rw (set-set c.slaves s (put_in_slave (slave_of c s) n k b) x)

slave-same : (c : Cluster) (s : ℕ) → with_slave c s (slave_of c s) ≡ c
unfolding with_slave with_slaves slave_of
slave-same c s = rw (set-get_or c.slaves s no_slave_lem)

-- by itself with bytes put
pub put_bytes-replaced : (c : Cluster) (s n k : ℕ) (bs : List ℕ) → s < length c.slaves → put_bytes c s n k bs ≡ with_slave c s (replaced (slave_of c s) n k bs)
unfolding put_bytes replaced
put_bytes-replaced c s n k [] inside = sym (slave-same c s)
put_bytes-replaced c s n k (b ∷ bs) inside =
    put_bytes-replaced (put_byte c s n k b) s n (suc k) bs (rw (put_byte-count c s n k b) inside)
    ∙ rw (put_byte-slave-same c s n k b inside) (with_slave_again c s n k b (replaced (put_in_slave (slave_of c s) n k b) n (suc k) bs))

-- ---- the ways of a write

pub data-bytes : (d : DataBytes) → Fits w8 d.b0 → Fits w8 d.b1 → Fits w8 d.b2 → Fits w8 d.b3 → Bytes (data_in d)
data-bytes d f₀ f₁ f₂ f₃ =
    all_next {a = d.b0} (omega arith) (all_next {a = d.b1} (omega arith) (all_next {a = d.b2} (omega arith) (all_next {a = d.b3} (omega arith) all_empty)))

-- four bytes with the last as it was are three
pub data-stored : (f : List ℕ) (place n r : ℕ) (d : DataBytes) {last : ℕ} {new : List ℕ} → last ≡ cond (is_name_record n r) (get_or f (place + 3) 0) d.b3 →
    new ≡ sets f place (d.b0 ∷ d.b1 ∷ d.b2 ∷ last ∷ []) → new ≡ sets f place (written n r (data_in d))
unfolding written
data-stored f place n r d {last} is stored =
    by_case (is_name_record n r)
    (λ e.
    let kept : last ≡ get_or f (place + 3) 0 = is ∙ rw e in
    stored ∙ rw (e, kept) (sets_again f place (d.b0 ∷ d.b1 ∷ d.b2 ∷ [])))
    (λ e.
    let given : last ≡ d.b3 = is ∙ rw e in
    stored ∙ rw (e, given))

pub data-written : (n r : ℕ) (d : DataBytes) → Fits w8 d.b0 → Fits w8 d.b1 → Fits w8 d.b2 → Fits w8 d.b3 → Bytes (written n r (data_in d))
data-written n r d f₀ f₁ f₂ f₃ = written-bytes n r (data-bytes d f₀ f₁ f₂ f₃)

after_unwritten : (name n r : ℕ) (bytes : List ℕ) (s : Slave) → takes_write name n r s ≡ false → slave_after (writing name n r) bytes s ≡ s
unfolding slave_after
after_unwritten name n r bytes s e = rw e

after-written : (name n r : ℕ) (bytes : List ℕ) (s : Slave) → takes_write name n r s ≡ true → slave_after (writing name n r) bytes s ≡ replaced s n (record_size * r) (written n r bytes)
unfolding slave_after
after-written name n r bytes s e = rw e

takes_write_as : (name n r : ℕ) (s : Slave) {own : ℕ} → is_awake s ≡ true → own ≡ logical_name s → takes_write name n r s ≡ both (addresses name own) (both (has_record s n r) (may_write n r))
unfolding takes_write addressed
takes_write_as name n r s {own} awake e = rw (both-next (addresses name (logical_name s)) awake, e)

pub may_write-file : (n r : ℕ) → may_write n r ≡ true → n ≢ documentation
unfolding may_write
may_write-file n r e same = clash (eq-eqb n documentation same) (not-true _ (both_left _ _ e))

module _ {f : List ℕ} {c : Cluster} (h : Becomes f c) (s name n r : ℕ) {own : ℕ} {t up : Bool} (wakes : up ≡ is_awake (slave_of c s)) (is_up : not up ≡ false)
    (named' : own ≡ logical_name (slave_of c s)) (test : t ≡ addresses name own) (bytes : List ℕ) where
  pub write_unaddressed : not t ≡ true → Becomes f (with_slave c s (slave_after (writing name n r) bytes (slave_of c s)))
  write_unaddressed no' =
      same-slave s h
      (after_unwritten name n r bytes (slave_of c s)
      (takes_write_as name n r (slave_of c s) (sym wakes ∙ not-false up is_up) named' ∙ both_false_left (both (has_record (slave_of c s) n r) (may_write n r)) (sym test ∙ not-true t no')))

  pub write_missing : {x : Option ℕ} → found_record x ≡ find_record c s n r → x ≡ None → Becomes f (with_slave c s (slave_after (writing name n r) bytes (slave_of c s)))
  write_missing e is =
      same-slave s h
      (after_unwritten name n r bytes (slave_of c s)
      (takes_write_as name n r (slave_of c s) (sym wakes ∙ not-false up is_up) named' ∙ both_false_right (addresses name own) (both_false_left (may_write n r) (missing_facts c s n r e is))))

  pub write-found :
      not t ≡ false → may_write n r ≡ true → length bytes ≡ 4 → s < length c.slaves → {x : Option ℕ} {place : ℕ} {new : List ℕ} →
      found_record x ≡ find_record c s n r → x ≡ Some place → DataPut f new place (written n r bytes) →
      Becomes new (with_slave c s (slave_after (writing name n r) bytes (slave_of c s)))
  write-found yes' may four inside {place = place} {new} e is put =
      let found : Found c s n r place = found_facts c s n r e is in
      let takes : takes_write name n r (slave_of c s) ≡ true =
      takes_write_as name n r (slave_of c s) (sym wakes ∙ not-false up is_up) named' ∙ both_true (sym test ∙ not-false t yes') (both_true found.has may)
      in
      let new-bytes : List ℕ = written n r bytes in
      let most : length new-bytes ≤ 4 = omega (arith, written-most n r bytes) in
      let there : new ≡ sets f (file_place c s n + record_size * r) new-bytes = put.stored ∙ ap (λ (p : ℕ). sets f p new-bytes) found.at in
      let becomes : Becomes new (put_bytes c s n (record_size * r) new-bytes) = rw there (becomes-record h s n r (may_write-file n r may) put.all most found.has) in
      let after : put_bytes c s n (record_size * r) new-bytes ≡ with_slave c s (slave_after (writing name n r) bytes (slave_of c s)) =
      put_bytes-replaced c s n (record_size * r) new-bytes inside ∙ ap (λ (y : Slave). with_slave c s y) (sym (after-written name n r bytes (slave_of c s) takes))
      in
      subst (λ (d : Cluster). Becomes new d) after becomes

-- ---- the ways of a baptism

after-unnamed : (name : ℕ) (bytes : List ℕ) (s : Slave) → takes_name name s ≡ false → slave_after (baptizing name) bytes s ≡ s
unfolding slave_after
after-unnamed name bytes s e = rw e

after-named : (name : ℕ) (bytes : List ℕ) (s : Slave) → takes_name name s ≡ true → slave_after (baptizing name) bytes s ≡ named s
unfolding slave_after
after-named name bytes s e = rw e

takes_name_as : (name : ℕ) (s : Slave) {own : ℕ} → is_awake s ≡ true → own ≡ logical_name s → takes_name name s ≡ both (addresses name own) (eqb (physical_name s) (comparison_value s))
unfolding takes_name addressed
takes_name_as name s {own} awake e = rw (both-next (addresses name (logical_name s)) awake, e)

module _ {f : List ℕ} {c : Cluster} (h : Becomes f c) (s name : ℕ) {own : ℕ} {t up : Bool} (wakes : up ≡ is_awake (slave_of c s)) (is_up : not up ≡ false)
    (named' : own ≡ logical_name (slave_of c s)) (test : t ≡ addresses name own) (bytes : List ℕ) where
  pub baptize_unaddressed : not t ≡ true → Becomes f (with_slave c s (slave_after (baptizing name) bytes (slave_of c s)))
  baptize_unaddressed no' =
      same-slave s h
      (after-unnamed name bytes (slave_of c s)
      (takes_name_as name (slave_of c s) (sym wakes ∙ not-false up is_up) named' ∙ both_false_left (eqb (physical_name (slave_of c s)) (comparison_value (slave_of c s))) (sym test ∙ not-true t no')))

  pub baptize-other :
      {value physical : ℕ} → value ≡ comparison_value (slave_of c s) → physical ≡ physical_name (slave_of c s) → (physical ≡ value → ⊥) →
      Becomes f (with_slave c s (slave_after (baptizing name) bytes (slave_of c s)))
  baptize-other v p differ =
      same-slave s h
      (after-unnamed name bytes (slave_of c s)
      (takes_name_as name (slave_of c s) (sym wakes ∙ not-false up is_up) named' ∙
      both_false_right (addresses name own) (ne_eqb (physical_name (slave_of c s)) (comparison_value (slave_of c s)) (λ e. differ (p ∙ e ∙ sym v)))))

  pub baptize-takes :
      not t ≡ false → {value physical : ℕ} {new : List ℕ} → value ≡ comparison_value (slave_of c s) → physical ≡ physical_name (slave_of c s) → physical ≡ value →
      Becomes new (put_byte c s configuration (logical_name_place) (new_logical_name (slave_of c s))) →
      Becomes new (with_slave c s (slave_after (baptizing name) bytes (slave_of c s)))
  unfolding named
  baptize-takes yes' {new = new} v p same becomes =
      let takes : takes_name name (slave_of c s) ≡ true =
      takes_name_as name (slave_of c s) (sym wakes ∙ not-false up is_up) named' ∙
      both_true (sym test ∙ not-false t yes') (eq-eqb (physical_name (slave_of c s)) (comparison_value (slave_of c s)) (sym p ∙ same ∙ v))
      in
      let after : put_byte c s configuration (logical_name_place) (new_logical_name (slave_of c s)) ≡ with_slave c s (slave_after (baptizing name) bytes (slave_of c s)) =
      put_byte-replaced c s configuration (logical_name_place) (new_logical_name (slave_of c s)) ∙ ap (λ (y : Slave). with_slave c s y) (sym (after-named name bytes (slave_of c s) takes))
      in
      subst (λ (d : Cluster). Becomes new d) after becomes

-- ---- who falls asleep

asleep_if : (name : ℕ) (s : Slave) {own : ℕ} → is_awake s ≡ true → own ≡ logical_name s → falls_asleep (sleeping name) s ≡ both (addresses name own) (has_record s configuration sleep_record)
unfolding falls_asleep addressed
asleep_if name s {own} awake e = rw (both-next (addresses name (logical_name s)) awake, e)

pub sleep_asleep : (c : Cluster) (s name : ℕ) {up : Bool} → up ≡ is_awake (slave_of c s) → not up ≡ true → false ≡ falls_asleep (sleeping name) (slave_of c s)
sleep_asleep c s name {up} is no' = sym (asleep-wakes (slave_of c s) (sym is ∙ not-true up no') (sleeping name))

module _ (c : Cluster) (s name : ℕ) {own : ℕ} {t up : Bool} (wakes : up ≡ is_awake (slave_of c s)) (is_up : not up ≡ false)
    (named' : own ≡ logical_name (slave_of c s)) (test : t ≡ addresses name own) where
  falls : falls_asleep (sleeping name) (slave_of c s) ≡ both (addresses name own) (has_record (slave_of c s) configuration sleep_record)
  falls = asleep_if name (slave_of c s) (sym wakes ∙ not-false up is_up) named'

  pub sleep_unaddressed : not t ≡ true → false ≡ falls_asleep (sleeping name) (slave_of c s)
  sleep_unaddressed no' = sym (falls ∙ both_false_left (has_record (slave_of c s) configuration sleep_record) (sym test ∙ not-true t no'))

  module _ {x : Option ℕ} (e : found_record x ≡ find_record c s configuration sleep_record) where
    sleep_missing : x ≡ None → false ≡ falls_asleep (sleeping name) (slave_of c s)
    sleep_missing is = sym (falls ∙ both_false_right (addresses name own) (missing_facts c s configuration sleep_record e is))

    sleep_falls : not t ≡ false → {place : ℕ} → x ≡ Some place → true ≡ falls_asleep (sleeping name) (slave_of c s)
    sleep_falls yes' is = sym (falls ∙ both_true (sym test ∙ not-false t yes') (found_facts c s configuration sleep_record e is).has)

  pub sleep_found : (x : Option ℕ) → found_record x ≡ find_record c s configuration sleep_record → not t ≡ false → is_some x ≡ falls_asleep (sleeping name) (slave_of c s)
  sleep_found (Some place) e yes' = sleep_falls e yes' refl
  sleep_found None e yes' = sleep_missing e refl

-- the sleep byte set by it
put-rested : (c : Cluster) (s b : ℕ) (o : Duty) → cond (falls_asleep o (slave_of c s)) 1 0 ≡ b → put_sleep c s b ≡ with_slave c s (rests_after o (slave_of c s))
unfolding put_sleep with_slave rests_after
put-rested c s b o e = rw e

pub rests-asleep :
    {f : List ℕ} (c : Cluster) (s : ℕ) (o : Duty) {t : Bool} → t ≡ falls_asleep o (slave_of c s) → t ≡ true → Becomes f (put_sleep c s 1) →
    Becomes f (with_slave c s (rests_after o (slave_of c s)))
rests-asleep {f} c s o is yes' h = subst (λ (d : Cluster). Becomes f d) (put-rested c s 1 o (rw (sym is ∙ yes'))) h

pub rests-awake :
    {f : List ℕ} (c : Cluster) (s : ℕ) (o : Duty) {t : Bool} → t ≡ falls_asleep o (slave_of c s) → t ≡ false → Becomes f (put_sleep c s 0) →
    Becomes f (with_slave c s (rests_after o (slave_of c s)))
rests-awake {f} c s o is no' h = subst (λ (d : Cluster). Becomes f d) (put-rested c s 0 o (rw (sym is ∙ no'))) h

pub rests_woken : {f : List ℕ} (c : Cluster) (s : ℕ) → Becomes f (put_sleep c s 0) → Becomes f (with_slave c s (rests_after nothing (slave_of c s)))
rests_woken c s h = rests-awake c s nothing {t = false} (unfold falls_asleep in refl) refl h

pub ruleset putting = (data-stored, data-written)

pub ruleset baptize_ways = (after-asleep, baptize_unaddressed, baptize-other, baptize-takes)

pub ruleset rest_ways = (rests-asleep, rests-awake)
