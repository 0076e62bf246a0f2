-- Where a join writes, and what it leaves: the joined file, slave by slave; no name but 0xFF on both sides, so that it loads where the two
-- load.
-- Assumes nothing.
use Rattle.std.proofs.Common.{ℕ, ◌+◌, ◌-◌, ◌<◌, arith, ◌≡◌, refl, sym, ap, ◌∙◌, subst, ◌≢◌, List, ◌++◌, map, Bool, true, false, cond, length, get_or, set, take, drop, length-set, take_at, get_or-set_other, eqb, ltb, eqb-true, ltb-true, ltb-false}
use borrow.Author.Tests.{eqb-false}
use Rattle.file.specs.Rules.Bytes.{Bytes, All}
use Rattle.file.specs.Rules.Layout.{width_in, record_size}
use Rattle.file.specs.Rules.Cluster.{File, Slave, Cluster, no_slave_lem, bytes_among, bytes_in, configuration, unnamed, logical_name, logical_names}
use Rattle.file.specs.Rules.Results.{Result, refused, done, written_in}
use Rattle.file.specs.Rules.Encode.{encode}
use Rattle.file.specs.Rules.Decode.{decode}
use Rattle.file.specs.Rules.Changes.{put_in_slave}
use Rattle.file.specs.Rules.Legal.{LegalSlave, Legal}
use Rattle.file.specs.Rules.Editions.{exceeds}
use Rattle.file.specs.Rules.FileGrounds.{is_among, file_ground, load_ground, has_repeat, held_names}
use Rattle.file.proofs.Order.{by_case, clash, either_false_left}
use Rattle.file.proofs.Bytes.{all-at}
use Rattle.file.proofs.Results.{load_once, load_twice}
use Rattle.file.proofs.Puts.{in_slave_same, in_slave_other}
use Rattle.file.proofs.Shape.{slave-put}
use Rattle.file.specs.Inner.Places.{SameFiles, no_files, same_file}
use Rattle.file.proofs.LogicalNames.{name-held}
use Rattle.file.proofs.Accepted.{decode-encode, encode-accepted, encode-bytes, accepted-legal}
use Rattle.file.proofs.EditionOne.{edition-at}
use Rattle.join.specs.Rules.Joined.{turned, awake, joined, joined_file, shares_name}
use Rattle.join.specs.Rules.Join.{join_ground, join_on}
use Rattle.join.specs.Claims.JoinGrounds.{count_in, slave_in}
use Rattle.join.specs.Claims.Result.{Writable, WrittenExactly, HeldIn, Turned, JoinOf, CallJoins, NamesApart, JoinLoads}
use Rattle.join.proofs.Joining.{turned-put, turned-kept, awake-files, awake-asleep, awake-bytes, turned_name, names_of, joined-edition, joined-count, joined-first, joined-second, joined-logical}
use Rattle.join.proofs.Legal.{joined-legal}
use Rattle.join.proofs.HeldOnce.{once_joined}
use Rattle.join.proofs.Order.{over, first_decides, second_decides, names_decide, size_decides, none-holds, join-refused, join_written}
use Rattle.join.proofs.JoinGrounds.{SlaveWith, slave_among, among_slave, shares_yes, shares_no, over_yes, over_no}

refused-done : {P : Type 0} {m n : ℕ} → ◌≡◌ {A = Result ℕ} (refused m) (done n) → P
refused-done e = let z : ◌≡◌ {A = ℕ} 0 1 = cc in absurd (omega (arith, z))

-- ---- a join that no ground refuses

module _ (f g out : List ℕ) (none : join_ground f g out ≡ 0) where
  pub first-accepted : file_ground f ≡ 0
  first-accepted =
      by_case (eqb (file_ground f) 0)
      (λ q. eqb-true (file_ground f) 0 q)
      (λ q. absurd (eqb-false (file_ground f) 0 q (sym (first_decides f g out (eqb-false (file_ground f) 0 q)) ∙ none)))

  pub second-accepted : file_ground g ≡ 0
  second-accepted =
      by_case (eqb (file_ground g) 0)
      (λ q. eqb-true (file_ground g) 0 q)
      (λ q. absurd (eqb-false (file_ground g) 0 q (sym (second_decides f g out first-accepted (eqb-false (file_ground g) 0 q)) ∙ none)))

  pub names-apart_in : shares_name (decode f) (decode g) ≡ false
  names-apart_in =
      by_case (shares_name (decode f) (decode g))
      (λ q. absurd (omega (arith, names_decide f g out first-accepted second-accepted q, none)))
      (λ q. q)

  pub not_over : over f g out ≡ false
  not_over =
      by_case (over f g out)
      (λ q. absurd (omega (arith, size_decides f g out first-accepted second-accepted names-apart_in q, none)))
      (λ q. q)

  pub has_room : exceeds (width_in (decode f).edition) (joined (decode f) (decode g)).slaves ≡ false
  has_room = either_false_left _ _ not_over

  pub joins-legal : Bytes f → Bytes g → Legal (joined (decode f) (decode g))
  joins-legal b b' =
      joined-legal (decode f) (decode g)
      (record {
        first = accepted-legal f b first-accepted;
        second = (accepted-legal g b' second-accepted).slaves;
        names = (accepted-legal g b' second-accepted).names;
        apart = names-apart_in;
        room = has_room;
      })

-- ---- a call that wrote

module _ (f g out : List ℕ) (n : ℕ) (is : (join_on f g out).0 ≡ done n) where
  pub no_ground : join_ground f g out ≡ 0
  no_ground =
      by_case (eqb (join_ground f g out) 0)
      (λ q. eqb-true _ 0 q)
      (λ q. refused-done (sym (ap (λ (r : Result ℕ × List ℕ). r.0) (join-refused f g out refl (eqb-false _ 0 q))) ∙ is))

  pub written_count : n ≡ length (joined_file f g)
  written_count = let e : done n ≡ done (length (joined_file f g)) = sym is ∙ ap (λ (r : Result ℕ × List ℕ). r.0) (join_written f g out no_ground) in cc

  pub buffer-after : (join_on f g out).1 ≡ written_in out (joined_file f g)
  buffer-after = ap (λ (r : Result ℕ × List ℕ). r.1) (join_written f g out no_ground)

  -- its bytes stand in front
  pub written-file : take n (join_on f g out).1 ≡ joined_file f g
  unfolding written_in
  written-file =
      ap (λ (l : List ℕ). take n l) buffer-after
      ∙ take_at (joined_file f g) (drop (length (joined_file f g)) out) n (sym written_count)

  where_written : Writable f g out n
  where_written =
      record {
        first = first-accepted f g out no_ground;
        second = second-accepted f g out no_ground;
        apart = λ s. clash (shares_yes f g s) (names-apart_in f g out no_ground);
        within = λ t. clash (over_yes f g out (first-accepted f g out no_ground) t) (not_over f g out no_ground);
        count = written_count;
      }

pub written_exactly : WrittenExactly
written_exactly f g out n = (λ is. where_written f g out n is, λ w. there-written w)
  where
    there-written : Writable f g out n → (join_on f g out).0 ≡ done n
    there-written w =
        ap (λ (r : Result ℕ × List ℕ). r.0)
        (join_written f g out
        (none-holds f g out w.first w.second (shares_no f g w.apart) (over_no f g out w.first w.within)))
        ∙ ap done (sym w.count)

-- ---- a slave that is turned

same_numbers : {xs ys : List File} → SameFiles xs ys → map (λ (x : File). x.number) ys ≡ map (λ (x : File). x.number) xs
same_numbers no_files = refl
same_numbers (same_file p q r) = rw (p, same_numbers r)

-- an awake slave with byte 3 of record 1 of 0x08 put to 0xFF
turned-is : (s : Slave) → LegalSlave s → Turned s (awake (put_in_slave s configuration (record_size + 3) unnamed))
turned-is s l =
    let new : Slave = put_in_slave s configuration (record_size + 3) unnamed in
    let same : bytes_in (awake new) 0x08 ≡ set (bytes_in s 0x08) 7 0xFF = awake-bytes new 0x08 ∙ in_slave_same 0x08 7 0xFF s in
    let other : (n : ℕ) → n ≢ 0x08 → bytes_in (awake new) n ≡ bytes_in s n = λ n differ. awake-bytes new n ∙ in_slave_other 0x08 7 0xFF s n differ in
    record {
      unnamed = (unfold logical_name in ap (λ (bs : List ℕ). get_or bs 7 0) (awake-bytes new 0x08) ∙ name-held s 0xFF l);
      others =
          λ n k differ.
          by_case (eqb n 0x08)
          (λ e.
          let eight : n ≡ 0x08 = eqb-true n 0x08 e in
          subst (λ (m : ℕ). get_or (bytes_in (awake new) m) k 0 ≡ get_or (bytes_in s m) k 0) (sym eight)
          (ap (λ (bs : List ℕ). get_or bs k 0) same ∙ get_or-set_other (bytes_in s 0x08) 7 k 0xFF 0 (λ z. differ eight z)))
          (λ e. ap (λ (bs : List ℕ). get_or bs k 0) (other n (eqb-false n 0x08 e)));
      sizes =
          λ n.
          by_case (eqb n 0x08)
          (λ e.
          subst (λ (m : ℕ). length (bytes_in (awake new) m) ≡ length (bytes_in s m)) (sym (eqb-true n 0x08 e))
          (ap length same ∙ length-set (bytes_in s 0x08) 7 0xFF))
          (λ e. ap length (other n (eqb-false n 0x08 e)));
      numbers =
          ap (λ (xs : List File). map (λ (x : File). x.number) xs) (awake-files new) ∙ same_numbers (slave-put s configuration (record_size + 3) unnamed);
    }

-- ---- the joined file, slave by slave

-- a name that a file holds, both ways
held_yes : (f : List ℕ) (n : ℕ) → HeldIn f n → is_among n (logical_names (decode f)) ≡ true
held_yes f n h = rw (names_of (decode f)) (slave_among logical_name n (decode f).slaves h.k h.within (sym h.is))

held_then : (f : List ℕ) (n : ℕ) → is_among n (logical_names (decode f)) ≡ true → HeldIn f n
held_then f n e =
    let s : SlaveWith logical_name n (decode f).slaves = among_slave logical_name n (decode f).slaves (rw (names_of (decode f)) at e) in
    record { k = s.index; within = s.within; is = sym s.is }

held_no : (f : List ℕ) (n : ℕ) → (HeldIn f n → ⊥) → is_among n (logical_names (decode f)) ≡ false
held_no f n free = by_case (is_among n (logical_names (decode f))) (λ e. absurd (free (held_then f n e))) (λ e. e)

module _ (f g : List ℕ) where
  abbrev c : Cluster
  c = joined (decode f) (decode g)

  abbrev j : List ℕ
  j = joined_file f g

  module _ (legal : Legal (joined (decode f) (decode g))) where
    pub joined-decoded : decode (joined_file f g) ≡ joined (decode f) (decode g)
    unfolding joined_file
    joined-decoded = decode-encode c legal

    pub joined-accepted : file_ground (joined_file f g) ≡ 0
    unfolding joined_file
    joined-accepted = encode-accepted c legal

    pub joined_bytes : Bytes (joined_file f g)
    unfolding joined_file
    joined_bytes = encode-bytes c legal

    slave-is : (i : ℕ) → slave_in j i ≡ get_or c.slaves i no_slave_lem
    slave-is i = ap (λ (x : Cluster). get_or x.slaves i no_slave_lem) joined-decoded

    count-is : count_in j ≡ count_in f + count_in g
    count-is = ap (λ (x : Cluster). length x.slaves) joined-decoded ∙ joined-count (decode f) (decode g)

    awake-is : (i : ℕ) → i < count_in j → (slave_in j i).asleep ≡ 0
    awake-is i h =
        by_case (ltb i (count_in f))
        (λ q. ap (λ (s : Slave). s.asleep) (slave-is i ∙ joined-first (decode f) (decode g) i (ltb-true i (count_in f) q)) ∙ awake-asleep (slave_in f i))
        (λ q.
        let k : ℕ = i - count_in f in
        let there : i ≡ count_in f + k = omega (arith, ltb-false i (count_in f) q) in
        let fits : k < count_in g = omega (arith, count-is, there) in
        subst (λ (m : ℕ). (slave_in j m).asleep ≡ 0) (sym there)
        (ap (λ (s : Slave). s.asleep) (slave-is (count_in f + k) ∙ joined-second (decode f) (decode g) k fits)
        ∙ awake-asleep (turned (logical_names (decode f)) (slave_in g k))))

    second-turned : (k : ℕ) → k < count_in g → LegalSlave (slave_in g k) → HeldIn f (logical_name (slave_in g k)) → Turned (slave_in g k) (slave_in j (count_in f + k))
    second-turned k h l held =
        subst (λ (s : Slave). Turned (slave_in g k) s)
        (sym (slave-is (count_in f + k) ∙ joined-second (decode f) (decode g) k h
        ∙ ap awake (turned-put (logical_names (decode f)) (slave_in g k) (held_yes f (logical_name (slave_in g k)) held))))
        (turned-is (slave_in g k) l)

    second-kept : (k : ℕ) → k < count_in g → (HeldIn f (logical_name (slave_in g k)) → ⊥) → (slave_in j (count_in f + k)).files ≡ (slave_in g k).files
    second-kept k h free =
        ap (λ (s : Slave). s.files)
        (slave-is (count_in f + k) ∙ joined-second (decode f) (decode g) k h
        ∙ ap awake (turned-kept (logical_names (decode f)) (slave_in g k) (held_no f (logical_name (slave_in g k)) free)))
        ∙ awake-files (slave_in g k)

    encoded : joined_file f g ≡ encode (joined (decode f) (decode g))
    unfolding joined_file
    encoded = refl

    pub joins : file_ground f ≡ 0 → All LegalSlave (decode g).slaves → JoinOf f g (joined_file f g)
    joins accepted ls =
        record {
          cluster = joined-decoded;
          legal = subst Legal (sym joined-decoded) legal;
          encoding = encoded ∙ sym (ap encode joined-decoded);
          accepted = joined-accepted;
          edition =
              sym (edition-at j joined-accepted) ∙ ap (λ (x : Cluster). x.edition) joined-decoded ∙ joined-edition (decode f) (decode g)
              ∙ edition-at f accepted;
          epoch = ap (λ (x : Cluster). x.epoch) joined-decoded ∙ header_zero.0;
          flag = ap (λ (x : Cluster). x.flag) joined-decoded ∙ header_zero.1;
          pending_name = ap (λ (x : Cluster). x.pending_name) joined-decoded ∙ header_zero.2;
          pending_pb2 = ap (λ (x : Cluster). x.pending_pb2) joined-decoded ∙ header_zero.3;
          pending_pb3 = ap (λ (x : Cluster). x.pending_pb3) joined-decoded ∙ header_zero.4;
          count = count-is;
          awake = awake-is;
          first = λ i h. ap (λ (s : Slave). s.files) (slave-is i ∙ joined-first (decode f) (decode g) i h) ∙ awake-files (slave_in f i);
          turned = λ k h held. second-turned k h (all-at no_slave_lem ls h) held;
          kept = second-kept;
        }
      where
        header_zero : (c.epoch ≡ 0) × (c.flag ≡ 0) × (c.pending_name ≡ 0) × (c.pending_pb2 ≡ 0) × (c.pending_pb3 ≡ 0)
        header_zero = unfold joined in (refl, refl, refl, refl, refl)

pub call-joins : CallJoins
call-joins f g out n b b' is =
    record {
      joins =
          subst (λ (l : List ℕ). JoinOf f g l) (sym (written-file f g out n is))
          (joins f g (joins-legal f g out (no_ground f g out n is) b b') (first-accepted f g out (no_ground f g out n is))
          (accepted-legal g b' (second-accepted f g out (no_ground f g out n is))).slaves);
      behind = buffer-after f g out n is ∙ ap (λ (l : List ℕ). written_in out l) (sym (written-file f g out n is));
    }

-- ---- names

-- a slave's name stands in its files
name_by_files : (s t : Slave) → s.files ≡ t.files → logical_name s ≡ logical_name t
unfolding logical_name bytes_in
name_by_files s t e = ap (λ (xs : List File). get_or (bytes_among xs 0x08) 7 0) e

pub names_apart : NamesApart
names_apart f g j b b' accepted accepted' join i k h h' same =
    let name : ℕ = logical_name (slave_in g k) in
    let there : ℕ = count_in f + k in
    let first : logical_name (slave_in j i) ≡ logical_name (slave_in f i) = name_by_files (slave_in j i) (slave_in f i) (join.first i h) in
    by_case (is_among name (logical_names (decode f)))
    (λ e. same ∙ turned-name (join.turned k h' (held_then f name e)))
    (λ e.
    let free : HeldIn f name → ⊥ = λ held. clash (held_yes f name held) e in
    let kept : logical_name (slave_in j there) ≡ name = name_by_files (slave_in j there) (slave_in g k) (join.kept k h' free) in
    absurd (free (record { k = i; within = h; is = sym first ∙ same ∙ kept })))
  where
    turned-name : {s t : Slave} → Turned s t → logical_name t ≡ 0xFF
    turned-name r = unfold logical_name in r.unnamed

-- ---- on loading

pub join-loads : JoinLoads
join-loads f g out n b b' loads loads' is =
    let none : join_ground f g out ≡ 0 = no_ground f g out n is in
    let legal : Legal (joined (decode f) (decode g)) = joins-legal f g out none b b' in
    let names : logical_names (decode (joined_file f g)) ≡ logical_names (decode f) ++ map (turned_name (logical_names (decode f))) (logical_names (decode g)) =
    ap logical_names (joined-decoded f g legal) ∙ joined-logical (decode f) (decode g) (accepted-legal g b' (second-accepted f g out none)).slaves
    in
    ap load_ground (written-file f g out n is)
    ∙ load_twice (joined_file f g) (joined-accepted f g legal)
    ∙ ap (λ (l : List ℕ). cond (has_repeat (held_names l)) 22 0) names
    ∙ ap (λ (t : Bool). cond t 22 0) (once_joined (logical_names (decode f)) (logical_names (decode g)) (load_once f loads) (load_once g loads'))
