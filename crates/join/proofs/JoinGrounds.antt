-- The grounds of a join, each both ways and in their order; a file of unknown edition.
-- Assumes nothing.
use Rattle.std.proofs.Common.{ℕ, zero, suc, ◌+◌, ◌≤◌, ◌<◌, arith, ◌≡◌, refl, sym, ap, ◌∙◌, ◌≢◌, List, [], ◌∷◌, map, true, false, length, get_or, eqb, ltb, eqb-true, eq-eqb, lt-ltb, ltb-true}
use borrow.Author.Tests.{eqb-false}
use Rattle.file.specs.Rules.Layout.{width_in, max_slaves, max_length}
use Rattle.file.specs.Rules.Cluster.{Slave, no_slave_lem, physical_name}
use Rattle.file.specs.Rules.Results.{Result}
use Rattle.file.specs.Rules.Encode.{file_length, encode_at, encode}
use Rattle.file.specs.Rules.Decode.{decode}
use Rattle.file.specs.Rules.Editions.{exceeds}
use Rattle.file.specs.Rules.FileGrounds.{is_among, file_ground}
use Rattle.file.proofs.Order.{by_case, clash, either_left, either_right, either-next}
use Rattle.file.proofs.Sizes.{encode_at-length}
use Rattle.file.proofs.Width.{file-width}
use Rattle.file.proofs.Accepted.{decoded-width}
use Rattle.file.proofs.Edition.{unknown_edition, refused-edition}
use Rattle.file.proofs.EditionOne.{edition-at}
use Rattle.join.specs.Rules.Joined.{joined, joined_file, any_among, shares_name}
use Rattle.join.specs.Rules.Join.{join_ground, join_on}
use Rattle.join.specs.Claims.JoinGrounds.{count_in, slave_in, SharedName, TooLarge, GroundsInOrder, UnknownEdition}
use Rattle.join.proofs.Joining.{joined-edition, joined-count}
use Rattle.join.proofs.Order.{over, first_decides, second_decides, names_decide, size_decides, none-holds, join-refused}

-- ---- a number among those of the slaves

-- the slave that has it
pub record SlaveWith (name : Slave → ℕ) (n : ℕ) (ss : List Slave) : Type 0 where
  pub index : ℕ
  pub within : index < length ss
  pub is : n ≡ name (get_or ss index no_slave_lem)

-- the slave whose number is among these
pub record SlaveAmong (name : Slave → ℕ) (ms : List ℕ) (ss : List Slave) : Type 0 where
  pub index : ℕ
  pub within : index < length ss
  pub is : is_among (name (get_or ss index no_slave_lem)) ms ≡ true

module _ (name : Slave → ℕ) where
  pub slave_among : (n : ℕ) (ss : List Slave) (i : ℕ) → i < length ss → n ≡ name (get_or ss i no_slave_lem) → is_among n (map name ss) ≡ true
  unfolding is_among
  slave_among n [] i h e = absurd (omega arith)
  slave_among n (s ∷ ss) zero h e = either_left (is_among n (map name ss)) (eq-eqb n (name s) e)
  slave_among n (s ∷ ss) (suc i) h e = either_right (eqb n (name s)) (slave_among n ss i (omega arith) e)

  pub among_slave : (n : ℕ) (ss : List Slave) → is_among n (map name ss) ≡ true → SlaveWith name n ss
  unfolding is_among
  among_slave n [] e = clash e refl
  among_slave n (s ∷ ss) e =
      by_case (eqb n (name s))
      (λ q. record { index = 0; within = omega arith; is = eqb-true n (name s) q })
      (λ q. further (among_slave n ss (sym (either-next (is_among n (map name ss)) q) ∙ e)))
    where
      further : SlaveWith name n ss → SlaveWith name n (s ∷ ss)
      further r = record { index = suc r.index; within = omega (arith, r.within); is = r.is }

  slave_any : (ms : List ℕ) (ss : List Slave) (k : ℕ) → k < length ss → is_among (name (get_or ss k no_slave_lem)) ms ≡ true → any_among (map name ss) ms ≡ true
  unfolding any_among
  slave_any ms [] k h e = absurd (omega arith)
  slave_any ms (s ∷ ss) zero h e = either_left (any_among (map name ss) ms) e
  slave_any ms (s ∷ ss) (suc k) h e = either_right (is_among (name s) ms) (slave_any ms ss k (omega arith) e)

  any_slave : (ms : List ℕ) (ss : List Slave) → any_among (map name ss) ms ≡ true → SlaveAmong name ms ss
  unfolding any_among
  any_slave ms [] e = clash e refl
  any_slave ms (s ∷ ss) e =
      by_case (is_among (name s) ms)
      (λ q. record { index = 0; within = omega arith; is = q })
      (λ q. further (any_slave ms ss (sym (either-next (any_among (map name ss) ms) q) ∙ e)))
    where
      further : SlaveAmong name ms ss → SlaveAmong name ms (s ∷ ss)
      further r = record { index = suc r.index; within = omega (arith, r.within); is = r.is }

-- ---- 29

module _ (f g : List ℕ) where
  pub shares_yes : SharedName f g → shares_name (decode f) (decode g) ≡ true
  unfolding shares_name
  shares_yes s =
      slave_any physical_name (map physical_name (decode f).slaves) (decode g).slaves s.k s.second
      (slave_among physical_name (physical_name (slave_in g s.k)) (decode f).slaves s.i s.first (sym s.same))

  pub shares_then : shares_name (decode f) (decode g) ≡ true → SharedName f g
  unfolding shares_name
  shares_then e =
      let second : SlaveAmong physical_name (map physical_name (decode f).slaves) (decode g).slaves =
      any_slave physical_name (map physical_name (decode f).slaves) (decode g).slaves e
      in
      let first : SlaveWith physical_name (physical_name (slave_in g second.index)) (decode f).slaves =
      among_slave physical_name (physical_name (slave_in g second.index)) (decode f).slaves second.is
      in
      record { i = first.index; k = second.index; first = first.within; second = second.within; same = sym first.is }

  pub shares_no : (SharedName f g → ⊥) → shares_name (decode f) (decode g) ≡ false
  shares_no apart = by_case (shares_name (decode f) (decode g)) (λ e. absurd (apart (shares_then e))) (λ e. e)

-- ---- 30

module _ (w : ℕ) (ss : List Slave) where
  exceeds_many : max_slaves w < length ss → exceeds w ss ≡ true
  unfolding exceeds
  exceeds_many h = either_left _ (lt-ltb (max_slaves w) (length ss) h)

  exceeds-long : max_length w < file_length w ss → exceeds w ss ≡ true
  unfolding exceeds
  exceeds-long h = either_right _ (lt-ltb (max_length w) (file_length w ss) h)

  exceeds_then : exceeds w ss ≡ true → ltb (max_slaves w) (length ss) ≡ false → max_length w < file_length w ss
  unfolding exceeds
  exceeds_then e few = ltb-true (max_length w) (file_length w ss) (sym (either-next _ few) ∙ e)

-- at least 2, whatever the file
pub least-width : (f : List ℕ) → 2 ≤ width_in (decode f).edition
least-width f = omega (arith, decoded-width f, (file-width f).least)

-- the length of the joined file
pub joined-long : (f g : List ℕ) → length (joined_file f g) ≡ file_length (width_in (decode f).edition) (joined (decode f) (decode g)).slaves
unfolding joined_file encode
joined-long f g =
    ap (λ (e : ℕ). length (encode_at (width_in e) (joined (decode f) (decode g)))) (joined-edition (decode f) (decode g))
    ∙ encode_at-length (least-width f) (joined (decode f) (decode g))

module _ (f g out : List ℕ) (accepted : file_ground f ≡ 0) where
  edition : (decode f).edition ≡ get_or f 2 0
  edition = edition-at f accepted

  count : length (joined (decode f) (decode g)).slaves ≡ count_in f + count_in g
  count = joined-count (decode f) (decode g)

  long : length (joined_file f g) ≡ file_length (width_in (decode f).edition) (joined (decode f) (decode g)).slaves
  long = joined-long f g

  many : max_slaves (width_in (decode f).edition) < count_in f + count_in g → over f g out ≡ true
  many h = either_left _ (exceeds_many (width_in (decode f).edition) (joined (decode f) (decode g)).slaves (omega (arith, count)))

  lengthy : max_length (width_in (decode f).edition) < length (joined_file f g) → over f g out ≡ true
  lengthy h = either_left _ (exceeds-long (width_in (decode f).edition) (joined (decode f) (decode g)).slaves (omega (arith, long)))

  pub over_yes : TooLarge f g out → over f g out ≡ true
  over_yes (TooLarge.slaves_of_one e h) = many (omega (arith, edition, e, h))
  over_yes (TooLarge.slaves_of_two e h) = many (omega (arith, edition, e, h))
  over_yes (TooLarge.bytes_of_one e h) = lengthy (omega (arith, edition, e, h))
  over_yes (TooLarge.bytes_of_two e h) = lengthy (omega (arith, edition, e, h))
  over_yes (TooLarge.buffer h) =
      either_right _ (lt-ltb (length out) (file_length (width_in (decode f).edition) (joined (decode f) (decode g)).slaves) (omega (arith, long, h)))

  -- the edition is 1 or 2
  either-edition : {P : Type 0} → (get_or f 2 0 ≡ 1 → P) → (get_or f 2 0 ≡ 2 → P) → P
  either-edition one two =
      by_case (eqb (get_or f 2 0) 1)
      (λ q. one (eqb-true (get_or f 2 0) 1 q))
      (λ q. two (omega (arith, edition, eqb-false (get_or f 2 0) 1 q, decoded-width f, (file-width f).least, (file-width f).most)))

  too_many : max_slaves (width_in (decode f).edition) < count_in f + count_in g → TooLarge f g out
  too_many h =
      either-edition (λ e. TooLarge.slaves_of_one e (omega (arith, edition, e, h))) (λ e. TooLarge.slaves_of_two e (omega (arith, edition, e, h)))

  too_long : max_length (width_in (decode f).edition) < length (joined_file f g) → TooLarge f g out
  too_long h =
      either-edition (λ e. TooLarge.bytes_of_one e (omega (arith, edition, e, h))) (λ e. TooLarge.bytes_of_two e (omega (arith, edition, e, h)))

  pub over_then : over f g out ≡ true → TooLarge f g out
  over_then e =
      by_case (exceeds (width_in (decode f).edition) (joined (decode f) (decode g)).slaves)
      (λ q.
      by_case (ltb (max_slaves (width_in (decode f).edition)) (length (joined (decode f) (decode g)).slaves))
      (λ r. too_many (omega (arith, count, ltb-true (max_slaves (width_in (decode f).edition)) (length (joined (decode f) (decode g)).slaves) r)))
      (λ r. too_long (omega (arith, long, exceeds_then (width_in (decode f).edition) (joined (decode f) (decode g)).slaves q r))))
      (λ q. TooLarge.buffer (omega (arith, long, short (sym (either-next _ q) ∙ e))))
    where
      short :
          ltb (length out) (file_length (width_in (decode f).edition) (joined (decode f) (decode g)).slaves) ≡ true
          → length out < file_length (width_in (decode f).edition) (joined (decode f) (decode g)).slaves
      short r = ltb-true (length out) (file_length (width_in (decode f).edition) (joined (decode f) (decode g)).slaves) r

  pub over_no : (TooLarge f g out → ⊥) → over f g out ≡ false
  over_no within = by_case (over f g out) (λ e. absurd (within (over_then e))) (λ e. e)

pub grounds_in_order : GroundsInOrder
grounds_in_order =
    record {
      first = first_decides;
      second = second_decides;
      shared = λ f g out first second s. names_decide f g out first second (shares_yes f g s);
      large = λ f g out first second apart t. size_decides f g out first second (shares_no f g apart) (over_yes f g out first t);
      none = λ f g out first second apart within. none-holds f g out first second (shares_no f g apart) (over_no f g out first within);
    }

-- ---- a file of unknown edition

-- two joins that are refused by the same number
same-refused : (f g a h i b : List ℕ) {n : ℕ} → join_ground f g a ≡ n → join_ground h i b ≡ n → n ≢ 0
    → (join_on f g a).0 ≡ (join_on h i b).0
same-refused f g a h i b p q some =
    ap (λ (r : Result ℕ × List ℕ). r.0) (join-refused f g a p some) ∙ sym (ap (λ (r : Result ℕ × List ℕ). r.0) (join-refused h i b q some))

pub join-edition : UnknownEdition
join-edition =
    record {
      first =
          λ f h g i a b long front other.
          let some : file_ground f ≢ 0 = refused-edition f other in
          let same : file_ground f ≡ file_ground h = unknown_edition f h long front other in
          same-refused f g a h i b (first_decides f g a some) (first_decides h i b (λ z. some (same ∙ z)) ∙ sym same) some;
      second =
          λ f h g i a b accepted accepted' long front other.
          let some : file_ground g ≢ 0 = refused-edition g other in
          let same : file_ground g ≡ file_ground i = unknown_edition g i long front other in
          same-refused f g a h i b (second_decides f g a accepted some) (second_decides h i b accepted' (λ z. some (same ∙ z)) ∙ sym same) some;
    }
