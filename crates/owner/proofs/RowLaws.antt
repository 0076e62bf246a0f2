-- A round's row, the index and the rows of all rounds.
-- Assumes nothing.
use Rattle.std.proofs.Common.{ℕ, zero, suc, ◌+◌, ◌-◌, ◌*◌, ◌/◌, ◌%◌, ◌^◌, ◌≤◌, ◌<◌, arith, add-one, ◌≡◌, refl, sym, ap, ◌∙◌, subst, List, [], ◌∷◌, ◌++◌, append_assoc, append-nil, Bool, true, false, not, cond, ◌||◌, length, get_or, set, take, drop, replicate, length-append, get_or-append-add, ext_get_or, take_at, drop_at, eqb, leb, ne_eqb, eqb-true, ltb-true, ltb-false}
use lib.ListN.{length-replicate, get_or-replicate, replicate-append-replicate, get_or-append}
use lib.Seq.{set_at, get_or_at}
use borrow.Author.Tests.{eqb-false, not-true, not-false}
use borrow.Rule.Slice.PartMut.{put_mid}
use Rattle.file.specs.Rules.Order.{both, either}
use Rattle.file.specs.Rules.Layout.{record_size}
use Rattle.file.specs.Rules.Cluster.{Slave}
use Rattle.file.proofs.Order.{by_case}
use Rattle.master_slave.specs.Rules.Bus.{slots}
use Rattle.owner.specs.Rules.Plan.{rounds, is_owned, senders_in, some_below, two_send_in, some_entry_of, is_multiplexed_send}
use Rattle.owner.specs.Rules.OwnerFile.{no_owner, name_of, owner_of, last_owned, owners_below, owners_of, padded, row_of, rows_below, index_of, index_below}
use Rattle.owner.specs.Inner.Masks.{is_set, Marks, LastIs}
use Rattle.owner.specs.Inner.Planned.{someone, two_there, RoundPlanned, RowWritten, head_room, rows_room, index_byte, RowsWritten, RoundsWritten}
use Rattle.owner.proofs.MaskLaws.{or_either, either_false, some-set}

-- ---- the rounds that have a row

pub owned_data : {round : ℕ} → round ≡ 1 → false ≡ is_owned round
unfolding is_owned either
owned_data e = rw e

pub owned_other : {round : ℕ} → (round ≡ 1 → ⊥) → not (eqb round 5) ≡ is_owned round
unfolding is_owned either
owned_other {round} other = rw (ne_eqb round 1 other)

-- ---- owners

pub owners-length : (master round : ℕ) (ss : List Slave) (n : ℕ) → length (owners_below master round ss n) ≡ n
unfolding owners_below
owners-length master round ss zero = refl
owners-length master round ss (suc n) =
    length-append (owners_below master round ss n) (owner_of master round ss n ∷ []) ∙ (rw (owners-length master round ss n) (omega arith))

pub owners-at : (master round : ℕ) (ss : List Slave) (n slot : ℕ) → slot < n → get_or (owners_below master round ss n) slot 0 ≡ owner_of master round ss slot
unfolding owners_below
owners-at master round ss zero slot l = absurd (omega arith)
owners-at master round ss (suc n) slot l =
    by_case (eqb slot n)
    (λ e.
    let same : slot ≡ n = eqb-true slot n e in
    rw same (get_or_at (owners_below master round ss n) (owner_of master round ss n) [] 0 n (owners-length master round ss n)))
    (λ e.
    let inside : slot < length (owners_below master round ss n) = rw (owners-length master round ss n) (below (eqb-false slot n e)) in
    get_or-append (owners_below master round ss n) (owner_of master round ss n ∷ []) 0 slot inside
    ∙ owners-at master round ss n slot (below (eqb-false slot n e)))
  where
    below : (slot ≡ n → ⊥) → slot < n
    below other = omega arith

-- where nobody sends there is no owner
silent_owner : (master round : ℕ) (ss : List Slave) (slot : ℕ) → 0 < slot → someone round ss slot ≡ false → owner_of master round ss slot ≡ no_owner
silent_owner master round ss zero l e = absurd (omega arith)
silent_owner master round ss (suc slot) l e = unfold owner_of in none (senders_in round (suc slot) ss) (unfold someone in e)
  where
    none : (xs : List Slave) → not (eqb (length xs) 0) ≡ false → name_of xs ≡ no_owner
    none [] e = unfold name_of in refl
    none (x ∷ xs) e = absurd (omega (arith, eqb-true (suc (length xs)) 0 (not-false _ e)))

marked_none : (round : ℕ) (ss : List Slave) {mask : ℕ} → Marks mask (someone round ss) → (slot : ℕ) → slot < slots
    → eqb (length (senders_in round slot ss)) 0 ≡ not (is_set mask slot)
unfolding someone
marked_none round ss {mask} marks slot l = twice (eqb (length (senders_in round slot ss)) 0) ∙ ap not (sym (marks.each slot l))
  where
    twice : (b : Bool) → b ≡ not (not b)
    twice true = refl
    twice false = refl

-- the last slot one sends in
last-owned : (round : ℕ) (ss : List Slave) {mask last : ℕ} → Marks mask (someone round ss) → LastIs mask last → (n : ℕ) → last ≤ n → n < slots → last_owned round ss n ≡ last
unfolding last_owned
last-owned round ss {mask} {last} marks is zero l m = omega arith
last-owned round ss {mask} {last} marks is (suc n) l m =
    by_case (eqb last (suc n))
    (λ e.
    let here : last ≡ suc n = eqb-true last (suc n) e in
    rw (some here) (sym here))
    (λ e.
    let lower = below (eqb-false last (suc n) e) in
    rw (none lower) (last-owned round ss marks is n lower (omega arith)))
  where
    below : (last ≡ suc n → ⊥) → last ≤ n
    below other = omega arith

    counted : eqb (length (senders_in round (suc n) ss)) 0 ≡ not (is_set mask (suc n))
    counted = marked_none round ss marks (suc n) m

    some : last ≡ suc n → eqb (length (senders_in round (suc n) ss)) 0 ≡ false
    some here =
        let there : is_set mask (suc n) ≡ true = rw here at (is.here (omega arith)) in
        counted ∙ ap not there

    none : last ≤ n → eqb (length (senders_in round (suc n) ss)) 0 ≡ true
    none lower = counted ∙ ap not (is.above (suc n) (omega arith) m)

-- ---- the row

some_alike : (p q : ℕ → Bool) (n : ℕ) → ((k : ℕ) → k < n → p k ≡ q k) → some_below p n ≡ some_below q n
unfolding some_below
some_alike p q zero same = refl
some_alike p q (suc n) same = rw (some_alike p q n (λ k l. same k (omega arith)), same n (omega arith))

row-size : (last : ℕ) → (last + 1) + (4 - (last + 1) % 4) % 4 ≡ 4 * (last / 4 + 1)
row-size last = omega arith

module _ {ss : List Slave} {master round : ℕ} {row : List ℕ} {senders clashes : ℕ} {multiplexed : Bool} (p : RoundPlanned ss master round row senders clashes multiplexed)
    {last : ℕ} (is : LastIs senders last) where
  ends-at : last_owned round ss 63 ≡ last
  ends-at = last-owned round ss p.sends is 63 (omega (arith, is.few)) (omega arith)

  owners-are : owners_of master round ss ≡ owners_below master round ss (last + 1)
  unfolding owners_of
  owners-are = ap (λ (n : ℕ). owners_below master round ss (n + 1)) ends-at

  padded_are : padded (owners_of master round ss) ≡ owners_below master round ss (last + 1) ++ replicate ((4 - (last + 1) % 4) % 4) no_owner
  unfolding padded
  padded_are = rw (owners-are, owners-length master round ss (last + 1))

  padded-length : length (padded (owners_of master round ss)) ≡ 4 * (last / 4 + 1)
  padded-length =
      ap length padded_are
      ∙ (length-append (owners_below master round ss (last + 1)) (replicate ((4 - (last + 1) % 4) % 4) no_owner)
      ∙ (rw (owners-length master round ss (last + 1), length-replicate ((4 - (last + 1) % 4) % 4) no_owner) (row-size last)))

  small : 4 * (last / 4 + 1) ≤ 64
  small = omega (arith, is.few)

  -- the owners and then zeros
  whole : row ≡ owners_below master round ss (last + 1) ++ replicate (64 - (last + 1)) no_owner
  whole = ext_get_or 0 row (owners_below master round ss (last + 1) ++ replicate (64 - (last + 1)) no_owner) long at
    where
      long : length row ≡ length (owners_below master round ss (last + 1) ++ replicate (64 - (last + 1)) no_owner)
      long =
          p.room
          ∙ sym (length-append (owners_below master round ss (last + 1)) (replicate (64 - (last + 1)) no_owner)
          ∙ (rw (owners-length master round ss (last + 1), length-replicate (64 - (last + 1)) no_owner) (omega (arith, is.few))))

      at : (i : ℕ) → i < length row → get_or row i 0 ≡ get_or (owners_below master round ss (last + 1) ++ replicate (64 - (last + 1)) no_owner) i 0
      at i l =
          let few : i < slots = rw p.room at l in
          by_case (lib.Dec.ltb i (last + 1))
          (λ e.
          let inside = ltb-true i (last + 1) e in
          p.owners i few
          ∙ sym (get_or-append (owners_below master round ss (last + 1)) (replicate (64 - (last + 1)) no_owner) 0 i (rw (owners-length master round ss (last + 1)) inside)
          ∙ owners-at master round ss (last + 1) i inside))
          (λ e.
          let outside = ltb-false i (last + 1) e in
          p.owners i few
          ∙ (silent_owner master round ss i (omega arith) (sym (p.sends.each i few) ∙ is.above i (omega arith) few) ∙ sym (later i few outside)))
        where
          later : (i : ℕ) → i < slots → last + 1 ≤ i → get_or (owners_below master round ss (last + 1) ++ replicate (64 - (last + 1)) no_owner) i 0 ≡ no_owner
          later i few outside =
              let place : i ≡ length (owners_below master round ss (last + 1)) + (i - (last + 1)) = rw (owners-length master round ss (last + 1)) (omega arith) in
              ap (λ (n : ℕ). get_or (owners_below master round ss (last + 1) ++ replicate (64 - (last + 1)) no_owner) n 0) place
              ∙ (get_or-append-add (owners_below master round ss (last + 1)) (replicate (64 - (last + 1)) no_owner) (i - (last + 1)) 0
              ∙ get_or-replicate (64 - (last + 1)) (i - (last + 1)) no_owner 0 (omega arith))

  row_is : row ≡ padded (owners_of master round ss) ++ replicate (64 - 4 * (last / 4 + 1)) no_owner
  row_is =
      whole
      ∙ (ap (λ (n : ℕ). owners_below master round ss (last + 1) ++ replicate n no_owner) zeros
      ∙ (ap (λ (x : List ℕ). owners_below master round ss (last + 1) ++ x) (sym (replicate-append-replicate ((4 - (last + 1) % 4) % 4) (64 - 4 * (last / 4 + 1)) no_owner))
      ∙ (sym (append_assoc (owners_below master round ss (last + 1)) (replicate ((4 - (last + 1) % 4) % 4) no_owner) (replicate (64 - 4 * (last / 4 + 1)) no_owner))
      ∙ ap (λ (x : List ℕ). x ++ replicate (64 - 4 * (last / 4 + 1)) no_owner) (sym padded_are))))
    where
      zeros : 64 - (last + 1) ≡ (4 - (last + 1) % 4) % 4 + (64 - 4 * (last / 4 + 1))
      zeros = omega (arith, row-size last, small)

  pub row_written : clashes < 2 ^ 64 → RowWritten ss master round row (4 * (last / 4 + 1)) (not (eqb clashes 0)) multiplexed
  row_written few =
      record {
        most = small;
        long = sym padded-length;
        bytes = row_is;
        twice = sym (some-set 64 clashes few) ∙ clash;
        multiplexes = p.multiplexes;
      }
    where
      clash : some_below (is_set clashes) 64 ≡ two_send_in round ss
      clash = unfold two_send_in in some_alike (is_set clashes) (λ (slot : ℕ). leb 2 (length (senders_in round slot ss))) 64 (λ k l. p.twice.each k l ∙ (unfold two_there in refl))

-- ---- zeros

module _ {A : Type 0} (k m : ℕ) (a : A) where
  zeros-take : take k (replicate (k + m) a) ≡ replicate k a
  zeros-take =
      ap (take k) (sym (replicate-append-replicate k m a)) ∙ take_at (replicate k a) (replicate m a) k (length-replicate k a)

  zeros-drop : drop k (replicate (k + m) a) ≡ replicate m a
  zeros-drop =
      ap (drop k) (sym (replicate-append-replicate k m a)) ∙ drop_at (replicate k a) (replicate m a) k (length-replicate k a)

-- ---- all rounds

pub rounds-start : (ss : List Slave) (master : ℕ) {head rows : List ℕ} → head ≡ replicate head_room no_owner → rows ≡ replicate rows_room no_owner
    → RoundsWritten ss master 0 head rows 0 false false
unfolding rows_below index_below some_below
rounds-start ss master begins bytes =
    record { begins = begins; written = record { few = omega arith; most = omega arith; long = refl; bytes = bytes; twice = refl; multiplexes = refl } }

pub index-length : (master : ℕ) (ss : List Slave) (n : ℕ) → length (index_below master ss n) ≡ n
unfolding index_below
index-length master ss zero = refl
index-length master ss (suc n) =
    length-append (index_below master ss n) (index_of master ss n ∷ []) ∙ (rw (index-length master ss n) (omega arith))

-- a test of the rounds below n, with one round more: one that is not owned, and one that is
module _ (test : ℕ → Bool) (n : ℕ) where
  abbrev owned_below : ℕ → Bool
  owned_below k = some_below (λ (round : ℕ). both (is_owned round) (test round)) k

  below_skip : is_owned n ≡ false → owned_below n ≡ owned_below (suc n)
  below_skip out = unfold some_below both in rw out (sym (either_false (some_below (λ (round : ℕ). cond (is_owned round) (test round) false) n)))

  below_more : {a b : Bool} → is_owned n ≡ true → a ≡ owned_below n → b ≡ test n → (a || b) ≡ owned_below (suc n)
  below_more {a} {b} owned before here = or_either a b ∙ (unfold some_below both in rw (owned, before, here))

-- ---- the rows

module _ {ss : List Slave} {master n : ℕ} {rows : List ℕ} {size : ℕ} {clash multiplexed : Bool} (h : RowsWritten ss master n rows size clash multiplexed) where
  pub rows_written : take size rows ≡ rows_below master ss n
  rows_written =
      ap (take size) h.bytes ∙ take_at (rows_below master ss n) (replicate (rows_room - size) no_owner) size (sym h.long)

  pub rows-room : length rows ≡ 512
  rows-room =
      ap length h.bytes
      ∙ (length-append (rows_below master ss n) (replicate (rows_room - size) no_owner)
      ∙ (rw (← h.long, length-replicate (rows_room - size) no_owner) (omega (arith, h.most, h.few))))

  module _ (more : n < rounds) where
    pub rows_skip : {t : Bool} → t ≡ is_owned n → not t ≡ true → RowsWritten ss master (n + 1) rows size clash multiplexed
    rows_skip {t} is skips =
        rw add-one
        (record {
          few = more;
          most = omega (arith, h.most);
          long = h.long ∙ ap length (sym same);
          bytes = h.bytes ∙ ap (λ (x : List ℕ). x ++ replicate (rows_room - size) no_owner) (sym same);
          twice = h.twice ∙ below_skip (λ (round : ℕ). two_send_in round ss) n out;
          multiplexes = h.multiplexes ∙ below_skip (λ (round : ℕ). some_entry_of is_multiplexed_send round ss) n out;
        })
      where
        out : is_owned n ≡ false
        out = sym is ∙ not-true t skips

        same : rows_below master ss (suc n) ≡ rows_below master ss n
        same = unfold rows_below row_of in rw out (append-nil (rows_below master ss n))

    -- the row's place is all zeros
    zeros-there : drop size rows ≡ replicate (64 + (448 - size)) no_owner
    zeros-there =
        ap (drop size) h.bytes
        ∙ (drop_at (rows_below master ss n) (replicate (rows_room - size) no_owner) size (sym h.long) ∙ ap (λ (k : ℕ). replicate k no_owner) room)
      where
        room : rows_room - size ≡ 64 + (448 - size)
        room = omega (arith, h.most)

    sixty : (size + 64) - size ≡ 64
    sixty = omega arith

    pub row_zeros : take ((size + 64) - size) (drop size rows) ≡ replicate slots no_owner
    row_zeros = rw (sixty, zeros-there) (zeros-take 64 (448 - size) no_owner)

    module _ {t : Bool} (is : t ≡ is_owned n) (has : not t ≡ false) {row : List ℕ} {size₁ : ℕ} {clash₁ multiplexed₁ : Bool} (w : RowWritten ss master n row size₁ clash₁ multiplexed₁) where
      owned : is_owned n ≡ true
      owned = sym is ∙ not-false t has

      row_there : row_of master ss n ≡ padded (owners_of master n ss)
      unfolding row_of
      row_there = rw owned

      rows_next : put_mid size ((size + 64) - size) rows row ≡ rows_below master ss (suc n) ++ replicate (rows_room - (size + size₁)) no_owner
      rows_next =
          rw (rows_written, sixty, zeros-there, zeros-drop 64 (448 - size) no_owner, w.bytes)
          (ap (λ (x : List ℕ). rows_below master ss n ++ x)
          (append_assoc (padded (owners_of master n ss)) (replicate (slots - size₁) no_owner) (replicate (448 - size) no_owner)
          ∙ ap (λ (x : List ℕ). padded (owners_of master n ss) ++ x) (replicate-append-replicate (slots - size₁) (448 - size) no_owner ∙ ap (λ (k : ℕ). replicate k no_owner) rest))
          ∙ (sym (append_assoc (rows_below master ss n) (padded (owners_of master n ss)) (replicate (rows_room - (size + size₁)) no_owner))
          ∙ ap (λ (x : List ℕ). x ++ replicate (rows_room - (size + size₁)) no_owner) joined))
        where
          rest : (slots - size₁) + (448 - size) ≡ rows_room - (size + size₁)
          rest = omega (arith, w.most, h.most)

          joined : rows_below master ss n ++ padded (owners_of master n ss) ≡ rows_below master ss (suc n)
          joined = unfold rows_below in ap (λ (x : List ℕ). rows_below master ss n ++ x) (sym row_there)

      pub rows_row : RowsWritten ss master (n + 1) (put_mid size ((size + 64) - size) rows row) (size + size₁) (clash || clash₁) (multiplexed || multiplexed₁)
      rows_row =
          rw add-one
          (record {
            few = more;
            most = omega (arith, h.most, w.most);
            long = longer;
            bytes = rows_next;
            twice = below_more (λ (round : ℕ). two_send_in round ss) n owned h.twice w.twice;
            multiplexes = below_more (λ (round : ℕ). some_entry_of is_multiplexed_send round ss) n owned h.multiplexes w.multiplexes;
          })
        where
          longer : size + size₁ ≡ length (rows_below master ss (suc n))
          longer = unfold rows_below in sym (length-append (rows_below master ss n) (row_of master ss n) ∙ rw (row_there, ← h.long, ← w.long))

-- ---- the index

pub index-none : (round size : ℕ) {t : Bool} → t ≡ is_owned round → not t ≡ true → 0 ≡ index_byte round size
unfolding index_byte
index-none round size {t} is skips = let out = sym is ∙ not-true t skips in rw out

pub index-some : (round size : ℕ) {t : Bool} → t ≡ is_owned round → not t ≡ false → 3 + size / 4 ≡ index_byte round size
unfolding index_byte
index-some round size {t} is has = let owned = sym is ∙ not-false t has in rw owned

module _ {ss : List Slave} {master n : ℕ} {head rows : List ℕ} {size : ℕ} {clash multiplexed : Bool} (h : RoundsWritten ss master n head rows size clash multiplexed) where
  pub head-room : length head ≡ 12
  head-room =
      ap length h.begins
      ∙ (length-append (replicate record_size no_owner) (index_below master ss n ++ replicate (rounds - n) no_owner)
      ∙ (rw (length-append (index_below master ss n) (replicate (rounds - n) no_owner), index-length master ss n, length-replicate (rounds - n) no_owner) (omega (arith, h.written.few))))

  module _ (more : n < rounds) where
    one_less : rounds - n ≡ suc (rounds - suc n)
    one_less = omega arith

    -- the index byte stands after those of the rounds before
    head_split : head ≡ (replicate record_size no_owner ++ index_below master ss n) ++ (no_owner ∷ replicate (rounds - suc n) no_owner)
    head_split =
        h.begins
        ∙ (ap (λ (k : ℕ). replicate record_size no_owner ++ (index_below master ss n ++ replicate k no_owner)) one_less
        ∙ sym (append_assoc (replicate record_size no_owner) (index_below master ss n) (no_owner ∷ replicate (rounds - suc n) no_owner)))

    head_length : length (replicate record_size no_owner ++ index_below master ss n) ≡ 4 + n
    head_length =
        length-append (replicate record_size no_owner) (index_below master ss n) ∙ (rw (index-length master ss n))

    head_joined : (b : ℕ) → (replicate record_size no_owner ++ index_below master ss n) ++ (b ∷ replicate (rounds - suc n) no_owner)
        ≡ replicate record_size no_owner ++ ((index_below master ss n ++ (b ∷ [])) ++ replicate (rounds - suc n) no_owner)
    head_joined b =
        append_assoc (replicate record_size no_owner) (index_below master ss n) (b ∷ replicate (rounds - suc n) no_owner)
        ∙ ap (λ (x : List ℕ). replicate record_size no_owner ++ x) (sym (append_assoc (index_below master ss n) (b ∷ []) (replicate (rounds - suc n) no_owner)))

    pub rounds-next : {b : ℕ} {new : List ℕ} {size' : ℕ} {clash' multiplexed' : Bool} → b ≡ index_byte n size → RowsWritten ss master (n + 1) new size' clash' multiplexed'
        → RoundsWritten ss master (n + 1) (set head (4 + n) b) new size' clash' multiplexed'
    rounds-next {b} {new} {size'} {clash'} {multiplexed'} is rows =
        record {
          begins =
              rw add-one
              (ap (λ (x : List ℕ). set x (4 + n) b) head_split
              ∙ (set_at (replicate record_size no_owner ++ index_below master ss n) no_owner (replicate (rounds - suc n) no_owner) b (4 + n) head_length
              ∙ (head_joined b ∙ ap (λ (x : List ℕ). replicate record_size no_owner ++ (x ++ replicate (rounds - suc n) no_owner)) index)));
          written = rows;
        }
      where
        index : index_below master ss n ++ (b ∷ []) ≡ index_below master ss (suc n)
        index = unfold index_below index_of index_byte in rw (is, h.written.long)

pub rounds-done : {ss : List Slave} {master n : ℕ} {head rows : List ℕ} {size : ℕ} {clash multiplexed : Bool} → RoundsWritten ss master n head rows size clash multiplexed → rounds ≤ n
    → RoundsWritten ss master rounds head rows size clash multiplexed
rounds-done {ss} {master} {n} {head} {rows} {size} {clash} {multiplexed} h over =
    let all : n ≡ rounds = omega (arith, h.written.few) in subst (λ (k : ℕ). RoundsWritten ss master k head rows size clash multiplexed) all h
