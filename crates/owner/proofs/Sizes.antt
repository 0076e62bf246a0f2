-- The owner file has at most 396 bytes, and its index leads to its rows.
-- Assumes nothing.
use Rattle.std.proofs.Common.{ℕ, zero, suc, ◌+◌, ◌-◌, ◌*◌, ◌/◌, ◌%◌, ◌≤◌, ◌<◌, arith, ◌≡◌, refl, sym, ap, ◌∙◌, List, [], ◌∷◌, ◌++◌, true, false, length, get_or, replicate, length-append, get_or-append-add, eqb, leb, eqb-true, leb-true, leb-false, le-ltb}
use lib.ListN.{length-replicate, get_or-append}
use lib.Seq.{get_or_at}
use borrow.Author.Tests.{eqb-false}
use Rattle.file.specs.Rules.Order.{either}
use Rattle.file.specs.Rules.Layout.{record_size}
use Rattle.file.specs.Rules.Cluster.{Slave}
use Rattle.file.proofs.Order.{by_case}
use Rattle.master_slave.specs.Rules.Bus.{slots}
use Rattle.owner.specs.Rules.Plan.{rounds, is_owned, senders_in}
use Rattle.owner.specs.Rules.OwnerFile.{no_owner, name_of, owner_of, last_owned, owners_below, owners_of, padded, row_of, rows_below, index_of, index_below, owner_file}
use Rattle.owner.specs.Rules.OwnerWriting.{too_short}
use Rattle.owner.specs.Claims.Sizes.{AtMostLongest, LongestFits, IndexBytes, FoundByIndex, NobodyPastRow}
use Rattle.owner.proofs.RowLaws.{owners-length, owners-at, index-length}

last-most : (round : ℕ) (ss : List Slave) (n : ℕ) → last_owned round ss n ≤ n
unfolding last_owned
last-most round ss zero = omega arith
last-most round ss (suc n) =
    by_case (eqb (length (senders_in round (suc n) ss)) 0)
    (λ e. rw e (omega (arith, last-most round ss n)))
    (λ e. rw e (omega arith))

-- ---- a row

module _ (master : ℕ) (ss : List Slave) (round : ℕ) where
  abbrev last : ℕ
  last = last_owned round ss (slots - 1)

  owners-count : length (owners_of master round ss) ≡ last + 1
  unfolding owners_of
  owners-count = owners-length master round ss (last + 1)

  padded-count : length (padded (owners_of master round ss)) ≡ 4 * (last / 4 + 1)
  unfolding padded
  padded-count =
      length-append (owners_of master round ss) (replicate ((record_size - length (owners_of master round ss) % record_size) % record_size) no_owner)
      ∙ (rw (length-replicate ((record_size - length (owners_of master round ss) % record_size) % record_size) no_owner, owners-count) (omega arith))

  pub row_owned : is_owned round ≡ true → length (row_of master ss round) ≡ 4 * (last / 4 + 1)
  unfolding row_of
  row_owned e = rw e padded-count

  pub row_other : is_owned round ≡ false → row_of master ss round ≡ []
  unfolding row_of
  row_other e = rw e

  pub row_most : length (row_of master ss round) ≤ 64
  row_most =
      by_case (is_owned round)
      (λ e. omega (arith, row_owned e, last-most round ss (slots - 1)))
      (λ e. omega (arith, ap length (row_other e)))

  row_whole : length (row_of master ss round) % 4 ≡ 0
  row_whole =
      by_case (is_owned round)
      (λ e. omega (arith, row_owned e))
      (λ e. omega (arith, ap length (row_other e)))

  -- the owner of a slot in the round's row
  row_at : is_owned round ≡ true → (slot : ℕ) → slot ≤ last → get_or (row_of master ss round) slot 0 ≡ owner_of master round ss slot
  unfolding row_of padded owners_of
  row_at e slot l =
      rw e
      (get_or-append (owners_below master round ss (last + 1)) _ 0 slot (rw (owners-length master round ss (last + 1)) (omega arith))
      ∙ owners-at master round ss (last + 1) slot (omega arith))

-- ---- all rows

rows_next : (master : ℕ) (ss : List Slave) (n : ℕ) → length (rows_below master ss (suc n)) ≡ length (rows_below master ss n) + length (row_of master ss n)
unfolding rows_below
rows_next master ss n = length-append (rows_below master ss n) (row_of master ss n)

rows-most : (master : ℕ) (ss : List Slave) (n : ℕ) → length (rows_below master ss n) ≤ 64 * n
unfolding rows_below
rows-most master ss zero = omega arith
rows-most master ss (suc n) = omega (arith, rows_next master ss n, row_most master ss n, rows-most master ss n)

rows_whole : (master : ℕ) (ss : List Slave) (n : ℕ) → length (rows_below master ss n) % 4 ≡ 0
unfolding rows_below
rows_whole master ss zero = refl
rows_whole master ss (suc n) = omega (arith, rows_next master ss n, row_whole master ss n, rows_whole master ss n)

-- rounds 1 and 5 have no row
data-none : (master : ℕ) (ss : List Slave) → length (row_of master ss 1) ≡ 0
data-none master ss = ap length (row_other master ss 1 (unfold is_owned either in refl))

address-none : (master : ℕ) (ss : List Slave) → length (row_of master ss 5) ≡ 0
address-none master ss = ap length (row_other master ss 5 (unfold is_owned either in refl))

pub at-most-longest : AtMostLongest
unfolding owner_file
at-most-longest master ss =
    rw (length-append (index_below master ss rounds) (rows_below master ss rounds), index-length master ss rounds)
    (omega (
      arith,
      rows-most master ss 1,
      rows_next master ss 1,
      data-none master ss,
      rows_next master ss 2,
      row_most master ss 2,
      rows_next master ss 3,
      row_most master ss 3,
      rows_next master ss 4,
      row_most master ss 4,
      rows_next master ss 5,
      address-none master ss,
      rows_next master ss 6,
      row_most master ss 6,
      rows_next master ss 7,
      row_most master ss 7,
    ))

pub longest-fits : LongestFits
unfolding too_short
longest-fits buffer master ss long = le-ltb (length buffer) (length (owner_file master ss)) (omega (arith, at-most-longest master ss))

pub index-bytes : IndexBytes
unfolding index_of
index-bytes master ss round few =
    by_case (is_owned round)
    (λ e. rw e (omega (arith, rows-most master ss round)))
    (λ e. rw e (omega arith))

-- ---- through the index

index_at : (master : ℕ) (ss : List Slave) (n round : ℕ) → round < n → get_or (index_below master ss n) round 0 ≡ index_of master ss round
unfolding index_below
index_at master ss zero round l = absurd (omega arith)
index_at master ss (suc n) round l =
    by_case (eqb round n)
    (λ e.
    let same : round ≡ n = eqb-true round n e in
    rw same (get_or_at (index_below master ss n) (index_of master ss n) [] 0 n (index-length master ss n)))
    (λ e.
    get_or-append (index_below master ss n) (index_of master ss n ∷ []) 0 round (rw (index-length master ss n) (below (eqb-false round n e)))
    ∙ index_at master ss n round (below (eqb-false round n e)))
  where
    below : (round ≡ n → ⊥) → round < n
    below other = omega arith

rising : (master : ℕ) (ss : List Slave) (round n : ℕ) → round < n → length (rows_below master ss round) + length (row_of master ss round) ≤ length (rows_below master ss n)
rising master ss round zero l = absurd (omega arith)
rising master ss round (suc n) l =
    by_case (eqb round n)
    (λ e. let same : round ≡ n = eqb-true round n e in rw same (omega (arith, rows_next master ss n)))
    (λ e. omega (arith, rows_next master ss n, rising master ss round n (below (eqb-false round n e))))
  where
    below : (round ≡ n → ⊥) → round < n
    below other = omega arith

rows_at : (master : ℕ) (ss : List Slave) (n round : ℕ) → round < n → (k : ℕ) → k < length (row_of master ss round)
    → get_or (rows_below master ss n) (length (rows_below master ss round) + k) 0 ≡ get_or (row_of master ss round) k 0
unfolding rows_below
rows_at master ss zero round l k m = absurd (omega arith)
rows_at master ss (suc n) round l k m =
    by_case (eqb round n)
    (λ e.
    let same : round ≡ n = eqb-true round n e in
    rw same (get_or-append-add (rows_below master ss n) (row_of master ss n) k 0))
    (λ e.
    get_or-append (rows_below master ss n) (row_of master ss n) 0 (length (rows_below master ss round) + k) (inside (below (eqb-false round n e)))
    ∙ rows_at master ss n round (below (eqb-false round n e)) k m)
  where
    below : (round ≡ n → ⊥) → round < n
    below other = omega arith

    inside : round < n → length (rows_below master ss round) + k < length (rows_below master ss n)
    inside q = omega (arith, rising master ss round n q)

module _ (master : ℕ) (ss : List Slave) where
  index-byte : (round : ℕ) → round < rounds → get_or (owner_file master ss) (record_size + round) 0 ≡ index_of master ss round
  unfolding owner_file
  index-byte round few =
      get_or-append-add (replicate record_size no_owner) (index_below master ss rounds ++ rows_below master ss rounds) round 0
      ∙ (get_or-append (index_below master ss rounds) (rows_below master ss rounds) 0 round (rw (index-length master ss rounds) few)
      ∙ index_at master ss rounds round few)

  row_byte : (k : ℕ) → get_or (owner_file master ss) (4 + (8 + k)) 0 ≡ get_or (rows_below master ss rounds) k 0
  unfolding owner_file
  row_byte k =
      get_or-append-add (replicate record_size no_owner) (index_below master ss rounds ++ rows_below master ss rounds) (8 + k) 0
      ∙ (ap (λ (n : ℕ). get_or (index_below master ss rounds ++ rows_below master ss rounds) (n + k) 0) (sym (index-length master ss rounds))
      ∙ get_or-append-add (index_below master ss rounds) (rows_below master ss rounds) k 0)

  index_leads : (round slot : ℕ) → is_owned round ≡ true → record_size * index_of master ss round + slot ≡ 4 + (8 + (length (rows_below master ss round) + slot))
  unfolding index_of
  index_leads round slot owned = rw owned (omega (arith, rows_whole master ss round))

-- ---- past the last slot

none_past : (round : ℕ) (ss : List Slave) (n slot : ℕ) → last_owned round ss n < slot → slot ≤ n → senders_in round slot ss ≡ []
unfolding last_owned
none_past round ss zero slot l m = absurd (omega (arith, l))
none_past round ss (suc n) slot l m =
    by_case (eqb (length (senders_in round (suc n) ss)) 0)
    (λ e.
    by_case (eqb slot (suc n))
    (λ q. let same : slot ≡ suc n = eqb-true slot (suc n) q in rw same (no_length (senders_in round (suc n) ss) (eqb-true _ 0 e)))
    (λ q. none_past round ss n slot (rw e at l) (below (eqb-false slot (suc n) q))))
    (λ e. let past : suc n < slot = rw e at l in absurd (omega arith))
  where
    no_length : {A : Type 0} (x : List A) → length x ≡ 0 → x ≡ []
    no_length [] e = refl
    no_length (a ∷ x) e = absurd (omega (arith, e))

    below : (slot ≡ suc n → ⊥) → slot ≤ n
    below other = omega arith

pub nobody_past_row : NobodyPastRow
nobody_past_row ss round slot l m = none_past round ss (slots - 1) slot l (omega arith)

past_owner : (master round : ℕ) (ss : List Slave) (slot : ℕ) → 0 < slot → senders_in round slot ss ≡ [] → owner_of master round ss slot ≡ 0
unfolding owner_of name_of
past_owner master round ss zero some e = absurd (omega arith)
past_owner master round ss (suc slot) some e = rw e

-- past the owners stand zeros, and behind these nothing
padding_zero : (owners : List ℕ) (n slot : ℕ) → length owners ≤ slot → get_or (owners ++ replicate n no_owner) slot 0 ≡ 0
padding_zero [] zero slot past = refl
padding_zero [] (suc n) zero past = refl
padding_zero [] (suc n) (suc slot) past = padding_zero [] n slot (omega arith)
padding_zero (o ∷ owners) n zero past = absurd (omega (arith, past))
padding_zero (o ∷ owners) n (suc slot) past = padding_zero owners n slot (omega (arith, past))

module _ (master : ℕ) (ss : List Slave) (round : ℕ) (owned : is_owned round ≡ true) (slot : ℕ) where
  row_padding : last master ss round < slot → get_or (row_of master ss round) slot 0 ≡ 0
  unfolding row_of padded
  row_padding l =
      let owners = owners_of master round ss in
      rw owned (padding_zero owners ((record_size - length owners % record_size) % record_size) slot (omega (arith, l, owners-count master ss round)))

  row_owner : slot < length (row_of master ss round) → get_or (row_of master ss round) slot 0 ≡ owner_of master round ss slot
  row_owner inside =
      by_case (leb slot (last master ss round))
      (λ q. row_at master ss round owned slot (leb-true slot (last master ss round) q))
      (λ q.
      let past : last master ss round < slot = leb-false slot (last master ss round) q in
      row_padding past ∙ sym (past_owner master round ss slot (omega arith) (nobody_past_row ss round slot past (omega (arith, row_most master ss round)))))

-- ---- every byte of a row, in the file

pub found_by_index : FoundByIndex
found_by_index master ss round few owned slot inside =
    rw (index-byte master ss round few, index_leads master ss round slot owned)
    (row_byte master ss (length (rows_below master ss round) + slot)
    ∙ (rows_at master ss rounds round few slot inside ∙ row_owner master ss round owned slot inside))

file-inside : (master : ℕ) (ss : List Slave) (round : ℕ) → round < rounds → is_owned round ≡ true → (slot : ℕ) → slot < length (row_of master ss round)
    → record_size * index_of master ss round + slot < length (owner_file master ss)
unfolding owner_file
file-inside master ss round few owned slot inside =
    rw (length-append (index_below master ss rounds) (rows_below master ss rounds), index-length master ss rounds, index_leads master ss round slot owned)
    (omega (arith, rising master ss round rounds few))

file-long : (master : ℕ) (ss : List Slave) → 12 ≤ length (owner_file master ss)
unfolding owner_file
file-long master ss = rw (length-append (index_below master ss rounds) (rows_below master ss rounds), index-length master ss rounds) (omega arith)

-- in bytes that begin with the file
pub front-owner : (master : ℕ) (ss : List Slave) (rest : List ℕ) (round : ℕ) → round < rounds → is_owned round ≡ true → (slot : ℕ) → slot < length (row_of master ss round)
    → get_or (owner_file master ss ++ rest) (record_size * get_or (owner_file master ss ++ rest) (record_size + round) 0 + slot) 0 ≡ owner_of master round ss slot
front-owner master ss rest round few owned slot inside =
    rw (get_or-append (owner_file master ss) rest 0 (record_size + round) (omega (arith, file-long master ss)))
    (get_or-append (owner_file master ss) rest 0 (record_size * get_or (owner_file master ss) (record_size + round) 0 + slot)
    (rw (index-byte master ss round few) (file-inside master ss round few owned slot inside))
    ∙ found_by_index master ss round few owned slot inside)
