-- A walk that arrives: it broke nowhere, took each step, and came upon as many entries as it walked. Whoever goes by a walk of the
-- file cites these laws.
-- Assumes nothing.
use Rattle.std.proofs.Common.{ℕ, zero, suc, ◌+◌, ◌*◌, ◌<◌, ◌≡◌, refl, ap, List, Bool, true, false, cond, arith, length, get_or, leb}
use Rattle.file.specs.Rules.Layout.{header_size, entry_size_lem}
use Rattle.file.specs.Rules.Decode.{file_size, files_at, slaves_at}
use Rattle.file.specs.Rules.FileGrounds.{Walk, and_then, good_entry, walk_directory, good_table_entry, walk_slave, walk_slaves, table_end, walk_file}
use Rattle.file.proofs.Facts.{EntryFacts, entry_facts, TableEntryFacts, table-entry_facts}

pub broken_arrives : {P : Type 0} {e : ℕ} → Walk.broken ≡ Walk.to e → P
broken_arrives p = let z : ◌≡◌ {A = ℕ} 0 1 = cc in absurd (omega arith)

pub arrives_same : {a b : ℕ} → Walk.to a ≡ Walk.to b → a ≡ b
arrives_same p = cc

-- a walk that stands behind a test arrives: the test passed, and the walk arrives
pub tested_arrives : (b : Bool) (r : Walk) {e : ℕ} → cond b r Walk.broken ≡ Walk.to e → (b ≡ true) × (r ≡ Walk.to e)
tested_arrives true r p = (refl, p)
tested_arrives false r p = broken_arrives p

-- a walk that goes on from another arrives: the other arrived, and it arrives from there
pub then-arrives :
    (r : Walk) (k : ℕ → Walk) {e : ℕ} → and_then r k ≡ Walk.to e → (next : ℕ) × (r ≡ Walk.to next) × (k next ≡ Walk.to e)
unfolding and_then
then-arrives Walk.broken k p = broken_arrives p
then-arrives (Walk.to next) k p = (next, refl, p)

-- ---- a step along a directory, into a slave, and along the table

pub record Step (w : ℕ) (f : List ℕ) (d low place k e : ℕ) : Type 0 where
  pub facts : EntryFacts w f d low place
  pub rest : walk_directory w f (d + entry_size_lem w) (suc (get_or f d 0)) (place + file_size (get_or f (d + 1) 0)) k ≡ Walk.to e

pub walk_took : (w : ℕ) (f : List ℕ) (d low place k e : ℕ) → walk_directory w f d low place (suc k) ≡ Walk.to e → Step w f d low place k e
unfolding walk_directory
walk_took w f d low place k e h =
    let came = tested_arrives (good_entry w f d low place) _ h in
    record { facts = entry_facts w f d low place came.0; rest = came.1 }

pub record SlaveStep (w : ℕ) (f : List ℕ) (t place e : ℕ) : Type 0 where
  pub facts : TableEntryFacts w f t place
  pub files : walk_directory w f place 0 (place + entry_size_lem w * get_or f (t + w) 0) (get_or f (t + w) 0) ≡ Walk.to e

pub slave_took : (w : ℕ) (f : List ℕ) (t place e : ℕ) → walk_slave w f t place ≡ Walk.to e → SlaveStep w f t place e
unfolding walk_slave
slave_took w f t place e h =
    let came = tested_arrives (good_table_entry w f t place) _ h in
    record { facts = table-entry_facts w f t place came.0; files = came.1 }

pub record SlavesStep (w : ℕ) (f : List ℕ) (t place k e : ℕ) : Type 0 where
  pub middle : ℕ
  pub first : walk_slave w f t place ≡ Walk.to middle
  pub rest : walk_slaves w f (t + entry_size_lem w) middle k ≡ Walk.to e

pub slaves_took : (w : ℕ) (f : List ℕ) (t place k e : ℕ) → walk_slaves w f t place (suc k) ≡ Walk.to e → SlavesStep w f t place k e
unfolding walk_slaves
slaves_took w f t place k e h =
    let (next, came, rest) = then-arrives (walk_slave w f t place) (λ (q : ℕ). walk_slaves w f (t + entry_size_lem w) q k) h in
    record { middle = next; first = came; rest = rest }

-- ---- each entry of a table and of a directory that was walked is good

pub record PassedSlave (w : ℕ) (f : List ℕ) (t : ℕ) : Type 0 where
  pub place : ℕ
  pub end : ℕ
  pub step : SlaveStep w f t place end

pub record PassedFile (w : ℕ) (f : List ℕ) (d : ℕ) : Type 0 where
  pub low : ℕ
  pub place : ℕ
  pub facts : EntryFacts w f d low place

module _ (w : ℕ) (f : List ℕ) where
  pub slave-passed : (t place n e : ℕ) → walk_slaves w f t place n ≡ Walk.to e → (i : ℕ) → i < n → PassedSlave w f (t + entry_size_lem w * i)
  slave-passed t place zero e h i l = elim l [ ]
  slave-passed t place (suc n) e h zero l =
      let step = slaves_took w f t place n e h in
      let here : t + entry_size_lem w * 0 ≡ t = omega arith in
      rw here (record { place = place; end = step.middle; step = slave_took w f t place step.middle step.first })
  slave-passed t place (suc n) e h (suc i) l =
      let step = slaves_took w f t place n e h in
      let there : t + entry_size_lem w * suc i ≡ t + entry_size_lem w + entry_size_lem w * i = omega arith in
      rw there (slave-passed (t + entry_size_lem w) step.middle n e step.rest i (omega arith))

  pub file-passed :
      (d low place k e : ℕ)
      → walk_directory w f d low place k ≡ Walk.to e
      → (j : ℕ)
      → j < k
      → PassedFile w f (d + entry_size_lem w * j)
  file-passed d low place zero e h j l = elim l [ ]
  file-passed d low place (suc k) e h zero l =
      let here : d + entry_size_lem w * 0 ≡ d = omega arith in
      rw here (record { low = low; place = place; facts = (walk_took w f d low place k e h).facts })
  file-passed d low place (suc k) e h (suc j) l =
      let there : d + entry_size_lem w * suc j ≡ d + entry_size_lem w + entry_size_lem w * j = omega arith in
      rw there (file-passed (d + entry_size_lem w) _ _ k e (walk_took w f d low place k e h).rest j (omega arith))

  -- of the whole file
  pub table-passed : (e : ℕ) → walk_file w f ≡ Walk.to e → (i : ℕ) → i < get_or f 3 0 → PassedSlave w f (header_size w + entry_size_lem w * i)
  unfolding walk_file
  table-passed e h =
      let came = tested_arrives (leb (table_end w f) (length f)) (walk_slaves w f (header_size w) (table_end w f) (get_or f 3 0)) h in
      slave-passed (header_size w) (table_end w f) (get_or f 3 0) e came.1

-- ---- as many files and slaves as entries

pub length-files_at : (w : ℕ) (f : List ℕ) (d k : ℕ) → length (files_at w f d k) ≡ k
unfolding files_at
length-files_at w f d zero = refl
length-files_at w f d (suc k) = ap suc (length-files_at w f (d + entry_size_lem w) k)

pub length-slaves_at : (w : ℕ) (f : List ℕ) (t n : ℕ) → length (slaves_at w f t n) ≡ n
unfolding slaves_at
length-slaves_at w f t zero = refl
length-slaves_at w f t (suc n) = ap suc (length-slaves_at w f (t + entry_size_lem w) n)
