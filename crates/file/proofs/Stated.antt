-- The places that a walked directory states for a file, said of the files it holds.
-- Assumes nothing.
use Rattle.std.proofs.Common.{ℕ, zero, suc, ◌+◌, ◌≤◌, ◌<◌, ◌≡◌, refl, sym, ◌∙◌, List, [], ◌∷◌, cond, arith, eq-eqb, ne_eqb, eqb-true, leb-true}
use Rattle.std.proofs.Common.{leb-false, length, get_or, length-append, leb, eqb}
use borrow.Author.Tests.{eqb-false}
use Rattle.file.specs.Rules.Bytes.{part}
use Rattle.file.specs.Rules.Layout.{entry_size_lem}
use Rattle.file.specs.Rules.Cluster.{File, last_record, bytes_among}
use Rattle.file.specs.Rules.Encode.{contents}
use Rattle.file.specs.Rules.Decode.{offset_at, file_size, file_at, files_at}
use Rattle.file.specs.Rules.FileGrounds.{to, walk_directory}
use Rattle.file.specs.Inner.Places.{place_among}
use Rattle.file.specs.Inner.Checked.{states, stated_place}
use Rattle.file.proofs.Order.{by_case}
use Rattle.file.proofs.Facts.{EntryFacts}
use Rattle.file.proofs.Arrivals.{walk_took}
use Rattle.file.proofs.NumberLaws.{part_length}
use Rattle.file.proofs.WalkLaws.{kept_here, kept-short, kept-other}

pub walk-ended : (w : ℕ) (f : List ℕ) (d low place e : ℕ) → walk_directory w f d low place 0 ≡ to e → place ≡ e
unfolding walk_directory
walk-ended w f d low place e h = cc

-- ---- the file of an entry

pub last-size : (r : ℕ) (bs : List ℕ) → length bs ≡ file_size r → last_record bs ≡ r
unfolding last_record file_size
last-size r bs h = rw h (omega arith)

pub entry-number : (w : ℕ) (f : List ℕ) (d : ℕ) → (file_at w f d).number ≡ get_or f d 0
unfolding file_at
entry-number w f d = refl

module _ (w : ℕ) (f : List ℕ) (d low place : ℕ) (h : EntryFacts w f d low place) where
  pub entry-bytes : (file_at w f d).bytes ≡ part f place (file_size (get_or f (d + 1) 0))
  unfolding file_at
  entry-bytes = rw h.offset

  pub entry_length : length (file_at w f d).bytes ≡ file_size (get_or f (d + 1) 0)
  entry_length = rw entry-bytes (part_length f place (file_size (get_or f (d + 1) 0)) h.within)

-- ---- what lies where

-- a walk ends behind the contents of its files
pub walk_end : (w : ℕ) (f : List ℕ) (d low place k e : ℕ) → walk_directory w f d low place k ≡ to e → e ≡ place + length (contents (files_at w f d k))
unfolding files_at contents
walk_end w f d low place zero e h = omega (arith, walk-ended w f d low place e h)
walk_end w f d low place (suc k) e h =
    let s = walk_took w f d low place k e h in
    let more = walk_end w f (d + entry_size_lem w) (suc (get_or f d 0)) (place + file_size (get_or f (d + 1) 0)) k e s.rest in
    let size = entry_length w f d low place s.facts in
    rw length-append (omega (arith, more, size))

-- no file below the lowest number
pub walk_skips : (w : ℕ) (f : List ℕ) (n least kept d low place k e : ℕ) → n < low → walk_directory w f d low place k ≡ to e → stated_place w f n least kept d k ≡ kept
unfolding stated_place
walk_skips w f n least kept d low place zero e l h = refl
walk_skips w f n least kept d low place (suc k) e l h =
    let s = walk_took w f d low place k e h in
    let other : get_or f d 0 ≡ n → ⊥ = λ q. omega (arith, s.facts.rising) in
    let same = kept-other f n least d (offset_at w f (d + w)) kept other in
    rw (← same) (walk_skips w f n least kept (d + entry_size_lem w) (suc (get_or f d 0)) (place + file_size (get_or f (d + 1) 0)) k e (omega (arith, s.facts.rising)) s.rest)

-- what a directory states for file n with at least so many records: nothing, since it is not there or too short; or where it lies
pub data Stated (f : List ℕ) (n least kept place : ℕ) (xs : List File) (stated : ℕ) : Type 0 where
  lacking : stated ≡ kept → last_record (bytes_among xs n) < least → Stated f n least kept place xs stated
  found : (r : ℕ) → stated ≡ place_among place xs n → place ≤ stated → bytes_among xs n ≡ part f stated (file_size r) → stated + file_size r ≤ length f → least ≤ r → Stated f n least kept place xs stated

module _ {f : List ℕ} {n least kept place size : ℕ} {xs : List File} {stated : ℕ} where
  -- an entry of another number in front changes nothing
  stated-behind : (x : File) → (x.number ≡ n → ⊥) → length x.bytes ≡ size → Stated f n least kept (place + size) xs stated → Stated f n least kept place (x ∷ xs) stated
  unfolding bytes_among place_among
  stated-behind x other long (lacking same short) = lacking same (rw (ne_eqb x.number n other) short)
  stated-behind x other long (found r is behind bytes within enough) =
      found r (rw (ne_eqb x.number n other, long) is) (omega arith) (rw (ne_eqb x.number n other) bytes) within enough

-- the entry of that number in front: the rest states nothing more
stated-here : (w : ℕ) (f : List ℕ) (n least kept d low place k : ℕ) (xs : List File) → EntryFacts w f d low place → get_or f d 0 ≡ n →
    ((any : ℕ) → stated_place w f n least any (d + entry_size_lem w) k ≡ any) →
    Stated f n least kept place (file_at w f d ∷ xs) (stated_place w f n least kept d (suc k))
unfolding stated_place bytes_among place_among
stated-here w f n least kept d low place k xs facts is rest =
    let r = get_or f (d + 1) 0 in
    let number : (file_at w f d).number ≡ n = entry-number w f d ∙ is in
    let long = entry_length w f d low place facts in
    by_case (leb least r)
    (λ t.
    let stay : place ≡ cond (states f n least d) (offset_at w f (d + w)) kept =
    sym facts.offset ∙ kept_here f n least d (offset_at w f (d + w)) kept is (leb-true least r t) in
    rw (rest, ← stay)
    (found r (rw (eq-eqb _ _ number)) (omega arith)
    (rw (eq-eqb _ _ number) (entry-bytes w f d low place facts)) facts.within (leb-true least r t)))
    (λ t.
    let stay = kept-short f n least d (offset_at w f (d + w)) kept (leb-false least r t) in
    let short : last_record (file_at w f d).bytes < least = rw (last-size r (file_at w f d).bytes long) (leb-false least r t) in
    rw (rest, ← stay) (lacking refl (rw (eq-eqb _ _ number) short)))

empty_short : (n : ℕ) {m : ℕ} → 1 ≤ m → last_record (bytes_among [] n) < m
unfolding last_record bytes_among
empty_short n l = omega arith

pub stated-file : (w : ℕ) (f : List ℕ) (n least kept d low place k e : ℕ) → 1 ≤ least → walk_directory w f d low place k ≡ to e →
    Stated f n least kept place (files_at w f d k) (stated_place w f n least kept d k)
unfolding stated_place files_at
stated-file w f n least kept d low place zero e some h = lacking refl (empty_short n some)
stated-file w f n least kept d low place (suc k) e some h =
    let s = walk_took w f d low place k e h in
    let r = get_or f (d + 1) 0 in
    by_case (eqb (get_or f d 0) n)
    (λ t.
    let is = eqb-true (get_or f d 0) n t in
    stated-here w f n least kept d low place k (files_at w f (d + entry_size_lem w) k) s.facts is
    (λ any. walk_skips w f n least any (d + entry_size_lem w) (suc (get_or f d 0)) (place + file_size r) k e (omega (arith, is)) s.rest))
    (λ t.
    let other = eqb-false (get_or f d 0) n t in
    let stay = kept-other f n least d (offset_at w f (d + w)) kept other in
    rw (← stay)
    (stated-behind (file_at w f d) (λ q. other (sym (entry-number w f d) ∙ q)) (entry_length w f d low place s.facts)
    (stated-file w f n least kept (d + entry_size_lem w) (suc (get_or f d 0)) (place + file_size r) k e some s.rest)))
