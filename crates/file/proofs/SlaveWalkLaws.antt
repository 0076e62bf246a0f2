-- The walk of the slaves, step by step: what a loop along the table keeps, and one law for each way through a turn.
-- Assumes nothing.
use Rattle.std.proofs.Common.{ℕ, zero, suc, ◌+◌, ◌*◌, ◌-◌, ◌≤◌, ◌<◌, ◌≡◌, sym, ◌∙◌, subst, List, [], ◌∷◌, ◌++◌, append-nil, append_assoc, Bool}
use Rattle.std.proofs.Common.{true, false, arith, add-one, length, get_or, take, set, length-set, take-suc-set, leb-true, Option, Some}
use Rattle.std.proofs.Common.{None}
use lib.Seq.{append_snoc}
use Rattle.file.specs.Rules.Bytes.{part, all_zero}
use Rattle.file.specs.Inner.Numbers.{ByteAt, NumberAt}
use Rattle.file.specs.Rules.Layout.{header_size, entry_size_lem}
use Rattle.file.specs.Inner.Layout.{needed_configuration, needed_documentation}
use Rattle.file.specs.Rules.Cluster.{configuration, documentation}
use Rattle.file.specs.Rules.Decode.{offset_at}
use Rattle.file.specs.Rules.FileGrounds.{broken, to, and_then, good_table_entry, walk_directory, walk_slave, walk_slaves}
use Rattle.file.specs.Inner.Places.{places_each}
use Rattle.file.specs.Inner.Checked.{EntriesFit, stated_place, stated_in, stated_places, walk_of, fits_so_far, ended, DirectoryWalked, EntryWalked, EntryEnds, Arrives, SlaveStated, SlavesWalked}
use Rattle.file.specs.declared.walk.DirectoryEnd.{DirectoryEnd}
use Rattle.file.specs.declared.walk.SlaveFound.{SlaveFound}
use Rattle.file.proofs.Order.{clash, both_right}
use Rattle.file.proofs.Arrivals.{SlaveStep, slave_took}
use Rattle.file.proofs.Facts.{false_unless, TableEntryFacts, table-entry_facts, table-entry_yes}

-- ---- one slave

pub slave_stop : (w : ℕ) (f : List ℕ) (t place : ℕ) → good_table_entry w f t place ≡ false → walk_slave w f t place ≡ broken
unfolding walk_slave
slave_stop w f t place e = rw e

pub slave-step : (w : ℕ) (f : List ℕ) (t place : ℕ) → good_table_entry w f t place ≡ true →
    walk_slave w f t place ≡ walk_directory w f place 0 (place + entry_size_lem w * get_or f (t + w) 0) (get_or f (t + w) 0)
unfolding walk_slave
slave-step w f t place e = rw e

refused : {w : ℕ} {f : List ℕ} {t place : ℕ} → (TableEntryFacts w f t place → ⊥) → EntryWalked w f t place None
unfolding ended
refused {w} {f} {t} {place} not_so = record { walk = sym (slave_stop w f t place (false_unless (λ e. not_so (table-entry_facts w f t place e)))) }

pub slave-elsewhere : {w : ℕ} {f : List ℕ} {t place n : ℕ} → NumberAt f t w n → (n ≡ place → ⊥) → EntryWalked w f t place None
unfolding offset_at
slave-elsewhere k h = refused (λ g. h (k.is ∙ g.offset))

pub slave_sleep : {w : ℕ} {f : List ℕ} {t : ℕ} (place : ℕ) {n : ℕ} → ByteAt f (t + w + 1) n → 1 < n → EntryWalked w f t place None
slave_sleep place k h = refused (λ g. omega (arith, g.sleeps, k.is))

pub slave_unfilled : {w : ℕ} {f : List ℕ} {t : ℕ} (place : ℕ) {filled : Bool} → filled ≡ all_zero (part f (t + w + 2) (w - 2)) → filled ≡ false → EntryWalked w f t place None
slave_unfilled place is e = refused (λ g. clash g.zeros (sym is ∙ e))

pub slave_past : {w : ℕ} {f : List ℕ} {t place n : ℕ} → ByteAt f (t + w) n → length f < place + 2 * w * n → EntryWalked w f t place None
slave_past {w} {f} {t} {place} {n} k h =
    let past : length f < place + 2 * w * get_or f (t + w) 0 = rw (← k.is) h in
    refused (λ g. omega (arith, g.within, past))

module _ {w : ℕ} {f : List ℕ} {t place n offset asleep : ℕ} {filled : Bool} {end : Option DirectoryEnd} (count : ByteAt f (t + w) n) (o : NumberAt f t w offset) (here : offset ≡ place)
    (z : ByteAt f (t + w + 1) asleep) (few : asleep ≤ 1) (is : filled ≡ all_zero (part f (t + w + 2) (w - 2))) (all : filled ≡ true)
    (fits : place + 2 * w * n ≤ length f) (h : DirectoryWalked w f place n end) where
  offset-there : offset_at w f t ≡ place
  unfolding offset_at
  offset-there = sym o.is ∙ here

  pub slave_walked : EntryWalked w f t place end
  slave_walked =
      let within : place + 2 * w * get_or f (t + w) 0 ≤ length f = rw (← count.is) fits in
      let facts : TableEntryFacts w f t place = record {
        offset = offset-there;
        sleeps = omega (arith, z.is);
        zeros = sym is ∙ all;
        within = within;
      } in
      record { walk = sym (slave-step w f t place (table-entry_yes w f t place facts) ∙ rw (← count.is) (sym h.walk)) }

-- ---- its places

pub slave-broken : {w : ℕ} {f : List ℕ} {t place : ℕ} → EntryWalked w f t place None → broken ≡ walk_slave w f t place
unfolding ended
slave-broken h = h.walk

module _ {w : ℕ} {f : List ℕ} {t place : ℕ} {end : DirectoryEnd} (h : EntryWalked w f t place (Some end)) {fits : Bool} (is : fits ≡ fits_so_far f end.low end.place) where
  pub slave-past-end : fits ≡ false → broken ≡ walk_slave w f t place
  unfolding ended
  slave-past-end e = rw (sym is ∙ e) at h.walk

  pub slave-ends : fits ≡ true → EntryEnds w f t place end.place
  unfolding ended
  slave-ends e = record { walk = rw (sym is ∙ e) at h.walk; within = unfold fits_so_far in leb-true end.place (length f) (both_right _ _ (sym is ∙ e)) }

module _ {w : ℕ} {f : List ℕ} {t place end : ℕ} (fit : EntriesFit w f t 1) (h : EntryEnds w f t place end) {n : ℕ} (count : ByteAt f (t + w) n) where
  took : SlaveStep w f t place end
  took = slave_took w f t place end (sym h.walk)

  pub slave-entries : EntriesFit w f place n
  slave-entries = record { width = fit.width; within = rw count.is took.facts.within; short = fit.short }

  pub slave_arrives : Arrives w f place n
  slave_arrives = record { end = end; walk = rw count.is took.files }

  pub slave-stated : {found : SlaveFound} → found.end ≡ end → found.configuration ≡ stated_place w f configuration 3 0 place n → found.documentation ≡ stated_place w f documentation 2 0 place n
      → SlaveStated w f t place found
  unfolding stated_in
  slave-stated end-is conf-is doc-is =
      record {
        walk = rw end-is h.walk;
        config = rw (took.facts.offset, ← count.is) conf-is;
        document = rw (took.facts.offset, ← count.is) doc-is;
        within = rw end-is h.within;
      }

-- the width as a literal: it is 2, or 4
module _ {w : ℕ} {f : List ℕ} {d k : ℕ} (fit : EntriesFit w f d k) where
  other-is : (w ≡ 2 → ⊥) → w ≡ 4
  other-is other = omega (arith, fit.width.least, fit.width.most, fit.width.even)

  pub narrow_fits : w ≡ 2 → EntriesFit 2 f d k
  narrow_fits two = subst (λ (v : ℕ). EntriesFit v f d k) two fit

  pub wide_fits : (w ≡ 2 → ⊥) → EntriesFit 4 f d k
  wide_fits other = subst (λ (v : ℕ). EntriesFit v f d k) (other-is other) fit

-- the entries of a slave's directory fit
pub directory-fits : {w : ℕ} {f : List ℕ} {t : ℕ} (place n : ℕ) → EntriesFit w f t 1 → place + 2 * w * n ≤ length f → EntriesFit w f place n
directory-fits place n fit h = record { width = fit.width; within = h; short = fit.short }

-- a directory of as many entries as a byte counts ends at a number of the machine
pub entries_many : (w n : ℕ) → w ≤ 4 → 2 * w * n ≤ 8 * n
entries_many w zero h = omega arith
entries_many w (suc n) h = omega (arith, entries_many w n h)

-- ---- all slaves

-- a walk that stopped, and one that came to a place, in front of the rest
pub slaves_stop : (w : ℕ) (f : List ℕ) (t place k : ℕ) → 0 < k → walk_slave w f t place ≡ broken → walk_slaves w f t place k ≡ broken
unfolding walk_slaves and_then
slaves_stop w f t place zero h e = absurd (omega arith)
slaves_stop w f t place (suc k) h e = rw e

pub slaves-step : (w : ℕ) (f : List ℕ) (t place k end : ℕ) → 0 < k → walk_slave w f t place ≡ to end → walk_slaves w f t place k ≡ walk_slaves w f (t + entry_size_lem w) end (k - 1)
unfolding walk_slaves and_then
slaves-step w f t place zero end h e = absurd (omega arith)
slaves-step w f t place (suc k) end h e =
    let same : suc k - 1 ≡ k = omega arith in
    rw (e, same)

stated_cons : (w : ℕ) (f : List ℕ) (t k : ℕ) → 0 < k →
    stated_places w f t k ≡ stated_in w f configuration needed_configuration t ∷ stated_in w f documentation needed_documentation t ∷ stated_places w f (t + entry_size_lem w) (k - 1)
unfolding stated_places
stated_cons w f t zero h = absurd (omega arith)
stated_cons w f t (suc k) h =
    let same : suc k - 1 ≡ k = omega arith in
    rw same

-- two stores, one after the other
take-two : (l : List ℕ) (i a b : ℕ) → suc i < length l → take (suc (suc i)) (set (set l i a) (suc i) b) ≡ take i l ++ (a ∷ b ∷ [])
take-two l i a b h =
    rw (take-suc-set (set l i a) (suc i) b (simp length-set (omega arith)), take-suc-set l i a (omega arith), append_snoc)

-- the places written so far, in front of those to come
pub record Written (w : ℕ) (f : List ℕ) (count slave entry : ℕ) (places : List ℕ) : Type 0 where
  pub room : places_each * count ≤ length places
  pub all : take (places_each * slave) places ++ stated_places w f entry (count - slave) ≡ stated_places w f (header_size w) count

written_next : {w : ℕ} {f : List ℕ} {count slave entry : ℕ} {places : List ℕ} {conf doc : ℕ} → Written w f count slave entry places → slave < count →
    conf ≡ stated_in w f configuration needed_configuration entry → doc ≡ stated_in w f documentation needed_documentation entry →
    Written w f count (slave + 1) (entry + 2 * w) (set (set places (2 * slave) conf) (2 * slave + 1) doc)
written_next {w} {f} {count} {slave} {entry} {places} {conf} {doc} h more is-conf is-doc =
    let long : suc (2 * slave) < length places = omega (arith, h.room) in
    let less : count - (slave + 1) ≡ count - slave - 1 = omega arith in
    let two : 2 * (slave + 1) ≡ suc (suc (2 * slave)) = omega arith in
    let cons = stated_cons w f entry (count - slave) (omega arith) in
    let old : take (2 * slave) places ++ (conf ∷ doc ∷ stated_places w f (entry + 2 * w) (count - slave - 1)) ≡ stated_places w f (header_size w) count = rw (cons, ← is-conf, ← is-doc) at h.all in
    record {
      room = simp length-set h.room;
      all = rw (two, add-one (2 * slave), take-two places (2 * slave) conf doc long, append_assoc, less) old;
    }

-- what the loop along the table keeps
pub record Surveying (w : ℕ) (f : List ℕ) (count size slave entry place : ℕ) (places : List ℕ) : Type 0 where
  pub at : entry ≡ header_size w + 2 * w * slave
  pub most : slave ≤ count
  pub within : place ≤ length f
  pub walk : walk_slaves w f entry place (count - slave) ≡ walk_slaves w f (header_size w) (header_size w + 2 * w * count) count
  pub written : Written w f count slave entry places
  pub same : length places ≡ size

module _ {w : ℕ} {f : List ℕ} {count size slave entry place : ℕ} {places : List ℕ} (h : Surveying w f count size slave entry place places) where
  pub surveying_stop : slave < count → broken ≡ walk_slave w f entry place → SlavesWalked w f count None places
  unfolding walk_of
  surveying_stop more stopped =
      record { walk = sym (slaves_stop w f entry place (count - slave) (omega arith) (sym stopped)) ∙ h.walk; stated = tt }

  pub surveying_next : {found : SlaveFound} → slave < count → SlaveStated w f entry place found →
      Surveying w f count size (slave + 1) (entry + 2 * w) found.end (set (set places (2 * slave) found.configuration) (2 * slave + 1) found.documentation)
  surveying_next {found} more s =
      let less : count - (slave + 1) ≡ count - slave - 1 = omega arith in
      record {
        at = omega (arith, h.at);
        most = omega arith;
        within = s.within;
        walk = rw (less, ← (slaves-step w f entry place (count - slave) found.end (omega arith) (sym s.walk))) h.walk;
        written = written_next h.written more s.config s.document;
        same = simp length-set h.same;
      }

  pub surveying_done : count ≤ slave → SlavesWalked w f count (Some place) places
  unfolding walk_of walk_slaves stated_places
  surveying_done none =
      let z : count - slave ≡ 0 = omega arith in
      let same : slave ≡ count = omega (arith, h.most) in
      record {
        walk = rw z at h.walk;
        stated = rw (z, append-nil, same) at h.written.all;
      }
