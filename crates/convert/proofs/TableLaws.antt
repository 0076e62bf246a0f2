-- Slaves as a slave table lists them, with their sleep bytes or awake.
-- Assumes nothing.
use Rattle.std.proofs.Common.{ℕ, suc, ◌+◌, ◌*◌, ◌<◌, ◌≡◌, refl, ap, List, [], ◌∷◌, ◌++◌, append-nil, Bool, true, false, length, get_or, take, take-suc}
use mathlib.Core.List.{map-append}
use Rattle.file.specs.Rules.Cluster.{Slave}
use Rattle.file.specs.Rules.Encode.{slave_size, slaves_size, table_entry, table}
use Rattle.file.specs.Rules.Decode.{decode}
use Rattle.file.specs.Inner.Places.{no_slave_lem, slave_of}
use Rattle.file.specs.Inner.Accepted.{AcceptedFile, WidthOf, slave_count}
use Rattle.file.proofs.Appended.{table-append}
use Rattle.convert.specs.Inner.Slaves.{listed_as, listed}
use Rattle.convert.proofs.ReadLaws.{sleep_read}

-- ---- slaves as a table lists them

pub listed_kept : (ss : List Slave) → listed true ss ≡ ss
unfolding listed_as
listed_kept [] = refl
listed_kept (s ∷ ss) = ap (λ (x : List Slave). s ∷ x) (listed_kept ss)

pub listed-size : (kept : Bool) (v : ℕ) (ss : List Slave) → slaves_size v (listed kept ss) ≡ slaves_size v ss
unfolding slaves_size slave_size listed_as
listed-size kept v [] = refl
listed-size kept v (s ∷ ss) = rw (listed-size kept v ss)

pub table-next : (kept : Bool) (v place : ℕ) (ss : List Slave) (i : ℕ) → i < length ss
    → table v place (listed kept (take (suc i) ss)) ≡ table v place (listed kept (take i ss)) ++ table_entry v (place + slaves_size v (take i ss)) (listed_as kept (get_or ss i no_slave_lem))
unfolding table
table-next kept v place ss i more =
    let s : Slave = get_or ss i no_slave_lem in
    rw (
      take-suc ss i no_slave_lem more,
      map-append (listed_as kept) (take i ss) (s ∷ []),
      table-append v place (listed kept (take i ss)) (listed_as kept s ∷ []),
      listed-size kept v (take i ss),
      append-nil (table_entry v (place + slaves_size v (take i ss)) (listed_as kept s)),
    )

-- its sleep byte, by whether it is kept
pub sleep_awake : (f : List ℕ) (s : ℕ) {kept : Bool} → kept ≡ false → 0 ≡ (listed_as kept (slave_of (decode f) s)).asleep
unfolding listed_as
sleep_awake f s is = rw is

pub all-awake : (f : List ℕ) (s : ℕ) → 0 ≡ (listed_as false (slave_of (decode f) s)).asleep
all-awake f s = sleep_awake f s refl

pub sleep_kept : {f : List ℕ} {w : ℕ} → AcceptedFile f → WidthOf f w → (s : ℕ) → s < slave_count f → {kept : Bool} → kept ≡ true
    → get_or f (8 + 4 * w + 2 * w * s + w + 1) 0 ≡ (listed_as kept (slave_of (decode f) s)).asleep
unfolding listed_as
sleep_kept h o s l is = rw is (sleep_read h o s l)
