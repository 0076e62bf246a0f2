-- Where a file keeps the sleep bytes of its slaves, over the offset width of the file.
-- Assumes nothing.
use Rattle.std.proofs.Common.{ℕ, zero, suc, ◌+◌, ◌*◌, ◌≤◌, ◌<◌, arith, ◌≡◌, ap, ◌∙◌, List, true, length, get_or}
use Rattle.file.specs.Rules.Layout.{width_of, header_size, entry_size_lem}
use Rattle.file.specs.Rules.Cluster.{no_slave_lem}
use Rattle.file.specs.Rules.Decode.{slave_at, slaves_at, decode_at, decode}
use Rattle.file.specs.Rules.FileGrounds.{Walk, walk_file, broken_layout, file_ground}
use Rattle.file.specs.Inner.Places.{sleep_place}
use Rattle.file.specs.Claims.EditionOne.{SleepBytes}
use Rattle.file.proofs.Facts.{true_unless}
use Rattle.file.proofs.AcceptedFacts.{accepted, layout-whole}
use Rattle.file.proofs.Arrivals.{table-passed, length-slaves_at}

-- ---- of n table entries from t on

module _ (w : ℕ) (f : List ℕ) where
  sleep_read : (t n i : ℕ) → i < n → (get_or (slaves_at w f t n) i no_slave_lem).asleep ≡ get_or f (t + entry_size_lem w * i + w + 1) 0
  unfolding slaves_at slave_at
  sleep_read t zero i l = elim l [ ]
  sleep_read t (suc n) zero l = let here : t + w + 1 ≡ t + entry_size_lem w * 0 + w + 1 = omega arith in ap (λ (k : ℕ). get_or f k 0) here
  sleep_read t (suc n) (suc i) l =
      let there : t + entry_size_lem w + entry_size_lem w * i + w + 1 ≡ t + entry_size_lem w * suc i + w + 1 = omega arith in
      sleep_read (t + entry_size_lem w) n i (omega arith) ∙ ap (λ (k : ℕ). get_or f k 0) there

-- ---- of the file

module _ (f : List ℕ) where
  pub slaves-counted : length (decode f).slaves ≡ get_or f 3 0
  unfolding decode decode_at
  slaves-counted = length-slaves_at (width_of f) f (header_size (width_of f)) (get_or f 3 0)

  sleep_is : (i : ℕ) → i < length (decode f).slaves → (get_or (decode f).slaves i no_slave_lem).asleep ≡ get_or f (sleep_place (width_of f) i) 0
  unfolding decode decode_at
  sleep_is i l = sleep_read (width_of f) f (header_size (width_of f)) (get_or f 3 0) i (omega (arith, slaves-counted))

  sleep_few : walk_file (width_of f) f ≡ Walk.to (length f) → (i : ℕ) → i < length (decode f).slaves → get_or f (sleep_place (width_of f) i) 0 ≤ 1
  sleep_few whole i l = (table-passed (width_of f) f (length f) whole i (omega (arith, slaves-counted))).step.facts.sleeps

  sleep_breaks : (i : ℕ) → i < length (decode f).slaves → 1 < get_or f (sleep_place (width_of f) i) 0 → broken_layout (width_of f) f ≡ true
  sleep_breaks i l above =
      true_unless (λ whole. let few = sleep_few ((layout-whole (width_of f) f).0 whole) i l in omega (arith, few, above))

  -- at the places of the file's width
  pub sleep_bytes : (place : ℕ → ℕ) → ((i : ℕ) → sleep_place (width_of f) i ≡ place i) → SleepBytes f place
  unfolding file_ground
  sleep_bytes place at =
      record {
        read = λ i l. sleep_is i l ∙ ap (λ (k : ℕ). get_or f k 0) (at i);
        above = λ i l more. sleep_breaks i l (rw (at i) more);
        most = λ g i l. rw (← at i) (sleep_few ((accepted (width_of f) f).0 g).layout i l);
      }
