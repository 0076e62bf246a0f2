-- The sleep byte in an accepted file: where it stands, what it says, and what the file becomes where it is stored.
-- Assumes nothing.
use Rattle.std.proofs.Common.{ℕ, ◌+◌, ◌*◌, ◌≤◌, ◌<◌, arith, ◌≡◌, refl, sym, ap, subst, ◌∙◌, List, eqb, length, get_or, set}
use Rattle.file.specs.Rules.Layout.{width_in, header_size}
use Rattle.file.specs.Rules.Cluster.{is_awake}
use Rattle.file.specs.Rules.Decode.{decode}
use Rattle.file.specs.Rules.Changes.{with_slaves}
use Rattle.file.specs.Inner.Places.{slave_of, sleep_place, put_sleep, slaves_room}
use Rattle.file.specs.Inner.Accepted.{Becomes, AcceptedFile, WidthOf, SleepAt, slave_count}
use Rattle.file.proofs.Width.{Which, narrow, wide, which, few-slaves}
use Rattle.file.proofs.AtWidth.{BecomesAt, at-edition, becomes_in, becomes_as, header-room-at}
use Rattle.file.proofs.ReaderLaws.{entry-within}
use Rattle.file.proofs.SleepStores.{read_sleep, store_sleep, legal-put_sleep}

-- a product of the width for all of its summands
sleep_sum : {w : ℕ} (s : ℕ) → Which w → 9 + w * (5 + 2 * s) ≡ header_size w + w + 1 + 2 * w * s
sleep_sum s narrow = omega arith
sleep_sum s wide = omega arith

sleep_most : {w : ℕ} (s : ℕ) → Which w → w * (5 + 2 * s) ≤ 4 * (5 + 2 * s)
sleep_most s narrow = omega arith
sleep_most s wide = omega arith

module _ {f : List ℕ} {w : ℕ} (h : AcceptedFile f) (v : WidthOf f w) (s : ℕ) (l : s < slave_count f) where
  sleep_at : SleepAt f s (header_size w + w + 1 + 2 * w * s)
  sleep_at =
      let same : header_size w + w + 1 + 2 * w * s ≡ sleep_place w s = omega arith in
      record { is = same ∙ ap (λ (m : ℕ). sleep_place m s) v.is; within = omega (arith, entry-within h v s l, v.width.least) }

  pub sleep_there : SleepAt f s (9 + w * (5 + 2 * s))
  sleep_there = subst (SleepAt f s) (sym (sleep_sum s (which v.width))) sleep_at

  pub sleep_fits : w * (5 + 2 * s) ≤ 4 * (5 + 2 * slaves_room)
  sleep_fits = omega (arith, sleep_most s (which v.width), few-slaves (decode f) h.legal, l)

module _ {f : List ℕ} (h : AcceptedFile f) where
  pub edition-there : 2 < length f
  edition-there = omega (arith, header-room-at (at-edition h))

module _ {f : List ℕ} {s at : ℕ} (h : AcceptedFile f) (l : s < slave_count f) (p : SleepAt f s at) where
  abbrev w : ℕ
  w = width_in (decode f).edition

  here : BecomesAt w f (decode f)
  here = becomes_in refl h

  pub awake-there : eqb (get_or f at 0) 0 ≡ is_awake (slave_of (decode f) s)
  unfolding is_awake
  awake-there =
      let there : get_or f at 0 ≡ (slave_of (decode f) s).asleep =
      ap (λ (k : ℕ). get_or f k 0) p.is ∙ ap (λ (g : List ℕ). get_or g (sleep_place w s) 0) here.encoded ∙ read_sleep here.legal.width.least (decode f) s l
      in
      rw there

  pub becomes_sleep : {b : ℕ} → b ≤ 1 → Becomes (set f at b) (put_sleep (decode f) s b)
  unfolding put_sleep with_slaves
  becomes_sleep {b} few =
      becomes_as {w = w}
      (ap (λ (k : ℕ). set f k b) p.is ∙ ap (λ (g : List ℕ). set g (sleep_place w s) b) here.encoded
      ∙ store_sleep here.legal.width.least (decode f) s l b)
      (legal-put_sleep (decode f) s b few h.legal)
