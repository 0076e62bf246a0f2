-- The call that writes the owner file: its grounds in their order, what it answers, and what it leaves in the buffer.
-- Assumes nothing.
use Rattle.std.proofs.Common.{ℕ, ◌+◌, ◌-◌, ◌≤◌, ◌<◌, arith, ◌≡◌, refl, sym, ap, ◌∙◌, ◌≢◌, List, [], ◌∷◌, ◌++◌, append_assoc, append-nil, Bool, true, false, length, take, drop, replicate, length-append, drop_of_length-le, take_at, drop_at, take_all, drop-drop, eq-eqb, ne_eqb, lt-ltb, le-ltb}
use lib.Seq.{take-length}
use borrow.Rule.Slice.PartMut.{put_mid}
use Rattle.file.specs.Rules.Order.{first_of}
use Rattle.file.specs.Rules.Results.{refused, done, written_in}
use Rattle.file.specs.Rules.Layout.{record_size}
use Rattle.file.specs.Rules.Cluster.{Slave}
use Rattle.file.specs.Rules.Decode.{decode}
use Rattle.file.specs.Rules.FileGrounds.{file_grounds, file_ground}
use Rattle.file.specs.Inner.Surveyed.{Surveyed}
use Rattle.file.specs.declared.types.Refusal.{Refusal}
use Rattle.file.proofs.Order.{joined-here, joined-next}
use Rattle.file.proofs.Results.{file-first, file_numbered}
use Rattle.file.proofs.Surveyed.{survey-accepted, survey-refused}
use Rattle.file.proofs.Edition.{unknown_edition, refused-edition}
use Rattle.owner.specs.Rules.Plan.{rounds, two_send, multiplexed_send}
use Rattle.owner.specs.Rules.OwnerFile.{no_owner, rows_below, index_below, owner_file}
use Rattle.owner.specs.Rules.OwnerWriting.{too_short, owner_grounds, owner_ground, owner_on}
use Rattle.owner.specs.Claims.Call.{UnknownEdition}
use Rattle.owner.specs.Inner.Planned.{RoundsWritten}
use Rattle.owner.proofs.RowLaws.{head-room, rows_written}
use Rattle.file.specs.Inner.Refusals.{Answered, refusal_number, outcome_of}
use Rattle.std.specs.Prelude.{Ok, Err}

module _ (file : List ℕ) (master : ℕ) (buffer : List ℕ) where
  -- the first ground is the file's, or else 23, or else 20, or else 21
  pub file_decides : file_ground file ≢ 0 → owner_ground file master buffer ≡ file_ground file
  unfolding owner_ground owner_grounds
  file_decides some = joined-here (file_grounds file) _ (file_numbered file) (λ z. some (sym (file-first file) ∙ z)) ∙ file-first file

  pub after-file : file_ground file ≡ 0
      → owner_ground file master buffer
      ≡ first_of
      ((23, multiplexed_send (decode file).slaves) ∷ (20, two_send (decode file).slaves) ∷ (21, too_short buffer master (decode file).slaves) ∷ [])
  unfolding owner_ground owner_grounds
  after-file accepted = joined-next (file_grounds file) _ (file_numbered file) (file-first file ∙ accepted)

  pub multiplexed_decides : file_ground file ≡ 0 → multiplexed_send (decode file).slaves ≡ true → owner_ground file master buffer ≡ 23
  unfolding first_of
  multiplexed_decides accepted found = after-file accepted ∙ rw found

  pub clash_decides : file_ground file ≡ 0 → multiplexed_send (decode file).slaves ≡ false → two_send (decode file).slaves ≡ true → owner_ground file master buffer ≡ 20
  unfolding first_of
  clash_decides accepted none two = after-file accepted ∙ rw (none, two)

  pub buffer_decides : file_ground file ≡ 0 → multiplexed_send (decode file).slaves ≡ false → two_send (decode file).slaves ≡ false → too_short buffer master (decode file).slaves ≡ true
      → owner_ground file master buffer ≡ 21
  unfolding first_of
  buffer_decides accepted none one short = after-file accepted ∙ rw (none, one, short)

  pub none-holds : file_ground file ≡ 0 → multiplexed_send (decode file).slaves ≡ false → two_send (decode file).slaves ≡ false → too_short buffer master (decode file).slaves ≡ false
      → owner_ground file master buffer ≡ 0
  unfolding first_of
  none-holds accepted none one fits = after-file accepted ∙ rw (none, one, fits)

  -- refused, with the buffer as it was; or written
  pub owner-refused : owner_ground file master buffer ≢ 0 → owner_on file master buffer ≡ (refused (owner_ground file master buffer), buffer)
  unfolding owner_on
  owner-refused some = rw (ne_eqb _ _ some)

  pub owner-written : owner_ground file master buffer ≡ 0
      → owner_on file master buffer ≡ (done (length (owner_file master (decode file).slaves)), written_in buffer (owner_file master (decode file).slaves))
  unfolding owner_on
  owner-written none = rw (eq-eqb _ _ none)

-- ---- the file that was written

module _ {ss : List Slave} {master : ℕ} {head rows : List ℕ} {size : ℕ} {clash multiplexed : Bool} (h : RoundsWritten ss master rounds head rows size clash multiplexed) where
  pub written-whole : head ++ take size rows ≡ owner_file master ss
  unfolding owner_file
  written-whole =
      rw (h.begins, append-nil (index_below master ss rounds), rows_written h.written)
      (append_assoc (replicate record_size no_owner) (index_below master ss rounds) (rows_below master ss rounds))

  pub written-size : size ≡ length (take size rows)
  written-size = h.written.long ∙ ap length (sym (rows_written h.written))

  pub written-length : 12 + size ≡ length (owner_file master ss)
  written-length =
      let rest : length (take size rows) ≡ size = sym written-size in
      sym (ap length (sym written-whole) ∙ (length-append head (take size rows) ∙ rw (head-room h, rest)))

  pub written-fits : {room : ℕ} → 12 + size ≤ room → length head + length (take size rows) ≤ room
  written-fits fits = omega (arith, head-room h, written-size)

  pub written_clash : clash ≡ two_send ss
  unfolding two_send
  written_clash = h.written.twice

  pub written_multiplexed : multiplexed ≡ multiplexed_send ss
  unfolding multiplexed_send
  written_multiplexed = h.written.multiplexes

-- ---- the ways of the call, by the answer of the survey

module _ (master : ℕ) (buffer : List ℕ) {file places : List ℕ} {a : Answered (Unit {0})} (s : Surveyed file (outcome_of a) places) where
  pub call-refused : {why : Refusal} → a ≡ Err why → (refused (refusal_number why), buffer) ≡ owner_on file master buffer
  call-refused {why} e =
      let reason = survey-refused s e in
      let here : owner_ground file master buffer ≡ file_ground file = file_decides file master buffer (λ z. reason.1 (reason.0 ∙ z)) in
      sym (owner-refused file master buffer (λ z. reason.1 (reason.0 ∙ sym here ∙ z)) ∙ rw (here, reason.0))

  module _ {u : Unit {0}} (accepted : a ≡ Ok u) {head rows : List ℕ} {size : ℕ} {clash multiplexed : Bool} (h : RoundsWritten (decode file).slaves master rounds head rows size clash multiplexed) where
    pub call_multiplexed : multiplexed ≡ true → (refused 23, buffer) ≡ owner_on file master buffer
    call_multiplexed e =
        let here : owner_ground file master buffer ≡ 23 = multiplexed_decides file master buffer (survey-accepted s accepted) (sym (written_multiplexed h) ∙ e) in
        sym (owner-refused file master buffer (λ z. let bad : ◌≡◌ {A = ℕ} 23 0 = sym here ∙ z in omega (arith, bad)) ∙ rw here)

    none_multiplexed : multiplexed ≡ false → multiplexed_send (decode file).slaves ≡ false
    none_multiplexed e = sym (written_multiplexed h) ∙ e

    pub call_clash : multiplexed ≡ false → clash ≡ true → (refused 20, buffer) ≡ owner_on file master buffer
    call_clash none e =
        let here : owner_ground file master buffer ≡ 20 = clash_decides file master buffer (survey-accepted s accepted) (none_multiplexed none) (sym (written_clash h) ∙ e) in
        sym (owner-refused file master buffer (λ z. let bad : ◌≡◌ {A = ℕ} 20 0 = sym here ∙ z in omega (arith, bad)) ∙ rw here)

    module _ (none : multiplexed ≡ false) (e : clash ≡ false) where
      pub call-short : length buffer < 12 + size → (refused 21, buffer) ≡ owner_on file master buffer
      call-short short =
          let here : owner_ground file master buffer ≡ 21 = buffer_decides file master buffer (survey-accepted s accepted) (none_multiplexed none) (sym (written_clash h) ∙ e) (less short) in
          sym (owner-refused file master buffer (λ z. let bad : ◌≡◌ {A = ℕ} 21 0 = sym here ∙ z in omega (arith, bad)) ∙ rw here)
        where
          less : length buffer < 12 + size → too_short buffer master (decode file).slaves ≡ true
          less short = unfold too_short in lt-ltb (length buffer) (length (owner_file master (decode file).slaves)) (omega (arith, written-length h))

      pub call-written : {new : List ℕ} → 12 + size ≤ length buffer → new ≡ written_in buffer (head ++ take size rows) → (done (12 + size), new) ≡ owner_on file master buffer
      call-written fits is =
          rw (is, written-length h, written-whole h)
          (sym (owner-written file master buffer (none-holds file master buffer (survey-accepted s accepted) (none_multiplexed none) (sym (written_clash h) ∙ e) (room fits))))
        where
          room : 12 + size ≤ length buffer → too_short buffer master (decode file).slaves ≡ false
          room fits = unfold too_short in le-ltb (length buffer) (length (owner_file master (decode file).slaves)) (omega (arith, written-length h))

-- ---- two parts copied one after the other

pub put-parts : (buffer head rows middle part : List ℕ) (start : ℕ) → length head + length rows ≤ length buffer → start ≡ length head
    → middle ≡ take (length head) head ++ drop (length head) buffer
    → part ≡ take (length rows) rows ++ drop (length rows) (take (length middle - start) (drop start middle))
    → put_mid start (length middle - start) middle part ≡ written_in buffer (head ++ rows)
unfolding written_in
put-parts buffer head rows middle part start fits at first second =
    rw (
      front,
      back,
      second,
      back,
      take_all (length middle - start) (drop (length head) buffer) count,
      take-length rows,
      drop_of_length-le (drop (length head) buffer) count,
      append-nil (rows ++ drop (length rows) (drop (length head) buffer)),
      drop-drop (length rows) (length head) buffer,
      length-append head rows,
    )
    (sym (append_assoc head rows (drop (length head + length rows) buffer)))
  where
    joined : middle ≡ head ++ drop (length head) buffer
    joined = first ∙ ap (λ (x : List ℕ). x ++ drop (length head) buffer) (take-length head)

    front : take start middle ≡ head
    front = rw (joined, at) (take_at head (drop (length head) buffer) (length head) refl)

    back : drop start middle ≡ drop (length head) buffer
    back = rw (joined, at) (drop_at head (drop (length head) buffer) (length head) refl)

    count : length (drop (length head) buffer) ≤ length middle - start
    count = omega (arith, at, ap length joined, length-append head (drop (length head) buffer))

-- ---- a file of unknown edition

pub owner-edition : UnknownEdition
owner-edition f g m n a b long front other =
    let refused-f : file_ground f ≢ 0 = refused-edition f other in
    let same : file_ground f ≡ file_ground g = unknown_edition f g long front other in
    let refused-g : file_ground g ≢ 0 = λ z. refused-f (same ∙ z) in
    let here-f = file_decides f m a refused-f in
    let here-g = file_decides g n b refused-g in
    let left = owner-refused f m a (λ z. refused-f (sym here-f ∙ z)) in
    let right = owner-refused g n b (λ z. refused-g (sym here-g ∙ z)) in
    rw (left, right, here-f, here-g, same)
