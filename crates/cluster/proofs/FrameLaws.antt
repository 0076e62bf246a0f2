-- One master-slave frame on an accepted file: its grounds, and what each way out comes to.
-- Assumes nothing.
use Prim.Native.Nat.{ℕ}
use native.Mathlib.Omega.{arith}
use mathlib.Core.Path.{◌≡◌, refl, sym, ap, ◌∙◌, subst}
use mathlib.Core.List.{List, [], ◌∷◌}
use mathlib.Core.Bool.{Bool, true, false, cond, not}
use lib.ListN.{length, get_or}
use lib.Dec.{eqb}
use borrow.Author.Tests.{eq-eqb, ne_eqb, eqb-true, eqb-false, not-true, not-false}
use mir.Val.{Fits as FitsIn}
use mir.Syntax.{w8}
use Rattle.file.specs.Rules.Bytes.{Byte, All, all_empty, all_next}
use Rattle.file.specs.Rules.Order as Order
use Rattle.file.specs.Rules.Results.{refused, done, result_of}
use Rattle.file.specs.Rules.Layout.{pending_flag}
use Rattle.file.specs.Rules.Cluster.{Cluster, pb2_of, operation_of, file_number_of, write_operation}
use Rattle.file.specs.Rules.Legal.{LegalPending}
use Rattle.file.specs.Inner.Typed.{file_in, record_in, name_in_lem, operation_in}
use Rattle.file.specs.Inner.Accepted.{Becomes, PendingIs}
use Rattle.file.specs.declared.types.Refusal.{Refusal}
use Rattle.file.specs.declared.types.LogicalName.{LogicalName}
use Rattle.file.specs.declared.types.FileNumber.{FileNumber}
use Rattle.file.specs.declared.types.RecordNumber.{RecordNumber}
use Rattle.file.specs.declared.types.Operation.{Operation}
use Rattle.file.proofs.Order.{by_case, both_false_left, both-next}
use Rattle.file.proofs.Results.{result_done, result_refused, no_ground, same-value, that_ground}
use Rattle.frame.specs.Rules.Fireworks.{Round, multipartner, msd, msa, data_firework, address_firework, fireworks, round_in, round_of}
use Rattle.frame.specs.Rules.Check.{data_check}
use Rattle.frame.specs.Rules.Frames.{frame_size, between}
use Rattle.frame.specs.Rules.FrameGrounds.{wrong_frame_length, wrong_check, no_address}
use Rattle.frame.specs.Rules.Reading.{Parts, parts, read_ground, parts_of, read_address}
use Rattle.frame.specs.Inner.FrameAnswers.{reading_of}
use Rattle.frame.proofs.Tests as Tests
use Rattle.master_slave.specs.declared.types.DataBytes.{DataBytes}
use Rattle.master_slave.specs.Rules.Bus.{sender_mask, answer_bytes, answer_in, nobody}
use Rattle.master_slave.specs.Rules.Slaves.{with_address}
use Rattle.master_slave.specs.Rules.Effect.{Effect}
use Rattle.master_slave.specs.Inner.Duties.{data_effect, data_in}
use Rattle.master_slave.specs.Inner.Carried.{Carried}
use Rattle.master_slave.proofs.Bus.{mask-nobody}
use Rattle.cluster.specs.Rules.RoundGrounds.{round_by_lem, write_pending, grounds_on}
use Rattle.cluster.specs.Inner.EachGround.{no_firework, firework_size, length_for, wrong_length_on, wrong_check_on, no_operation_on, broadcast_read_on, frame_ground}
use Rattle.cluster.specs.Rules.Round.{effect_of, frame_on}
use Rattle.cluster.specs.Inner.Effects.{address_effect}
use Rattle.cluster.specs.Inner.Exchanged.{answer_to, left_by_lem, heard_in, Exchanged, Taken}
use Rattle.cluster.specs.Inner.RoundAnswers.{data_read}
use Rattle.cluster.proofs.Rounds.{Fits, fits_facts, address-pending}
use Rattle.file.specs.Inner.Refusals.{Answered, refusal_number, outcome_of}
use Rattle.std.specs.Prelude.{Ok, Err}
use Rattle.frame.specs.declared.types.AddressFrame.{AddressFrame}

-- ---- answer and file of one frame, and its buffer

module _ (c : Cluster) (frame : List ℕ) where
  pub taken_refused : {f : List ℕ} {g : ℕ} → Becomes f c → g ≡ frame_ground c frame → (g ≡ 0 → ⊥) → Taken c frame (refused g) f
  unfolding answer_to left_by_lem
  taken_refused h e n =
      let no' : eqb (frame_ground c frame) 0 ≡ false = ne_eqb (frame_ground c frame) 0 (λ z. n (e ∙ z)) in
      record { answers = rw no' (ap refused e); becomes = rw no' h }

  pub taken_carried : {f : List ℕ} {mask : ℕ} → frame_ground c frame ≡ 0 → mask ≡ sender_mask (frame_on c frame).senders → Becomes f (frame_on c frame).after → Taken c frame (done mask) f
  unfolding answer_to left_by_lem
  taken_carried z m h =
      let yes' : eqb (frame_ground c frame) 0 ≡ true = eq-eqb (frame_ground c frame) 0 z in
      record { answers = rw yes' (ap done m); becomes = rw yes' h }

  -- by the answer
  answer-refused : {n : ℕ} → refused n ≡ answer_to c frame → eqb (frame_ground c frame) 0 ≡ false
  unfolding answer_to
  answer-refused e =
      by_case (eqb (frame_ground c frame) 0)
      (λ t. let same = rw t at e in let z : ◌≡◌ {A = ℕ} 0 1 = cc in absurd (omega arith))
      (λ t. t)

  answer-done : {m : ℕ} → done m ≡ answer_to c frame → eqb (frame_ground c frame) 0 ≡ true
  unfolding answer_to
  answer-done e =
      by_case (eqb (frame_ground c frame) 0)
      (λ t. t)
      (λ t. let same = rw t at e in let z : ◌≡◌ {A = ℕ} 0 1 = cc in absurd (omega arith))

  pub taken_alone : {f : List ℕ} (b : List ℕ) {n : ℕ} → Taken c frame (refused n) f → Exchanged c frame b b (refused n) f
  unfolding heard_in
  taken_alone b t = record { answers = t.answers; buffer = rw (answer-refused t.answers); becomes = t.becomes }

  pub taken-heard : {f old new : List ℕ} {m : ℕ} → Taken c frame (done m) f → new ≡ answer_in old (answer_bytes (get_or frame 0 0) (frame_on c frame).senders) → Exchanged c frame old new (done m) f
  unfolding heard_in
  taken-heard t b = record { answers = t.answers; buffer = rw (answer-done t.answers) b; becomes = t.becomes }

  pub exchange-refused : {f : List ℕ} (b : List ℕ) {g : ℕ} → Becomes f c → g ≡ frame_ground c frame → (g ≡ 0 → ⊥) → Exchanged c frame b b (refused g) f
  exchange-refused b h e n = taken_alone b (taken_refused h e n)

  pub exchange-carried :
      {f : List ℕ} (old : List ℕ) {new : List ℕ} {mask : ℕ} → frame_ground c frame ≡ 0 →
      Carried (frame_on c frame) (get_or frame 0 0) old new mask f → Exchanged c frame old new (done mask) f
  exchange-carried old z k = taken-heard (taken_carried z k.senders k.becomes) k.buffer

-- ---- the firework of a round

kind_of : Round → ℕ
kind_of (multipartner r) = 0
kind_of msd = 1
kind_of msa = 2
kind_of Round.no_round = 3

only_in : (x : Round) (firework : ℕ) (es : List (ℕ × Round)) (b : ℕ) → (Round.no_round ≡ x → ⊥) → All (λ (e : ℕ × Round). e.1 ≡ x → e.0 ≡ firework) es → round_in es b ≡ x → b ≡ firework
unfolding round_in
only_in x firework [] b some all_empty h = absurd (some h)
only_in x firework (e ∷ es) b some (all_next p r) h =
    by_case (eqb b e.0)
    (λ t. eqb-true b e.0 t ∙ p (rw t at h))
    (λ t. only_in x firework es b some r (rw t at h))

pub first-of : (frame : List ℕ) (x : Round) → (Round.no_round ≡ x → ⊥) → round_by_lem frame ≡ x → round_of (get_or frame 0 0) ≡ x
unfolding round_by_lem
first-of [] x some h = absurd (some h)
first-of (b ∷ bs) x some h = h

pub not_empty : (frame : List ℕ) (x : Round) → (Round.no_round ≡ x → ⊥) → round_by_lem frame ≡ x → length frame ≡ 0 → ⊥
unfolding round_by_lem
not_empty [] x some h z = some h
not_empty (b ∷ bs) x some h z = omega arith

never_msa : Round.no_round ≡ msa → ⊥
unfolding kind_of
never_msa e = omega (arith, ap kind_of e)

pub never_multipartner : {r : ℕ} → Round.no_round ≡ multipartner r → ⊥
unfolding kind_of
never_multipartner e = omega (arith, ap kind_of e)

-- a round of one kind is none of another
other : {x y : Round} {b firework : ℕ} → eqb (kind_of x) (kind_of y) ≡ false → x ≡ y → b ≡ firework
other {x} {y} differ same = absurd (eqb-false (kind_of x) (kind_of y) differ (ap kind_of same))

pub data-first : (frame : List ℕ) → round_by_lem frame ≡ msd → get_or frame 0 0 ≡ data_firework
unfolding round_of kind_of
data-first frame h =
    only_in msd data_firework fireworks (get_or frame 0 0) (λ e. omega (arith, ap kind_of e))
    (all_next (other refl) (all_next (λ _. refl) (all_next (other refl) (all_next (other refl)
    (all_next (other refl) (all_next (other refl) (all_next (other refl) (all_next (other refl) all_empty))))))))
    (first-of frame msd (λ e. omega (arith, ap kind_of e)) h)

pub address-first : (frame : List ℕ) → round_by_lem frame ≡ msa → get_or frame 0 0 ≡ address_firework
unfolding round_of kind_of
address-first frame h =
    only_in msa address_firework fireworks (get_or frame 0 0) (λ e. omega (arith, ap kind_of e))
    (all_next (other refl) (all_next (other refl) (all_next (other refl) (all_next (other refl)
    (all_next (other refl) (all_next (λ _. refl) (all_next (other refl) (all_next (other refl) all_empty))))))))
    (first-of frame msa (λ e. omega (arith, ap kind_of e)) h)

-- ---- a data frame

pub pending-idle : (c : Cluster) {flag name n operation r : ℕ} → PendingIs c flag name n operation r → (flag ≡ pending_flag → ⊥) → false ≡ write_pending c
unfolding write_pending
pending-idle c {flag} p h = sym (both_false_left (eqb (operation_of c.pending_pb2) write_operation) (ne_eqb c.flag pending_flag (λ e. h (p.flag_is ∙ e))))

pub pending-write : (c : Cluster) {flag name n operation r : ℕ} → PendingIs c flag name n operation r → flag ≡ pending_flag → eqb operation write_operation ≡ write_pending c
unfolding write_pending
pending-write c {operation = operation} p h =
    ap (λ (o : ℕ). eqb o write_operation) p.operation_is ∙ sym (both-next (eqb (operation_of c.pending_pb2) write_operation) (eq-eqb c.flag pending_flag (sym p.flag_is ∙ h)))

nothing-between : (frame : List ℕ) → length frame ≡ firework_size → 0 ∷ 0 ∷ 0 ∷ 0 ∷ [] ≡ between frame
nothing-between [] e = absurd (omega arith)
nothing-between (b ∷ []) e = refl
nothing-between (b ∷ d ∷ l) e = absurd (omega arith)

data-ground :
    (c : Cluster) (frame : List ℕ) → round_by_lem frame ≡ msd →
    frame_ground c frame ≡ cond (wrong_frame_length (cond (write_pending c) frame_size firework_size) frame) 11 (cond (Order.both (write_pending c) (wrong_check data_check frame)) 12 0)
unfolding frame_ground grounds_on Order.first_of no_firework wrong_length_on length_for wrong_check_on no_operation_on broadcast_read_on
data-ground c frame h = rw h

read-refused : (c : Cluster) (frame : List ℕ) {n : ℕ} → (n ≡ 0 → ⊥) → frame_ground c frame ≡ n → refused n ≡ result_of (frame_ground c frame) (between frame)
read-refused c frame some is = rw is (result_refused (between frame) some)

read_done : (c : Cluster) (frame bytes : List ℕ) → frame_ground c frame ≡ 0 → bytes ≡ between frame → done bytes ≡ result_of (frame_ground c frame) (between frame)
read_done c frame bytes none is = rw (← is) (sym (result_done none))

module _ (c : Cluster) (frame : List ℕ) (is_data : round_by_lem frame ≡ msd) {t : Bool} (test : t ≡ write_pending c) where
  module _ (idle : not t ≡ true) where
    unpending : write_pending c ≡ false
    unpending = sym test ∙ not-true t idle

    pub data-not-one : (length frame ≡ firework_size → ⊥) → refused 11 ≡ result_of (frame_ground c frame) (between frame)
    unfolding wrong_frame_length
    data-not-one h = read-refused c frame (λ z. omega (arith, z)) (data-ground c frame is_data ∙ rw (unpending, ne_eqb (length frame) firework_size h))

    pub data-one : length frame ≡ firework_size → done (0 ∷ 0 ∷ 0 ∷ 0 ∷ []) ≡ result_of (frame_ground c frame) (between frame)
    unfolding wrong_frame_length Order.both
    data-one h = read_done c frame _ (data-ground c frame is_data ∙ rw (unpending, eq-eqb (length frame) firework_size h)) (nothing-between frame h)

  module _ (waits : not t ≡ false) where
    pending : write_pending c ≡ true
    pending = sym test ∙ not-false t waits

    pub data-not_six : (length frame ≡ frame_size → ⊥) → refused 11 ≡ result_of (frame_ground c frame) (between frame)
    unfolding wrong_frame_length
    data-not_six h = read-refused c frame (λ z. omega (arith, z)) (data-ground c frame is_data ∙ rw (pending, ne_eqb (length frame) frame_size h))

    pub data_wrong : {check : ℕ} → length frame ≡ frame_size → check ≡ data_check (between frame) → (get_or frame 5 0 ≡ check → ⊥) → refused 12 ≡ result_of (frame_ground c frame) (between frame)
    unfolding wrong_frame_length wrong_check Order.both
    data_wrong h e n =
        read-refused c frame (λ z. omega (arith, z))
        (data-ground c frame is_data ∙ rw (pending, eq-eqb (length frame) frame_size h, ne_eqb (get_or frame 5 0) (data_check (between frame)) (λ q. n (q ∙ sym e))))

    pub data-fits : {check : ℕ} → length frame ≡ frame_size → check ≡ data_check (between frame) → get_or frame 5 0 ≡ check → frame_ground c frame ≡ 0
    unfolding wrong_frame_length wrong_check Order.both
    data-fits h e n = data-ground c frame is_data ∙ rw (pending, eq-eqb (length frame) frame_size h, eq-eqb (get_or frame 5 0) (data_check (between frame)) (n ∙ e))

    pub data_right : {check : ℕ} → length frame ≡ frame_size → check ≡ data_check (between frame) → get_or frame 5 0 ≡ check → done (between frame) ≡ result_of (frame_ground c frame) (between frame)
    data_right h e n = read_done c frame (between frame) (data-fits h e n) refl

-- ---- a data frame that was read

pub exchange-data :
    (c : Cluster) (frame : List ℕ) {f : List ℕ} (old : List ℕ) {new : List ℕ} {mask : ℕ} → round_by_lem frame ≡ msd → frame_ground c frame ≡ 0 →
    Carried (data_effect c (between frame)) data_firework old new mask f → Exchanged c frame old new (done mask) f
unfolding frame_on effect_of
exchange-data c frame {f} old {new} {mask} is_data z k =
    let effect : frame_on c frame ≡ data_effect c (between frame) = rw is_data in
    let there : Carried (frame_on c frame) data_firework old new mask f = subst (λ (e : Effect). Carried e data_firework old new mask f) (sym effect) k in
    exchange-carried c frame old z (subst (λ (b : ℕ). Carried (frame_on c frame) b old new mask f) (sym (data-first frame is_data)) there)

pub data-refused :
    (c : Cluster) (frame : List ℕ) {f : List ℕ} (b : List ℕ) {x : Answered DataBytes} {why : Refusal} → Becomes f c →
    data_read x ≡ result_of (frame_ground c frame) (between frame) → x ≡ Err why → Exchanged c frame b b (refused (refusal_number why)) f
unfolding data_read
data-refused c frame b {why = why} h e is =
    let reason = that_ground (between frame) (refusal_number why) (frame_ground c frame) (rw is at e) in
    exchange-refused c frame b h reason.0 reason.1

pub data-taken :
    (c : Cluster) (frame : List ℕ) {f : List ℕ} (old : List ℕ) {new : List ℕ} {mask : ℕ} {x : Answered DataBytes} {bytes : DataBytes} → round_by_lem frame ≡ msd →
    data_read x ≡ result_of (frame_ground c frame) (between frame) → x ≡ Ok bytes →
    Carried (data_effect c (data_in bytes)) data_firework old new mask f → Exchanged c frame old new (done mask) f
unfolding data_read
data-taken c frame {f} old {new} {mask} {bytes = bytes} is_data e is k =
    let there : done (data_in bytes) ≡ result_of (frame_ground c frame) (between frame) = rw is at e in
    let same : data_in bytes ≡ between frame = same-value (between frame) (frame_ground c frame) there in
    exchange-data c frame old is_data (no_ground (between frame) (frame_ground c frame) there) (subst (λ (l : List ℕ). Carried (data_effect c l) data_firework old new mask f) same k)

-- ---- an address frame

-- the reader's grounds are the round's
pub address_ground : (c : Cluster) (frame : List ℕ) → round_by_lem frame ≡ msa → frame_ground c frame ≡ read_ground frame
unfolding frame_ground grounds_on Order.first_of no_firework wrong_length_on length_for wrong_check_on no_operation_on broadcast_read_on read_ground
address_ground c frame h =
    let first : no_address frame ≡ false = Tests.address frame (not_empty frame msa never_msa h) (address-first frame h) in
    rw (h, first)

-- what was read of a frame
pub record PartsAre (frame : List ℕ) (epoch name number operation «record» : ℕ) : Type 0 where
  pub reason : read_ground frame ≡ 0
  pub pb0 : epoch ≡ get_or frame 1 0
  pub pb1 : name ≡ get_or frame 2 0
  pub pb2 : pb2_of number operation ≡ get_or frame 3 0
  pub pb3 : «record» ≡ get_or frame 4 0

pub parts_facts : (frame : List ℕ) {e n m o r : ℕ} → done (parts e n m o r) ≡ read_address frame → PartsAre frame e n m o r
unfolding read_address parts_of pb2_of
parts_facts frame {e} {n} {m} {o} {r} h =
    let same : parts e n m o r ≡ parts_of frame = same-value (parts_of frame) (read_ground frame) h in
    let file : m ≡ file_number_of (get_or frame 3 0) = ap (λ (p : Parts). p.file) same in
    let operation : o ≡ operation_of (get_or frame 3 0) = ap (λ (p : Parts). p.operation) same in
    record {
      reason = no_ground (parts_of frame) (read_ground frame) h;
      pb0 = ap (λ (p : Parts). p.epoch) same;
      pb1 = ap (λ (p : Parts). p.name) same;
      pb2 = omega (arith, file, operation);
      pb3 = ap (λ (p : Parts). p.«record») same;
    }

pub address-refused :
    (c : Cluster) (frame : List ℕ) {f : List ℕ} {x : Answered AddressFrame} {why : Refusal} → Becomes f c → round_by_lem frame ≡ msa →
    reading_of x ≡ read_address frame → x ≡ Err why → Taken c frame (refused (refusal_number why)) f
unfolding reading_of read_address
address-refused c frame {x = x} {why} h is_address e is =
    let reason = that_ground (parts_of frame) (refusal_number why) (read_ground frame) (rw is at e) in
    taken_refused c frame h (reason.0 ∙ sym (address_ground c frame is_address)) reason.1

module _ (c : Cluster) (frame : List ℕ) {x : Answered AddressFrame} {read : AddressFrame} (is_address : round_by_lem frame ≡ msa) (e : reading_of x ≡ read_address frame)
    (is : x ≡ Ok read) where
  taken : PartsAre frame read.epoch (name_in_lem read.name) (file_in read.file) (operation_in read.operation) (record_in read.«record»)
  unfolding reading_of
  taken = parts_facts frame (rw is at e)

  fits : frame_ground c frame ≡ 0
  fits = address_ground c frame is_address ∙ taken.reason

  pub address-legal : ((i : ℕ) → FitsIn w8 (get_or frame i 0)) → LegalPending (with_address c read.epoch (name_in_lem read.name) (pb2_of (file_in read.file) (operation_in read.operation)) (record_in read.«record»))
  unfolding frame_ground no_operation_on broadcast_read_on with_address
  address-legal fit =
      let byte : (i : ℕ) → Byte (get_or frame i 0) = λ i. omega (arith, fit i) in
      let facts : Fits c (round_by_lem frame) frame = fits_facts c (round_by_lem frame) frame fits in
      let facts' : Fits c msa frame = subst (λ (x : Round). Fits c x frame) is_address facts in
      rw (taken.pb0, taken.pb1, taken.pb2, taken.pb3)
      (address-pending c (get_or frame 1 0) (get_or frame 2 0) (get_or frame 3 0) (get_or frame 4 0) (byte 1) (byte 2) (byte 3) (byte 4) facts'.operation facts'.broadcast_read)

  pub address-taken : {f : List ℕ} → Becomes f (with_address c read.epoch (name_in_lem read.name) (pb2_of (file_in read.file) (operation_in read.operation)) (record_in read.«record»)) → Taken c frame (done 0) f
  unfolding frame_on effect_of
  address-taken {f} h =
      let effect : frame_on c frame ≡ address_effect c frame = rw is_address in
      let after : Becomes f (address_effect c frame).after = rw (← taken.pb0, ← taken.pb1, ← taken.pb2, ← taken.pb3) h in
      taken_carried c frame fits (rw effect mask-nobody) (rw effect after)

-- its buffer, by the answer
module _ (c : Cluster) (frame : List ℕ) {f : List ℕ} {x : Answered ℕ} (t : Taken c frame (outcome_of x) f) where
  pub address_alone : (b : List ℕ) {why : Refusal} → x ≡ Err why → Exchanged c frame b b (refused (refusal_number why)) f
  unfolding outcome_of
  address_alone b is = taken_alone c frame b (rw is at t)

  pub address-heard : {old new : List ℕ} {m : ℕ} → round_by_lem frame ≡ msa → x ≡ Ok m → new ≡ answer_in old (answer_bytes address_firework nobody) → Exchanged c frame old new (done m) f
  unfolding outcome_of frame_on effect_of
  address-heard {old} {new} is_address is b =
      let effect : frame_on c frame ≡ address_effect c frame = rw is_address in
      let there : new ≡ answer_in old (answer_bytes (get_or frame 0 0) (frame_on c frame).senders) = rw (address-first frame is_address, effect) b in
      taken-heard c frame (rw is at t) there
