-- Which rounds fit after every permitted list of calls and before every list of steps, and which frames do not, from the lists that are
-- permitted written out: on an accepted file the frames are accepted, so the rounds are such lists, and the others are none.
-- Assumes nothing.
use Prim.Native.Nat.{ℕ, ◌≤◌}
use mathlib.Core.Path.{◌≡◌, refl, ap, ◌∙◌}
use mathlib.Core.Logic.{◌≢◌}
use mathlib.Core.List.{List, [], ◌∷◌, ◌++◌}
use mathlib.Core.Bool.{Bool, true, false}
use native.Mathlib.Omega.{arith}
use lib.ListN.{length}
use lib.Dec.{eqb}
use borrow.Author.Tests.{eqb-true, eqb-false, eq-eqb, ne_eqb, le-ltb}
use Rattle.file.specs.Rules.Bytes.{Byte, Bytes, all_empty, all_next}
use Rattle.file.specs.Rules.Order.{both}
use Rattle.file.specs.Rules.FileGrounds.{file_ground}
use Rattle.file.specs.Rules.Cluster.{Cluster, configuration, unnamed, broadcast, operation_of, file_number_of, read_operation, write_operation, execute_operation, pb2_of}
use Rattle.file.specs.Rules.Changes.{with_pending}
use Rattle.file.specs.Rules.Decode.{decode}
use Rattle.file.specs.Inner.Accepted.{Becomes}
use Rattle.file.proofs.Order.{by_case, both_unless, both_false_left, both_false_right}
use Rattle.frame.specs.Rules.Fireworks.{Round, multipartner, msd, msa, no_round, round_of, round_in, data_firework}
use Rattle.frame.specs.Rules.Check.{address_check}
use Rattle.frame.specs.Rules.Frames.{frame_of, address_bytes, address_frame}
use Rattle.frame.specs.Rules.FrameGrounds.{wrong_frame_length, wrong_check, no_operation, broadcast_read}
use Rattle.frame.specs.Rules.Reading.{Parts, parts_of}
use Rattle.frame.proofs.Written.{address-bytes, data-bytes}
use Rattle.master_slave.specs.Rules.Slaves.{with_address}
use Rattle.master_slave.specs.Rules.Bus.{slots}
use Rattle.cluster.specs.Rules.RoundGrounds.{round_by_lem, write_pending}
use Rattle.cluster.specs.Rules.Round.{effect_of, frame_on, round_ground, round_on}
use Rattle.cluster.specs.Rules.Summary.{Summary, without, round_keeping_ground}
use Rattle.cluster.specs.Claims.Summary.{Matches, given_none}
use Rattle.cluster.proofs.Keeping.{matched_ground, keeping-round}
use Rattle.cluster.specs.Inner.EachGround.{no_firework, length_for, wrong_length_on, wrong_check_on, no_operation_on, broadcast_read_on, frame_ground}
use Rattle.cluster.proofs.Sent as Sent
use Rattle.cluster.proofs.Rounds.{fits-none, round-becomes, round-bytes}
use Rattle.naming.specs.Rules.Position.{Position, fresh}
use Rattle.naming.specs.Rules.Account.{Call, frame}
use Rattle.naming.specs.Claims.Demand.{State, start_on, permitted_address, permitted_frame, permitted, after_calls}
use Rattle.naming.specs.Claims.Permitted.{MayAsk, read, other_file, write_at_name, write_at_all, Accepted, PermittedList, no_calls, multipartner_round, master_slave_round}
use Rattle.naming.specs.Claims.PermittedRounds.{PermittedFrom, file_after, run_after, Sendable, address_of, DataFor, of_write_lem, of_other_lem}
use Rattle.naming.specs.Claims.PermittedRounds.{Rounds, no_rounds, multipartner_next, master_slave_next, SentBy, no_frames, one_more_lem, RoundsFit, EachMultipartner}
use Rattle.naming.specs.Claims.PermittedRounds.{MayNotAsk, other_record, at_unnamed, execute, MayNotAskExactly, BarredMsa, NoMsdNext, at_the_end, refused_next, step_next, frame_next, LoneMsa, LoneMsd}
use Rattle.naming.proofs.OverBytes.{demand_3, bytes_after}
use Rattle.naming.proofs.Lists.{permitted_closed, permitted-append, fits-between}
use Rattle.naming.proofs.PermittedExactly.{may-ask, on, refused-front, frame-front, step-front, address-front, list-permitted}

-- ---- frames that are accepted

-- a firework of a multipartner round, alone
multipartner-fits : (c : Cluster) (firework : ℕ) {r : ℕ} → round_of firework ≡ multipartner r → frame_ground c (firework ∷ []) ≡ 0
unfolding frame_ground round_by_lem
multipartner-fits c firework {r} is =
    rw is
    (fits-none c (multipartner r) (firework ∷ [])
    (record {
      firework = unfold no_firework in refl;
      size = unfold wrong_length_on wrong_frame_length length_for in refl;
      check = unfold wrong_check_on in refl;
      operation = unfold no_operation_on in refl;
      broadcast_read = unfold broadcast_read_on in refl;
    }))

-- an MSD of the length that fits what is pending
data-round : {write : Bool} {content : List ℕ} → DataFor write content → round_by_lem content ≡ msd
data-round (of_write_lem {b₀} {b₁} {b₂} {b₃} is bs) = Sent.data-round b₀ b₁ b₂ b₃
data-round (of_other_lem is) = Sent.alone_round

data-fits : (c : Cluster) {write : Bool} {content : List ℕ} → DataFor write content → write_pending c ≡ write → frame_ground c content ≡ 0
data-fits c (of_write_lem {b₀} {b₁} {b₂} {b₃} is bs) e = Sent.frame-fits b₀ b₁ b₂ b₃ c (e ∙ is)
data-fits c (of_other_lem is) e = Sent.alone_fits c (e ∙ is)

pub data-frame-bytes : {write : Bool} {content : List ℕ} → DataFor write content → Bytes content
data-frame-bytes (of_write_lem is bs) = data-bytes bs
data-frame-bytes (of_other_lem is) = let b : Byte data_firework = omega arith in all_next b all_empty

-- an MSA
address-round : (a : Parts) → round_by_lem (address_of a) ≡ msa
unfolding address_of address_frame frame_of round_by_lem round_of round_in
address-round a = refl

module _ {a : Parts} (may : Sendable a) where
  pub address_of_bytes : Bytes (address_of a)
  unfolding address_of
  address_of_bytes =
      let o = may.operation in
      address-bytes a.epoch a.name a.file a.operation a.«record» may.epoch may.name may.file (omega arith) may.«record»

  operation-back : operation_of (pb2_of a.file a.operation) ≡ a.operation
  unfolding pb2_of
  operation-back = let o = may.operation in omega arith

  file-back : file_number_of (pb2_of a.file a.operation) ≡ a.file
  unfolding pb2_of
  file-back = let o = may.operation in omega arith

  known : no_operation (operation_of (pb2_of a.file a.operation)) ≡ false
  unfolding no_operation
  known = rw operation-back (le-ltb execute_operation a.operation may.operation)

  named : broadcast_read (operation_of (pb2_of a.file a.operation)) a.name ≡ false
  unfolding broadcast_read
  named = rw operation-back (both_unless _ (λ e. ne_eqb _ _ (may.not_to_all (eqb-true _ _ e))))

  address-check : (c : Cluster) → wrong_check_on c msa (address_of a) ≡ false
  unfolding wrong_check_on wrong_check address_of address_frame address_bytes frame_of
  address-check c = let k = address_check (a.epoch ∷ a.name ∷ pb2_of a.file a.operation ∷ a.«record» ∷ []) in rw (eq-eqb k k refl)

  address-fits : (c : Cluster) → frame_ground c (address_of a) ≡ 0
  unfolding frame_ground
  address-fits c =
      rw (address-round a)
      (fits-none c msa (address_of a)
      (record {
        firework = unfold no_firework in refl;
        size = unfold wrong_length_on wrong_frame_length length_for address_of address_frame address_bytes frame_of in refl;
        check = address-check c;
        operation = unfold no_operation_on address_of address_frame address_bytes frame_of in known;
        broadcast_read = unfold broadcast_read_on address_of address_frame address_bytes frame_of in named;
      }))

  -- what is pending after it
  address-pending : (c : Cluster) → write_pending (frame_on c (address_of a)).after ≡ eqb a.operation write_operation
  unfolding frame_on
  address-pending c =
      rw (address-round a)
      (unfold effect_of address_of address_frame address_bytes frame_of with_address with_pending write_pending both in rw operation-back)

  -- what it says
  parts-back : parts_of (address_of a) ≡ a
  unfolding parts_of address_of address_frame address_bytes frame_of
  parts-back = rw (file-back, operation-back)

-- on an accepted file
module _
    (file : List ℕ) (g : file_ground file ≡ 0) (summary : Summary) (matches : Matches file summary) (buffer : List ℕ)
    (long : slots ≤ length buffer) where
  -- given a summary that matches, or none, it has the round's grounds
  given : (bytes : List ℕ) → round_ground file bytes buffer ≡ 0 → round_keeping_ground file summary bytes buffer ≡ 0
  given bytes none = matched_ground file summary bytes buffer matches ∙ none

  multipartner-accepted : (firework : ℕ) {r : ℕ} → round_of firework ≡ multipartner r → Accepted file (record { summary = summary; bytes = firework ∷ []; buffer = buffer }) (multipartner r)
  multipartner-accepted firework is = record { none = given _ (Sent.round-fits file _ buffer g long (multipartner-fits (decode file) firework is)); opens = unfold round_by_lem in is }

  address-accepted : {a : Parts} → Sendable a → Accepted file (record { summary = summary; bytes = address_of a; buffer = buffer }) msa
  address-accepted {a} may = record { none = given _ (Sent.round-fits file _ buffer g long (address-fits may (decode file))); opens = address-round a }

  data-accepted : {write : Bool} {content : List ℕ} → DataFor write content → write_pending (decode file) ≡ write → Accepted file (record { summary = summary; bytes = content; buffer = buffer }) msd
  data-accepted d e = record { none = given _ (Sent.round-fits file _ buffer g long (data-fits (decode file) d e)); opens = data-round d }

-- ---- rounds that fit

rounds-listed :
    (names : List ℕ) (p : Position) {frames : List (List ℕ)} {rs : List Call} → Rounds frames → SentBy frames rs → (file : List ℕ) → Bytes file → file_ground file ≡ 0 →
    PermittedList names file p rs
rounds-listed names p no_rounds no_frames file b g = no_calls
rounds-listed names p (multipartner_next {firework} byte is rounds) (one_more_lem {buffer = buffer} long sent) file b g =
    let a = multipartner-accepted file g without given_none buffer long firework is in
    let bytes : Bytes (firework ∷ []) = all_next byte all_empty in
    multipartner_round a
    (rounds-listed names p rounds sent (round_on file (firework ∷ []) buffer).2 (round-bytes file _ buffer b bytes)
    (round-becomes file _ buffer b bytes (keeping-round file without _ buffer a.none)).accepted)
rounds-listed names p (master_slave_next {a = a} {content} may ask d rounds) (one_more_lem {buffer = buffer} long (one_more_lem {buffer = buffer'} long' sent)) file b g =
    let first = address-accepted file g without given_none buffer long may in
    let middle : List ℕ = (round_on file (address_of a) buffer).2 in
    let becomes : Becomes middle (frame_on (decode file) (address_of a)).after = round-becomes file _ buffer b (address_of_bytes may) (keeping-round file without _ buffer first.none) in
    let b' : Bytes middle = round-bytes file _ buffer b (address_of_bytes may) in
    let second = data-accepted middle becomes.accepted without given_none buffer' long' d (rw becomes.decoded (address-pending may (decode file))) in
    let asks : MayAsk (parts_of (address_of a)) = rw (parts-back may) ask in
    master_slave_round first asks all_empty second
    (rounds-listed names p rounds sent (round_on middle content buffer').2 (round-bytes middle _ buffer' b' (data-frame-bytes d))
    (round-becomes middle _ buffer' b' (data-frame-bytes d) (keeping-round middle without _ buffer' second.none)).accepted)

-- where calls left no round half done
closed-permitted :
    (names file : List ℕ) (h : Bool) (p : Position) {cs : List Call} → h ≡ false → PermittedList names file p cs → permitted names (on file h) p cs ≡ true
closed-permitted names file h p e l = rw e (list-permitted l)

module _ (file names : List ℕ) (cs : List Call) (from : PermittedFrom file names cs) where
  -- where the calls end
  abbrev s : State
  s = (after_calls names (start_on file) (fresh names) cs).0

  closed : s.halfway ≡ false
  closed = permitted_closed names (start_on file) (fresh names) cs from.may

  file-accepted : file_ground (file_after file names cs) ≡ 0
  file-accepted = (demand_3 file from.file_bytes from.accepted names from.name_bytes from.start cs from.call_bytes from.may).accepted

  file-bytes : Bytes (file_after file names cs)
  file-bytes = bytes_after file from.file_bytes from.accepted names from.name_bytes from.start cs from.call_bytes from.may

  -- what comes after them is judged there
  judged_after : (ds : List Call) → permitted names (start_on file) (fresh names) (cs ++ ds) ≡ permitted names (on (file_after file names cs) false) (run_after file names cs) ds
  judged_after ds =
      permitted-append names (start_on file) (fresh names) cs ds from.may ∙
      ap (λ (h : Bool). permitted names (on (file_after file names cs) h) (run_after file names cs) ds) closed

pub rounds-fit : RoundsFit
rounds-fit file names cs from frames rounds rs sent ds steps =
    fits-between names (start_on file) (fresh names) cs rs from.may
    (closed-permitted names (file_after file names cs) (s file names cs from).halfway (run_after file names cs) (closed file names cs from)
    (rounds-listed names (run_after file names cs) rounds sent (file_after file names cs) (file-bytes file names cs from) (file-accepted file names cs from)))
    steps

round_alone : (firework : ℕ) {r : ℕ} → Byte firework → round_of firework ≡ multipartner r → Rounds ((firework ∷ []) ∷ [])
round_alone firework byte is = multipartner_next byte is no_rounds

pub each-multipartner : EachMultipartner
unfolding round_of round_in
each-multipartner =
    all_next (round_alone 0x78 (omega arith) refl)
    (all_next (round_alone 0xBA (omega arith) refl)
    (all_next (round_alone 0x8B (omega arith) refl)
    (all_next (round_alone 0x64 (omega arith) refl)
    (all_next (round_alone 0xA6 (omega arith) refl)
    (all_next (round_alone 0x97 (omega arith) refl) all_empty)))))

-- ---- frames that do not fit

may-not : {a : Parts} → MayNotAsk a → MayAsk a → ⊥
may-not (other_record f o r) (read e) = omega (arith, o, e)
may-not (other_record f o r) (other_file other) = other f
may-not (other_record f o r) (write_at_name _ _ one _ _) = r one
may-not (other_record f o r) (write_at_all _ _ one _) = r one
may-not (at_unnamed f o n) (read e) = omega (arith, o, e)
may-not (at_unnamed f o n) (other_file other) = other f
may-not (at_unnamed f o n) (write_at_name _ _ _ _ most) = omega (arith, n, most)
may-not (at_unnamed f o n) (write_at_all _ _ _ all) = omega (arith, n, all)
may-not (execute f o) (read e) = omega (arith, o, e)
may-not (execute f o) (other_file other) = other f
may-not (execute f o) (write_at_name _ w _ _ _) = omega (arith, o, w)
may-not (execute f o) (write_at_all _ w _ _) = omega (arith, o, w)

-- a write of 0x08 that may not be asked for, and any operation on it
write_else : {a : Parts} → a.file ≡ configuration → a.operation ≡ write_operation → Byte a.name → (MayAsk a → ⊥) → MayNotAsk a
write_else {a} f o byte never =
    by_case (eqb a.«record» 1)
    (λ one.
    by_case (eqb a.name unnamed)
    (λ at. at_unnamed f o (eqb-true _ _ at))
    (λ named.
    let other = eqb-false a.name unnamed named in
    by_case (eqb a.name broadcast)
    (λ all. absurd (never (write_at_all f o (eqb-true _ _ one) (eqb-true _ _ all))))
    (λ some.
    let least = eqb-false a.name broadcast some in
    absurd (never (write_at_name f o (eqb-true _ _ one) (omega (arith, least)) (omega (arith, byte, other)))))))
    (λ another. other_record f o (eqb-false _ _ another))

operation_else : {a : Parts} → a.file ≡ configuration → Sendable a → (MayAsk a → ⊥) → MayNotAsk a
operation_else {a} f may never =
    by_case (eqb a.operation write_operation)
    (λ w. write_else f (eqb-true _ _ w) may.name never)
    (λ n.
    let most = may.operation in
    let other = eqb-false a.operation write_operation n in
    by_case (eqb a.operation read_operation)
    (λ r. absurd (never (read (eqb-true _ _ r))))
    (λ x. let some = eqb-false a.operation read_operation x in execute f (omega (arith, most, other, some))))

pub may-not-ask_exactly : MayNotAskExactly
may-not-ask_exactly a may = (
  λ barred asks. may-not barred asks,
  λ never.
      by_case (eqb a.file configuration)
      (λ f. operation_else (eqb-true _ _ f) may never)
      (λ n. absurd (never (other_file (eqb-false _ _ n)))),
)

address_barred : {a : Parts} → Sendable a → MayNotAsk a → permitted_address (address_of a) ≡ false
address_barred {a} may barred =
    by_case (permitted_address (address_of a))
    (λ t. absurd (may-not barred (rw (parts-back may) at (may-ask (address_of a) (address_of_bytes may) t))))
    (λ f. f)

-- where a round is half done, no frame but an MSD
no_frame : (round : Round) (bytes : List ℕ) → round ≢ msd → permitted_frame true round bytes ≡ false
unfolding permitted_frame
no_frame (multipartner r) bytes other = refl
no_frame msd bytes other = absurd (other refl)
no_frame msa bytes other = refl
no_frame no_round bytes other = refl

half-done : (names file : List ℕ) (p : Position) {ds : List Call} → NoMsdNext names file p ds → permitted names (on file true) p ds ≡ false
half-done names file p at_the_end = unfold permitted in refl
half-done names file p (refused_next {cs = cs} r n) = refused-front names file true p cs r ∙ half-done names file p n
half-done names file p (step_next {arguments} {cs} g) = step-front names file p true arguments cs g ∙ both_false_left _ refl
half-done names file p (frame_next {arguments} {round = round} {cs} a other) =
    frame-front names file p true cs a ∙ both_false_left _ (no_frame round arguments.bytes other)

pub barred_msa : BarredMsa
barred_msa file names cs from a may barred summary matches buffer long ds =
    judged_after file names cs from (frame (record { summary = summary; bytes = address_of a; buffer = buffer }) ∷ ds)
    ∙ address-front names (file_after file names cs) (run_after file names cs) ds
    (address-accepted (file_after file names cs) (file-accepted file names cs from) summary matches buffer long may)
    ∙ both_false_left _ (address_barred may barred)

pub lone_msa : LoneMsa
lone_msa file names cs from a may summary matches buffer long ds none =
    judged_after file names cs from (frame (record { summary = summary; bytes = address_of a; buffer = buffer }) ∷ ds)
    ∙ address-front names (file_after file names cs) (run_after file names cs) ds
    (address-accepted (file_after file names cs) (file-accepted file names cs from) summary matches buffer long may)
    ∙ both_false_right _ (half-done names _ (run_after file names cs) none)

pub lone_msd : LoneMsd
lone_msd file names cs from content d summary matches buffer long ds =
    judged_after file names cs from (frame (record { summary = summary; bytes = content; buffer = buffer }) ∷ ds)
    ∙ frame-front names (file_after file names cs) (run_after file names cs) false ds
    (data-accepted (file_after file names cs) (file-accepted file names cs from) summary matches buffer long d refl)
    ∙ both_false_left _ (unfold permitted_frame in refl)
