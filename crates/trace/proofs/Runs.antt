-- What running frames keeps, whatever they are: the sum of the report, the file's acceptance and length. That any two buffers of
-- 64 bytes or more give the same answer and file, and that what is carried out has a firework.
-- Assumes nothing.
use Rattle.std.proofs.Common.{ℕ, zero, suc, ◌+◌, ◌≤◌, arith, ◌≡◌, refl, sym, ap, ◌∙◌, ◌≢◌, List, [], ◌∷◌, false, length, replicate, eqb, le-ltb, eqb-true}
use lib.ListN.{length-replicate}
use borrow.Author.Tests.{eqb-false}
use Rattle.file.specs.Rules.Bytes.{All, Bytes}
use Rattle.file.specs.Rules.Order.{first_of}
use Rattle.file.specs.Rules.Results.{Result, refused, done}
use Rattle.file.specs.Rules.Cluster.{Cluster}
use Rattle.file.specs.Rules.Decode.{decode}
use Rattle.file.specs.Rules.FileGrounds.{file_ground}
use Rattle.file.proofs.Order.{by_case, clash}
use Rattle.file.proofs.Bytes.{bytes-part}
use Rattle.master_slave.specs.Rules.Bus.{slots}
use Rattle.cluster.specs.Rules.RoundGrounds.{short_answer, round_by_lem, grounds_on}
use Rattle.cluster.specs.Inner.EachGround.{no_firework, frame_ground}
use Rattle.cluster.specs.Rules.Round.{Answer, round_ground, round_on}
use Rattle.cluster.proofs.Rounds.{fits_facts, round_facts, round-refused, round-accepted, round-becomes, round-bytes, round-length}
use Rattle.frame.specs.Rules.Fireworks.{Round, no_round}
use Rattle.trace.specs.Rules.Layout.{row_size}
use Rattle.trace.specs.Rules.Trace.{data_place_lem, offset_in, length_in, frames_from}
use Rattle.trace.specs.Rules.TraceRun.{sent, after_frames, Report, sum_of, one_refused, one_carried, counted, report_from}
use Rattle.trace.specs.Claims.TraceRun.{CarriedHasRound, FileKept}

-- ---- the sum

refused-sum : (r : Report) → sum_of (one_refused r) ≡ suc (sum_of r)
unfolding one_refused
refused-sum r = omega arith

carried_sum : (round : Round) (r : Report) → sum_of (one_carried round r) ≡ suc (sum_of r)
unfolding one_carried
carried_sum (Round.multipartner n) r = omega arith
carried_sum Round.msd r = omega arith
carried_sum Round.msa r = omega arith
carried_sum Round.no_round r = refused-sum r

pub counted-sum : (a : Answer) (round : Round) (r : Report) → sum_of (counted a round r) ≡ suc (sum_of r)
unfolding counted
counted-sum (Result.refused n) round r = refused-sum r
counted-sum (Result.done mask) round r = carried_sum round r

pub report-sum : (r : Report) (file : List ℕ) (xs : List (List ℕ)) → sum_of (report_from r file xs) ≡ sum_of r + length xs
unfolding report_from
report-sum r file [] = omega arith
report-sum r file (x ∷ xs) =
    let more = counted-sum (sent file x).0 (round_by_lem x) r in
    report-sum (counted (sent file x).0 (round_by_lem x) r) (sent file x).2 xs ∙ omega (arith, more)

-- ---- the buffer

-- equal but for the buffer
pub record SameButBuffer (x y : Answer × List ℕ × List ℕ) : Type 0 where
  pub answer : x.0 ≡ y.0
  pub file : x.2 ≡ y.2

-- with any two buffers of 64 bytes or more a frame has the same answer and leaves the same file
module _ (file frame b b' : List ℕ) (long : slots ≤ length b) (long' : slots ≤ length b') where
  same_ground : round_ground file frame b ≡ round_ground file frame b'
  unfolding round_ground short_answer
  same_ground = rw (le-ltb (length b) slots long, le-ltb (length b') slots long')

  pub any_buffer : SameButBuffer (round_on file frame b) (round_on file frame b')
  any_buffer =
      by_case (eqb (round_ground file frame b) 0)
      (λ e.
      let fits = eqb-true _ _ e in
      let left = round-accepted file frame b fits in
      let right = round-accepted file frame b' (sym same_ground ∙ fits) in
      record { answer = rw (left, right); file = rw (left, right) })
      (λ e.
      let some = eqb-false _ _ e in
      let left = round-refused file frame b some in
      let right = round-refused file frame b' (λ z. some (same_ground ∙ z)) in
      record { answer = rw (left, right, same_ground); file = rw (left, right) })

-- so with one of them it is sent
pub sent_any : (file frame b : List ℕ) → slots ≤ length b → SameButBuffer (round_on file frame b) (sent file frame)
unfolding sent
sent_any file frame b long = any_buffer file frame b (replicate slots 0) long (omega (arith, length-replicate {A = ℕ} slots 0))

-- ---- what is carried out has a firework

pub none-fits : (c : Cluster) (round : Round) (frame : List ℕ) → first_of (grounds_on c round frame) ≡ 0 → round ≢ no_round
unfolding no_firework
none-fits c round frame fits e =
    let lacking : no_firework no_round ≡ false = rw e at (fits_facts c round frame fits).firework in
    clash refl lacking

pub carried_has-round : CarriedHasRound
unfolding sent frame_ground
carried_has-round file frame mask e none =
    let buffer : List ℕ = replicate slots 0 in
    by_case (eqb (round_ground file frame buffer) 0)
    (λ z. none-fits (decode file) (round_by_lem frame) frame (round_facts file frame buffer (eqb-true _ _ z)).fits none)
    (λ z.
    let not_carried : refused (round_ground file frame buffer) ≡ done mask =
    sym (ap (λ (r : Answer × List ℕ × List ℕ). r.0) (round-refused file frame buffer (eqb-false _ _ z))) ∙ e in
    let bad : ◌≡◌ {A = ℕ} 0 1 = cc in
    omega arith)

-- ---- the file

-- the frames of a trace are bytes
pub frames-bytes : {t : List ℕ} → Bytes t → (row n : ℕ) → All Bytes (frames_from t row n)
unfolding frames_from
frames-bytes b row zero = All.all_empty
frames-bytes {t} b row (suc n) = All.all_next (bytes-part b (data_place_lem t + offset_in t row) (length_in t row)) (frames-bytes b (row + row_size) n)

pub record SentKept (file after : List ℕ) : Type 0 where
  pub bytes : Bytes after
  pub accepted : file_ground after ≡ 0
  pub length : length after ≡ length file

pub sent-kept : (file frame : List ℕ) → Bytes file → file_ground file ≡ 0 → Bytes frame → SentKept file (sent file frame).2
unfolding sent
sent-kept file frame b g fb =
    let buffer : List ℕ = replicate slots 0 in
    by_case (eqb (round_ground file frame buffer) 0)
    (λ e.
    let fits = eqb-true _ _ e in
    let new = round-becomes file frame buffer b fb fits in
    record {
      bytes = round-bytes file frame buffer b fb;
      accepted = new.accepted;
      length = round-length file frame buffer b fb fits;
    })
    (λ e. rw (round-refused file frame buffer (eqb-false _ _ e)) (record { bytes = b; accepted = g; length = refl }))

pub frames_keep : (file : List ℕ) (xs : List (List ℕ)) → Bytes file → file_ground file ≡ 0 → All Bytes xs → FileKept file (after_frames file xs)
unfolding after_frames
frames_keep file [] b g fs = record { accepted = g; length = refl }
frames_keep file (x ∷ xs) b g (All.all_next f fs) =
    let k = sent-kept file x b g f in
    let rest = frames_keep (sent file x).2 xs k.bytes k.accepted fs in
    record { accepted = rest.accepted; length = rest.length ∙ k.length }
