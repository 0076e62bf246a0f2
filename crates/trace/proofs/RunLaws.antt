-- The loop along the frames of a trace: what one frame does, what the loop keeps, and one law for each way.
-- Assumes nothing.
use Rattle.std.proofs.Common.{ℕ, zero, suc, ◌+◌, ◌*◌, ◌-◌, ◌≤◌, ◌<◌, arith, ◌≡◌, refl, sym, ap, ap₂, ◌∙◌, subst, List, ◌∷◌, Bool, true, false, cond, length, get_or, replicate, eqb, eqb-true, Fits, w8}
use lib.ListN.{length-replicate}
use Rattle.file.specs.Rules.Bytes.{part}
use Rattle.file.specs.Inner.Numbers.{ByteAt, NumberAt}
use Rattle.file.specs.Rules.Decode.{decode}
use Rattle.file.specs.Rules.Cluster.{Cluster}
use Rattle.file.specs.Inner.Accepted.{Becomes, Placed}
use Rattle.file.proofs.Order.{by_case, clash}
use Rattle.file.proofs.SurveyLaws.{bytes-known}
use Rattle.file.proofs.NumberLaws.{byte-number}
use Rattle.master_slave.specs.Rules.Bus.{slots}
use Rattle.cluster.specs.Rules.RoundGrounds.{round_by_lem}
use Rattle.cluster.specs.Rules.Round.{Answer}
use Rattle.cluster.specs.Inner.EachGround.{frame_ground}
use Rattle.cluster.specs.Inner.Exchanged.{answer_to, left_by_lem, heard_in, Exchanged}
use Rattle.cluster.specs.Inner.Unheard.{MaySleep, LeftUnheard}
use Rattle.cluster.proofs.RoundCall.{exchanged-round}
use Rattle.cluster.proofs.FrameCall.{left-placed}
use Rattle.frame.specs.Rules.Fireworks.{Round}
use Rattle.frame.specs.Inner.FrameAnswers.{firework_round}
use Rattle.frame.specs.declared.firework.Firework.{Firework}
use Rattle.trace.specs.Rules.Layout.{header_size, row_size}
use Rattle.trace.specs.Rules.Trace.{frame_count, data_length, length_in, data_place_lem, whole_rows, broken_trace, frames_from, frames_of}
use Rattle.trace.specs.Rules.TraceRun.{sent, after_frames, Report, no_frames, sum_of, one_refused, one_carried, counted, report_from}
use Rattle.trace.specs.Inner.Sent.{FewFrames, FrameSent, TraceSent}
use Rattle.trace.proofs.Facts.{row_here, row_rest, rows_end, TraceFacts, trace_facts}
use Rattle.trace.proofs.Runs.{counted-sum}
use Rattle.std.specs.Prelude.{Option}

-- ---- one frame

-- it is counted by its answer
counted-answer : (c : Cluster) (frame : List ℕ) (round : Round) (r : Report) → cond (eqb (frame_ground c frame) 0) (one_carried round r) (one_refused r) ≡ counted (answer_to c frame) round r
unfolding answer_to counted
counted-answer c frame round r = by_case (eqb (frame_ground c frame) 0) (λ e. rw e) (λ e. rw e)

-- what it leaves is what it leaves where a buffer of 64 bytes is lent
pub frame-sent :
    {file places frame file' : List ℕ} (w : Option Firework) {carried sleepers : Bool} {r r' : Report}
    → Placed file places
    → ((k : ℕ) → Fits w8 (get_or frame k 0))
    → firework_round w ≡ round_by_lem frame
    → LeftUnheard (decode file) frame carried sleepers file'
    → r' ≡ cond carried (one_carried (firework_round w) r) (one_refused r)
    → FrameSent file places frame r r' file'
unfolding sent
frame-sent {file} {places} {frame} {file'} w {r = r} {r'} p fit opens left is =
    let c : Cluster = decode file in
    let buffer : List ℕ = replicate slots 0 in
    let becomes : Becomes file' (left_by_lem c frame) = left.left.becomes in
    let exchanged : Exchanged c frame buffer (heard_in c frame buffer) (answer_to c frame) file' = record { answers = refl; buffer = refl; becomes = becomes } in
    let all = exchanged-round file frame p.file (omega (arith, length-replicate {A = ℕ} slots 0)) exchanged in
    let count : r' ≡ counted (answer_to c frame) (round_by_lem frame) r = (is ∙ rw (left.fits, opens)) ∙ counted-answer c frame (round_by_lem frame) r in
    record {
      report = count ∙ ap (λ (z : Answer × List ℕ × List ℕ). counted z.0 (round_by_lem frame) r) all;
      after = ap (λ (z : Answer × List ℕ × List ℕ). z.2) all;
      placed = left-placed p (bytes-known frame (λ k. omega (arith, fit k))) becomes;
    }

-- and whether someone may be asleep in the file; before the first frame anyone may
pub frame_sleepers : {c : Cluster} {frame file' : List ℕ} {carried sleepers : Bool} → LeftUnheard c frame carried sleepers file' → MaySleep sleepers (decode file')
frame_sleepers {sleepers = sleepers} left = subst (MaySleep sleepers) (sym left.left.becomes.decoded) left.left.awake

pub anyone-may : (c : Cluster) → MaySleep true c
anyone-may c none = clash refl none

-- ---- the frames that are left

-- rows that fill the data from a place on state no byte after it
rows-within : (t : List ℕ) (row place n : ℕ) → whole_rows t row place n ≡ true → place ≤ data_length t
rows-within t row place zero e = omega (arith, eqb-true place (data_length t) (sym (rows_end t row place) ∙ e))
rows-within t row place (suc n) e = omega (arith, rows-within t (row + row_size) (place + length_in t row) n (row_rest t row place n e))

-- the first of them, and the others
frames-step :
    (t : List ℕ) (row place n : ℕ)
    → whole_rows t row place (suc n) ≡ true
    → frames_from t row (suc n) ≡ part t (data_place_lem t + place) (length_in t row) ∷ frames_from t (row + row_size) n
unfolding frames_from
frames-step t row place n e = rw (row_here t row place n e)

-- what the loop keeps: the frames that are left, counted into this report on this file, give the report and the file of all frames on
-- the first file
pub record Running (file t places : List ℕ) (rows_end_lem row start : ℕ) (r : Report) (now : List ℕ) : Type 0 where
  pub facts : TraceFacts t
  pub ends : rows_end_lem ≡ data_place_lem t
  pub placed : Placed now places
  pub place : ℕ
  pub begins : start ≡ data_place_lem t + place
  pub left : ℕ
  pub at : row + row_size * left ≡ data_place_lem t
  pub whole : whole_rows t row place left ≡ true
  pub counts : sum_of r + left ≡ frame_count t
  pub report : report_from r now (frames_from t row left) ≡ report_from no_frames file (frames_of t)
  pub after : after_frames now (frames_from t row left) ≡ after_frames file (frames_of t)

pub running-start :
    {file t places : List ℕ} {count : ℕ} → broken_trace t ≡ false → Placed file places → NumberAt t 0 2 count →
    Running file t places (header_size + row_size * count) header_size (header_size + row_size * count) no_frames file
unfolding data_place_lem frames_of frame_count
running-start {t = t} e p n =
    let f = trace_facts t e in
    record {
      facts = f;
      ends = omega (arith, n.is);
      placed = p;
      place = 0;
      begins = omega (arith, n.is);
      left = frame_count t;
      at = refl;
      whole = f.rows;
      counts = omega arith;
      report = refl;
      after = refl;
    }

module _ {file t places : List ℕ} {rows_end_lem row start : ℕ} {r : Report} {now : List ℕ} (h : Running file t places rows_end_lem row start r now) where
  -- a row is left
  record RowLeft : Type 0 where
    fewer : ℕ
    one : h.left ≡ suc fewer
    good : whole_rows t row h.place (suc fewer) ≡ true

  row_left : row < rows_end_lem → RowLeft
  row_left more = go h.left refl
    where
      go : (k : ℕ) → h.left ≡ k → RowLeft
      go zero e = absurd (omega (arith, h.at, h.ends))
      go (suc n) e = record { fewer = n; one = e; good = rw e at h.whole }

  -- it stands in the trace, and its frame too
  pub row_within : row < rows_end_lem → row + row_size ≤ length t
  row_within more = omega (arith, (row_left more).one, h.at, h.facts.long)

  stated-length : {size : ℕ} → row < rows_end_lem → ByteAt t (row + 2) size → size ≡ length_in t row
  unfolding length_in
  stated-length more s = (byte-number (omega (arith, row_within more)) s).is

  pub frame-within : {size : ℕ} → row < rows_end_lem → ByteAt t (row + 2) size → start + size ≤ length t
  frame-within more s =
      let l = row_left more in
      let within = rows-within t (row + row_size) (h.place + length_in t row) l.fewer (row_rest t row h.place l.fewer l.good) in
      omega (arith, within, stated-length more s, h.begins, h.facts.long)

  -- there are no more frames than 2 bytes can count
  pub few-frames : row < rows_end_lem → FewFrames r
  unfolding data_place_lem
  few-frames more = omega (arith, (row_left more).one, h.counts, h.facts.long, h.facts.high)

  pub running-next :
      {size : ℕ} {r' : Report} {now' : List ℕ}
      → row < rows_end_lem
      → ByteAt t (row + 2) size
      → FrameSent now places (part t start (start + size - start)) r r' now'
      → Running file t places rows_end_lem (row + row_size) (start + size) r' now'
  unfolding report_from after_frames
  running-next {size} {r'} {now'} more s sent' =
      let whole : start + size - start ≡ size = omega arith in
      let f : FrameSent now places (part t start size) r r' now' = rw whole at sent' in
      let l = row_left more in
      let n = l.fewer in
      let stated = stated-length more s in
      let x : List ℕ = part t start size in
      let frames : frames_from t row h.left ≡ x ∷ frames_from t (row + row_size) n =
      ap (frames_from t row) l.one ∙ frames-step t row h.place n l.good
      ∙ ap₂ (λ (p m : ℕ). part t p m ∷ frames_from t (row + row_size) n) (sym h.begins) (sym stated)
      in
      record {
        facts = h.facts;
        ends = h.ends;
        placed = f.placed;
        place = h.place + size;
        begins = omega (arith, h.begins);
        left = n;
        at = omega (arith, h.at, l.one);
        whole = rw stated (row_rest t row h.place n l.good);
        counts = omega (arith, h.counts, l.one, ap sum_of f.report, counted-sum (sent now x).0 (round_by_lem x) r);
        report = rw (f.report, f.after) (rw frames at h.report);
        after = rw f.after (rw frames at h.after);
      }

  pub running-done : rows_end_lem ≤ row → TraceSent file t r now
  unfolding report_from after_frames frames_from
  running-done none =
      let z : h.left ≡ 0 = omega (arith, h.at, h.ends) in
      record { report = rw z at h.report; after = rw z at h.after }
