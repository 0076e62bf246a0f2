-- Rounds leave as many slaves, and their files where they were: what the names behind a round are read by.
-- Assumes nothing.
use Rattle.std.proofs.Common.{ℕ, ◌<◌, ◌^◌, arith, ◌≡◌, refl, sym, ap, ◌∙◌, subst, List, eqb, eqb-true}
use borrow.Author.Tests.{eqb-false}
use Rattle.file.specs.Rules.Bytes.{Bytes}
use Rattle.file.specs.Rules.Cluster.{Cluster}
use Rattle.file.specs.Rules.Decode.{decode}
use Rattle.file.specs.Rules.Results.{Result}
use Rattle.file.specs.Inner.Accepted.{Placed, slave_count}
use Rattle.file.proofs.Order.{by_case}
use Rattle.file.proofs.Accepted.{encode-bytes}
use Rattle.file.proofs.Surveyed.{placed-kept, kept-count}
use Rattle.frame.proofs.Written.{address-bytes}
use Rattle.master_slave.specs.Rules.Slaves.{next_epoch}
use Rattle.cluster.specs.Rules.Round.{round_ground, round_on}
use Rattle.cluster.specs.Rules.MasterSlave.{Sent, address_sent, round_sent}
use Rattle.cluster.specs.Inner.Sending.{MaySend}
use Rattle.master_slave.proofs.Kept.{next_epoch-byte}
use Rattle.cluster.proofs.Rounds.{round-refused, round-becomes, round-kept}
use Rattle.cluster.proofs.SentRounds.{data-sent-bytes}
use Rattle.naming.specs.Rules.Position.{Position, running}
use Rattle.naming.specs.Rules.Pass.{bits}
use Rattle.naming.specs.Rules.Step.{StepDone, step_ground, step_on}
use Rattle.naming.proofs.StepLaws.{step-refused, step-ended, step-made}
use Rattle.naming.proofs.StepFrames.{next-sent}

pub record Moved (file places file' : List ℕ) : Type 0 where
  pub placed : Placed file' places
  pub count : slave_count file' ≡ slave_count file

-- one frame, refused or not
pub round-moved : {file places frame : List ℕ} → Placed file places → Bytes frame → (buffer : List ℕ) → Moved file places (round_on file frame buffer).2
round-moved {file} {places} {frame} p b buffer =
    by_case (eqb (round_ground file frame buffer) 0)
    (λ e.
    let fits = eqb-true _ _ e in
    let bytes : Bytes file = rw p.file.encoded (encode-bytes (decode file) p.file.legal) in
    let new = round-becomes file frame buffer bytes b fits in
    let kept = round-kept file frame buffer b fits in
    record { placed = placed-kept p new kept.edition kept.shape; count = kept-count file new kept.shape })
    (λ e. rw (round-refused file frame buffer (eqb-false _ _ e)) (record { placed = p; count = refl }))

-- a complete round
pub address-of : (c : Cluster) {s : Sent} → MaySend s → Bytes (address_sent c s)
unfolding address_sent
address-of c {s} may =
    let o = may.operation in
    address-bytes (next_epoch c.epoch) s.name s.file s.operation s.«record» (next_epoch-byte c.epoch)
    may.name may.file (omega arith) may.«record»

sent-moved : {file places : List ℕ} → Placed file places → {s : Sent} → MaySend s → (buffer : List ℕ) → Moved file places (round_sent file s buffer).2
unfolding round_sent
sent-moved {file} p {s} may buffer =
    let first = round-moved p (address-of (decode file) may) buffer in
    let second = round-moved first.placed (data-sent-bytes (decode file) s may) (round_on file (address_sent (decode file) s) buffer).1 in
    record { placed = second.placed; count = second.count ∙ first.count }

-- a naming step, refused, of an ended run or made
pub step-moved :
    {file places names : List ℕ} (p : Position) (buffer : List ℕ) → Placed file places → Bytes names → p.place.value < 2 ^ bits →
    {answer : Result StepDone} {p' : Position} {buffer' file' : List ℕ} → (answer, p', buffer', file') ≡ step_on file p names buffer →
    Moved file places file'
step-moved {file} {places} {names} p buffer placed n small {file' = file'} is =
    by_case (eqb (step_ground file p names buffer) 0)
    (λ e.
    let none = eqb-true _ _ e in
    by_case (eqb p.end running)
    (λ t.
    let runs = eqb-true _ _ t in
    left (step-made file p names buffer none runs) (sent-moved placed (next-sent file p names buffer n small none runs) buffer))
    (λ f. left (step-ended file p names buffer none (eqb-false _ _ f)) still))
    (λ e. left (step-refused file p names buffer (eqb-false _ _ e)) still)
  where
    still : Moved file places file
    still = record { placed = placed; count = refl }

    left : {r : Result StepDone × Position × List ℕ × List ℕ} → step_on file p names buffer ≡ r → Moved file places r.3 → Moved file places file'
    left {r} comes moved = subst (λ (f : List ℕ). Moved file places f) (sym (ap (λ (s : Result StepDone × Position × List ℕ × List ℕ). s.3) (is ∙ comes))) moved
