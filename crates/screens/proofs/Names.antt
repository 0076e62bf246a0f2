-- A turn renames nobody: its address frame is no MSD, and what its data frame carries out is a read.
-- Assumes nothing.
use Rattle.std.proofs.Common.{ℕ, ◌*◌, ◌≡◌, refl, ap, ◌∙◌, List, Bool, true, false, arith, eqb, eqb-true}
use borrow.Author.Tests.{eqb-false}
use Rattle.file.specs.Rules.Bytes.{Bytes}
use Rattle.file.specs.Rules.Results.{Result}
use Rattle.file.specs.Rules.Cluster.{Cluster, pb2_of}
use Rattle.file.specs.Rules.Changes.{with_pending}
use Rattle.file.specs.Rules.Decode.{decode}
use Rattle.file.proofs.Order.{by_case, clash}
use Rattle.frame.specs.Rules.Fireworks.{Round, multipartner, msd, msa, no_round, round_of, round_in}
use Rattle.frame.specs.Rules.Frames.{frame_of, address_bytes, address_frame}
use Rattle.master_slave.specs.Rules.Slaves.{with_address}
use Rattle.cluster.specs.Rules.RoundGrounds.{round_by_lem}
use Rattle.cluster.specs.Rules.Round.{effect_of, frame_on, round_ground, round_on}
use Rattle.cluster.specs.Rules.MasterSlave.{address_sent, data_sent, round_sent}
use Rattle.cluster.specs.Inner.Sending.{MaySend}
use Rattle.cluster.specs.Claims.Renaming.{names_of}
use Rattle.cluster.proofs.Rounds.{round-becomes, round-bytes}
use Rattle.cluster.proofs.Renaming.{only-baptizing_renames}
use Rattle.cluster.proofs.SummaryLaws.{right_matches, matches_right}
use Rattle.cluster.proofs.SentRounds as rounds
use Rattle.screens.specs.Rules.Screens.{Read, read_of, Due, nobody, screen, due}
use Rattle.screens.specs.Rules.Turn.{Turn, read_sent, turn_ground, turn_on}
use Rattle.screens.specs.Claims.Turns.{TurnRenamesNobody, TurnKeepsSummary}
use Rattle.screens.proofs.ScreenGrounds.{turn_free, turn-refused}
use Rattle.screens.proofs.Turns.{may-send-bytes, turn_idles, turn-serves, turn-address}

-- ---- the read's two frames

is_msd : Round → Bool
is_msd (multipartner r) = false
is_msd msd = true
is_msd msa = false
is_msd no_round = false

module _ (file buffer : List ℕ) (r : Read) (fb : Bytes file) (may : MaySend (read_sent r))
    (taken : round_ground file (address_sent (decode file) (read_sent r)) buffer ≡ 0) where
  address : List ℕ
  address = address_sent (decode file) (read_sent r)

  address-bytes : Bytes address
  unfolding address
  address-bytes = rounds.address-sent-bytes (decode file) (read_sent r) may

  no-msd : round_by_lem address ≡ msd → ⊥
  unfolding address address_sent address_frame frame_of round_by_lem round_of round_in is_msd
  no-msd e = clash (ap is_msd e) refl

  address_renames_nobody : names_of (round_on file address buffer).2 ≡ names_of file
  address_renames_nobody = only-baptizing_renames file address buffer fb address-bytes (λ name b. no-msd b.is_msd)

  asked-read : (frame_on (decode file) address).after.pending_pb2 ≡ 4 * r.file
  unfolding address address_sent address_frame address_bytes frame_of round_by_lem round_of round_in frame_on effect_of with_address with_pending read_sent pb2_of
  asked-read = omega arith

  pending-read : (decode (round_on file address buffer).2).pending_pb2 ≡ 4 * r.file
  pending-read =
      ap (λ (c : Cluster). c.pending_pb2) (round-becomes file address buffer fb address-bytes (unfold address in taken)).decoded
      ∙ asked-read

  read_renames_nobody : names_of (round_sent file (read_sent r) buffer).2 ≡ names_of file
  unfolding round_sent address
  read_renames_nobody =
      only-baptizing_renames (round_on file address buffer).2 (data_sent (read_sent r)) (round_on file address buffer).1
      (round-bytes file address buffer fb address-bytes) (rounds.data-sent-bytes (decode file) (read_sent r) may)
      (λ name b. unfold pb2_of in omega (arith, pending-read, b.pending.is_pb2))
      ∙ address_renames_nobody

-- ---- a turn

pub turn_renames_nobody : TurnRenamesNobody
turn_renames_nobody state file buffer sb fb =
    by_case (eqb (turn_ground state file buffer) 0)
    (λ z. by_due (eqb-true _ _ z) (due state) refl)
    (λ z. rw (turn-refused state file buffer (eqb-false _ _ z)))
  where
    by_due : turn_ground state file buffer ≡ 0 → (d : Due) → due state ≡ d → names_of (turn_on state file buffer).3 ≡ names_of file
    by_due none nobody is =
        ap (λ (p : Result Turn × List ℕ × List ℕ × List ℕ). names_of p.3) (turn_idles state file buffer none is)
    by_due none (screen i) is =
        let may = may-send-bytes state i sb is (turn_free state file buffer none).state in
        ap (λ (p : Result Turn × List ℕ × List ℕ × List ℕ). names_of p.3) (turn-serves state file buffer none i is)
        ∙ read_renames_nobody file buffer (read_of state i) fb may (turn-address state file buffer none i is may fb)

pub turn_keeps_summary : TurnKeepsSummary
turn_keeps_summary state file buffer summary sb fb m =
    right_matches (turn_on state file buffer).3 summary (rw (turn_renames_nobody state file buffer sb fb) (matches_right file m))
