-- The marked cases of document 01 ("Marked M are the cases shown together, by one theorem, to follow from the written rules"), M1 to M10,
-- M1 to M5 with the last bytes of request 1. "Of M10 the theorem shows the account's names and counts; its text is tested."
use Rattle.std.specs.Prelude.{ℕ, zero, suc, ◌≡◌, List, [], ◌∷◌, get_or, replicate}
use Rattle.file.specs.Rules.Results.{done}
use Rattle.file.specs.Rules.Decode.{decode}
use Rattle.file.specs.Rules.FileGrounds.{file_ground}
use Rattle.frame.specs.Rules.Fireworks.{data_firework}
use Rattle.frame.specs.Claims.Cases.{FrameCases}
use Rattle.master_slave.specs.Rules.Bus.{slots}
use Rattle.cluster.specs.Rules.Round.{round_on}
use Rattle.cluster.specs.Claims.Cases.{data_round, RoundCases}
use Rattle.cluster.specs.Rules.Summary.{without}
use Rattle.naming.specs.Rules.Account.{Named, Account, step, account_of, account_after, comparisons_of, names_in_lem}
use Rattle.naming.specs.Claims.Files.{m6_file_lem, m7_file_lem, m8_file_lem, m9_file_lem, m10_file}

-- an answer buffer of 64 bytes
abbrev pub answer_buffer : List ℕ
answer_buffer = replicate slots 0

-- n names from a on
unfoldable pub from : ℕ → ℕ → List ℕ
from zero a = []
from (suc n) a = a ∷ from n (suc a)

-- a slave's physical and logical name
unfoldable pub slave : ℕ → ℕ → Named
slave p n = record { physical = p; logical = n }

-- an account's names, end, rounds and comparisons
pub record Figures : Type 0 where
  pub slaves : List Named
  pub end : ℕ
  pub rounds : ℕ
  pub comparisons : ℕ

unfoldable pub figures : Account → Figures
figures a = record { slaves = a.slaves; end = a.end; rounds = a.rounds; comparisons = comparisons_of a }

pub record MarkedCases : Type 0 where
  -- M1 to M5
  pub frames : FrameCases
  -- M6 to M9 on every file that meets their premises, and on one each that does:
  pub rounds : RoundCases
  -- "M6: physical name equal to IDCV replies."
  pub m6_file : (round_on m6_file_lem data_round answer_buffer).0 ≡ done 2
  -- "M7: one less is silent."
  pub m7_file : (round_on m7_file_lem data_round answer_buffer).0 ≡ done 0
  -- "M8: 0xF0 and 0x3C give 0x30."
  pub m8_file : get_or (round_on m8_file_lem data_round answer_buffer).1 1 0 ≡ 0x30
  -- request 1: each sender folds 0x49 into its own check, and slot 5 holds the and of these
  pub m8_checks : get_or (round_on m8_file_lem data_round answer_buffer).1 5 0 ≡ 0x31
  -- "M9: a read at 0xFF is silent."
  pub m9_file : ((round_on m9_file_lem data_round answer_buffer).0 ≡ done 0) × ((round_on m9_file_lem data_round answer_buffer).1 ≡ data_firework ∷ replicate 63 0xFF)
  -- M10: "the 96-byte file" is accepted, and the account's names and counts over "names 0x01 to 0xFE" after 275 steps (request 6: "The last
  -- line of M10 is worked out again."; request 9: "the run is one round longer, and the account and the last line of M10 say so")
  pub m10_accepted : file_ground m10_file ≡ 0
  pub m10 :
      figures (account_after (account_of (names_in_lem (decode m10_file)) (from 254 1)) (replicate 275 (step (record { summary = without; buffer = answer_buffer })))) ≡
      record {
        slaves = slave 0x0000000700000010 2 ∷ slave 0x00000007000000A0 1 ∷ [];
        end = 1;
        rounds = 275;
        comparisons = 131;
      }
