-- The cases M6 to M9 of document 01, "What slaves do": on every file on which a data frame without data is accepted, with the operation
-- pending that the case names; M6 and M7 on such a file of one slave, M8 of two, M9 of any number.
use Rattle.std.specs.Prelude.{ℕ, ◌+◌, ◌≡◌, List, [], ◌∷◌, true, get_or}
use Rattle.file.specs.Rules.Results.{done}
use Rattle.file.specs.Rules.Cluster.{Slave, record_of, physical_name, comparison_value, unnamed}
use Rattle.file.specs.Rules.Decode.{decode}
use Rattle.frame.specs.Rules.Check.{check_of}
use Rattle.frame.specs.Rules.Fireworks.{data_firework}
use Rattle.master_slave.specs.Rules.Bus.{bus_byte, answer_bytes, answer_in, nobody}
use Rattle.master_slave.specs.Rules.Slaves.{is_unnamed, reading, comparing, pending_duty, answers_read}
use Rattle.cluster.specs.Rules.Round.{round_ground, round_on}

-- the data frame with no write pending: the firework alone
abbrev pub data_round : List ℕ
data_round = data_firework ∷ []

pub record RoundCases : Type 0 where
  -- "M6: physical name equal to IDCV replies.", awake
  pub m6 :
      (file buffer : List ℕ) → round_ground file data_round buffer ≡ 0 → pending_duty (decode file) ≡ comparing unnamed → (s : Slave) →
      (decode file).slaves ≡ s ∷ [] → s.asleep ≡ 0 → is_unnamed s ≡ true → physical_name s ≡ comparison_value s →
      (round_on file data_round buffer).0 ≡ done 2
  -- "M7: one less is silent."
  pub m7 :
      (file buffer : List ℕ) → round_ground file data_round buffer ≡ 0 → pending_duty (decode file) ≡ comparing unnamed → (s : Slave) →
      (decode file).slaves ≡ s ∷ [] → is_unnamed s ≡ true → physical_name s + 1 ≡ comparison_value s → (round_on file data_round buffer).0 ≡ done 0
  -- "M8: 0xF0 and 0x3C give 0x30."
  pub m8 :
      (file buffer : List ℕ) → round_ground file data_round buffer ≡ 0 → (name n r : ℕ) → pending_duty (decode file) ≡ reading name n r →
      (s t : Slave) → (decode file).slaves ≡ s ∷ t ∷ [] → answers_read name n r s ≡ true → answers_read name n r t ≡ true →
      {bs cs : List ℕ} → record_of s n r ≡ 0xF0 ∷ bs → record_of t n r ≡ 0x3C ∷ cs → get_or (round_on file data_round buffer).1 1 0 ≡ 0x30
  -- request 1, "0x49 for a read reply": each of two senders folds it into its own check, and slot 5 holds the and of these
  pub checks :
      (file buffer : List ℕ) → round_ground file data_round buffer ≡ 0 → (name n r : ℕ) → pending_duty (decode file) ≡ reading name n r →
      (s t : Slave) → (decode file).slaves ≡ s ∷ t ∷ [] → answers_read name n r s ≡ true → answers_read name n r t ≡ true →
      {a b c d e f g h : ℕ} → record_of s n r ≡ a ∷ b ∷ c ∷ d ∷ [] → record_of t n r ≡ e ∷ f ∷ g ∷ h ∷ [] →
      get_or (round_on file data_round buffer).1 5 0 ≡ bus_byte (check_of 0x49 (a ∷ b ∷ c ∷ d ∷ []) ∷ check_of 0x49 (e ∷ f ∷ g ∷ h ∷ []) ∷ [])
  -- "M9: a read at 0xFF is silent."
  pub m9 :
      (file buffer : List ℕ) → round_ground file data_round buffer ≡ 0 → (n r : ℕ) → pending_duty (decode file) ≡ reading unnamed n r →
      ((round_on file data_round buffer).0 ≡ done 0) × ((round_on file data_round buffer).1 ≡ answer_in buffer (answer_bytes data_firework nobody))
