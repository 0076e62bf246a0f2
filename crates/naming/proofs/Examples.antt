-- Small cases of the definitions, computed.
-- Assumes nothing.
use Rattle.std.proofs.Common.{ℕ, zero, suc, ◌≡◌, refl, ap, ◌∙◌, true, false, List, [], ◌∷◌, length, replicate}
use Rattle.file.specs.Rules.Layout.{width_of}
use Rattle.file.specs.Rules.FileGrounds.{is_among, has_repeat, file_ground, file_ground_at, file_grounds_at, wrong_size, wrong_mark, wrong_edition, wrong_length}
use Rattle.file.specs.Rules.FileGrounds.{wrong_header, wrong_pending, broken_layout, walk_file, table_end, walk_slaves, and_then, walk_slave, good_table_entry}
use Rattle.file.specs.Rules.FileGrounds.{walk_directory, good_entry, ends_at, lacks_needed, all_have_needed, has_needed, equal_physical_names, held_names}
use Rattle.file.specs.Rules.Order.{first_of, both, either}
use Rattle.file.specs.Rules.Bytes.{number_of, bytes_of, part, all_zero}
use Rattle.file.specs.Rules.Cluster.{bytes_among, bytes_in, last_record, physical_name, logical_name}
use Rattle.file.specs.Rules.Decode.{decode, decode_at, slaves_at, slave_at, files_at, file_at, file_size, offset_at}
use Rattle.naming.specs.Rules.RunRounds.{sent, at_unnamed}
use Rattle.master_slave.specs.Rules.Slaves.{is_name_record}
use Rattle.cluster.specs.Rules.MasterSlave.{Sent}
use Rattle.naming.specs.Rules.Position.{Position}
use Rattle.naming.specs.Rules.Run.{wrote, at_step, move_on, onward, pass_advance, is_extra, count_raised, advance, round_here, is_needless, is_first}
use Rattle.naming.specs.Rules.Pass.{place_of, ask_or_give, question_of, part_of, give_of}
use Rattle.naming.specs.Rules.Run.{is_repeated, pass_over, onto, pass_round, next_round, round_at, tried}
use Rattle.naming.specs.Rules.RunGrounds.{unfit_position}
use Rattle.cluster.specs.Rules.RoundGrounds.{short_answer}
use Rattle.cluster.specs.Rules.Summary.{without, wrong_summary}
use Rattle.naming.specs.Rules.Account.{names_of, names_in_lem, Account, Call, Call.step as step_by, arguments_ground, account_call, account_after, account_of}
use Rattle.naming.specs.Rules.Account.{one_half_each, search_rounds, compares_in}
use Rattle.naming.specs.Rules.Account.{comparisons_of, comparisons_after, high_again, bit_clear, naming_rounds, pass_on, extra, one_round, pass, free_pass}
use Rattle.naming.specs.Rules.Account.{go_on_lem, pass_done, give, falling, insert, unnamed_among, names_held, end_with}
use Rattle.naming.specs.Claims.Files.{m10_file}
use Rattle.naming.specs.Claims.Cases.{answer_buffer, from, slave, figures}

-- so many rounds of an account
pub rounds : ℕ → Account → Account
rounds zero a = a
rounds (suc n) a = rounds n (one_round a)

m10_length : length m10_file ≡ 96
unfolding m10_file
m10_length = refl

pub m10_accepted : file_ground m10_file ≡ 0
unfolding m10_file file_ground file_ground_at file_grounds_at first_of both either wrong_size wrong_mark wrong_edition wrong_length wrong_header
    wrong_pending all_zero part number_of offset_at broken_layout walk_file table_end walk_slaves and_then walk_slave good_table_entry walk_directory
    good_entry file_size ends_at lacks_needed all_have_needed has_needed last_record width_of decode_at slaves_at slave_at files_at file_at
    equal_physical_names has_repeat is_among physical_name bytes_in bytes_among
m10_accepted = refl

-- steps with a buffer of 64 bytes or more make rounds
abbrev pub step_with : List ℕ → Call
step_with buffer = step_by (record { summary = without; buffer = buffer })

step-round : (buffer : List ℕ) → short_answer buffer ≡ false → (a : Account) → account_call a (step_with buffer) ≡ one_round a
unfolding account_call arguments_ground wrong_summary first_of
step-round buffer long a = rw long

steps-rounds :
    (buffer : List ℕ) → short_answer buffer ≡ false → (n : ℕ) (a : Account) → account_after a (replicate n (step_with buffer)) ≡ rounds n a
unfolding account_after rounds
steps-rounds buffer long zero a = refl
steps-rounds buffer long (suc n) a =
    ap (λ (b : Account). account_after b (replicate n (step_with buffer))) (step-round buffer long a) ∙ steps-rounds buffer long n (one_round a)

m10-rounds :
    figures (rounds 275 (account_of (names_in_lem (decode m10_file)) (from 254 1))) ≡
    record {
      slaves = slave 0x0000000700000010 2 ∷ slave 0x00000007000000A0 1 ∷ [];
      end = 1;
      rounds = 275;
      comparisons = 131;
    }
unfolding m10_file decode width_of decode_at slaves_at slave_at files_at file_at file_size offset_at part number_of names_in_lem names_of physical_name
    logical_name bytes_in bytes_among figures rounds from slave comparisons_of comparisons_after search_rounds one_half_each compares_in high_again
    bit_clear naming_rounds one_round both extra pass_on pass free_pass go_on_lem pass_done give account_of falling insert unnamed_among names_held
    end_with is_among either
m10-rounds = refl

long-buffer : short_answer answer_buffer ≡ false
unfolding short_answer
long-buffer = refl

-- the names and counts of its account after 275 steps: "named 2 compares 131 rounds 275"
pub m10 :
    figures (account_after (account_of (names_in_lem (decode m10_file)) (from 254 1)) (replicate 275 (step_with answer_buffer))) ≡
    record {
      slaves = slave 0x0000000700000010 2 ∷ slave 0x00000007000000A0 1 ∷ [];
      end = 1;
      rounds = 275;
      comparisons = 131;
    }
m10 = ap figures (steps-rounds answer_buffer long-buffer 275 (account_of (names_in_lem (decode m10_file)) (from 254 1))) ∙ m10-rounds

-- names 5 and 7 for slaves of which one holds 5 and one, with physical name 0, is unnamed: "names used up" after 1 + 1 + 136 rounds
small :
    figures (rounds 300 (account_of (slave 9 5 ∷ slave 0 0xFF ∷ []) (5 ∷ 7 ∷ []))) ≡
    record { slaves = slave 9 5 ∷ slave 0 7 ∷ []; end = 2; rounds = 138; comparisons = 65 }
unfolding figures rounds from slave comparisons_of comparisons_after search_rounds one_half_each compares_in high_again bit_clear naming_rounds
    one_round both extra pass_on pass free_pass go_on_lem pass_done give account_of falling insert unnamed_among names_held end_with is_among either
small = refl

-- the rounds that a run over names 5 and 7 sends
at : ℕ → ℕ → Position
at step value = record { end = 0; place = record { index = 1; step = step; value = value }; counts = record { rounds = 9; comparisons = 2 }; halves = record { high = 0; low = 0 } }

sends : ℕ → ℕ → Sent
sends step value = sent (next_round (5 ∷ 7 ∷ []) (at step value))

-- step 0 reads 0x3D record 1 at the name; step 196 writes 00 00 name FF; steps 4 and 195 are the write of record 2 for bit 63 and
-- the execute for bit 0
poll-sends : sends 0 0 ≡ record { name = 7; file = 0x3D; operation = 0; «record» = 1; content = [] }
unfolding sends at sent next_round is_extra pass_round round_here onto pass_over is_needless is_first is_repeated both round_at place_of
poll-sends = refl

name-sends : sends 196 0 ≡ record { name = 0xFF; file = 0x08; operation = 1; «record» = 1; content = 0 ∷ 0 ∷ 7 ∷ 0xFF ∷ [] }
unfolding sends at sent at_unnamed next_round is_extra pass_round round_here onto pass_over is_needless is_first is_repeated both round_at place_of ask_or_give give_of
name-sends = refl

-- steps 197 and 198 write the value to records 2 and 3
high-given : sends 197 0x500000006 ≡ record { name = 0xFF; file = 0x08; operation = 1; «record» = 2; content = 0 ∷ 0 ∷ 0 ∷ 5 ∷ [] }
unfolding sends at sent at_unnamed next_round is_extra pass_round round_here onto pass_over is_needless is_first is_repeated both round_at place_of ask_or_give give_of bytes_of
high-given = refl

low-given : sends 198 0x500000006 ≡ record { name = 0xFF; file = 0x08; operation = 1; «record» = 3; content = 0 ∷ 0 ∷ 0 ∷ 6 ∷ [] }
unfolding sends at sent at_unnamed next_round is_extra pass_round round_here onto pass_over is_needless is_first is_repeated both round_at place_of ask_or_give give_of bytes_of
low-given = refl

bit-sends : sends 4 0 ≡ record { name = 0xFF; file = 0x08; operation = 1; «record» = 2; content = 0x80 ∷ 0 ∷ 0 ∷ 0 ∷ [] }
unfolding sends at sent at_unnamed next_round is_extra pass_round round_here onto pass_over is_needless is_first is_repeated both round_at place_of ask_or_give question_of part_of tried bytes_of
bit-sends = refl

last-bit-sends : sends 195 3 ≡ record { name = 0xFF; file = 0x08; operation = 2; «record» = 2; content = [] }
unfolding sends at sent at_unnamed next_round is_extra pass_round round_here onto pass_over is_needless is_first is_repeated both round_at place_of ask_or_give question_of part_of tried
last-bit-sends = refl

last-low-sends : sends 194 2 ≡ record { name = 0xFF; file = 0x08; operation = 1; «record» = 3; content = 0 ∷ 0 ∷ 0 ∷ 3 ∷ [] }
unfolding sends at sent at_unnamed next_round is_extra pass_round round_here onto pass_over is_needless is_first is_repeated both round_at place_of ask_or_give question_of part_of tried bytes_of
last-low-sends = refl

-- "handed in at a needless write, it moves on to it": step 4 with the high half of bit 63 and the low half stored executes, and silence
-- leaves it at step 7, the write of bit 62's high half
needless : Position
needless = record { end = 0; place = record { index = 1; step = 4; value = 0 }; counts = record { rounds = 9; comparisons = 2 }; halves = record { high = 0x80000000; low = 0 } }

needless-sends : sent (next_round (5 ∷ 7 ∷ []) needless) ≡ record { name = 0xFF; file = 0x08; operation = 2; «record» = 2; content = [] }
unfolding needless sent at_unnamed next_round is_extra pass_round round_here onto pass_over at_step is_needless is_first is_repeated both round_at place_of ask_or_give question_of part_of tried
needless-sends = refl

needless-stands :
    advance (5 ∷ 7 ∷ []) needless false ≡
    record { end = 0; place = record { index = 1; step = 7; value = 0 }; counts = record { rounds = 10; comparisons = 3 }; halves = record { high = 0x80000000; low = 0 } }
unfolding needless advance is_extra pass_advance move_on onward wrote round_here onto pass_over at_step is_needless is_first is_repeated both round_at place_of ask_or_give question_of part_of tried
needless-stands = refl

-- job 9: "one extra read of 0x3D record 1 at its first name, its reply ignored", here in mid-pass for the second name, at a needless write:
-- it "raises that count alone", and the next round is the pass's
no-round : Position
no-round = record { end = 0; place = record { index = 1; step = 4; value = 0 }; counts = record { rounds = 0; comparisons = 2 }; halves = record { high = 0x80000000; low = 0 } }

-- 17 does not hold of it
no_round-fits : unfit_position (5 ∷ 7 ∷ []) no-round ≡ false
unfolding no-round unfit_position both either
no_round-fits = refl

extra-sends : sent (next_round (5 ∷ 7 ∷ []) no-round) ≡ record { name = 5; file = 0x3D; operation = 0; «record» = 1; content = [] }
unfolding no-round sent next_round is_extra
extra-sends = refl

extra-stays :
    (advance (5 ∷ 7 ∷ []) no-round true ≡ advance (5 ∷ 7 ∷ []) no-round false) ×
    (advance (5 ∷ 7 ∷ []) no-round true ≡
    record { end = 0; place = record { index = 1; step = 4; value = 0 }; counts = record { rounds = 1; comparisons = 2 }; halves = record { high = 0x80000000; low = 0 } })
unfolding no-round advance is_extra count_raised
extra-stays = (refl, refl)

after-extra :
    sent (next_round (5 ∷ 7 ∷ []) (advance (5 ∷ 7 ∷ []) no-round true)) ≡
    record { name = 0xFF; file = 0x08; operation = 2; «record» = 2; content = [] }
unfolding no-round advance count_raised sent at_unnamed next_round is_extra pass_round round_here onto pass_over at_step is_needless is_first is_repeated both round_at place_of ask_or_give question_of part_of tried
after-extra = refl

-- which names 22 counts, and which record's last byte a write leaves: 0xFF is left out and 0x00 is not; record 1 of 0x08 and no other file's
held-names : held_names (0x00 ∷ 0xFF ∷ 0x05 ∷ 0x00 ∷ []) ≡ 0x00 ∷ 0x05 ∷ 0x00 ∷ []
unfolding held_names
held-names = refl

name-record : (is_name_record 0x08 1 ≡ true) × (is_name_record 0x08 2 ≡ false) × (is_name_record 0x10 1 ≡ false)
unfolding is_name_record both
name-record = (refl, refl, refl)
