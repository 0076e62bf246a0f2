-- Entries of four bytes each, worked out.
-- Assumes nothing.
use mathlib.Core.Path.{◌≡◌, refl}
use Prim.Native.Nat.{ℕ}
use mathlib.Core.List.{List, [], ◌∷◌, map}
use mathlib.Core.Bool.{Bool, true, false}
use Rattle.file.specs.Rules.Order.{either}
use Rattle.file.specs.Rules.Cluster.{Cluster}
use Rattle.file.specs.Rules.Changes.{with_epoch}
use Rattle.master_slave.specs.Rules.Slaves.{next_epoch, epoch_raised}
use Rattle.multipartner.specs.Rules.Multipartner.{passed_over_lem}
use Rattle.multipartner.specs.Rules.Entries.{entry_of, in_turn, out_of_turn}
use Rattle.multipartner.specs.Inner.EntryForm.{multiplex_in, evaluated}

-- the places of an entry's fields: file 0x10, align 2, record 3, operation 1 (send), length 4, multiplex 0, start slot 5
first_entry : entry_of 0x42 0x03 0x13 0x05 ≡ record { file = 0x10; align = 2; «record» = 3; operation = 1; length = 4; multiplex = 0; start = 5 }
unfolding entry_of
first_entry = refl

-- a plain operation does not evaluate its multiplex field, a multiplexed one does
plain_entry : evaluated (entry_of 0x42 0x03 0x13 0xC5) ≡ entry_of 0x42 0x03 0x13 0x05
unfolding evaluated entry_of multiplex_in
plain_entry = refl

multiplexed_entry : evaluated (entry_of 0x42 0x03 0x93 0xC5) ≡ entry_of 0x42 0x03 0x93 0xC5
unfolding evaluated entry_of multiplex_in
multiplexed_entry = refl

-- in the rounds of epochs 0 to 7, 9, 13 and 255: field 1 of operation 9, of 11 and of 15, and operation 5, which is not multiplexed
turns : ℕ → List Bool
turns operation = map (λ (epoch : ℕ). in_turn epoch operation 1) (0 ∷ 1 ∷ 2 ∷ 3 ∷ 4 ∷ 5 ∷ 6 ∷ 7 ∷ 9 ∷ 13 ∷ 255 ∷ [])

turns_of_4 : turns 9 ≡ false ∷ true ∷ false ∷ false ∷ false ∷ true ∷ false ∷ false ∷ true ∷ true ∷ false ∷ []
unfolding turns in_turn either
turns_of_4 = refl

turns_of_8 : turns 11 ≡ false ∷ true ∷ false ∷ false ∷ false ∷ false ∷ false ∷ false ∷ true ∷ false ∷ false ∷ []
unfolding turns in_turn either
turns_of_8 = refl

high-turns : turns 15 ≡ false ∷ false ∷ false ∷ false ∷ false ∷ true ∷ false ∷ false ∷ false ∷ true ∷ false ∷ []
unfolding turns in_turn either
high-turns = refl

plain_turns : turns 5 ≡ true ∷ true ∷ true ∷ true ∷ true ∷ true ∷ true ∷ true ∷ true ∷ true ∷ true ∷ []
unfolding turns in_turn either
plain_turns = refl

-- the other multiplexed operations: 8, 12 and 13 as 9, 10 as 11, 14 as 15
like_9 : (turns 8 ≡ turns 9) × (turns 12 ≡ turns 9) × (turns 13 ≡ turns 9)
unfolding turns in_turn either
like_9 = (refl, refl, refl)

like_11 : (turns 10 ≡ turns 11) × (turns 14 ≡ turns 15)
unfolding turns in_turn either
like_11 = (refl, refl)

-- by "the epoch already raised for this round", 255 going to 0: in epoch 255 field 0 of operation 9 is in turn and field 3 is not
last_epoch : Cluster
last_epoch = record { edition = 1; epoch = 255; flag = 0; pending_name = 0; pending_pb2 = 0; pending_pb3 = 0; slaves = [] }

by_raised : (passed_over_lem last_epoch (entry_of 0x40 0x01 0x90 0x01) ≡ false) × (passed_over_lem last_epoch (entry_of 0x40 0x01 0x90 0xC1) ≡ true)
unfolding last_epoch passed_over_lem epoch_raised with_epoch next_epoch out_of_turn in_turn entry_of either
by_raised = (refl, refl)

-- "255 going to 0"
last_raised : next_epoch 255 ≡ 0
unfolding next_epoch
last_raised = refl
