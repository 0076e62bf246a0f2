-- A round file's entries (document 01, "Multipartner rounds"; document 02, job 7, of the multiplexed ones). A round file is the round
-- descriptor list of 002.
use Rattle.std.specs.Prelude.{ℕ, zero, suc, ◌+◌, ◌*◌, ◌-◌, ◌/◌, ◌%◌, List, Bool, true, cond, not, get_or, eqb, leb, ltb}
use Rattle.file.specs.Rules.Order.{both, either}
use Rattle.file.specs.Rules.Layout.{record_size}
use Rattle.file.specs.Rules.Cluster.{last_record}

-- "From record 1, each record is an entry, its places chosen here: byte 0 file number (six high bits) and align; byte 1 record;
-- byte 2 operation (four high bits) and length minus one; byte 3 multiplex (two high bits) and start slot."
pub record Entry : Type 0 where
  pub file : ℕ
  pub align : ℕ
  pub «record» : ℕ
  pub operation : ℕ
  pub length : ℕ
  pub multiplex : ℕ
  pub start : ℕ

-- the low bits of bytes 0, 2 and 3 are two, four and six
unfoldable pub entry_of : ℕ → ℕ → ℕ → ℕ → Entry
entry_of b₀ b₁ b₂ b₃ = record { file = b₀ / 4; align = b₀ % 4; «record» = b₁; operation = b₂ / 16; length = b₂ % 16 + 1; multiplex = b₃ / 64; start = b₃ % 64 }

-- the entry of the four bytes from a place on
unfoldable pub entry_there : List ℕ → ℕ → Entry
entry_there bytes at = entry_of (get_or bytes at 0) (get_or bytes (at + 1) 0) (get_or bytes (at + 2) 0) (get_or bytes (at + 3) 0)

-- "each record is an entry": record k of the round file
unfoldable pub entry_at : List ℕ → ℕ → Entry
entry_at rodl k = entry_there rodl (record_size * k)

-- "Operations are those of 002, table 4: 0, 2, 4 receive; 1, 5 send; 6, 7 end; 3 .. cover their slots and do nothing."
-- document 02, job 7: "Operations 8 to 15 of source document 002 are now carried out."; "Even operations receive, odd ones send."
unfoldable pub is_multiplexed : ℕ → Bool
is_multiplexed operation = leb 8 operation

unfoldable pub receives : ℕ → Bool
receives operation =
    either (eqb operation 0) (either (eqb operation 2) (either (eqb operation 4) (both (is_multiplexed operation) (eqb (operation % 2) 0))))

unfoldable pub sends : ℕ → Bool
sends operation = either (eqb operation 1) (either (eqb operation 5) (both (is_multiplexed operation) (eqb (operation % 2) 1)))

unfoldable pub ends : ℕ → Bool
ends operation = either (eqb operation 6) (eqb operation 7)

-- the entry covers the slots from its start, as many as its length
unfoldable pub covers : Entry → ℕ → Bool
covers e slot = both (leb e.start slot) (ltb slot (e.start + e.length))

-- "Operations 8, 9, 12 and 13 act when the multiplex field equals the epoch modulo 4", "Operations 10 and 11 act when it equals the
-- epoch modulo 8; 14 and 15 when it plus 4 does." The others are never out of turn.
unfoldable pub in_turn : ℕ → ℕ → ℕ → Bool
in_turn epoch operation multiplex =
    cond (either (eqb operation 8) (either (eqb operation 9) (either (eqb operation 12) (eqb operation 13)))) (eqb multiplex (epoch % 4))
    (cond (either (eqb operation 10) (eqb operation 11)) (eqb multiplex (epoch % 8))
    (cond (either (eqb operation 14) (eqb operation 15)) (eqb (multiplex + 4) (epoch % 8)) true))

unfoldable pub out_of_turn : ℕ → Entry → Bool
out_of_turn epoch e = not (in_turn epoch e.operation e.multiplex)

pub data Acting : Type 0 where
  no_entry : Acting
  acts : Entry → Acting

-- the search of a slot, by the entries that are passed over: in a round those out of turn
-- "A multiplexed entry out of turn is passed over, and the next one covering the slot is tried"
unfoldable pub eligible : (Entry → Bool) → Entry → ℕ → Bool
eligible passed e slot = both (covers e slot) (not (passed e))

-- "Slots 1 to 63 run in order; in each, the first entry before the end that covers it acts.": of n records from k on
unfoldable pub acting_from : (Entry → Bool) → List ℕ → ℕ → ℕ → ℕ → Acting
acting_from passed rodl slot k zero = no_entry
acting_from passed rodl slot k (suc n) =
    let rest = acting_from passed rodl slot (suc k) n in
    cond (ends (entry_at rodl k).operation) no_entry (cond (eligible passed (entry_at rodl k) slot) (acts (entry_at rodl k)) rest)

-- "From record 1, each record is an entry"
unfoldable pub acting : (Entry → Bool) → List ℕ → ℕ → Acting
acting passed rodl slot = acting_from passed rodl slot 1 (last_record rodl)

-- "The byte place is 4 × record + align + (slot − start)."
unfoldable pub byte_place : Entry → ℕ → ℕ
byte_place e slot = record_size * e.«record» + e.align + (slot - e.start)
