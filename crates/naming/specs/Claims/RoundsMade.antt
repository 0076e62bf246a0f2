-- A position handed in with no round counted makes the extra read, and its step stays (document 02, job 9); any other "stands at the next
-- round really made (handed in at a needless write, it moves on to it)" (request 6). Of every position, also of one that no run reaches.
use Rattle.std.specs.Prelude.{ℕ, ◌≤◌, ◌<◌, ◌≡◌, List, [], ◌∷◌, Bool, true, false, length}
use Rattle.naming.specs.Rules.RunRounds.{sent}
use Rattle.naming.specs.Rules.Position.{Position}
use Rattle.naming.specs.Rules.Pass.{place_of}
use Rattle.naming.specs.Rules.Run.{is_needless, at_step, round_here, next_round, wrote, move_on, advance}

-- "one extra read of 0x3D record 1 at its first name, its reply ignored. It .. raises that count alone"
pub record ExtraMade (first : ℕ) (others : List ℕ) (p : Position) : Type 0 where
  pub reads : sent (next_round (first ∷ others) p) ≡ record { name = first; file = 0x3D; operation = 0; «record» = 1; content = [] }
  pub raised :
      (answered : Bool) →
      advance (first ∷ others) p answered ≡
      record { end = p.end; place = p.place; counts = record { rounds = 1; comparisons = p.counts.comparisons }; halves = p.halves }

-- "It is due exactly while a running position counts no round": here that it is due, in MovesOn that no other position makes it
abbrev pub MakesExtra : Type 0
MakesExtra = (first : ℕ) (others : List ℕ) (p : Position) → p.counts.rounds ≡ 0 → ExtraMade first others p

-- "the next round really made": at that step, which is no needless write while every step before it is one; and it is the round that a step
-- of the position makes
pub record NextMade (names : List ℕ) (p : Position) : Type 0 where
  pub step : ℕ
  pub ahead : p.place.step ≤ step
  pub needless : (k : ℕ) → p.place.step ≤ k → k < step → is_needless names (at_step k p) ≡ true
  pub needed : is_needless names (at_step step p) ≡ false
  pub made : next_round names p ≡ round_here names (at_step step p)

-- "handed in at a needless write, it moves on to it"
abbrev pub MovesOn : Type 0
MovesOn = (names : List ℕ) (p : Position) → 0 < p.counts.rounds → NextMade names p

-- it "stands at the next round really made": from where the round just made moves it on to, whatever was answered
pub record StandsNext (names : List ℕ) (moved after : Position) : Type 0 where
  pub next : NextMade names moved
  pub stands : after ≡ at_step next.step moved

abbrev pub Stands : Type 0
Stands =
    (names : List ℕ) (p : Position) → 0 < p.counts.rounds → (here : NextMade names p) (answered : Bool) →
    StandsNext names
    (move_on (place_of here.step) (length names) (wrote (round_here names (at_step here.step p)) (at_step here.step p)) answered)
    (advance names p answered)
