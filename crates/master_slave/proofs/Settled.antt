-- A compare is settled by its first reply: all who reply send the one byte 0x00 in slot 1, where more of them change nothing.
-- Assumes nothing.
use Prim.Native.Nat.{ℕ, zero, suc, ◌+◌, ◌-◌, ◌≤◌, ◌<◌}
use native.Mathlib.Omega.{arith}
use mathlib.Core.Path.{◌≡◌, refl, ap, ◌∙◌}
use mathlib.Core.Logic.{◌⊎◌, inl, inr, ⊎_elim}
use mathlib.Core.List.{List, [], ◌∷◌}
use lib.ListN.{length}
use lib.Seq.{set-set}
use lib.Bits.{and_zero_r}
use Rattle.file.specs.Rules.Cluster.{Slave, Cluster}
use Rattle.file.specs.Inner.Places.{slave_of}
use Rattle.file.proofs.Order.{by_case}
use Rattle.master_slave.specs.Rules.Bus.{slots, answer_bytes, answer_in, nobody}
use Rattle.master_slave.specs.Rules.Slaves.{Duty, comparing, answers_compare, reply_to, sent_to}
use Rattle.master_slave.specs.Inner.Carried.{said, Heard, reach_of, Replied}
use Rattle.master_slave.proofs.Hearing.{Hearing, hearing-start, hearing-next, hearing_done, size_of}
use Rattle.master_slave.proofs.SlaveLaws.{reply_quiet}

-- slaves that change neither buffer nor last slot need not be heard
hearing_settled : {o : Duty} {c : Cluster} {firework : ℕ} {old new : List ℕ} {i last : ℕ} (k : ℕ) → i + k ≡ length c.slaves → Hearing o c firework old new i last →
    ((s : ℕ) → Replied (reply_to o (slave_of c s)) new new last last) → (entry : List ℕ) → old ≡ answer_in entry (answer_bytes firework nobody) → Heard (sent_to o c.slaves) firework entry new last
hearing_settled zero left h same entry e = hearing_done h entry e refl (omega arith)
hearing_settled {i = i} (suc k) left h same entry e =
    hearing_settled {i = i + 1} k (omega arith) (hearing-next h refl (omega arith) (same i)) same entry e

compare-replies : (name : ℕ) (s : Slave) → (reply_to (comparing name) s ≡ []) ⊎ (reply_to (comparing name) s ≡ 0 ∷ [])
unfolding reply_to
compare-replies name s = by_case (answers_compare name s) (λ e. inr (rw e)) (λ e. inl (rw e))

-- 0x00 sent in slot 1 once more
zero_again : (b : List ℕ) → said b 1 (0 ∷ []) ≡ said (said b 1 (0 ∷ [])) 1 (0 ∷ [])
unfolding said
zero_again b = simp (and_zero_r, set-set)

reply_again : (name : ℕ) (s : Slave) (b : List ℕ) → Replied (reply_to (comparing name) s) (said b 1 (0 ∷ [])) (said b 1 (0 ∷ [])) 1 1
unfolding reach_of
reply_again name s b =
    ⊎_elim
    (λ (quiet : reply_to (comparing name) s ≡ []). reply_quiet (said b 1 (0 ∷ [])) 1 quiet)
    (λ (full : reply_to (comparing name) s ≡ 0 ∷ []). record { buffer = rw full (zero_again b); reach = rw full })
    (compare-replies name s)

-- what the first reply leaves in the buffer
first-reply : (name : ℕ) (s : Slave) {old new : List ℕ} {last next : ℕ} → last ≡ 0 → Replied (reply_to (comparing name) s) old new last next → next ≡ 1 → new ≡ said old 1 (0 ∷ [])
unfolding reach_of
first-reply name s {old} {new} {last} {next} none t one =
    ⊎_elim
    (λ (quiet : reply_to (comparing name) s ≡ []). let same : next ≡ last = rw quiet at t.reach in absurd (omega arith))
    (λ (full : reply_to (comparing name) s ≡ 0 ∷ []). t.buffer ∙ ap (λ (l : List ℕ). said old 1 l) full)
    (compare-replies name s)

-- ---- the loop

-- no slave has replied yet
pub record Unanswered (name : ℕ) (c : Cluster) (firework : ℕ) (old new : List ℕ) (i last : ℕ) : Type 0 where
  pub hearing : Hearing (comparing name) c firework old new i last
  pub silent : last ≡ 0

pub unanswered-start :
    (name : ℕ) (c : Cluster) {firework : ℕ} (old : List ℕ) {new : List ℕ} → slots ≤ length old → new ≡ answer_in old (answer_bytes firework nobody) →
    Unanswered name c firework new new 0 0
unfolding size_of
unanswered-start name c old long e = record { hearing = hearing-start (comparing name) c old (omega arith) long e; silent = refl }

module _ {name : ℕ} {c : Cluster} {firework : ℕ} {old new : List ℕ} {i last : ℕ} (h : Unanswered name c firework old new i last) where
  module _ {count : ℕ} (all : count ≡ length c.slaves) where
    module _ (more : i < count) {new' : List ℕ} {next : ℕ} (t : Replied (reply_to (comparing name) (slave_of c i)) new new' last next) where
      pub unanswered_next : (next ≡ 1 → ⊥) → Unanswered name c firework old new' (i + 1) next
      unfolding size_of
      unanswered_next other = let passed = hearing-next h.hearing all more t in record { hearing = passed; silent = omega (arith, passed.bound) }

      pub answered : next ≡ 1 → (entry : List ℕ) → old ≡ answer_in entry (answer_bytes firework nobody) → Heard (sent_to (comparing name) c.slaves) firework entry new' 1
      answered one entry e =
          let first : new' ≡ said new 1 (0 ∷ []) = first-reply name (slave_of c i) h.silent t one in
          let passed : Hearing (comparing name) c firework old new' (i + 1) 1 = rw one at (hearing-next h.hearing all more t) in
          hearing_settled (length c.slaves - (i + 1)) (omega arith) passed (λ s. rw first (reply_again name (slave_of c s) new)) entry e

    pub unanswered_done : count ≤ i → (entry : List ℕ) → old ≡ answer_in entry (answer_bytes firework nobody) → Heard (sent_to (comparing name) c.slaves) firework entry new last
    unanswered_done over entry e = hearing_done h.hearing entry e all over
