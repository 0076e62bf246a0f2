-- The rounds that the code makes, round by round.
-- Assumes nothing.
use Rattle.std.proofs.Common.{ℕ, zero, suc, ◌-◌, ◌/◌, ◌%◌, ◌≤◌, ◌<◌, ◌≡◌, refl, sym, ◌∙◌, [], ◌∷◌, arith, ltb-true, ltb-false, ltb}
use Rattle.file.specs.Rules.Bytes.{bytes_of}
use Rattle.file.specs.Rules.Layout.{record_size}
use Rattle.file.specs.Rules.Cluster.{unnamed, write_operation, execute_operation}
use Rattle.naming.specs.Rules.RunRounds.{write_high, write_low, half, comparison_rounds, sent, at_unnamed}
use Rattle.naming.specs.Rules.RunRounds.{RunRound.poll as poll_of}
use Rattle.naming.specs.Rules.Pass.{Question, Part, high, low, reply, part_of, question_of, ask, give_step, last_step, place_of, ask_or_give, give_of}
use Rattle.naming.specs.Rules.Run.{round_at}
use Rattle.master_slave.specs.declared.types.MasterSlaveRound.{MasterSlaveRound}
use Rattle.naming.specs.Inner.StepAnswers.{Sends, part_at, WritesAt}
use Rattle.file.proofs.Order.{by_case}
use Rattle.naming.proofs.PositionLaws.{place-ask, place-give, last-place, third_part, writes-high, writes-low}

-- the four bytes of a number
pub four_bytes : (n : ℕ) → n < half → n / 256 / 256 / 256 ∷ n / 256 / 256 % 256 ∷ n / 256 % 256 ∷ n % 256 ∷ [] ≡ bytes_of record_size n
unfolding bytes_of
four_bytes n small =
    let zeroth : n / 256 / 256 / 256 ≡ n / 16777216 = omega arith in
    let first : n / 256 / 256 % 256 ≡ n % 16777216 / 65536 = omega arith in
    let second : n / 256 % 256 ≡ n % 16777216 % 65536 / 256 = omega arith in
    let third : n % 256 ≡ n % 16777216 % 65536 % 256 / 1 = omega arith in
    rw (zeroth, first, second, third)

pub half-sent : (r : MasterSlaveRound) (place n : ℕ) →
    n < half → Sends r (at_unnamed write_operation place (n / 256 / 256 / 256 ∷ n / 256 / 256 % 256 ∷ n / 256 % 256 ∷ n % 256 ∷ [])) →
    Sends r (at_unnamed write_operation place (bytes_of record_size n))
half-sent r place n small s = rw (four_bytes n small) at s

-- ---- the rounds that give a name

module _ (r : MasterSlaveRound) (name v : ℕ) where
  pub give-name : {k : ℕ} → k ≡ give_step → Sends r (at_unnamed write_operation 1 (0 ∷ 0 ∷ name ∷ unnamed ∷ [])) → Sends r (sent (round_at (place_of k) name v))
  unfolding round_at place_of ask_or_give give_of sent
  give-name e s = rw e s

  pub give-baptize : {k : ℕ} → k ≡ last_step → Sends r (at_unnamed execute_operation 1 []) → Sends r (sent (round_at (place_of k) name v))
  unfolding round_at sent
  give-baptize e s = rw (last-place e) s

  -- ---- the round at a step

  pub at-poll : {k : ℕ} → k ≡ 0 → Sends r (sent (poll_of name)) → Sends r (sent (round_at (place_of k) name v))
  unfolding round_at place_of
  at-poll e s = rw e s

  -- an execute of a comparison
  asked-execute : (q : Question) (part : Part) → part ≡ reply → Sends r (at_unnamed execute_operation 2 []) → Sends r (sent (round_at (ask q part) name v))
  unfolding round_at sent
  asked-execute q high e s = absurd (let z : ◌≡◌ {A = ℕ} 0 1 = cc in omega arith)
  asked-execute q low e s = absurd (let z : ◌≡◌ {A = ℕ} 0 1 = cc in omega arith)
  asked-execute q reply e s = s

  given-execute : (j : ℕ) → part_at (give_of j) ≡ reply → (j ≡ 0 → ⊥) → j < 3 → ⊥
  unfolding give_of part_at
  given-execute zero e n h = n refl
  given-execute (suc zero) e n h = let z : ◌≡◌ {A = ℕ} 0 1 = cc in omega arith
  given-execute (suc (suc zero)) e n h = let z : ◌≡◌ {A = ℕ} 0 1 = cc in omega arith
  given-execute (suc (suc (suc j))) e n h = omega arith

  pub at-execute :
      (k : ℕ) → k ≤ last_step → part_at (place_of k) ≡ reply → (k ≡ 0 → ⊥) → (k ≡ give_step → ⊥) → (k ≡ last_step → ⊥) →
      Sends r (at_unnamed execute_operation 2 []) → Sends r (sent (round_at (place_of k) name v))
  at-execute k inside e n m b s =
      by_case (ltb k give_step)
      (λ t.
      let before = ltb-true k give_step t in
      let here : part_of ((k - 1) % comparison_rounds) ≡ reply = unfold part_at in rw (place-ask k n before) at e in
      rw (place-ask k n before) (asked-execute (question_of ((k - 1) / comparison_rounds)) (part_of ((k - 1) % comparison_rounds)) here s))
      (λ f.
      let behind = ltb-false k give_step f in
      let here : part_at (give_of (k - give_step)) ≡ reply = rw (place-give k behind) at e in
      absurd (given-execute (k - give_step) here (λ z. m (omega arith)) (omega arith)))

-- the round at a position that stands there
module _ {r : MasterSlaveRound} (name : ℕ) {k v part x : ℕ} (w : WritesAt k v part x) where
  pub at_high : part ≡ 0 → Sends r (sent (write_high (x / half))) → Sends r (sent (round_at (place_of k) name v))
  unfolding part_of
  at_high e s =
      let here : high ≡ part_at (place_of k) = rw e at w.which in
      rw (writes-high name v (place_of k) (sym here), ← w.halved) s

  pub at_low : part ≡ 1 → Sends r (sent (write_low (x % half))) → Sends r (sent (round_at (place_of k) name v))
  unfolding part_of
  at_low e s =
      let here : low ≡ part_at (place_of k) = rw e at w.which in
      rw (writes-low name v (place_of k) (sym here), ← w.halved) s

pub writes_no_half : {k v part x : ℕ} → WritesAt k v part x → (part ≡ 0 → ⊥) → (part ≡ 1 → ⊥) → part_at (place_of k) ≡ reply
writes_no_half {part = part} w n m = sym w.which ∙ third_part part n m

pub at_other : {r : MasterSlaveRound} (name k v : ℕ) → ((n : ℕ) → Sends r (sent (round_at (place_of k) name n))) → Sends r (sent (round_at (place_of k) name v))
at_other name k v is = is v
