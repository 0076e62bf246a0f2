-- The tie between run and plain account: at each place of a pass what the slaves were sent and what the value so far is; a
-- step of both keeps it.
-- Assumes nothing.
use Rattle.std.proofs.Common.{ℕ, zero, suc, ◌+◌, ◌-◌, ◌/◌, ◌%◌, ◌^◌, ◌≤◌, ◌<◌, ◌≡◌, refl, sym, ap, ◌∙◌, List, [], ◌∷◌, map, Bool, true, false, cond, not, arith, add-one, eqb, leb, ltb, length, drop, get_or, length-drop, drop-drop, get_or-drop, ne_eqb, eqb-true, lt-ltb, le-ltb, le-leb}
use borrow.Author.Tests.{eqb-false}
use Rattle.file.specs.Rules.Bytes.{All.all_empty, All.all_next as also}
use Rattle.file.specs.Rules.FileGrounds.{is_among}
use Rattle.file.proofs.Bytes.{all_first, all_map}
use Rattle.file.specs.Rules.Order.{both}
use Rattle.file.proofs.Order.{by_case, clash}
use Rattle.naming.specs.Inner.View.{SlaveView, unnamed_change, change_all, answers, comparison_of}
use Rattle.naming.specs.Rules.RunRounds.{RunRound, RunRound.poll as poll_of, write_name, write_high, write_low, compare, half}
use Rattle.naming.specs.Rules.Position.{Halves, Position, running, fresh, end_at}
use Rattle.naming.specs.Rules.Pass.{PassPlace, PassPlace.poll, ask, give_name, give_high, give_low, PassPlace.baptize}
use Rattle.naming.specs.Rules.Pass.{Question, least, bit, Part, high, low, reply, place_of}
use Rattle.naming.specs.Rules.Run.{tried, round_at, round_here, is_first, is_repeated, is_needless}
use Rattle.naming.specs.Rules.Pass.{bits}
use Rattle.naming.specs.Rules.Run.{at_step, pass_over, onto, with_halves, wrote, onward, next_name, end_all_named, move_on}
use Rattle.naming.specs.Inner.PassPlaces.{step_of}
use Rattle.naming.specs.Rules.Account.{Named, Account, bit_clear, comparisons_after, high_again, names_held, end_with, give, pass_on, naming_rounds, naming_comparisons, ending_rounds}
use Rattle.naming.proofs.Places.{of_least, of_bit, Inner, LegalPlace, inner, at-poll, at-ask, at_name, at_high, at_low, at-baptize, after_bit, after_place, place_of_step, step_after, legal-after}
use Rattle.naming.proofs.Places.{comparing as counting}
use Rattle.naming.proofs.Search.{cleared, cleared_all, cleared_none, tried-bit, answered, tried-small, halves}
use Rattle.naming.proofs.Tries.{attempt, last_try, try_here, given-high, given-low}
use Rattle.naming.proofs.Walk.{past, past_of, compared, compared-after, high_again_one, past_within, past_last, past_reply, high-passed, high-made}
use Rattle.naming.proofs.Walk.{low-passed, low-made, give-high-passed, give-low-passed, give-low-made}
use Rattle.naming.proofs.Facts.{Facts, drop-taken, give-greatest, fall_first}
use Rattle.naming.proofs.AccountRounds.{account, Goes, goes_on, taken-round, giving-round, ending-round}
use Rattle.naming.proofs.Tally.{none-compared, one-compared}
use Rattle.naming.proofs.Answers.{named_of, OfUnnamed, Wait, poll-answers, compare_silent, compare-answers, Quiet, polling, telling_name, telling_high}
use Rattle.naming.proofs.Answers.{telling_low, comparing, quiet_names, quiet_told, baptize-names}

-- ---- the relation

-- what an unnamed slave holds before the round of a place, for a name and the halves last written
abbrev pub HighHeld : Question → ℕ → SlaveView → Type 0
HighHeld least h v = Unit {0}
HighHeld (bit b) h v = v.high ≡ h

abbrev pub LowHeld : Question → ℕ → SlaveView → Type 0
LowHeld least l v = Unit {0}
LowHeld (bit b) l v = v.low ≡ l

abbrev pub Told : PassPlace → ℕ → Halves → SlaveView → Type 0
Told poll n h v = Unit {0}
Told (ask q high) n h v = HighHeld q h.high v × LowHeld q h.low v
Told (ask q low) n h v = (v.high ≡ h.high) × LowHeld q h.low v
Told (ask q reply) n h v = (v.high ≡ h.high) × (v.low ≡ h.low)
Told give_name n h v = (v.high ≡ h.high) × (v.low ≡ h.low)
Told give_high n h v = (v.new_name ≡ n) × (v.high ≡ h.high) × (v.low ≡ h.low)
Told give_low n h v = (v.new_name ≡ n) × (v.high ≡ h.high) × (v.low ≡ h.low)
Told baptize n h v = (v.new_name ≡ n) × (v.high ≡ h.high) × (v.low ≡ h.low)

-- what the halves last written are, for the value so far and the greatest waiting name
abbrev HighBefore : Question → ℕ → ℕ → Type 0
HighBefore least p h = Unit {0}
HighBefore (bit b) p h = h ≡ last_try (suc b) p / half

abbrev LowBefore : Question → ℕ → ℕ → Type 0
LowBefore least p l = Unit {0}
LowBefore (bit b) p l = l ≡ last_try (suc b) p % half

abbrev pub LastHalves : PassPlace → ℕ → ℕ → Halves → Type 0
LastHalves poll x p h = Unit {0}
LastHalves (ask q high) x p h = HighBefore q p h.high × LowBefore q p h.low
LastHalves (ask q low) x p h = (h.high ≡ tried q x / half) × LowBefore q p h.low
LastHalves (ask q reply) x p h = (h.high ≡ tried q x / half) × (h.low ≡ tried q x % half)
LastHalves give_name x p h = (h.high ≡ last_try 0 p / half) × (h.low ≡ last_try 0 p % half)
LastHalves give_high x p h = (h.high ≡ last_try 0 p / half) × (h.low ≡ last_try 0 p % half)
LastHalves give_low x p h = (h.high ≡ x / half) × (h.low ≡ last_try 0 p % half)
LastHalves baptize x p h = (h.high ≡ x / half) × (h.low ≡ x % half)

-- the value so far is the greatest waiting name with its low r bits cleared
abbrev pub Found : ℕ → ℕ → List ℕ → Type 0
Found r x [] = ⊥
Found r x (p ∷ ps) = x ≡ cleared r p

abbrev pub Asked : Question → ℕ → List ℕ → Type 0
Asked least x ws = Unit {0}
Asked (bit b) x ws = Found (suc b) x ws

-- after the poll the name is free, and the search has come to the place
abbrev pub Known : PassPlace → ℕ → List ℕ → ℕ → List ℕ → Type 0
Known poll n held x ws = Unit {0}
Known (ask q r) n held x ws = (is_among n held ≡ false) × Asked q x ws
Known give_name n held x ws = (is_among n held ≡ false) × Found 0 x ws
Known give_high n held x ws = (is_among n held ≡ false) × Found 0 x ws
Known give_low n held x ws = (is_among n held ≡ false) × Found 0 x ws
Known baptize n held x ws = (is_among n held ≡ false) × Found 0 x ws

-- a pass of the account: the name that it is for, the names after it, and what else the account holds while it runs
pub record Pass : Type 0 where
  pub name : ℕ
  pub others : List ℕ
  pub waiting : List ℕ
  pub slaves : List Named
  pub held : List ℕ
  pub rounds : ℕ
  pub done : ℕ
  pub k : ℕ

abbrev pub during : Pass → Account
during a = account (a.name ∷ a.others) a.waiting a.slaves a.held 0 a.rounds a.done a.k

-- with those waiting
abbrev pub waited_for : List ℕ → Pass → Pass
waited_for ws a =
    record { name = a.name; others = a.others; waiting = ws; slaves = a.slaves; held = a.held; rounds = a.rounds; done = a.done; k = a.k }

-- running at a place of a pass
pub record At (names : List ℕ) (vs : List SlaveView) (l : PassPlace) (p : Position) (a : Pass) : Type 0 where
  pub runs : p.end ≡ running
  pub legal : LegalPlace l
  pub facts : Facts (a.name ∷ a.others) a.waiting a.slaves a.held
  pub here : drop p.place.index names ≡ a.name ∷ a.others
  pub place : p.place.step ≡ step_of l
  pub made : a.k ≡ past_of l a.waiting
  pub rounds : p.counts.rounds ≡ a.rounds
  pub counted : p.counts.comparisons ≡ a.done + compared l
  pub views : map named_of vs ≡ a.slaves
  pub known : Known l a.name a.held p.place.value a.waiting
  pub halves : LastHalves l p.place.value (get_or a.waiting 0 0) p.halves
  pub heard : OfUnnamed (Told l a.name p.halves) vs
  pub small : p.place.value < 2 ^ bits

-- the run has ended as the account says
pub record Over (names : List ℕ) (vs : List SlaveView) (p : Position) (a : Account) : Type 0 where
  pub views : map named_of vs ≡ a.slaves
  pub end : p.end ≡ a.end
  pub some : 0 < p.end
  pub most : p.end ≤ 2
  pub within : p.place.index ≤ length names
  pub rounds : p.counts.rounds ≡ a.rounds
  pub counted : p.counts.comparisons ≡ a.done + comparisons_after (high_again a.waiting) a.k

-- running at a place, perhaps one of a needless write, or ended
pub data Loose (names : List ℕ) (vs : List SlaveView) (p : Position) : Account → Type 0 where
  at_place : {l : PassPlace} {a : Pass} → At names vs l p a → Loose names vs p (during a)
  at-end : {a : Account} → Over names vs p a → Loose names vs p a

-- and running at the next round really made, or ended
pub data Tie (names : List ℕ) (vs : List SlaveView) (p : Position) : Account → Type 0 where
  going : {l : PassPlace} {a : Pass} → At names vs l p a → is_needless names p ≡ false → Tie names vs p (during a)
  over : {a : Account} → Over names vs p a → Tie names vs p a

-- ---- a name done

drop-next : (names : List ℕ) (index n : ℕ) (ns : List ℕ) → drop index names ≡ n ∷ ns → drop (suc index) names ≡ ns
drop-next names index n ns e = rw (← add-one index, ← drop-drop 1 index names, e)

pub length-here : (names : List ℕ) (index n : ℕ) (ns : List ℕ) → drop index names ≡ n ∷ ns → length names ≡ index + suc (length ns)
length-here names index n ns e = let l : length names - index ≡ suc (length ns) = sym (length-drop index names) ∙ ap length e in omega arith

nothing-told : (P : SlaveView → Type 0) (vs : List SlaveView) → ((v : SlaveView) → P v) → OfUnnamed P vs
unfolding OfUnnamed
nothing-told P [] f = all_empty
nothing-told P (v ∷ vs) f = also (λ u. f v) (nothing-told P vs f)

-- the account once the pass is done
abbrev after : Pass → List ℕ → List ℕ → List Named → ℕ → Account
after a left waiting slaves more = account left waiting slaves a.held (end_with left) (suc a.rounds) (a.done + more) 0

next-name :
    {names : List ℕ} {vs : List SlaveView} (p : Position) (a : Pass) (ns ws : List ℕ) (slaves : List Named) (more : ℕ) → Facts ns ws slaves a.held →
    drop p.place.index names ≡ a.name ∷ ns → map named_of vs ≡ slaves → p.place.value < 2 ^ bits → p.counts.rounds ≡ a.rounds →
    p.counts.comparisons ≡ a.done + more → Loose names vs (next_name (length names) p) (after a ns ws slaves more)
unfolding next_name end_at end_with past compared step_of
next-name {names} p a [] ws slaves more f e v s r c =
    let l : length names ≡ suc p.place.index = omega (arith, length-here names p.place.index a.name [] e) in
    let m : length names ≤ suc p.place.index = omega arith in
    let used : ltb (suc p.place.index) (length names) ≡ false = le-ltb (suc p.place.index) (length names) m in
    at-end {a = after a [] ws slaves more}
    (record {
      views = v;
      end = rw used;
      some = rw used (omega arith);
      most = rw used (omega arith);
      within = omega arith;
      rounds = ap suc r;
      counted = omega (arith, none-compared (high_again ws));
    })
next-name {names} {vs} p a (m ∷ ms) ws slaves more f e v s r c =
    let l : suc p.place.index < length names = omega (arith, length-here names p.place.index a.name (m ∷ ms) e) in
    let next : Pass =
    record { name = m; others = ms; waiting = ws; slaves = slaves; held = a.held; rounds = suc a.rounds; done = a.done + more; k = 0 } in
    at_place {l = poll} {a = next}
    (record {
      runs = rw (lt-ltb (suc p.place.index) (length names) l);
      legal = inner at-poll;
      facts = f;
      here = drop-next names p.place.index a.name (m ∷ ms) e;
      place = refl;
      made = refl;
      rounds = ap suc r;
      counted = omega arith;
      views = v;
      known = tt;
      halves = tt;
      heard = nothing-told (λ v. Unit {0}) vs (λ v. tt);
      small = s;
    })

-- ---- a round that goes on within the pass

-- the account goes on with it
goes-past :
    {l : PassPlace} (ws : List ℕ) {k : ℕ} → Inner l → k ≡ past_of l ws → past_of (after_place l) ws ≡ suc (past_of l ws) →
    (ws ≡ [] → suc k ≡ ending_rounds → ⊥) → Goes ws k
goes-past [] {k} i made up n = ne_eqb (suc k) ending_rounds (n refl)
goes-past (p ∷ ps) i made up n = omega (arith, past_within p ps (legal-after i))

-- one round more
abbrev on : Pass → Pass
on a =
    record {
      name = a.name;
      others = a.others;
      waiting = a.waiting;
      slaves = a.slaves;
      held = a.held;
      rounds = suc a.rounds;
      done = a.done;
      k = suc a.k;
    }

go_on :
    {names : List ℕ} {vs : List SlaveView} {l : PassPlace} {p : Position} {a : Pass} {o : RunRound} (x : ℕ) (h : Halves) → At names vs l p a → Inner l →
    is_among a.name a.held ≡ false → (a.waiting ≡ [] → suc a.k ≡ ending_rounds → ⊥) →
    past_of (after_place l) a.waiting ≡ suc (past_of l a.waiting) → Quiet o → x < 2 ^ bits →
    Known (after_place l) a.name a.held x a.waiting → LastHalves (after_place l) x (get_or a.waiting 0 0) h →
    OfUnnamed (Told (after_place l) a.name h) (change_all o vs) →
    Loose names (change_all o vs) (onward (with_halves h p) x (counting l)) (pass_on (during a))
unfolding onward
go_on {names} {vs} {l} {p} {a} {o} x h i here free g up q small known halves heard =
    let next : step_of (after_place l) ≡ suc (step_of l) = step_after here in
    let more : compared (after_place l) ≡ compared l + counting l = compared-after here in
    let there : At names (change_all o vs) (after_place l) (onward (with_halves h p) x (counting l)) (on a) =
    record {
      runs = i.runs;
      legal = legal-after here;
      facts = i.facts;
      here = i.here;
      place = ap suc i.place ∙ sym next;
      made = ap suc i.made ∙ sym up;
      rounds = ap suc i.rounds;
      counted = omega (arith, i.counted);
      views = quiet_names q vs ∙ i.views;
      known = known;
      halves = halves;
      heard = heard;
      small = small;
    } in
    rw (goes_on a.name a.others a.waiting a.slaves a.held a.rounds a.done a.k free
    (goes-past a.waiting here i.made up g))
    (at_place there)

-- ---- the places

-- the next place after bit b, and what is known there
known-after-bit : (b n : ℕ) (held : List ℕ) (x : ℕ) (ws : List ℕ) → is_among n held ≡ false → Found b x ws → Known (after_bit b) n held x ws
unfolding after_bit
known-after-bit zero n held x ws f k = (f, k)
known-after-bit (suc b) n held x ws f k = (f, k)

halves-after-bit : (b x p : ℕ) (h : Halves) → (h.high ≡ last_try b p / half) × (h.low ≡ last_try b p % half) → LastHalves (after_bit b) x p h
unfolding after_bit
halves-after-bit zero x p h e = e
halves-after-bit (suc b) x p h e = e

told-after-bit : (b n : ℕ) (h : Halves) (v : SlaveView) → (v.high ≡ h.high) × (v.low ≡ h.low) → Told (after_bit b) n h v
unfolding after_bit
told-after-bit zero n h v e = e
told-after-bit (suc b) n h v e = e

zero_least : (x p : ℕ) → leb (tried least x) p ≡ true
unfolding tried
zero_least x p = le-leb 0 p (omega arith)

someone-waits : {p : ℕ} {ps : List ℕ} {A : Type 0} → p ∷ ps ≡ [] → A
someone-waits e = let z : ◌≡◌ {A = ℕ} 0 1 = cc in absurd (omega arith)

cond_small : (t : Bool) {a b : ℕ} → a < 2 ^ bits → b < 2 ^ bits → cond t a b < 2 ^ bits
cond_small true h k = h
cond_small false h k = k

-- the value that a bit's comparison sends
pub tries : (b p : ℕ) {x : ℕ} → x ≡ cleared (suc b) p → tried (bit b) x ≡ attempt b p
unfolding attempt
tries b p {x} e = tried-bit b p x e ∙ ap (λ (y : ℕ). y + 2 ^ b) e

-- the comparison value of slaves that hold both halves of a value
both_halves : {x h l : ℕ} (v : SlaveView) → (v.high ≡ h) × (v.low ≡ l) → (h ≡ x / half) × (l ≡ x % half) → comparison_of v ≡ x
unfolding comparison_of
both_halves v e k = halves (e.0 ∙ k.0) (e.1 ∙ k.1)

-- ---- a needless write is passed over

-- whether the write of a place is needless, for a name
abbrev pub needless_at : PassPlace → ℕ → Position → Bool
needless_at l n p = both (not (is_first l)) (is_repeated (round_at l n p.place.value) p)

name-here : (names : List ℕ) (index n : ℕ) (ns : List ℕ) → drop index names ≡ n ∷ ns → get_or names index 0 ≡ n
name-here names index n ns e =
    let z : index + 0 ≡ index = omega arith in
    rw (← z) (sym (get_or-drop index names 0 0) ∙ rw e)

module _ {names : List ℕ} {vs : List SlaveView} {l : PassPlace} {p : Position} {a : Pass} (i : At names vs l p a) where
  pub place_here : place_of p.place.step ≡ l
  place_here = ap place_of i.place ∙ place_of_step i.legal

  pub round-here : round_here names p ≡ round_at l a.name p.place.value
  unfolding round_here
  round-here = rw (name-here names p.place.index a.name a.others i.here, place_here)

  pub needless-here : is_needless names p ≡ needless_at l a.name p
  unfolding is_needless
  needless-here = rw (round-here, place_here)

-- the place after it
abbrev next : Position → Position
next p = at_step (suc p.place.step) p

skipped :
    {names : List ℕ} {vs : List SlaveView} {l : PassPlace} {p : Position} {a : Pass} → At names vs l p a → Inner l → counting l ≡ 0 →
    past_of (after_place l) a.waiting ≡ past_of l a.waiting → Known (after_place l) a.name a.held p.place.value a.waiting →
    LastHalves (after_place l) p.place.value (get_or a.waiting 0 0) p.halves →
    ((v : SlaveView) → Told l a.name p.halves v → Told (after_place l) a.name p.halves v) → At names vs (after_place l) (next p) a
unfolding OfUnnamed at_step
skipped i here none same known halves told =
    let more = compared-after here in
    record {
      runs = i.runs;
      legal = legal-after here;
      facts = i.facts;
      here = i.here;
      place = ap suc i.place ∙ sym (step_after here);
      made = i.made ∙ sym same;
      rounds = i.rounds;
      counted = omega (arith, i.counted);
      views = i.views;
      known = known;
      halves = halves;
      heard = all_map (λ (v : SlaveView) k u. told v (k u)) i.heard;
      small = i.small;
    }

skip :
    {names : List ℕ} {vs : List SlaveView} {l : PassPlace} {p : Position} (ws : List ℕ) (a : Pass) → LegalPlace l → At names vs l p (waited_for ws a) →
    needless_at l a.name p ≡ true → At names vs (after_place l) (next p) (waited_for ws a)
unfolding is_first is_repeated round_at both after_place
skip ws a (inner at-poll) i t = clash t refl
skip ws a (inner (at-ask high of_least)) i t = clash t refl
skip ws a (inner (at-ask low of_least)) i t = clash t refl
skip ws a (inner (at-ask reply of_least)) i t = clash t refl
skip [] a (inner (at-ask r (of_bit small))) i t = absurd i.known.1
skip {p = p} (w ∷ ws) a (inner (at-ask high (of_bit {b = b} small))) i t =
    let same : tried (bit b) p.place.value / half ≡ p.halves.high = eqb-true _ _ t in
    let e : attempt b w / half ≡ last_try (suc b) w / half = rw (tries b w i.known.1) at (same ∙ i.halves.0) in
    skipped i (at-ask high (of_bit small)) (unfold counting in refl) (high-passed b w ws small e) i.known (sym same, i.halves.1) (λ v k. k)
skip {p = p} (w ∷ ws) a (inner (at-ask low (of_bit {b = b} small))) i t =
    let same : tried (bit b) p.place.value % half ≡ p.halves.low = eqb-true _ _ t in
    let e : attempt b w % half ≡ last_try (suc b) w % half = rw (tries b w i.known.1) at (same ∙ i.halves.1) in
    skipped i (at-ask low (of_bit small)) (unfold counting in refl) (low-passed b w ws small e) i.known (i.halves.0, sym same) (λ v k. k)
skip (w ∷ ws) a (inner (at-ask reply (of_bit small))) i t = clash t refl
skip ws a (inner at_name) i t = clash t refl
skip [] a (inner at_high) i t = absurd i.known.1
skip [] a (inner at_low) i t = absurd i.known.1
skip {p = p} (w ∷ ws) a (inner at_high) i t =
    let same : p.place.value / half ≡ p.halves.high = eqb-true _ _ t in
    skipped i at_high (unfold counting in refl) (give-high-passed w ws) i.known (sym same, i.halves.1) (λ v k. k)
skip {p = p} (w ∷ ws) a (inner at_low) i t =
    let same : p.place.value % half ≡ p.halves.low = eqb-true _ _ t in
    let is : p.place.value ≡ w = i.known.1 ∙ cleared_none w in
    let e : w % half ≡ last_try 0 w % half = ap (λ (x : ℕ). x % half) (sym is) ∙ same ∙ i.halves.1 in
    skipped i at_low (unfold counting in refl) (give-low-passed w ws e) i.known (i.halves.0, sym same) (λ v k. k)
skip ws a at-baptize i t = clash t refl

-- at most two writes of halves follow one another
third-made :
    (l : PassPlace) (n : ℕ) (p q r : Position) → needless_at l n p ≡ true → needless_at (after_place l) n q ≡ true →
    needless_at (after_place (after_place l)) n r ≡ false
unfolding is_first is_repeated round_at both after_place
third-made poll n p q r t u = clash t refl
third-made (ask least high) n p q r t u = clash t refl
third-made (ask least low) n p q r t u = clash t refl
third-made (ask least reply) n p q r t u = clash t refl
third-made (ask (bit b) high) n p q r t u = refl
third-made (ask (bit b) low) n p q r t u = clash u refl
third-made (ask (bit b) reply) n p q r t u = clash t refl
third-made give_name n p q r t u = clash t refl
third-made give_high n p q r t u = refl
third-made give_low n p q r t u = clash u refl
third-made baptize n p q r t u = clash t refl

-- the position stands at the next round really made
pub settle : {names : List ℕ} {vs : List SlaveView} {p : Position} {a : Account} → Loose names vs p a → Tie names vs (onto names p) a
unfolding onto pass_over
settle {names} {p = p} (at_place {l = l} {a = a} i) =
    by_case (is_needless names p)
    (λ t.
    let u = sym (needless-here i) ∙ t in
    let j = skip a.waiting a i.legal i u in
    rw t
    (by_case (is_needless names (next p))
    (λ w.
    let x = sym (needless-here j) ∙ w in
    let k = skip a.waiting a j.legal j x in
    rw w (going k (needless-here k ∙ third-made l a.name p (next p) (next (next p)) u x)))
    (λ f. rw f (going j f))))
    (λ f. rw (f, f) (going i f))
settle {names} {p = p} (at-end o) =
    by_case (is_needless names p)
    (λ t. rw t (by_case (is_needless names (next p)) (λ w. rw w (over (later (later o)))) (λ f. rw f (over (later o)))))
    (λ f. rw (f, f) (over o))
  where
    later : {vs : List SlaveView} {p : Position} {a : Account} → Over names vs p a → Over names vs (next p) a
    later o =
        unfold at_step in
        record { views = o.views; end = o.end; some = o.some; most = o.most; within = o.within; rounds = o.rounds; counted = o.counted }

-- ---- the rounds

-- the low half of the value differs from the last one exactly if bit 0 is 0
low_again : (p : ℕ) → (p % half ≡ last_try 0 p % half → ⊥) → bit_clear 0 p ≡ 1
low_again p n = (given-low p).1 n

-- a step at the place of a round really made: the round changes the views, the position moves on by the answer, the account makes a round
abbrev pub Moves : List ℕ → List SlaveView → PassPlace → Position → Pass → Type 0
Moves names vs l p a =
    At names vs l p a → needless_at l a.name p ≡ false →
    Loose names (change_all (round_at l a.name p.place.value) vs)
    (move_on l (length names) (wrote (round_at l a.name p.place.value) p) (answers (round_at l a.name p.place.value) vs)) (pass_on (during a))

module _ (names : List ℕ) (vs : List SlaveView) (p : Position) (a : Pass) where
  at-poll_moves : Moves names vs poll p a
  unfolding move_on wrote round_at after_place counting past compared
  at-poll_moves i real =
      by_case (is_among a.name a.held)
      (λ t. rw (replied ∙ t) (taken t))
      (λ f.
      rw (replied ∙ f)
      (go_on p.place.value p.halves i at-poll f (λ e z. omega (arith, i.made)) refl polling i.small (f, tt) (tt, tt)
      (nothing-told (λ v. Unit {0} × Unit {0}) (change_all (poll_of a.name) vs) (λ v. (tt, tt)))))
    where
      replied : answers (poll_of a.name) vs ≡ is_among a.name a.held
      replied =
          poll-answers a.name vs (all_first i.facts.fit).named ∙ ap (λ (ss : List Named). is_among a.name (names_held ss)) i.views
          ∙ sym (all_first i.facts.taken)

      taken : is_among a.name a.held ≡ true → Loose names (change_all (poll_of a.name) vs) (next_name (length names) p) (pass_on (during a))
      taken t =
          rw (taken-round a.name a.others a.waiting a.slaves a.held a.rounds a.done a.k t)
          (next-name p a a.others a.waiting a.slaves 0 (drop-taken i.facts) i.here (quiet_names polling vs ∙ i.views) i.small
          i.rounds i.counted)

  -- the first comparison writes both halves
  at-first-high : Moves names vs (ask least high) p a
  unfolding move_on wrote round_at after_place counting unnamed_change past
  at-first-high i real =
      go_on p.place.value written i (at-ask high of_least) i.known.0 (λ e z. omega (arith, i.made)) refl telling_high i.small i.known (refl, tt)
      (quiet_told (write_high written.high) (Told (ask least high) a.name p.halves) (Told (ask least low) a.name written) vs
      (λ v e. (refl, tt)) i.heard)
    where
      written : Halves
      written = record { high = tried least p.place.value / half; low = p.halves.low }

  at-first-low : Moves names vs (ask least low) p a
  unfolding move_on wrote round_at after_place counting unnamed_change past
  at-first-low i real =
      go_on p.place.value written i (at-ask low of_least) i.known.0 (λ e z. omega (arith, i.made)) refl telling_low i.small i.known
      (i.halves.0, refl)
      (quiet_told (write_low written.low) (Told (ask least low) a.name p.halves) (Told (ask least reply) a.name written) vs
      (λ v e. (e.0, refl)) i.heard)
    where
      written : Halves
      written = record { high = p.halves.high; low = tried least p.place.value % half }

-- with someone who waits
module _ (names : List ℕ) (vs : List SlaveView) (p : Position) (w : ℕ) (ws : List ℕ) (b : Pass) where
  abbrev a : Pass
  a = waited_for (w ∷ ws) b

  -- with the high half of a value written, or the low one
  abbrev high_of : ℕ → Halves
  high_of x = record { high = x / half; low = p.halves.low }

  abbrev low_of : ℕ → Halves
  low_of x = record { high = p.halves.high; low = x % half }

  -- the writes of a bit's comparison
  at-high_moves : (n : ℕ) → n < bits → Moves names vs (ask (bit n) high) p a
  unfolding move_on wrote round_at after_place counting unnamed_change is_first is_repeated both
  at-high_moves n legal i real =
      let x = tried (bit n) p.place.value in
      let differs : (attempt n w / half ≡ last_try (suc n) w / half → ⊥) =
      λ e. eqb-false (x / half) p.halves.high real (rw (tries n w i.known.1) (e ∙ sym i.halves.0)) in
      go_on p.place.value (high_of x) i (at-ask high (of_bit legal)) i.known.0 (λ z. someone-waits z) (high-made n w ws legal differs)
      telling_high i.small i.known (refl, i.halves.1)
      (quiet_told (write_high (x / half)) (Told (ask (bit n) high) a.name p.halves) (Told (ask (bit n) low) a.name (high_of x)) vs
      (λ v e. (refl, e.1)) i.heard)

  at-low_moves : (n : ℕ) → n < bits → Moves names vs (ask (bit n) low) p a
  unfolding move_on wrote round_at after_place counting unnamed_change is_first is_repeated both
  at-low_moves n legal i real =
      let x = tried (bit n) p.place.value in
      let differs : (attempt n w % half ≡ last_try (suc n) w % half → ⊥) =
      λ e. eqb-false (x % half) p.halves.low real (rw (tries n w i.known.1) (e ∙ sym i.halves.1)) in
      go_on p.place.value (low_of x) i (at-ask low (of_bit legal)) i.known.0 (λ z. someone-waits z) (low-made n w ws legal differs)
      telling_low i.small i.known (i.halves.0, refl)
      (quiet_told (write_low (x % half)) (Told (ask (bit n) low) a.name p.halves) (Told (ask (bit n) reply) a.name (low_of x)) vs
      (λ v e. (e.0, refl)) i.heard)

  -- the writes before baptizing
  at-name_moves : Moves names vs give_name p a
  unfolding move_on wrote round_at after_place counting unnamed_change past
  at-name_moves i real =
      go_on p.place.value p.halves i at_name i.known.0 (λ z. someone-waits z) (omega arith) telling_name i.small i.known i.halves
      (quiet_told (write_name a.name) (Told give_name a.name p.halves) (Told give_high a.name p.halves) vs (λ v e. (refl, e.0, e.1))
      i.heard)

  -- the high half of the value is always the last one
  high_repeated : Found 0 p.place.value (w ∷ ws) → p.halves.high ≡ last_try 0 w / half → p.place.value / half ≡ p.halves.high
  high_repeated f e = ap (λ (x : ℕ). x / half) (f ∙ cleared_none w) ∙ given-high w ∙ sym e

  -- the low half differs from the last one
  low-differs :
      Found 0 p.place.value (w ∷ ws) → p.halves.low ≡ last_try 0 w % half → eqb (p.place.value % half) p.halves.low ≡ false →
      w % half ≡ last_try 0 w % half → ⊥
  low-differs f e real same = eqb-false _ _ real (ap (λ (x : ℕ). x % half) (f ∙ cleared_none w) ∙ same ∙ sym e)

  at-give-high_moves : Moves names vs give_high p a
  unfolding round_at is_first is_repeated both
  at-give-high_moves i real = absurd (eqb-false (p.place.value / half) p.halves.high real (high_repeated i.known.1 i.halves.0))

  at-give-low_moves : Moves names vs give_low p a
  unfolding move_on wrote round_at after_place counting unnamed_change is_first is_repeated both
  at-give-low_moves i real =
      let x = p.place.value in
      go_on x (low_of x) i at_low i.known.0 (λ z. someone-waits z) (give-low-made w ws (low-differs i.known.1 i.halves.1 real)) telling_low i.small
      i.known (i.halves.0, refl)
      (quiet_told (write_low (x % half)) (Told give_low a.name p.halves) (Told baptize a.name (low_of x)) vs (λ v e. (e.0, e.1, refl)) i.heard)

  -- the execute of a comparison, and baptizing
  waiting : (l : PassPlace) → At names vs l p a → Wait (w ∷ ws) (map named_of vs)
  unfolding Wait
  waiting l i = rw i.views i.facts.waits

  replied_by : (q : Question) → At names vs (ask q reply) p a → answers compare vs ≡ leb (tried q p.place.value) w
  unfolding OfUnnamed
  replied_by q i =
      compare-answers (tried q p.place.value) w ws vs (waiting (ask q reply) i) (fall_first i.facts.falls)
      (rw i.views (all_first i.facts.there))
      (all_map (λ (v : SlaveView) e u. both_halves v (e u) i.halves) i.heard)

  at-least_moves : Moves names vs (ask least reply) p a
  unfolding move_on wrote round_at after_place counting past unnamed_change
  at-least_moves i real =
      let r : answers compare vs ≡ true = replied_by least i ∙ zero_least p.place.value w in
      rw r
      (go_on 0 p.halves i (at-ask reply of_least) i.known.0 (λ z. someone-waits z) (omega (arith, high_again_one (w ∷ ws))) comparing (omega arith)
      (i.known.0, sym (cleared_all w (all_first i.facts.small)))
      (first_halves i.halves)
      (quiet_told compare (Told (ask least reply) a.name p.halves) (Told (ask (bit 63) high) a.name p.halves) vs (λ v e. e) i.heard))
    where
      first_halves :
          {h l : ℕ} → (h ≡ tried least p.place.value / half) × (l ≡ tried least p.place.value % half) →
          (h ≡ last_try bits w / half) × (l ≡ last_try bits w % half)
      first_halves e = (e.0 ∙ unfold tried last_try in refl, e.1 ∙ unfold tried last_try in refl)

  at-bit_moves : (n : ℕ) → n < bits → Moves names vs (ask (bit n) reply) p a
  unfolding move_on wrote round_at after_place counting unnamed_change
  at-bit_moves n legal i real =
      rw (replied_by (bit n) i)
      (go_on found p.halves i (at-ask reply (of_bit legal)) i.known.0 (λ z. someone-waits z) (past_reply (w ∷ ws) n legal) comparing small
      (known-after-bit n a.name a.held found (w ∷ ws) i.known.0 (answered n w p.place.value i.known.1))
      (halves-after-bit n found w p.halves (rw (tries n w i.known.1, ← try_here n w legal) at i.halves))
      (quiet_told compare (Told (ask (bit n) reply) a.name p.halves) (Told (after_bit n) a.name p.halves) vs
      (told-after-bit n a.name p.halves) i.heard))
    where
      found : ℕ
      found = cond (leb (tried (bit n) p.place.value) w) (tried (bit n) p.place.value) p.place.value

      small : found < 2 ^ bits
      small = cond_small (leb (tried (bit n) p.place.value) w) (tried-small (of_bit legal) p.place.value i.small) i.small

  at-baptize_moves : Moves names vs baptize p a
  unfolding move_on wrote round_at compared OfUnnamed
  at-baptize_moves i real =
      let e : suc a.k ≡ naming_rounds w = ap suc i.made ∙ past_last w ws in
      let x : p.place.value ≡ w = i.known.1 ∙ cleared_none w in
      rw (giving-round a.name a.others w ws a.slaves a.held a.rounds a.done a.k i.known.0 e)
      (next-name p a a.others ws (map (give w a.name) a.slaves) naming_comparisons (give-greatest i.facts) i.here
      (baptize-names a.name w ws vs (waiting baptize i)
      (all_map (λ (v : SlaveView) e u. ((e u).0, both_halves v ((e u).1, (e u).2) i.halves ∙ x)) i.heard)
      ∙ ap (map (give w a.name)) i.views)
      i.small i.rounds i.counted)

  -- a round really made before the last one leaves the last one to be made
  pub inner_short : {l : PassPlace} → Inner l → At names vs l p a → needless_at l a.name p ≡ false → suc a.k < naming_rounds w
  unfolding past naming_rounds high_again is_first is_repeated round_at both
  inner_short at-poll i real = omega (arith, i.made)
  inner_short (at-ask high of_least) i real = omega (arith, i.made)
  inner_short (at-ask low of_least) i real = omega (arith, i.made)
  inner_short (at-ask reply of_least) i real = omega (arith, i.made)
  inner_short (at-ask high (of_bit legal)) i real = omega (arith, i.made)
  inner_short (at-ask low (of_bit legal)) i real = omega (arith, i.made)
  inner_short (at-ask reply (of_bit legal)) i real = omega (arith, i.made)
  inner_short at_name i real = omega (arith, i.made)
  inner_short at_high i real = absurd (eqb-false (p.place.value / half) p.halves.high real (high_repeated i.known.1 i.halves.0))
  inner_short at_low i real = omega (arith, i.made, low_again w (low-differs i.known.1 i.halves.1 real))

-- the comparison with 0 while nobody waits: "all named"
at-end_moves : (names : List ℕ) (vs : List SlaveView) (p : Position) (b : Pass) → Moves names vs (ask least reply) p (waited_for [] b)
unfolding move_on wrote round_at past compared end_all_named Wait
at-end_moves names vs p b i real =
    let e : suc b.k ≡ ending_rounds = ap suc i.made in
    let w : Wait [] (map named_of vs) = rw i.views i.facts.waits in
    rw (compare_silent vs w, ending-round b.name b.others b.slaves b.held b.rounds b.done b.k i.known.0 e)
    (at-end {a = account (b.name ∷ b.others) [] b.slaves b.held 1 (suc b.rounds) b.done (suc b.k)}
    (record {
      views = quiet_names comparing vs ∙ i.views;
      end = refl;
      some = omega arith;
      most = omega arith;
      within = omega (arith, length-here names p.place.index b.name b.others i.here);
      rounds = ap suc i.rounds;
      counted = rw (e, one-compared (high_again [])) (omega (arith, i.counted));
    }))

moves_waited : (names : List ℕ) (vs : List SlaveView) (l : PassPlace) (p : Position) (ws : List ℕ) (a : Pass) → LegalPlace l → Moves names vs l p (waited_for ws a)
moves_waited names vs l p ws a (inner at-poll) i real = at-poll_moves names vs p (waited_for ws a) i real
moves_waited names vs l p ws a (inner (at-ask high of_least)) i real = at-first-high names vs p (waited_for ws a) i real
moves_waited names vs l p ws a (inner (at-ask low of_least)) i real = at-first-low names vs p (waited_for ws a) i real
moves_waited names vs l p [] a (inner (at-ask reply of_least)) i real = at-end_moves names vs p a i real
moves_waited names vs l p (w ∷ ws) a (inner (at-ask reply of_least)) i real = at-least_moves names vs p w ws a i real
moves_waited names vs l p [] a (inner (at-ask r (of_bit legal))) i real = absurd (nobody-asked r i)
  where
    nobody-asked : {b : ℕ} (r : Part) → At names vs (ask (bit b) r) p (waited_for [] a) → ⊥
    nobody-asked high i = i.known.1
    nobody-asked low i = i.known.1
    nobody-asked reply i = i.known.1
moves_waited names vs l p (w ∷ ws) a (inner (at-ask high (of_bit {b = b} legal))) i real = at-high_moves names vs p w ws a b legal i real
moves_waited names vs l p (w ∷ ws) a (inner (at-ask low (of_bit {b = b} legal))) i real = at-low_moves names vs p w ws a b legal i real
moves_waited names vs l p (w ∷ ws) a (inner (at-ask reply (of_bit {b = b} legal))) i real = at-bit_moves names vs p w ws a b legal i real
moves_waited names vs l p [] a (inner at_name) i real = absurd i.known.1
moves_waited names vs l p [] a (inner at_high) i real = absurd i.known.1
moves_waited names vs l p [] a (inner at_low) i real = absurd i.known.1
moves_waited names vs l p [] a at-baptize i real = absurd i.known.1
moves_waited names vs l p (w ∷ ws) a (inner at_name) i real = at-name_moves names vs p w ws a i real
moves_waited names vs l p (w ∷ ws) a (inner at_high) i real = at-give-high_moves names vs p w ws a i real
moves_waited names vs l p (w ∷ ws) a (inner at_low) i real = at-give-low_moves names vs p w ws a i real
moves_waited names vs l p (w ∷ ws) a at-baptize i real = at-baptize_moves names vs p w ws a i real

pub moves : (names : List ℕ) (vs : List SlaveView) (l : PassPlace) (p : Position) (a : Pass) → LegalPlace l → Moves names vs l p a
moves names vs l p a = moves_waited names vs l p a.waiting a

-- a fresh run
pub fresh_at :
    (vs : List SlaveView) (names ws : List ℕ) (slaves : List Named) (held : List ℕ) → Facts names ws slaves held → map named_of vs ≡ slaves →
    Tie names vs (fresh names) (account names ws slaves held (end_with names) 0 0 0)
unfolding fresh end_at end_with past compared step_of is_needless round_here is_first is_repeated round_at place_of both
fresh_at vs [] ws slaves held f v =
    over {a = account [] ws slaves held 2 0 0 0}
    (record {
      views = v;
      end = refl;
      some = omega arith;
      most = omega arith;
      within = omega arith;
      rounds = refl;
      counted = omega (arith, none-compared (high_again ws));
    })
fresh_at vs (n ∷ ns) ws slaves held f v =
    let l : 0 < suc (length ns) = omega arith in
    let first : Pass = record { name = n; others = ns; waiting = ws; slaves = slaves; held = held; rounds = 0; done = 0; k = 0 } in
    going {l = poll} {a = first}
    (record {
      runs = rw (lt-ltb 0 (suc (length ns)) l);
      legal = inner at-poll;
      facts = f;
      here = refl;
      place = refl;
      made = refl;
      rounds = refl;
      counted = refl;
      views = v;
      known = tt;
      halves = tt;
      heard = nothing-told (λ v. Unit {0}) vs (λ v. tt);
      small = omega arith;
    })
    refl
