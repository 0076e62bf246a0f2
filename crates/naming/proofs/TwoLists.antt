-- A run over A and then one over B leave the names of one run over A followed by B; and every run ends.
-- Assumes nothing.
use Rattle.std.proofs.Common.{ℕ, zero, suc, ◌+◌, ◌≤◌, ◌<◌, ◌≡◌, refl, sym, ap, ap₂, ◌∙◌, List, [], ◌∷◌, ◌++◌, map, append_assoc, Bool, true, false, cond, arith, length, replicate, drop, eqb, eqb-true, ne_eqb, le-ltb}
use lib.ListN.{length-replicate}
use Rattle.file.specs.Rules.Bytes.{Bytes, All, All.all_empty, All.all_next as also}
use Rattle.file.specs.Rules.Order.{first_of, both, either}
use Rattle.file.specs.Rules.Cluster.{unnamed}
use Rattle.file.specs.Rules.Decode.{decode}
use Rattle.file.specs.Rules.Legal.{Distinct}
use Rattle.file.specs.Rules.FileGrounds.{is_among, has_repeat, file_ground}
use Rattle.file.proofs.Order.{by_case, clash, either_false, either_false_left, either_false_right, both_false_right}
use Rattle.file.proofs.Accepted.{accepted-legal}
use Rattle.file.proofs.Bytes.{all_append, all_map}
use Rattle.cluster.specs.Rules.RoundGrounds.{short_answer}
use Rattle.master_slave.specs.Rules.Bus.{slots}
use Rattle.cluster.specs.Rules.Summary.{without, wrong_summary}
use Rattle.naming.specs.Rules.Position.{Position, fresh}
use Rattle.naming.specs.Rules.RunGrounds.{unfit_name, names_grounds, start_ground}
use Rattle.naming.specs.Rules.Account.{Named, Account, Call, step, frame, arguments_ground, account_call, account_after, account_of}
use Rattle.naming.specs.Rules.Account.{one_round, extra, pass_on, pass, free_pass, pass_done, go_on_lem, give, falling, unnamed_among}
use Rattle.naming.specs.Rules.Account.{names_held, names_in_lem, naming_rounds, ending_rounds}
use Rattle.naming.specs.Rules.Figures.{free_names, givings, renamed, names_after}
use Rattle.naming.specs.Claims.Demand.{State, start_on, call_on, permitted, after_calls, OfBytes, of_step}
use Rattle.naming.specs.Claims.PermittedRounds.{file_after, IsStep, is-step}
use Rattle.naming.specs.Claims.TwoLists.{NoCommon, TwoLists, JoinedAccepted, CommonRefused, step_taken, steps_taken, RunsEnd}
use Rattle.naming.specs.Claims.TwoLists.{LongStep, long, EveryRunEnds}
use Rattle.naming.proofs.Facts.{Falling, Falling.end as lowest, Falling.next as below, Facts, physicals, fall_first, all_among}
use Rattle.naming.proofs.Facts.{not_among, among_here, among_next, drop-taken, give_physicals, give-greatest}
use Rattle.naming.proofs.Sorted.{among_falling, falling-falls}
use Rattle.naming.proofs.Start.{Slaves, Names, distinct_unnamed, start-facts}
use Rattle.naming.proofs.AccountRounds.{account}
use Rattle.naming.proofs.Tally.{Tally, in-pass, ended, finally, no_names, all_stay, given_now, free_taken, tally_round, ended_stays}
use Rattle.naming.proofs.Abstract.{tally_running}
use Rattle.naming.proofs.Demand.{tally_start}
use Rattle.naming.proofs.FromFile.{legal-slaves, accepted-names}
use Rattle.naming.proofs.OverBytes.{demand_3, throughout, bytes_after}
use Rattle.naming.proofs.Lists.{steps-permitted}

-- ---- who waits is who is unnamed, in falling order

-- two falling lists of the same numbers are one
fall_head : {p q : ℕ} {ps qs : List ℕ} → Falling (p ∷ ps) → Falling (q ∷ qs) → is_among q (p ∷ ps) ≡ true → q ≤ p
fall_head {p} {q} {ps} (below h f) g e =
    by_case (eqb q p)
    (λ t. omega (arith, eqb-true q p t))
    (λ t. let l : q < p = all_among q h (sym (among_next q p ps t) ∙ e) in omega arith)

pub falling_unique : {ps qs : List ℕ} → Falling ps → Falling qs → ((x : ℕ) → is_among x ps ≡ is_among x qs) → ps ≡ qs
unfolding is_among
falling_unique lowest lowest same = refl
falling_unique lowest (below {p = q} {ps = qs} h g) same = clash (same q ∙ among_here q qs) refl
falling_unique (below {p = p} {ps = ps} h f) lowest same = clash (sym (same p) ∙ among_here p ps) refl
falling_unique (below {p = p} {ps = ps} h f) (below {p = q} {ps = qs} k g) same =
    let least = fall_head (below h f) (below k g) (same q ∙ among_here q qs) in
    let most = fall_head (below k g) (below h f) (sym (same p) ∙ among_here p ps) in
    let first : p ≡ q = omega (arith, least, most) in
    ap₂ (λ (x : ℕ) (l : List ℕ). x ∷ l) first
    (falling_unique f g
    (λ x.
    by_case (eqb x p)
    (λ t. rw (eqb-true x p t) (not_among p h ∙ sym (rw first (not_among q k))))
    (λ t. sym (among_next x p ps t) ∙ same x ∙ among_next x q qs (rw first at t))))

join_yes : (a b c w : Bool) → b ≡ both c w → (a ≡ true → w ≡ true) → either a b ≡ both (either a c) w
unfolding either both
join_yes true b c w e h = sym (h refl)
join_yes false b c w e h = e

join_no : (a b c w : Bool) → b ≡ both c w → (a ≡ true → w ≡ false) → b ≡ both (either a c) w
unfolding either both
join_no true b true w e h = e
join_no true b false w e h = e ∙ sym (h refl)
join_no false b c w e h = e

-- by the facts a physical name is that of an unnamed slave if a slave has it and it waits
unnamed-among :
    (x : ℕ) (ws : List ℕ) {ss : List Named} → All (λ (s : Named). eqb s.logical unnamed ≡ is_among s.physical ws) ss →
    is_among x (unnamed_among ss) ≡ both (is_among x (physicals ss)) (is_among x ws)
unfolding unnamed_among physicals is_among
unnamed-among x ws all_empty = unfold both in refl
unnamed-among x ws (also {a = s} {l = ss} e h) =
    let rest = unnamed-among x ws h in
    by_case (eqb s.logical unnamed)
    (λ t.
    rw t
    (join_yes (eqb x s.physical) (is_among x (unnamed_among ss)) (is_among x (physicals ss)) (is_among x ws) rest
    (λ u. rw (eqb-true x s.physical u) (sym e ∙ t))))
    (λ t.
    rw t
    (join_no (eqb x s.physical) (is_among x (unnamed_among ss)) (is_among x (physicals ss)) (is_among x ws) rest
    (λ u. rw (eqb-true x s.physical u) (sym e ∙ t))))

module _ {left ws : List ℕ} {ss : List Named} {held : List ℕ} (d : Distinct (physicals ss)) (f : Facts left ws ss held) where
  waiting_among : (x : ℕ) → is_among x ws ≡ is_among x (falling (unnamed_among ss))
  waiting_among x =
      sym
      (among_falling x (unnamed_among ss) ∙ unnamed-among x ws f.waits
      ∙ by_case {P = both (is_among x (physicals ss)) (is_among x ws) ≡ is_among x ws} (is_among x ws)
      (λ t. rw (t, all_among x f.there t) (unfold both in refl))
      (λ t. rw t (both_false_right (is_among x (physicals ss)) refl)))

  pub waiting-unnamed : ws ≡ falling (unnamed_among ss)
  waiting-unnamed = falling_unique f.falls (falling-falls (distinct_unnamed ss d)) waiting_among

-- ---- the names

pub free-same :
    (held now : List ℕ) {names : List ℕ} → All (λ (n : ℕ). is_among n held ≡ is_among n now) names →
    free_names held names ≡ free_names now names
unfolding free_names
free-same held now all_empty = refl
free-same held now (also e h) = rw (e, free-same held now h)

-- what the names from here on come to is what a run from here comes to
from-here :
    {names ws : List ℕ} {ss : List Named} {held : List ℕ} → Distinct (physicals ss) → Facts names ws ss held →
    finally held names ws ss ≡ names_after ss names
unfolding finally names_after
from-here {ss = ss} {held} d f =
    ap₂ (λ (w fs : List ℕ). map (renamed (givings w fs)) ss) (waiting-unnamed d f) (free-same held (names_held ss) f.taken)

pub none_left : (held ws : List ℕ) (ss : List Named) → finally held [] ws ss ≡ ss
unfolding finally free_names
none_left held ws ss = rw (no_names ws) (all_stay ss)

pub none-waits : (held names : List ℕ) (ss : List Named) → finally held names [] ss ≡ ss
unfolding finally givings
none-waits held names ss = all_stay ss

module _ (held : List ℕ) (n : ℕ) (ns : List ℕ) where
  pub first_taken : (ws : List ℕ) (ss : List Named) → is_among n held ≡ true → finally held (n ∷ ns) ws ss ≡ finally held ns ws ss
  unfolding finally
  first_taken ws ss t = ap (λ (fs : List ℕ). map (renamed (givings ws fs)) ss) (free_taken n ns held t)

  pub first-given :
      (p : ℕ) (ps : List ℕ) (ss : List Named) → is_among p ps ≡ false → is_among n held ≡ false →
      finally held (n ∷ ns) (p ∷ ps) ss ≡ finally held ns ps (map (give p n) ss)
  unfolding finally free_names
  first-given p ps ss absent t = rw t (sym (given_now p n ps (free_names held ns) absent ss))

-- B's names given after A's leave what the names of both lists leave
after_both :
    (A B ws held : List ℕ) (ss : List Named) → Distinct (physicals ss) → Facts (A ++ B) ws ss held →
    names_after (finally held A ws ss) B ≡ finally held (A ++ B) ws ss
after_both [] B ws held ss d f = ap (λ (l : List Named). names_after l B) (none_left held ws ss) ∙ sym (from-here d f)
after_both (n ∷ ns) B [] held ss d f =
    ap (λ (l : List Named). names_after l B) (none-waits held (n ∷ ns) ss)
    ∙ nobody (waiting-unnamed d f) ∙ sym (none-waits held ((n ∷ ns) ++ B) ss)
  where
    nobody : [] ≡ falling (unnamed_among ss) → names_after ss B ≡ ss
    nobody e = unfold names_after givings in
        (ap (λ (w : List ℕ). map (renamed (givings w (free_names (names_held ss) B))) ss) (sym e) ∙ all_stay ss)
after_both (n ∷ ns) B (p ∷ ps) held ss d f =
    by_case (is_among n held)
    (λ t.
    ap (λ (l : List Named). names_after l B) (first_taken held n ns (p ∷ ps) ss t)
    ∙ after_both ns B (p ∷ ps) held ss d (drop-taken f) ∙ sym (first_taken held n (ns ++ B) (p ∷ ps) ss t))
    (λ t.
    let absent : is_among p ps ≡ false = not_among p (fall_first f.falls) in
    ap (λ (l : List Named). names_after l B) (first-given held n ns p ps ss absent t)
    ∙ after_both ns B ps held (map (give p n) ss) (rw (give_physicals p n ss) d) (give-greatest f)
    ∙ sym (first-given held n (ns ++ B) p ps ss absent t))

-- ---- what the names before it leave for B

drop_all :
    (A : List ℕ) {B ws held : List ℕ} {ss : List Named} → Facts (A ++ B) ws ss held → Facts B ws ss held
drop_all [] f = f
drop_all (n ∷ A) f = drop_all A (drop-taken f)

pub facts-after :
    (A B ws held : List ℕ) (ss : List Named) → Facts (A ++ B) ws ss held →
    Facts B (drop (length (free_names held A)) ws) (finally held A ws ss) held
unfolding free_names
facts-after [] B ws held ss f = rw (none_left held ws ss) f
facts-after (n ∷ ns) B [] held ss f =
    by_case (is_among n held)
    (λ t. rw (t, first_taken held n ns [] ss t) (facts-after ns B [] held ss (drop-taken f)))
    (λ t. rw (t, none-waits held (n ∷ ns) ss) (drop_all (n ∷ ns) f))
facts-after (n ∷ ns) B (p ∷ ps) held ss f =
    by_case (is_among n held)
    (λ t. rw (t, first_taken held n ns (p ∷ ps) ss t) (facts-after ns B (p ∷ ps) held ss (drop-taken f)))
    (λ t.
    rw (t, first-given held n ns p ps ss (not_among p (fall_first f.falls)) t)
    (facts-after ns B ps held (map (give p n) ss) (give-greatest f)))

pub renamed_physicals : (gs ss : List Named) → physicals (map (renamed gs) ss) ≡ physicals ss
unfolding physicals renamed
renamed_physicals gs [] = refl
renamed_physicals gs (s ∷ ss) = ap (λ (l : List ℕ). s.physical ∷ l) (renamed_physicals gs ss)

pub at-start : (ss : List Named) (names : List ℕ) → names_after ss names ≡ finally (names_held ss) names (falling (unnamed_among ss)) ss
unfolding names_after finally
at-start ss names = refl

pub names-after-both :
    (ss : List Named) (A B : List ℕ) → Slaves ss → Names (A ++ B) → names_after (names_after ss A) B ≡ names_after ss (A ++ B)
names-after-both ss A B s n =
    ap (λ (l : List Named). names_after l B) (at-start ss A)
    ∙ after_both A B (falling (unnamed_among ss)) (names_held ss) ss s.different (start-facts ss (A ++ B) s n) ∙ sym (at-start ss (A ++ B))

-- ---- the two lists joined

unfit_append : (A B : List ℕ) → unfit_name A ≡ false → unfit_name B ≡ false → unfit_name (A ++ B) ≡ false
unfolding unfit_name
unfit_append [] B p q = q
unfit_append (n ∷ A) B p q = either_false (either_false_left _ (unfit_name A) p) (unfit_append A B (either_false_right _ (unfit_name A) p) q)

among_append : (n : ℕ) (A B : List ℕ) → is_among n A ≡ false → is_among n B ≡ false → is_among n (A ++ B) ≡ false
unfolding is_among
among_append n [] B p q = q
among_append n (m ∷ A) B p q =
    either_false (either_false_left (eqb n m) (is_among n A) p) (among_append n A B (either_false_right (eqb n m) (is_among n A) p) q)

other-append : (n : ℕ) (A B : List ℕ) → is_among n (A ++ B) ≡ false → is_among n B ≡ false
unfolding is_among
other-append n [] B p = p
other-append n (m ∷ A) B p = other-append n A B (either_false_right (eqb n m) (is_among n (A ++ B)) p)

repeat_append : (A B : List ℕ) → has_repeat A ≡ false → has_repeat B ≡ false → NoCommon A B → has_repeat (A ++ B) ≡ false
unfolding has_repeat
repeat_append [] B p q all_empty = q
repeat_append (n ∷ A) B p q (also other rest) =
    either_false (among_append n A B (either_false_left (is_among n A) (has_repeat A) p) other)
    (repeat_append A B (either_false_right (is_among n A) (has_repeat A) p) q rest)

pub joined-names : {A B : List ℕ} → Names A → Names B → NoCommon A B → Names (A ++ B)
joined-names {A} {B} a b apart =
    record {
      bytes = all_append a.bytes b.bytes;
      fit = unfit_append A B a.fit b.fit;
      different = repeat_append A B a.different b.different apart;
    }

apart-append : (A B : List ℕ) → has_repeat (A ++ B) ≡ false → NoCommon A B
unfolding has_repeat
apart-append [] B p = all_empty
apart-append (n ∷ A) B p =
    also (other-append n A B (either_false_left (is_among n (A ++ B)) (has_repeat (A ++ B)) p))
    (apart-append A B (either_false_right (is_among n (A ++ B)) (has_repeat (A ++ B)) p))

pub joined_ground : {A B : List ℕ} → Names A → Names B → NoCommon A B → start_ground (A ++ B) ≡ 0
unfolding start_ground names_grounds first_of
joined_ground a b apart = let n = joined-names a b apart in rw (n.fit, n.different)

pub common_refused : CommonRefused
unfolding start_ground names_grounds first_of
common_refused A B a b ga gb common =
    let fits = unfit_append A B (accepted-names A a ga).fit (accepted-names B b gb).fit in
    by_case (has_repeat (A ++ B)) (λ t. rw (fits, t)) (λ t. absurd (common (apart-append A B t)))

pub joined-accepted : JoinedAccepted
joined-accepted A B a b ga gb = (
  λ g. apart-append A B (accepted-names (A ++ B) (all_append a b) g).different,
  λ apart. joined_ground (accepted-names A a ga) (accepted-names B b gb) apart,
)

-- ---- the theorem

pub two_lists : TwoLists
two_lists file b g A B ba bb ga gb apart first second whole one two all =
    let slaves : Slaves (names_in_lem (decode file)) = legal-slaves (decode file) (accepted-legal file b g) in
    let joined : Names (A ++ B) = joined-names (accepted-names A ba ga) (accepted-names B bb gb) apart in
    let d = demand_3 file b g A ba ga first one.bytes one.may in
    let left : Bytes (file_after file A first) = bytes_after file b g A ba ga first one.bytes one.may in
    let e = demand_3 (file_after file A first) left d.accepted B bb gb second two.bytes two.may in
    let h = demand_3 file b g (A ++ B) (all_append ba bb) ((joined-accepted A B ba bb ga gb).1 apart) whole all.bytes all.may in
    e.outcome.named two.ended
    ∙ ap (λ (l : List Named). names_after l B) (d.outcome.named one.ended)
    ∙ names-after-both (names_in_lem (decode file)) A B slaves joined
    ∙ sym (h.outcome.named all.ended)

-- ---- every run ends

-- the steps that the account counts, "that no numbered ground refuses for those arguments"
unfoldable pub account_step : Account → Call → ℕ
account_step a (step arguments) = cond (eqb (arguments_ground a.slaves arguments) 0) 1 0
account_step a (frame arguments) = 0

unfoldable pub account_steps : Account → List Call → ℕ
account_steps a [] = 0
account_steps a (c ∷ cs) = account_step a c + account_steps (account_call a c) cs

module _ (n : ℕ) (ns : List ℕ) (slaves : List Named) (held : List ℕ) (rounds done k : ℕ) where
  pass-counts : (ws : List ℕ) → (pass_on (account (n ∷ ns) ws slaves held 0 rounds done k)).rounds ≡ suc rounds
  unfolding pass_on pass free_pass pass_done go_on_lem
  pass-counts [] =
      by_case (is_among n held) (λ t. rw t) (λ t. rw t (by_case (eqb (suc k) ending_rounds) (λ u. rw u) (λ u. rw u)))
  pass-counts (p ∷ ps) =
      by_case (is_among n held) (λ t. rw t) (λ t. rw t (by_case (eqb (suc k) (naming_rounds p)) (λ u. rw u) (λ u. rw u)))

  -- the extra read counts too
  round-counts : (ws : List ℕ) → (one_round (account (n ∷ ns) ws slaves held 0 rounds done k)).rounds ≡ suc rounds
  unfolding one_round extra both
  round-counts ws = by_case (eqb rounds 0) (λ t. rw t) (λ t. rw t (pass-counts ws))

module _ (R C : ℕ) (F : List Named) where
  -- a step after the end changes nothing
  ended-round :
      (left ws : List ℕ) (slaves : List Named) (held : List ℕ) (end rounds done k : ℕ) → 0 < end →
      one_round (account left ws slaves held end rounds done k) ≡ account left ws slaves held end rounds done k
  unfolding one_round both
  ended-round left ws slaves held end rounds done k h =
      let n : end ≡ 0 → ⊥ = omega arith in rw (ne_eqb end 0 n) (ended_stays R C F left ws slaves held end rounds done k h)

  fewer-due : {a : Account} (n : ℕ) → Tally R C F a → R ≤ a.rounds + suc n → R ≤ (one_round a).rounds + n
  fewer-due n (in-pass {n = m} {rounds = rounds} {done = done} {k = k} {ns = ns} {ws = ws} {held = held} {slaves = slaves} d) enough =
      omega (arith, round-counts m ns slaves held rounds done k ws)
  fewer-due n (ended {end = end} {rounds = rounds} {done = done} {k = k} {left = left} {ws = ws} {held = held} {slaves = slaves} d) enough =
      rw (ended-round left ws slaves held end rounds done k d.some) (omega (arith, d.all))

  tally_call : {a : Account} → Tally R C F a → (c : Call) → Tally R C F (account_call a c)
  unfolding account_call
  tally_call {a} t (step arguments) =
      by_case (eqb (arguments_ground a.slaves arguments) 0) (λ z. rw z (tally_round R C F t)) (λ z. rw z t)
  tally_call t (frame arguments) = t

  call-due : {a : Account} (n : ℕ) → Tally R C F a → (c : Call) → R ≤ a.rounds + (account_step a c + n) → R ≤ (account_call a c).rounds + n
  unfolding account_call account_step
  call-due {a} n t (step arguments) enough =
      by_case (eqb (arguments_ground a.slaves arguments) 0)
      (λ z. let left : R ≤ a.rounds + (1 + n) = rw z at enough in rw z (fewer-due n t (omega arith)))
      (λ z. let left : R ≤ a.rounds + (0 + n) = rw z at enough in rw z (omega arith))
  call-due n t (frame arguments) enough = omega (arith, enough)

  rounds-suffice :
      (calls : List Call) {a : Account} → Tally R C F a → R ≤ a.rounds + account_steps a calls → (account_after a calls).end ≡ 0 → ⊥
  unfolding account_after account_steps
  rounds-suffice [] t enough e = let s = (tally_running t e).rounds in omega arith
  rounds-suffice (c ∷ cs) {a} t enough e =
      rounds-suffice cs (tally_call t c) (call-due (account_steps (account_call a c) cs) t c enough) e

  -- and no step counts more than one
  round-most : {a : Account} → Tally R C F a → (one_round a).rounds ≤ suc a.rounds
  round-most (in-pass {n = m} {rounds = rounds} {done = done} {k = k} {ns = ns} {ws = ws} {held = held} {slaves = slaves} d) =
      omega (arith, round-counts m ns slaves held rounds done k ws)
  round-most (ended {end = end} {rounds = rounds} {done = done} {k = k} {left = left} {ws = ws} {held = held} {slaves = slaves} d) =
      rw (ended-round left ws slaves held end rounds done k d.some) (omega arith)

  call-most : {a : Account} → Tally R C F a → (c : Call) → (account_call a c).rounds ≤ a.rounds + account_step a c
  unfolding account_call account_step
  call-most {a} t (step arguments) =
      by_case (eqb (arguments_ground a.slaves arguments) 0) (λ z. rw z (omega (arith, round-most t))) (λ z. rw z (omega arith))
  call-most t (frame arguments) = omega arith

  rounds-most : (calls : List Call) {a : Account} → Tally R C F a → (account_after a calls).rounds ≤ a.rounds + account_steps a calls
  unfolding account_after account_steps
  rounds-most [] t = omega arith
  rounds-most (c ∷ cs) {a} t = omega (arith, call-most t c, rounds-most cs (tally_call t c))

-- ---- the steps that no ground refuses are those that the account counts

after_next :
    (names : List ℕ) (s : State) (p : Position) (front : List Call) (c : Call) →
    after_calls names s p (front ++ c ∷ []) ≡ call_on names (after_calls names s p front).0 (after_calls names s p front).1 c
unfolding after_calls
after_next names s p [] c = refl
after_next names s p (d ∷ front) c = after_next names (call_on names s p d).0 (call_on names s p d).1 front c

account_next : (a : Account) (front : List Call) (c : Call) → account_after a (front ++ c ∷ []) ≡ account_call (account_after a front) c
unfolding account_after
account_next a [] c = refl
account_next a (d ∷ front) c = account_next (account_call a d) front c

module _ (file : List ℕ) (b : Bytes file) (g : file_ground file ≡ 0) (names : List ℕ) (n : Bytes names) (fit : start_ground names ≡ 0) where
  abbrev before : Account
  before = account_of (names_in_lem (decode file)) names

  abbrev now : List Call → State × Position
  now front = after_calls names (start_on file) (fresh names) front

  one-taken :
      (front more : List Call) → All OfBytes front → permitted names (start_on file) (fresh names) (front ++ more) ≡ true → (c : Call) →
      step_taken names (now front).0 (now front).1 c ≡ account_step (account_after before front) c
  unfolding step_taken account_step
  one-taken front more of-bytes may (step arguments) =
      let d = throughout file b g names n fit front more of-bytes may in rw (d.grounds arguments, d.logical)
  one-taken front more of-bytes may (frame arguments) = refl

  steps-counted :
      (front calls : List Call) → All OfBytes front → All OfBytes calls →
      permitted names (start_on file) (fresh names) (front ++ calls) ≡ true →
      steps_taken names (now front).0 (now front).1 calls ≡ account_steps (account_after before front) calls
  unfolding steps_taken account_steps
  steps-counted front [] of-front of_calls may = refl
  steps-counted front (c ∷ cs) of-front (also o os) may =
      let on : permitted names (start_on file) (fresh names) ((front ++ c ∷ []) ++ cs) ≡ true = rw (append_assoc front (c ∷ []) cs) may in
      let rest = steps-counted (front ++ c ∷ []) cs (all_append of-front (also o all_empty)) os on in
      ap₂ (λ (k l : ℕ). k + l) (one-taken front (c ∷ cs) of-front may c)
      (rw (after_next names (start_on file) (fresh names) front c, account_next before front c) at rest)

  pub counts_same :
      (calls : List Call) → All OfBytes calls → permitted names (start_on file) (fresh names) calls ≡ true →
      steps_taken names (start_on file) (fresh names) calls ≡ account_steps before calls
  counts_same calls of-bytes may = let e = steps-counted [] calls all_empty of-bytes may in unfold after_calls account_after in e

pub runs-end : RunsEnd
runs-end file b g names n fit calls of-bytes may =
    let d = demand_3 file b g names n fit calls of-bytes may in
    let same = counts_same file b g names n fit calls of-bytes may in
    let slaves : Slaves (names_in_lem (decode file)) = legal-slaves (decode file) (accepted-legal file b g) in
    let start = tally_start (names_in_lem (decode file)) names slaves (accepted-names names n fit) in
    let most = rounds-most _ _ _ calls start in
    let none : (account_of (names_in_lem (decode file)) names).rounds ≡ 0 = unfold account_of in refl in (
      λ enough.
          record {
            bytes = of-bytes;
            may = may;
            ended = λ e. rounds-suffice _ _ _ calls start (omega (arith, enough, same)) (sym d.end ∙ e);
          },
      λ to. omega (arith, most, same, none, d.rounds, d.outcome.ended to.ended),
    )

long-is-step : {c : Call} → LongStep c → IsStep c
long-is-step (long fits) = is-step

long_of_step : {c : Call} → LongStep c → OfBytes c
long_of_step (long fits) = of_step

-- steps with an answer buffer of 64 bytes or more and no summary are all taken
pub long-counted : (a : Account) {calls : List Call} → All LongStep calls → account_steps a calls ≡ length calls
unfolding account_steps account_step arguments_ground first_of wrong_summary short_answer
long-counted a all_empty = refl
long-counted a (also (long {buffer} fits) ls) =
    rw (le-ltb (length buffer) slots fits)
    (omega (arith, long-counted (account_call a (step (record { summary = without; buffer = buffer }))) ls))

pub long-only : {calls : List Call} → All LongStep calls → All IsStep calls
long-only ls = all_map (λ c l. long-is-step l) ls

pub long-bytes : {calls : List Call} → All LongStep calls → All OfBytes calls
long-bytes ls = all_map (λ c l. long_of_step l) ls

pub every_run-ends : EveryRunEnds
every_run-ends file b g names bytes accepted calls ls enough =
    let may : permitted names (start_on file) (fresh names) calls ≡ true =
    steps-permitted names (start_on file) (fresh names) (unfold start_on in refl) (long-only ls) in
    let same = counts_same file b g names bytes accepted calls (long-bytes ls) may in
    (runs-end file b g names bytes accepted calls (long-bytes ls) may).0
    (omega (arith, enough, same, long-counted (account_of (names_in_lem (decode file)) names) ls))

-- such steps with a buffer of 64 zeros
abbrev pub long_step : Call
long_step = step (record { summary = without; buffer = replicate slots 0 })

pub long-steps : (n : ℕ) → All LongStep (replicate n long_step)
long-steps zero = all_empty
long-steps (suc n) = also (long {buffer = replicate slots 0} (omega arith)) (long-steps n)

pub long_many : (n : ℕ) (a : Account) → account_steps a (replicate n long_step) ≡ n
long_many n a = long-counted a (long-steps n) ∙ length-replicate n long_step
