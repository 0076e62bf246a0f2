-- The account gives names that nobody holds: where no name other than 0xFF is held twice, none is after any calls. So a file that
-- loading accepts is accepted by it after demand 3's calls.
-- Assumes nothing.
use Rattle.std.proofs.Common.{ℕ, suc, ◌≡◌, refl, sym, ap, ◌∙◌, subst, List, [], ◌∷◌, map, Bool, true, false, cond, eqb, eqb-true, ne_eqb}
use borrow.Author.Tests.{eqb-false}
use Rattle.file.specs.Rules.Bytes.{Bytes}
use Rattle.file.specs.Rules.Cluster.{Cluster, logical_names, unnamed}
use Rattle.file.specs.Rules.Decode.{decode}
use Rattle.file.specs.Rules.Legal.{Distinct}
use Rattle.file.specs.Rules.Order.{both}
use Rattle.file.specs.Rules.FileGrounds.{is_among, has_repeat, held_names, load_ground}
use Rattle.file.proofs.Order.{by_case, either_false, either_false_left, either_false_right}
use Rattle.file.proofs.Bytes.{all_first}
use Rattle.file.proofs.AcceptedFacts.{among_not}
use Rattle.file.proofs.Accepted.{accepted-legal}
use Rattle.file.proofs.HeldLaws.{held_first, held-rest}
use Rattle.file.proofs.Results.{load_file, load_twice, load_once}
use Rattle.naming.specs.Rules.Position.{Position}
use Rattle.naming.specs.Rules.RunGrounds.{start_ground}
use Rattle.naming.specs.Rules.Account.{naming_rounds, naming_comparisons, ending_rounds, Named, names_in_lem, Account, account_of, give, go_on_lem, pass_done}
use Rattle.naming.specs.Rules.Account.{free_pass, pass, pass_on, extra, one_round, names_held, Call, step, frame, arguments_ground, account_call}
use Rattle.naming.specs.Rules.Account.{account_after}
use Rattle.naming.specs.Claims.Demand.{Demand}
use Rattle.naming.specs.Claims.Renaming.{StaysLoadable}
use Rattle.naming.proofs.Facts.{Facts, physicals, differs, differ_tail, drop-taken, give_physicals, give-greatest}
use Rattle.naming.proofs.Start.{Slaves, Names, start-facts}
use Rattle.naming.proofs.FromFile.{legal-slaves, accepted-names}
use Rattle.naming.proofs.ByteLaws.{names-held}
use Rattle.naming.proofs.OverBytes.{demand_3}

-- no name other than 0xFF is held twice
abbrev pub Once : List Named → Type 0
Once ss = has_repeat (held_names (names_held ss)) ≡ false

-- ---- a list of names with one in front

module _ (m a : ℕ) (l : List ℕ) where
  held-add : (eqb a unnamed ≡ false → eqb m a ≡ false) → is_among m (held_names l) ≡ false → is_among m (held_names (a ∷ l)) ≡ false
  unfolding is_among
  held-add apart e = by_case (eqb a unnamed) (λ u. rw (held-rest a l u) e) (λ u. rw (held_first a l u) (either_false (apart u) e))

  held_of_first : is_among m (held_names (a ∷ l)) ≡ false → eqb a unnamed ≡ false → eqb m a ≡ false
  unfolding is_among
  held_of_first e u = either_false_left (eqb m a) _ (rw (held_first a l u) at e)

  held_of_rest : is_among m (held_names (a ∷ l)) ≡ false → is_among m (held_names l) ≡ false
  unfolding is_among
  held_of_rest e =
      by_case (eqb a unnamed) (λ u. rw (held-rest a l u) at e) (λ u. either_false_right (eqb m a) _ (rw (held_first a l u) at e))

module _ (a : ℕ) (l : List ℕ) where
  once_add : (eqb a unnamed ≡ false → is_among a (held_names l) ≡ false) → has_repeat (held_names l) ≡ false → has_repeat (held_names (a ∷ l)) ≡ false
  unfolding has_repeat
  once_add new e = by_case (eqb a unnamed) (λ u. rw (held-rest a l u) e) (λ u. rw (held_first a l u) (either_false (new u) e))

  once_first : has_repeat (held_names (a ∷ l)) ≡ false → eqb a unnamed ≡ false → is_among a (held_names l) ≡ false
  unfolding has_repeat
  once_first e u = either_false_left (is_among a (held_names l)) _ (rw (held_first a l u) at e)

  once_rest : has_repeat (held_names (a ∷ l)) ≡ false → has_repeat (held_names l) ≡ false
  unfolding has_repeat
  once_rest e =
      by_case (eqb a unnamed) (λ u. rw (held-rest a l u) at e) (λ u. either_false_right (is_among a (held_names l)) _ (rw (held_first a l u) at e))

-- what a list does not hold at all it does not hold with 0xFF left out
held_among : (n : ℕ) (l : List ℕ) → is_among n l ≡ false → is_among n (held_names l) ≡ false
unfolding is_among held_names
held_among n [] e = refl
held_among n (m ∷ l) e = held-add n m l (λ _. either_false_left _ _ e) (held_among n l (either_false_right (eqb n m) _ e))

-- ---- one name given

module _ (p n : ℕ) where
  -- without the physical name nothing changes
  give-none : (ss : List Named) → is_among p (physicals ss) ≡ false → names_held (map (give p n) ss) ≡ names_held ss
  unfolding physicals names_held give is_among
  give-none [] e = refl
  give-none (s ∷ ss) e =
      let other : eqb s.physical p ≡ false = ne_eqb _ _ (λ z. eqb-false p s.physical (either_false_left _ _ e) (sym z)) in
      rw (other, give-none ss (either_false_right (eqb p s.physical) _ e))

  -- another name is held by nobody that did not hold it
  give-other : (m : ℕ) (ss : List Named) → (m ≡ n → ⊥) → is_among m (held_names (names_held ss)) ≡ false → is_among m (held_names (names_held (map (give p n) ss))) ≡ false
  unfolding names_held give
  give-other m [] other e = e
  give-other m (s ∷ ss) other e =
      let rest = give-other m ss other (held_of_rest m s.logical (names_held ss) e) in
      by_case (eqb s.physical p)
      (λ t. rw t (held-add m n (names_held (map (give p n) ss)) (λ _. ne_eqb m n other) rest))
      (λ t. rw t (held-add m s.logical (names_held (map (give p n) ss)) (held_of_first m s.logical (names_held ss) e) rest))

  -- the name given is new, so none is held twice
  give_once : (ss : List Named) → Distinct (physicals ss) → is_among n (names_held ss) ≡ false → Once ss → Once (map (give p n) ss)
  unfolding names_held give physicals is_among
  give_once [] d new once = once
  give_once (s ∷ ss) d new once =
      let free : is_among n (names_held ss) ≡ false = either_false_right (eqb n s.logical) _ new in
      let fewer : Once ss = once_rest s.logical (names_held ss) once in
      by_case (eqb s.physical p)
      (λ t.
      let gone : is_among p (physicals ss) ≡ false = rw (← eqb-true s.physical p t) (among_not s.physical (differs d)) in
      rw (t, give-none ss gone) (once_add n (names_held ss) (λ _. held_among n (names_held ss) free) fewer))
      (λ t.
      let own : s.logical ≡ n → ⊥ = λ z. eqb-false n s.logical (either_false_left _ _ new) (sym z) in
      rw t
      (once_add s.logical (names_held (map (give p n) ss))
      (λ u. give-other s.logical ss own (once_first s.logical (names_held ss) once u))
      (give_once ss (differ_tail d) free fewer)))

-- ---- the account

pub record Holds (a : Account) : Type 0 where
  pub facts : Facts a.left a.waiting a.slaves a.held
  pub different : Distinct (physicals a.slaves)
  pub once : Once a.slaves

either_way : {a b : Account} (t : Bool) → Holds a → Holds b → Holds (cond t a b)
either_way true p q = p
either_way false p q = q

goes_on : {a : Account} (end : ℕ) → Holds a → Holds (go_on_lem a end)
unfolding go_on_lem
goes_on end h = record { facts = h.facts; different = h.different; once = h.once }

name-taken : {a : Account} {n : ℕ} {ns : List ℕ} → a.left ≡ n ∷ ns → Holds a → Holds (pass_done a ns a.waiting a.slaves 0)
unfolding pass_done
name-taken {a} is h =
    record {
      facts = drop-taken (subst (λ (l : List ℕ). Facts l a.waiting a.slaves a.held) is h.facts);
      different = h.different;
      once = h.once;
    }

name-given : {a : Account} {n p : ℕ} {ns ps : List ℕ} (more : ℕ) → a.left ≡ n ∷ ns → a.waiting ≡ p ∷ ps → is_among n a.held ≡ false → Holds a →
    Holds (pass_done a ns ps (map (give p n) a.slaves) more)
unfolding pass_done
name-given {a} {n} {p} {ns} {ps} more is waits free h =
    let facts : Facts (n ∷ ns) (p ∷ ps) a.slaves a.held =
    subst (λ (l : List ℕ). Facts l (p ∷ ps) a.slaves a.held) is (subst (λ (l : List ℕ). Facts a.left l a.slaves a.held) waits h.facts) in
    record {
      facts = give-greatest facts;
      different = rw (give_physicals p n a.slaves) h.different;
      once = give_once p n a.slaves h.different (sym (all_first facts.taken) ∙ free) h.once;
    }

free-pass : (a : Account) (n : ℕ) (ns ws : List ℕ) → a.left ≡ n ∷ ns → a.waiting ≡ ws → is_among n a.held ≡ false → Holds a → Holds (free_pass a n ns ws)
unfolding free_pass
free-pass a n ns [] is waits free h = either_way (eqb (suc a.k) ending_rounds) (goes_on 1 h) (goes_on a.end h)
free-pass a n ns (p ∷ ps) is waits free h = either_way (eqb (suc a.k) (naming_rounds p)) (name-given naming_comparisons is waits free h) (goes_on a.end h)

one-pass : (a : Account) (left : List ℕ) → a.left ≡ left → Holds a → Holds (pass a left)
unfolding pass
one-pass a [] is h = h
one-pass a (n ∷ ns) is h =
    by_case (is_among n a.held) (λ t. rw t (name-taken is h)) (λ t. rw t (free-pass a n ns a.waiting is refl t h))

one-extra : (a : Account) → Holds a → Holds (extra a)
unfolding extra
one-extra a h = record { facts = h.facts; different = h.different; once = h.once }

one-call : (a : Account) (c : Call) → Holds a → Holds (account_call a c)
unfolding account_call one_round pass_on
one-call a (step arguments) h =
    either_way (eqb (arguments_ground a.slaves arguments) 0)
    (either_way (both (eqb a.end 0) (eqb a.rounds 0)) (one-extra a h) (either_way (eqb a.end 0) (one-pass a a.left refl h) h)) h
one-call a (frame arguments) h = h

all_calls : (a : Account) (calls : List Call) → Holds a → Holds (account_after a calls)
unfolding account_after
all_calls a [] h = h
all_calls a (c ∷ cs) h = all_calls (account_call a c) cs (one-call a c h)

account_start : (ss : List Named) (names : List ℕ) → Slaves ss → Names names → Once ss → Holds (account_of ss names)
unfolding account_of
account_start ss names s n once = record { facts = start-facts ss names s n; different = s.different; once = once }

-- ---- the file

once_by : (c : Cluster) → has_repeat (held_names (logical_names c)) ≡ has_repeat (held_names (names_held (names_in_lem c)))
once_by c = ap (λ (l : List ℕ). has_repeat (held_names l)) (sym (names-held c))

-- what demand 3 says of the logical names is enough
pub demand-loadable :
    {file names now : List ℕ} {calls : List Call} {p : Position} → Bytes file → load_ground file ≡ 0 → Bytes names → start_ground names ≡ 0 →
    Demand file names calls now p → load_ground now ≡ 0
demand-loadable {file} {names} {now} {calls} b loaded n accepted d =
    let start : Holds (account_of (names_in_lem (decode file)) names) =
    account_start (names_in_lem (decode file)) names (legal-slaves (decode file) (accepted-legal file b (load_file file loaded))) (accepted-names names n accepted)
    (sym (once_by (decode file)) ∙ load_once file loaded) in
    let after : Once (names_in_lem (decode now)) = rw d.logical (all_calls _ calls start).once in
    load_twice now d.accepted ∙ rw (once_by (decode now) ∙ after)

pub stays_loadable : StaysLoadable
stays_loadable file b loaded names n accepted calls of-bytes may =
    demand-loadable b loaded n accepted (demand_3 file b (load_file file loaded) names n accepted calls of-bytes may)
