-- The listing of an accepted file in closed form: the run ends within the steps that the listing makes, each line has the name, the
-- physical name of the slave that takes it and 65 comparisons, and the totals are the closed figures. The file is left with the names
-- that the run gives.
-- Assumes nothing.
use Rattle.std.proofs.Common.{ℕ, zero, suc, ◌+◌, ◌-◌, ◌*◌, ◌≤◌, ◌<◌, ◌≡◌, refl, sym, ap, ◌∙◌, List, [], ◌∷◌, ◌++◌, append-nil, append_assoc, true, false, cond, arith, zero-add, length, get_or, drop, get_or-drop, eqb, eq-eqb, ne_eqb, eqb-true}
use lib.ListN.{length-map}
use borrow.Author.Tests.{eqb-false}
use Rattle.file.specs.Rules.Bytes.{Bytes, All}
use Rattle.file.specs.Rules.Decode.{decode}
use Rattle.file.specs.Rules.FileGrounds.{file_ground, load_ground}
use Rattle.file.proofs.Results.{load_first, load_file}
use Rattle.file.specs.Rules.Legal.{Legal}
use Rattle.file.specs.Inner.Places.{slaves_room}
use Rattle.file.proofs.Width.{few-slaves}
use Rattle.file.proofs.Edition.{unknown_edition, refused-edition}
use Rattle.file.proofs.Accepted.{accepted-legal}
use Rattle.file.proofs.Order.{by_case, clash, both_true, both_false_right}
use Rattle.cluster.specs.Rules.RoundGrounds.{short_answer}
use Rattle.cluster.specs.Rules.Summary.{without, wrong_summary}
use Rattle.naming.specs.Inner.View.{SlaveView}
use Rattle.naming.specs.Rules.RunRounds.{sent}
use Rattle.naming.specs.Rules.Position.{Position, running, fresh}
use Rattle.naming.specs.Rules.Pass.{PassPlace, baptize, last_step}
use Rattle.naming.specs.Rules.Run.{next_round}
use Rattle.naming.specs.Rules.RunGrounds.{count_limit}
use Rattle.naming.specs.Inner.PassPlaces.{step_of}
use Rattle.file.specs.Rules.FileGrounds.{is_among}
use Rattle.naming.specs.Rules.Step.{StepDone, made_by_lem, step_ground, step_on}
use Rattle.cluster.specs.Rules.MasterSlave.{round_sent}
use Rattle.file.specs.Rules.Results.{Result, done}
use Rattle.file.specs.Rules.Order.{first_of}
use Rattle.naming.specs.Rules.Account.{StepArguments, step, arguments_ground}
use Rattle.naming.specs.Rules.Account.{Named, Account, names_of, names_in_lem, account_of, account_call, account_after, one_round, comparisons_of, high_again, falling}
use Rattle.naming.specs.Rules.Account.{unnamed_among, names_held, naming_comparisons, ending_rounds}
use Rattle.naming.specs.Rules.Figures.{rounds_for, comparisons_for, names_after}
use Rattle.naming.specs.Claims.Demand.{State, start_on, call_on, of_step}
use Rattle.naming.proofs.Places.{LegalPlace, inner, at-baptize, step_lt}
use Rattle.naming.proofs.Search.{cleared_none}
use Rattle.naming.proofs.Simulation.{Found, Pass, waited_for, At, Tie, going, over, needless_at, needless-here, inner_short, fresh_at}
use Rattle.naming.proofs.Walk.{past_of, past_last}
use Rattle.naming.proofs.Tally.{none-compared}
use Rattle.naming.proofs.Closed.{most_rounds, due_bound}
use Rattle.naming.proofs.Sorted.{length-falling}
use Rattle.naming.proofs.Facts.{Fit}
use Rattle.naming.proofs.Start.{Slaves, names-fit, start-facts}
use Rattle.naming.proofs.Abstract.{Between, all_made, one_more, run_calls, all_calls, stays_fit, tie_agree, tie_sendable, tally_running, tally_ended}
use Rattle.naming.proofs.Demand.{unnamed-most, extra-most, rounds-whole, tally_start, rounds-few, comparisons-few}
use Rattle.naming.proofs.FromFile.{names_of_view, legal-slaves, legal-few}
use Rattle.cluster.proofs.SentRounds.{buffer-long, round_is}
use Rattle.naming.proofs.StepRound.{may-send}
use Rattle.naming.proofs.ByteLaws.{Good, AwakeIn, view_in, Allowed, byte_laws, arguments-ground}
use Rattle.naming.proofs.StepLaws.{step-made}
use Rattle.naming.proofs.Unasked.{step_unasked, step-plain, step_plain_may}
use Rattle.listing_text.specs.Rules.Text.{name_line, totals_line, refused_line}
use Rattle.listing_text.specs.Rules.Listing.{all_names, ListState, is_made_lem, gives_name, without_name, with_name, list_step, list_steps, most_steps, start_state, end_state, with_totals, listing, file_listed}
use Rattle.listing_text.specs.Claims.Edition.{UnknownEditionListed}
use Rattle.listing_text.specs.Claims.Closed.{lines, names_given, closed_listing, ListingClosed}
use Rattle.listing_text.specs.Claims.Listed.{ListingEnded, NamesListed, RefusedListed}
use Rattle.listing_text.proofs.ListLaws.{length-names}
use Rattle.listing_text.proofs.GivingLaws.{names-accepted, to_give, LastFor, GivesNext, NoneGiven, OneGiven, Gives, none-given, one-given, RoundMade, nothing_left, account_round}

-- ---- where the run is, by the account

-- it stands at the last step of a pass exactly where the account's next round gives a name; the names left; and before the last round
-- of a pass the value, which is the greatest waiting name
record Here (names : List ℕ) (p : Position) (a : Account) : Type 0 where
  gives : p.place.step ≡ last_step → GivesNext a
  last : GivesNext a → p.place.step ≡ last_step
  left : drop p.place.index names ≡ a.left
  found : p.place.step ≡ last_step → p.place.value ≡ get_or a.waiting 0 0

greatest : (value : ℕ) (ws : List ℕ) → Found 0 value ws → value ≡ get_or ws 0 0
greatest value [] f = absurd f
greatest value (p ∷ ps) f = f ∙ cleared_none p

last_for : (value k : ℕ) (ws : List ℕ) → Found 0 value ws → k ≡ past_of baptize ws → LastFor ws k
last_for value k [] f e = absurd f
last_for value k (p ∷ ps) f e = ap suc e ∙ past_last p ps

last_found :
    {names : List ℕ} {vs : List SlaveView} {l : PassPlace} {p : Position} {a : Pass} → LegalPlace l → At names vs l p a →
    p.place.step ≡ last_step → p.place.value ≡ get_or a.waiting 0 0
last_found (inner x) i e = absurd (omega (arith, step_lt x, i.place))
last_found {p = p} {a = a} at-baptize i e = greatest p.place.value a.waiting i.known.1

last-gives :
    {names : List ℕ} {vs : List SlaveView} {l : PassPlace} {p : Position} {a : Pass} → LegalPlace l → At names vs l p a →
    p.place.step ≡ last_step → (is_among a.name a.held ≡ false) × LastFor a.waiting a.k
last-gives (inner x) i e = absurd (omega (arith, step_lt x, i.place))
last-gives {p = p} {a = a} at-baptize i e = (i.known.0, last_for p.place.value a.k a.waiting i.known.1 i.made)

gives-last :
    {names : List ℕ} {vs : List SlaveView} {l : PassPlace} {p : Position} (ws : List ℕ) (a : Pass) → LegalPlace l → At names vs l p (waited_for ws a) →
    needless_at l a.name p ≡ false → LastFor ws a.k → p.place.step ≡ last_step
unfolding step_of
gives-last [] a x i real f = absurd f
gives-last {names} {vs} {p = p} (w ∷ ws) a (inner x) i real f = let short = inner_short names vs p w ws a x i real in absurd (omega arith)
gives-last (w ∷ ws) a at-baptize i real f = i.place

tie_here : {names : List ℕ} {vs : List SlaveView} {p : Position} {a : Account} → Tie names vs p a → p.end ≡ running → Here names p a
tie_here (going {a = a} i real) m =
    record {
      gives = last-gives i.legal i;
      last = λ g. gives-last a.waiting a i.legal i (sym (needless-here i) ∙ real) g.1;
      left = i.here;
      found = last_found i.legal i;
    }
tie_here (over o) m = absurd (omega (arith, o.some))

first-left : (names : List ℕ) (index : ℕ) {left : List ℕ} → drop index names ≡ left → get_or names index 0 ≡ get_or left 0 0
first-left names index e =
    let z : index + 0 ≡ index = omega arith in
    rw (← z, ← get_or-drop index names 0 0, e)

-- ---- one step

-- file and run beside an account, over the names of the listing and with the closed figures of the slaves at the start
abbrev Tied : List Named → List ℕ → Position → Account → Type 0
Tied slaves file p a =
    Between State all_names view_in Good AwakeIn (rounds_for slaves all_names) (comparisons_for slaves all_names) (names_after slaves all_names) (start_on file, p) a

-- a run under way beside an account: the lines so far and those of the names still to be given are the lines of all names given
record Beside (slaves : List Named) (t : ListState) (a : Account) : Type 0 where
  tied : Tied slaves t.file t.run a
  long : short_answer t.buffer ≡ false
  begun : t.begun ≡ a.done
  after-step : t.lines ++ lines (to_give a) ≡ lines (names_given slaves)
  counted : t.given + length (to_give a) ≡ length (names_given slaves)
  spent : (a.end ≡ 0 → ⊥) → to_give a ≡ []
  among : a.k ≤ a.rounds

-- what a step of a run under way leaves
record Steps (slaves : List Named) (s : Result StepDone × Position × List ℕ × List ℕ) (b : Account) : Type 0 where
  is_made : is_made_lem s.0 ≡ true
  tied : Tied slaves s.3 s.1 b
  long : short_answer s.2 ≡ false

all_fit : All Fit all_names
all_fit = names-fit names-accepted.bytes names-accepted.fit

-- the state after a step
abbrev state_after : ListState → Result StepDone × Position × List ℕ × List ℕ → ListState
state_after t s = cond (gives_name s.0 t.run) (with_name t s) (without_name t s)

module _ (slaves : List Named) (few : most_rounds * length slaves + ending_rounds + 257 < count_limit) where
  module _
      (file : List ℕ) (p : Position) (buffer : List ℕ) {a : Account} (h : Tied slaves file p a) (long : short_answer buffer ≡ false)
      (m : p.end ≡ running) where
    abbrev arguments : StepArguments
    arguments = record { summary = without; buffer = buffer }

    none : (ss : List Named) → arguments_ground ss arguments ≡ 0
    unfolding arguments_ground wrong_summary first_of
    none ss = rw long

    reason : step_ground file p all_names buffer ≡ 0
    unfolding start_on
    reason =
        sym (step_unasked file p all_names buffer)
        ∙ arguments-ground all_names names-accepted (start_on file) p arguments h.good
        (stays_fit State all_names view_in Good AwakeIn (Allowed all_names) (call_on all_names) (byte_laws all_names names-accepted) _ _ _
        (rounds-few slaves all_names names-accepted few) (comparisons-few slaves all_names few) all_fit (start_on file, p) a h)
        ∙ none _

    allowed : Allowed all_names (start_on file) p (step arguments)
    unfolding start_on
    allowed = record { bytes = of_step; may = step_plain_may all_names (start_on file) p buffer ∙ rw reason }

    tied_on : Tied slaves (step_on file p all_names buffer).3 (step_on file p all_names buffer).1 (one_round a)
    unfolding run_calls account_after account_call start_on
    tied_on =
        rw (none a.slaves, step-plain all_names (start_on file) p buffer) at
        (all_calls State all_names view_in Good AwakeIn (Allowed all_names) (call_on all_names) (byte_laws all_names names-accepted) _ _ _
        (rounds-few slaves all_names names-accepted few) (comparisons-few slaves all_names few) all_fit (start_on file, p) a
        (step arguments ∷ []) h (one_more allowed all_made))

    long_on : short_answer (round_sent file (sent (next_round all_names p)) buffer).1 ≡ false
    unfolding start_on short_answer
    long_on =
        rw (round_is file buffer h.good.bytes h.good.accepted long (may-send (tie_sendable all_fit h.tie m)))
        (buffer-long _ _ buffer long)

    made-on : is_made_lem (done (made_by_lem (round_sent file (sent (next_round all_names p)) buffer).0)) ≡ true
    unfolding start_on short_answer made_by_lem is_made_lem
    made-on = rw (round_is file buffer h.good.bytes h.good.accepted long (may-send (tie_sendable all_fit h.tie m)))

    steps : Steps slaves (step_on file p all_names buffer) (one_round a)
    steps =
        let e = step-made file p all_names buffer reason m in
        record { is_made = rw e made-on; tied = tied_on; long = rw e long_on }

  module _
      {t : ListState} {a b : Account} (h : Beside slaves t a) (here : Here all_names t.run a) (r : RoundMade a b)
      {s : Result StepDone × Position × List ℕ × List ℕ} (st : Steps slaves s b) where
    -- no line
    after-step-without_name : NoneGiven a b → Beside slaves (state_after t s) b
    unfolding gives_name without_name
    after-step-without_name g =
        let no : t.run.place.step ≡ last_step → ⊥ = λ l. g.within (here.gives l) in
        rw (both_false_right (is_made_lem s.0) (ne_eqb t.run.place.step last_step no))
        (record {
          tied = st.tied;
          long = st.long;
          begun = h.begun ∙ sym g.compared;
          after-step = rw g.same h.after-step;
          counted = rw g.same h.counted;
          spent = r.spent;
          among = r.among h.among;
        })

    -- between passes the comparisons are those of the passes done
    all-compared : b.k ≡ 0 → s.1.counts.comparisons ≡ b.done
    unfolding comparisons_of
    all-compared z = (tie_agree st.tied.tie).comparisons ∙ rw z (omega (arith, none-compared (high_again b.waiting)))

    -- the line is that of the name given
    line : OneGiven a b →
        name_line (get_or all_names t.run.place.index 0) t.run.place.value (s.1.counts.comparisons - t.begun) ++ lines (to_give b) ≡ lines (to_give a)
    unfolding lines
    line g =
        let c : s.1.counts.comparisons - t.begun ≡ naming_comparisons = omega (arith, all-compared g.over, g.compared, h.begun) in
        rw (first-left all_names t.run.place.index here.left, here.found (here.last g.last), c, g.next)

    after-step-named : OneGiven a b → Beside slaves (state_after t s) b
    unfolding gives_name with_name
    after-step-named g =
        rw (both_true st.is_made (eq-eqb t.run.place.step last_step (here.last g.last)))
        (record {
          tied = st.tied;
          long = st.long;
          begun = all-compared g.over;
          after-step = append_assoc t.lines _ (lines (to_give b)) ∙ ap (λ (x : List ℕ). t.lines ++ x) (line g) ∙ h.after-step;
          counted = omega (arith, h.counted, ap length g.next);
          spent = r.spent;
          among = r.among h.among;
        })

    after-step-round : Gives a b → Beside slaves (state_after t s) b
    after-step-round (none-given g) = after-step-without_name g
    after-step-round (one-given g) = after-step-named g

  one-step_beside : {t : ListState} {a : Account} → Beside slaves t a → t.run.end ≡ running → RoundMade a (one_round a) → Beside slaves (list_step t) (one_round a)
  unfolding list_step
  one-step_beside {t} h m r =
      after-step-round h (tie_here h.tied.tie m) r (steps t.file t.run t.buffer h.tied h.long m) r.gives

-- ---- all steps

-- what the run comes to
record Complete (slaves : List Named) (t : ListState) : Type 0 where
  ended : t.run.end ≡ running → ⊥
  after-step : t.lines ≡ lines (names_given slaves)
  counted : t.given ≡ length (names_given slaves)
  compared : t.run.counts.comparisons ≡ comparisons_for slaves all_names
  rounds : t.run.counts.rounds ≡ rounds_for slaves all_names
  named : names_in_lem (decode t.file) ≡ names_after slaves all_names

module _ (slaves : List Named) (few : most_rounds * length slaves + ending_rounds + 257 < count_limit) where
  complete : {t : ListState} {a : Account} → Beside slaves t a → (t.run.end ≡ running → ⊥) → Complete slaves t
  unfolding comparisons_of view_in start_on lines
  complete {t} {a} h n =
      let g = tie_agree h.tied.tie in
      let over : a.end ≡ 0 → ⊥ = λ e. n (g.end ∙ e) in
      let d = tally_ended h.tied.tally over in
      let none : to_give a ≡ [] = h.spent over in
      record {
        ended = n;
        after-step = sym (append-nil t.lines) ∙ ap (λ (x : List Named). t.lines ++ lines x) (sym none) ∙ h.after-step;
        counted = omega (arith, h.counted, ap length none);
        compared = g.comparisons ∙ d.comparisons;
        rounds = g.rounds ∙ d.all;
        named = sym (names_of_view (decode t.file)) ∙ g.names ∙ d.names;
      }

  -- as many steps as rounds are due suffice
  all-steps : (n : ℕ) (t : ListState) (a : Account) → Beside slaves t a → rounds_for slaves all_names ≤ a.rounds + n → Complete slaves (list_steps n t)
  unfolding list_steps
  all-steps zero t a h e =
      complete h (λ m. let s = (tally_running h.tied.tally (sym (tie_agree h.tied.tie).end ∙ m)).rounds in omega arith)
  all-steps (suc n) t a h e =
      by_case (eqb t.run.end running)
      (λ y.
      let m : t.run.end ≡ running = eqb-true _ _ y in
      let r = account_round h.tied.tally (sym (tie_agree h.tied.tie).end ∙ m) h.among in
      rw y (all-steps n (list_step t) (one_round a) (one-step_beside slaves few h m r) (omega (arith, r.rounds))))
      (λ y. rw y (complete h (eqb-false _ _ y)))

-- ---- the whole listing

module _ (file : List ℕ) (b : Bytes file) (g : file_ground file ≡ 0) where
  abbrev slaves : List Named
  slaves = names_in_lem (decode file)

  legal : Legal (decode file)
  legal = accepted-legal file b g

  start_tied : Tied slaves file (fresh all_names) (account_of slaves all_names)
  unfolding start_on view_in account_of
  start_tied =
      let s : Slaves slaves = legal-slaves (decode file) legal in
      record {
        good = record { bytes = b; accepted = g; apart = λ h. clash h refl };
        awake = λ some. absurd (some (unfold fresh in refl));
        tie =
            fresh_at (view_in (start_on file)) all_names (falling (unnamed_among slaves)) slaves (names_held slaves)
            (start-facts slaves all_names s names-accepted) (names_of_view (decode file));
        tally = tally_start slaves all_names s names-accepted;
      }

  start_beside : Beside slaves (start_state file) (account_of slaves all_names)
  unfolding start_state account_of to_give names_given lines short_answer
  start_beside =
      record {
        tied = start_tied;
        long = refl;
        begun = refl;
        after-step = refl;
        counted = zero-add _;
        spent = nothing_left (falling (unnamed_among slaves)) (names_held slaves) all_names;
        among = omega arith;
      }

  -- a file has at most 64 slaves, so the extra read, 136 rounds for each, 4 that end the run and one for each of 254 names are enough
  rounds-most : rounds_for slaves all_names ≤ most_steps
  unfolding names_in_lem
  rounds-most =
      let m : length (decode file).slaves ≤ slaves_room = few-slaves (decode file) legal in
      omega (
        arith,
        sym (rounds-whole slaves all_names),
        extra-most all_names,
        due_bound (names_held slaves) all_names (falling (unnamed_among slaves)),
        length-falling (unnamed_among slaves),
        unnamed-most slaves,
        length-map (decode file).slaves names_of,
        length-names,
      )

  whole_state : Complete slaves (end_state file)
  unfolding end_state
  whole_state =
      all-steps slaves (legal-few (decode file) legal) most_steps (start_state file) (account_of slaves all_names) start_beside
      (omega (arith, rounds-most))

-- lines and totals
same_text :
    {l m : List ℕ} {given given' comparisons comparisons' rounds rounds' : ℕ} → l ≡ m → given ≡ given' → comparisons ≡ comparisons' →
    rounds ≡ rounds' → l ++ totals_line given comparisons rounds ≡ m ++ totals_line given' comparisons' rounds'
same_text l g c r = rw (l, g, c, r)

accepted_test : (file : List ℕ) → load_ground file ≡ 0 → eqb (load_ground file) 0 ≡ true
accepted_test file g = eq-eqb (load_ground file) 0 g

-- The listing of every file that loading accepts.
pub listing_closed : ListingClosed
unfolding listing with_totals closed_listing
listing_closed file b g =
    let t = whole_state file b (load_file file g) in
    rw (accepted_test file g) (same_text t.after-step t.counted t.compared t.rounds)

-- The steps that the listing makes at most suffice: the run has ended.
pub listing-ended : ListingEnded
listing-ended file b g = (whole_state file b g).ended

-- The slaves' names in the file that the listing leaves.
pub listing-names : NamesListed
unfolding file_listed
listing-names file b g = rw (accepted_test file g) (whole_state file b (load_file file g)).named

-- ---- files that are refused

-- A refused file gives only its number, and is left as it was.
pub listing-refused : RefusedListed
unfolding listing file_listed
listing-refused file some = let e = ne_eqb (load_ground file) 0 some in (rw e, rw e)

-- An unknown edition is refused before any offset is followed: the listing depends on nothing but length and the first three bytes.
pub unknown_edition-listed : UnknownEditionListed
unknown_edition-listed f g long front other =
    let same = unknown_edition f g long front other in
    let none : file_ground f ≡ 0 → ⊥ = refused-edition f other in
    let none' : file_ground g ≡ 0 → ⊥ = λ e. none (same ∙ e) in
    refused_by f none ∙ ap refused_line same ∙ sym (refused_by g none')
  where
    refused_by : (h : List ℕ) → (file_ground h ≡ 0 → ⊥) → listing h ≡ refused_line (file_ground h)
    refused_by h some = (listing-refused h (λ z. some (load_file h z))).0 ∙ ap refused_line (load_first h some)
