-- Demand 3 over bytes, whole: for every accepted file, every accepted list of names and every list of permitted calls, from a fresh
-- run. And that it holds throughout such a list, after each of its calls: there too the file is accepted and no step meets ground 17.
-- Assumes nothing.
use Rattle.std.proofs.Common.{ℕ, ◌≡◌, refl, sym, ap, ◌∙◌, List, [], ◌∷◌, ◌++◌, map, append-nil, true, false}
use Rattle.file.specs.Rules.Bytes.{Bytes, All, all_empty, all_next}
use Rattle.file.specs.Rules.Decode.{decode}
use Rattle.file.specs.Rules.FileGrounds.{file_ground}
use Rattle.file.specs.Rules.Legal.{Legal}
use Rattle.file.proofs.Order.{both_left, both_right, clash}
use Rattle.file.proofs.Accepted.{accepted-legal}
use Rattle.naming.specs.Rules.Position.{Position, fresh}
use Rattle.naming.specs.Rules.RunGrounds.{start_ground, unfit_position}
use Rattle.naming.specs.Rules.Step.{step_keeping_ground}
use Rattle.naming.specs.Rules.Account.{Named, StepArguments, Call, arguments_ground, names_in_lem, account_of, account_after}
use Rattle.naming.specs.Claims.Demand.{State, start_on, call_on, permitted_call, permitted, after_calls, OfBytes, Demand, DemandThree}
use Rattle.naming.specs.Claims.Throughout.{Throughout}
use Rattle.naming.proofs.Answers.{named_of}
use Rattle.naming.proofs.Start.{Names}
use Rattle.naming.proofs.Abstract.{Permitted, all_made, one_more, run_calls}
use Rattle.naming.proofs.Demand.{Holds, demand}
use Rattle.naming.proofs.FromFile.{names_of_view, legal-slaves, legal-few, accepted-names}
use Rattle.naming.proofs.ByteLaws.{Good, AwakeIn, view_in, Allowed, byte_laws, arguments-ground}

-- the walk along file and run is the abstract one
pub same_calls : (names : List ℕ) (s : State) (p : Position) (cs : List Call) → run_calls State (call_on names) (s, p) cs ≡ after_calls names s p cs
unfolding run_calls after_calls
same_calls names s p [] = refl
same_calls names s p (c ∷ cs) = same_calls names (call_on names s p c).0 (call_on names s p c).1 cs

-- so are the calls at the front of a permitted list: what comes after them says nothing of them
pub front-permitted :
    (names : List ℕ) (s : State) (p : Position) {cs : List Call} (ds : List Call) → All OfBytes cs → permitted names s p (cs ++ ds) ≡ true →
    Permitted State (Allowed names) (call_on names) (s, p) cs
unfolding permitted
front-permitted names s p ds all_empty e = all_made
front-permitted names s p ds (all_next {a = c} {l = cs} b h) e =
    let here : permitted_call names s p c ≡ true = both_left _ _ e in
    let rest : permitted names (call_on names s p c).0 (call_on names s p c).1 (cs ++ ds) ≡ true = both_right _ _ e in
    one_more (record { bytes = b; may = here }) (front-permitted names (call_on names s p c).0 (call_on names s p c).1 ds h rest)

-- and all of it
all-permitted :
    (names : List ℕ) (s : State) (p : Position) {cs : List Call} → All OfBytes cs → permitted names s p cs ≡ true →
    Permitted State (Allowed names) (call_on names) (s, p) cs
all-permitted names s p {cs} h e = front-permitted names s p [] h (rw (append-nil cs) e)

-- what the abstract theorem says of these calls
module _ (file names : List ℕ) (b : Bytes file) (g : file_ground file ≡ 0) (n : Names names) where
  seen : (s : State) → map named_of (view_in s) ≡ names_in_lem (decode s.file)
  unfolding view_in
  seen s = names_of_view (decode s.file)

  pub start_good : Good (start_on file)
  unfolding start_on
  start_good = record { bytes = b; accepted = g; apart = λ h. clash h refl }

  pub start_seen : map named_of (view_in (start_on file)) ≡ names_in_lem (decode file)
  unfolding start_on
  start_seen = seen (record { file = file; halfway = false })

  holds :
      (calls : List Call) → Permitted State (Allowed names) (call_on names) (start_on file, fresh names) calls →
      Holds (names_in_lem (decode file)) names Good view_in (after_calls names (start_on file) (fresh names) calls)
      (account_after (account_of (names_in_lem (decode file)) names) calls)
  holds calls may =
      let legal : Legal (decode file) = accepted-legal file b g in
      let all = demand State names view_in Good AwakeIn (Allowed names) (call_on names) (byte_laws names n) n (start_on file) start_good
      (rw start_seen (legal-slaves (decode file) legal)) (rw start_seen (legal-few (decode file) legal)) calls may in
      rw (start_seen, same_calls names (start_on file) (fresh names) calls) at all

  -- a step's only ground is that of its own arguments
  own-ground :
      (s : State) (p : Position) → Good s → unfit_position names p ≡ false → (arguments : StepArguments) →
      step_keeping_ground s.file p names arguments.summary arguments.buffer ≡ arguments_ground (names_in_lem (decode s.file)) arguments
  own-ground s p good fit arguments =
      arguments-ground names n s p arguments good fit ∙ ap (λ (l : List Named). arguments_ground l arguments) (seen s)

  holds-demand :
      (calls : List Call) → Permitted State (Allowed names) (call_on names) (start_on file, fresh names) calls →
      Demand file names calls (after_calls names (start_on file) (fresh names) calls).0.file (after_calls names (start_on file) (fresh names) calls).1
  holds-demand calls may =
      let h = holds calls may in
      let now = seen (after_calls names (start_on file) (fresh names) calls).0 in
      record {
        accepted = h.good.accepted;
        logical = sym now ∙ h.agree.names;
        end = h.agree.end;
        rounds = h.agree.rounds;
        comparisons = h.agree.comparisons;
        fit = h.fit;
        grounds = own-ground (after_calls names (start_on file) (fresh names) calls).0 (after_calls names (start_on file) (fresh names) calls).1 h.good h.fit;
        outcome = rw now at h.outcome;
      }

-- For every accepted file, every accepted list of names and every list of permitted calls of bytes, from a fresh run.
pub demand_3 : DemandThree
demand_3 file b g names bytes accepted calls of-bytes may =
    holds-demand file names b g (accepted-names names bytes accepted) calls (all-permitted names (start_on file) (fresh names) of-bytes may)

-- Throughout: after the calls at the front of a permitted list, wherever it is cut, also within a round of others.
pub throughout : Throughout
throughout file b g names bytes accepted cs ds of-bytes may =
    holds-demand file names b g (accepted-names names bytes accepted) cs (front-permitted names (start_on file) (fresh names) ds of-bytes may)

-- the file after permitted calls is of bytes
pub bytes_after :
    (file : List ℕ) → Bytes file → file_ground file ≡ 0 → (names : List ℕ) → Bytes names → start_ground names ≡ 0 → (calls : List Call) →
    All OfBytes calls → permitted names (start_on file) (fresh names) calls ≡ true →
    Bytes (after_calls names (start_on file) (fresh names) calls).0.file
bytes_after file b g names bytes accepted calls of-bytes may =
    (holds file names b g (accepted-names names bytes accepted) calls (all-permitted names (start_on file) (fresh names) of-bytes may)).good.bytes
