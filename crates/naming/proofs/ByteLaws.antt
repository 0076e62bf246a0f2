-- The abstract laws, shown of the definitions over bytes.
-- Assumes nothing.
use Prim.Native.Nat.{ℕ}
use mathlib.Core.Path.{◌≡◌, refl, sym, ap, ◌∙◌}
use mathlib.Core.Logic.{◌≢◌}
use mathlib.Core.List.{List, [], ◌∷◌, map}
use mathlib.Core.Bool.{Bool, true, false, cond, not}
use native.Mathlib.Omega.{arith}
use lib.ListN.{get_or}
use lib.Dec.{eqb}
use borrow.Author.Tests.{eqb-true, eqb-false, ne_eqb, not-true}
use Rattle.file.specs.Rules.Results.{done}
use Rattle.file.specs.Rules.Bytes.{Bytes, All}
use Rattle.file.specs.Rules.Order.{first_of, both}
use Rattle.file.specs.Rules.Cluster.{Slave, Cluster, bytes_in, configuration, physical_name, logical_name, logical_names, unnamed, broadcast, file_number_of}
use Rattle.file.specs.Rules.Cluster.{operation_of, pb2_of, read_operation, write_operation, execute_operation}
use Rattle.file.specs.Rules.Decode.{decode}
use Rattle.file.specs.Rules.FileGrounds.{file_ground}
use Rattle.file.specs.Inner.Accepted.{Becomes}
use Rattle.file.proofs.Order.{by_case, clash, both_left, both_right, both_false_left, both_false_right, either-next, first-none, first_next, first-end, first_alike}
use Rattle.file.proofs.Accepted.{encode-bytes}
use Rattle.frame.specs.Rules.Fireworks.{Round, multipartner, msd, msa, no_round}
use Rattle.frame.specs.Rules.Frames.{between}
use Rattle.file.specs.Rules.Changes.{with_slaves, with_epoch, with_pending}
use Rattle.master_slave.specs.Rules.Bus.{slots}
use Rattle.master_slave.specs.Rules.Slaves.{with_address, epoch_raised, Duty, nothing, writing, pending_duty, duty_by, execution_of, addresses, addressed, takes_write}
use Rattle.master_slave.specs.Rules.Slaves.{slave_after, slaves_after, falls_asleep, rested}
use Rattle.cluster.specs.Rules.RoundGrounds.{short_answer, round_by_lem}
use Rattle.multipartner.specs.Rules.Multipartner.{cluster_below}
use Rattle.multipartner.specs.Rules.Multipartner.{passed_over_lem}
use Rattle.cluster.specs.Rules.Round.{effect_of, frame_on, round_ground, round_on}
use Rattle.cluster.specs.Rules.Summary.{Summary, wrong_summary, round_keeping_ground}
use Rattle.cluster.proofs.SummaryLaws.{given-behind}
use Rattle.cluster.proofs.Keeping.{keeping-round, keeping_refused, keeping-accepted}
use Rattle.cluster.proofs.Rounds.{round-accepted, round-becomes, round-kept, between-bytes}
use Rattle.master_slave.proofs.Kept.{slave_after-kept}
use Rattle.cluster.proofs.Replaced.{write-left, write_keeps_name}
use Rattle.master_slave.proofs.Untouched.{files_of, Leaves, by_nothing, by_read, by_write, by_compare, by_baptize, after-other, rested-other}
use Rattle.multipartner.proofs.Unstored.{Unstored, below_other}
use Rattle.cluster.proofs.Sleep.{rested-awake}
use Rattle.cluster.specs.Claims.Sleep.{AllAwake}
use Rattle.naming.specs.Inner.View.{SlaveView, view_of, view, view_unnamed}
use Rattle.naming.specs.Rules.RunRounds.{sent}
use Rattle.naming.specs.Rules.Position.{Position, running}
use Rattle.naming.specs.Rules.Run.{next_round}
use Rattle.naming.specs.Rules.RunGrounds.{unfit_position, names_grounds, run_grounds}
use Rattle.cluster.specs.Rules.MasterSlave.{round_sent}
use Rattle.naming.specs.Rules.Step.{step_ground, step_keeping_ground}
use Rattle.naming.specs.Rules.Account.{Named, names_of, names_in_lem, names_held, StepArguments, FrameArguments, Call, step, frame, arguments_ground}
use Rattle.naming.specs.Claims.Demand.{State, halfway_after, call_on, changes_configuration, writes_named, permitted_address, permitted_frame, permitted_call, OfBytes, of_frame}
use Rattle.naming.proofs.Answers.{named_of, SameSlave, Same, same_refl}
use Rattle.naming.proofs.Start.{Names}
use Rattle.naming.proofs.FromFile.{names_of_view}
use Rattle.naming.proofs.StepLaws.{step-ended, step-made}
use Rattle.naming.proofs.StepKeeping.{keeping_step, step-keeping-refused, step-keeping-accepted}
use Rattle.naming.proofs.Abstract.{Laws, Stepped, Left, Sendable}
use Rattle.naming.proofs.SlaveViews.{view-alike}
use Rattle.naming.proofs.StepRound.{Made, round-made, round-seen, StepSeen, step-seen}
use Rattle.naming.proofs.SlaveRounds.{slaves-rest}

-- what a round of others may do: leave the configuration, or write record 1 of named slaves
pub data Harmless : Duty → Type 0 where
  leaves : {o : Duty} → Leaves configuration o → Harmless o
  writes_names : {name : ℕ} → name ≢ unnamed → Harmless (writing name configuration 1)

-- what holds of a state: its file is accepted, and a round of others that is half done is such
pub record Good (s : State) : Type 0 where
  pub bytes : Bytes s.file
  pub accepted : file_ground s.file ≡ 0
  pub apart : s.halfway ≡ true → Harmless (pending_duty (decode s.file))

-- nobody sleeps in it
abbrev pub AwakeIn : State → Type 0
AwakeIn s = AllAwake s.file

unfoldable pub view_in : State → List SlaveView
view_in s = view (decode s.file)

-- a permitted call of bytes
pub record Allowed (names : List ℕ) (s : State) (p : Position) (c : Call) : Type 0 where
  pub bytes : OfBytes c
  pub may : permitted_call names s p c ≡ true

-- ---- steps

-- a step's own arguments: their summary's ground, then their buffer's
long-buffer : (slaves : List Named) (arguments : StepArguments) → arguments_ground slaves arguments ≡ 0 → short_answer arguments.buffer ≡ false
unfolding arguments_ground
long-buffer slaves arguments none = (first-none 8 _ _ (first-none 23 _ _ none).1).0

logical-names : (ss : List Slave) → names_held (map names_of ss) ≡ map logical_name ss
unfolding names_held names_of
logical-names [] = refl
logical-names (s ∷ ss) = ap (λ (l : List ℕ). logical_name s ∷ l) (logical-names ss)

pub names-held : (c : Cluster) → names_held (names_in_lem c) ≡ logical_names c
unfolding names_in_lem logical_names
names-held c = logical-names c.slaves

-- the file's names are those that the account has
held-there : (s : State) → logical_names (decode s.file) ≡ names_held (map named_of (view_in s))
unfolding view_in
held-there s = rw (names_of_view (decode s.file)) (sym (names-held (decode s.file)))

module _ (names : List ℕ) (n : Names names) where
  -- the names are accepted, so a step's grounds are its arguments' and its position's
  run_ground : (p : Position) → unfit_position names p ≡ false → first_of (run_grounds names p) ≡ 0
  unfolding run_grounds names_grounds first_of
  run_ground p fit = rw (n.fit, n.different, fit)

  pub arguments-ground :
      (s : State) (p : Position) (arguments : StepArguments) → Good s → unfit_position names p ≡ false →
      step_keeping_ground s.file p names arguments.summary arguments.buffer ≡ arguments_ground (map named_of (view_in s)) arguments
  unfolding step_keeping_ground arguments_ground
  arguments-ground s p arguments good fit =
      given-behind s.file _ _ good.accepted
      ∙ first_alike 24 _ _ (ap (λ (l : List ℕ). wrong_summary arguments.summary l) (held-there s))
      (λ _. first_alike 9 (run_grounds names p) [] refl (λ _. run_ground p fit ∙ sym first-end))

  pub own-none :
      (s : State) (p : Position) (arguments : StepArguments) → Good s →
      step_keeping_ground s.file p names arguments.summary arguments.buffer ≡ 0 → arguments_ground (map named_of (view_in s)) arguments ≡ 0
  unfolding step_keeping_ground arguments_ground
  own-none s p arguments good z =
      let (wrong, rest) = first-none 23 _ _ (sym (given-behind s.file _ _ good.accepted) ∙ z) in
      let (short, _) = first-none 8 _ _ rest in
      first_next _ _ (ap (λ (l : List ℕ). wrong_summary arguments.summary l) (sym (held-there s)) ∙ wrong) ∙ first_next _ _ short ∙ first-end

  refused-step :
      (s : State) (p : Position) (arguments : StepArguments) → Good s → arguments_ground (map named_of (view_in s)) arguments ≢ 0 →
      call_on names s p (step arguments) ≡ (s, p)
  unfolding call_on
  refused-step s p arguments good some =
      rw (step-keeping-refused s.file p names arguments.summary arguments.buffer (λ z. some (own-none s p arguments good z)))

  idle-step :
      (s : State) (p : Position) (arguments : StepArguments) → Good s → arguments_ground (map named_of (view_in s)) arguments ≡ 0 →
      unfit_position names p ≡ false → (p.end ≡ running → ⊥) → call_on names s p (step arguments) ≡ (s, p)
  unfolding call_on
  idle-step s p arguments good none fit over =
      let k = arguments-ground s p arguments good fit ∙ none in
      rw (
        step-keeping-accepted s.file p names arguments.summary arguments.buffer k,
        step-ended s.file p names arguments.buffer (keeping_step s.file p names arguments.summary arguments.buffer k) over,
      )

  closed-step :
      (s : State) (p : Position) (arguments : StepArguments) → step_keeping_ground s.file p names arguments.summary arguments.buffer ≡ 0 →
      permitted_call names s p (step arguments) ≡ true → not s.halfway ≡ true
  unfolding permitted_call
  closed-step s p arguments g may = rw g at may

  running-step :
      (s : State) (p : Position) (arguments : StepArguments) → Good s → ((p.counts.rounds ≡ 0 → ⊥) → AwakeIn s) → Allowed names s p (step arguments) →
      arguments_ground (map named_of (view_in s)) arguments ≡ 0 → unfit_position names p ≡ false → p.end ≡ running →
      Sendable (next_round names p) → Stepped State names view_in Good AwakeIn s p (call_on names s p (step arguments))
  unfolding call_on view_in
  running-step s p arguments good awake allowed none fit run send =
      let buffer : List ℕ = arguments.buffer in
      let k : step_keeping_ground s.file p names arguments.summary buffer ≡ 0 = arguments-ground s p arguments good fit ∙ none in
      let g : step_ground s.file p names buffer ≡ 0 = keeping_step s.file p names arguments.summary buffer k in
      let long = long-buffer (map named_of (view_in s)) arguments none in
      let m : Made s.file (next_round names p) (round_sent s.file (sent (next_round names p)) buffer) =
      round-made s.file buffer good.bytes good.accepted long send in
      let seen : StepSeen names s.file p (round_sent s.file (sent (next_round names p)) buffer) =
      step-seen names s.file p m (λ some. round-seen s.file buffer good.bytes good.accepted long send (awake some)) in
      let closed : s.halfway ≡ false = not-true s.halfway (closed-step s p arguments k allowed.may) in
      rw (step-keeping-accepted s.file p names arguments.summary buffer k, step-made s.file p names buffer g run)
      (record {
        good = record { bytes = m.bytes; accepted = m.accepted; apart = λ h. clash h closed };
        awake = m.awake;
        views = seen.views;
        moved = seen.moved;
      })

-- ---- frames of others

-- the same configurations and physical names, the same views
views_alike : (ss ts : List Slave) → files_of configuration ts ≡ files_of configuration ss → map physical_name ts ≡ map physical_name ss → map view_of ts ≡ map view_of ss
unfolding files_of
views_alike [] [] c d = refl
views_alike [] (t ∷ ts) c d = cc
views_alike (s ∷ ss) [] c d = cc
views_alike (s ∷ ss) (t ∷ ts) c d =
    let files : bytes_in t configuration ≡ bytes_in s configuration = cc in
    let physical : physical_name t ≡ physical_name s = cc in
    let others : files_of configuration ts ≡ files_of configuration ss = cc in
    let names : map physical_name ts ≡ map physical_name ss = cc in
    rw (view-alike s t files physical, views_alike ss ts others names)

both_no : (b : Bool) → both b true ≡ false → b ≡ false
unfolding both
both_no true e = e
both_no false e = refl

-- an operation that is no write to and no execute of the configuration leaves it
operation_leaves : (name pb2 pb3 : ℕ) → changes_configuration pb2 ≡ false → Leaves configuration (duty_by name pb2 pb3)
unfolding duty_by changes_configuration execution_of
operation_leaves name pb2 pb3 apart =
    by_case (eqb (operation_of pb2) read_operation)
    (λ r. rw r by_read)
    (λ r.
    let other : eqb (file_number_of pb2) configuration ≡ false = both_no (eqb (file_number_of pb2) configuration) (rw r at apart) in
    rw r
    (by_case (eqb (operation_of pb2) write_operation)
    (λ w. rw w (by_write (λ (z : configuration ≡ file_number_of pb2). eqb-false _ _ other (sym z))))
    (λ w. rw w (by_case (eqb (operation_of pb2) execute_operation) (λ x. rw (x, other) by_nothing) (λ x. rw x by_nothing)))))

-- and so every operation that is permitted is harmless
write-named : (name pb2 pb3 : ℕ) → writes_named name pb2 pb3 ≡ true → Harmless (duty_by name pb2 pb3)
unfolding writes_named duty_by pb2_of
write-named name pb2 pb3 e =
    let operation : pb2 ≡ 33 = eqb-true _ _ (both_left _ _ e) in
    let «record» : pb3 ≡ 1 = eqb-true _ _ (both_left _ _ (both_right _ _ e)) in
    let some : eqb name unnamed ≡ false = not-true _ (both_right _ _ (both_right _ _ e)) in
    rw (operation, «record») (writes_names (eqb-false _ _ some))

address_harmless : (bytes : List ℕ) → permitted_address bytes ≡ true → Harmless (duty_by (get_or bytes 2 0) (get_or bytes 3 0) (get_or bytes 4 0))
unfolding permitted_address
address_harmless bytes e =
    by_case (changes_configuration (get_or bytes 3 0))
    (λ t. write-named (get_or bytes 2 0) (get_or bytes 3 0) (get_or bytes 4 0) (sym (either-next _ (ap not t)) ∙ e))
    (λ t. leaves (operation_leaves (get_or bytes 2 0) (get_or bytes 3 0) (get_or bytes 4 0) t))

-- an execute of record 4 of 0x08 is none of them, so nobody falls asleep
leaves_wakes : {n : ℕ} {o : Duty} → Leaves n o → (x : Slave) → falls_asleep o x ≡ false
unfolding falls_asleep
leaves_wakes by_nothing x = refl
leaves_wakes by_read x = refl
leaves_wakes (by_write other) x = refl
leaves_wakes by_compare x = refl
leaves_wakes (by_baptize other) x = refl

harmless_wakes : {o : Duty} → Harmless o → (x : Slave) → falls_asleep o x ≡ false
harmless_wakes (leaves l) x = leaves_wakes l x
harmless_wakes (writes_names other) x = unfold falls_asleep in refl

unstored : Unstored configuration
unstored h = omega arith

-- ---- a write of record 1 of named slaves: an unnamed one does not take it, and everyone keeps its names

unaddressed : (name : ℕ) (s : Slave) → name ≢ unnamed → view_unnamed (view_of s) ≡ true → takes_write name configuration 1 s ≡ false
unfolding takes_write addressed addresses view_unnamed view_of
unaddressed name s other u =
    let own : logical_name s ≡ unnamed = eqb-true _ _ u in
    let differ : eqb unnamed name ≡ false = ne_eqb unnamed name (λ z. other (sym z)) in
    both_false_left _ (both_false_right _ (rw (ne_eqb name unnamed other, own, differ) (neither (eqb name broadcast))))
  where
    neither : (b : Bool) → cond b false false ≡ false
    neither true = refl
    neither false = refl

slave-same : (name : ℕ) → name ≢ unnamed → {bytes : List ℕ} → Bytes bytes → (s : Slave) → SameSlave (view_of s) (view_of (slave_after (writing name configuration 1) bytes s))
slave-same name other {bytes} b s =
    record {
      names = unfold named_of view_of in rw ((slave_after-kept (writing name configuration 1) b s).name, write_keeps_name name configuration 1 bytes s);
      kept = λ u. ap view_of (write-left name configuration 1 bytes s (unaddressed name s other u));
    }

slaves-same : (name : ℕ) → name ≢ unnamed → {bytes : List ℕ} → Bytes bytes → (ss : List Slave) → Same (map view_of ss) (map view_of (map (slave_after (writing name configuration 1) bytes) ss))
slaves-same name other b [] = Same.end
slaves-same name other b (s ∷ ss) = Same.next (slave-same name other b s) (slaves-same name other b ss)

-- ---- a permitted frame

module _ (c : Cluster) (bytes : List ℕ) where
  -- where it leaves every configuration and physical name, all views are as they were
  all_same : (d : Cluster) → files_of configuration d.slaves ≡ files_of configuration c.slaves → map physical_name d.slaves ≡ map physical_name c.slaves →
      Same (map view_of c.slaves) (map view_of d.slaves)
  all_same d files names = rw (views_alike c.slaves d.slaves files names) (same_refl (map view_of c.slaves))

  data-same : {o : Duty} → Harmless o → pending_duty c ≡ o → Bytes (between bytes) →
      map physical_name (effect_of c msd bytes).after.slaves ≡ map physical_name c.slaves →
      Same (map view_of c.slaves) (map view_of (effect_of c msd bytes).after.slaves)
  data-same (leaves l) is b names =
      all_same (effect_of c msd bytes).after
      (unfold effect_of epoch_raised with_epoch in
      rw is (rested-other _ configuration (slaves_after _ (between bytes) (epoch_raised c)) ∙ after-other l (between bytes) (epoch_raised c))) names
  data-same (writes_names {name} other) is b names =
      unfold effect_of rested slaves_after with_slaves epoch_raised with_epoch in
      rw (is, slaves-rest (writing name configuration 1) (map (slave_after (writing name configuration 1) (between bytes)) c.slaves))
      (slaves-same name other b c.slaves)

  frame_same : (h : Bool) (round : Round) → permitted_frame h round bytes ≡ true → (h ≡ true → Harmless (pending_duty c)) → Bytes (between bytes) →
      map physical_name (effect_of c round bytes).after.slaves ≡ map physical_name c.slaves →
      Same (map view_of c.slaves) (map view_of (effect_of c round bytes).after.slaves)
  unfolding permitted_frame
  frame_same true (multipartner r) p l b names = clash p refl
  frame_same true msd p l b names = data-same (l refl) refl b names
  frame_same true msa p l b names = clash p refl
  frame_same true no_round p l b names = clash p refl
  frame_same false (multipartner r) p l b names =
      all_same (effect_of c (multipartner r) bytes).after
      (unfold effect_of epoch_raised with_epoch in
      rested-other nothing configuration (cluster_below (passed_over_lem c) r (epoch_raised c) slots) ∙ below_other (passed_over_lem c) r (epoch_raised c) slots configuration unstored)
      names
  frame_same false msd p l b names = clash p refl
  frame_same false msa p l b names =
      all_same (effect_of c msa bytes).after (unfold effect_of with_address with_pending with_epoch in refl) names
  frame_same false no_round p l b names = clash p refl

  -- nobody falls asleep by it, and all wake by it unless it is an MSA
  frame-awake : (h : Bool) (round : Round) → permitted_frame h round bytes ≡ true → (h ≡ true → Harmless (pending_duty c)) →
      (round ≡ msa → All (λ (x : Slave). x.asleep ≡ 0) c.slaves) → All (λ (x : Slave). x.asleep ≡ 0) (effect_of c round bytes).after.slaves
  unfolding permitted_frame effect_of
  frame-awake true (multipartner r) p l up = clash p refl
  frame-awake true msd p l up = rested-awake (pending_duty c) (harmless_wakes (l refl)) _
  frame-awake true msa p l up = clash p refl
  frame-awake true no_round p l up = clash p refl
  frame-awake false (multipartner r) p l up = rested-awake nothing (λ x. unfold falls_asleep in refl) _
  frame-awake false msd p l up = clash p refl
  frame-awake false msa p l up = unfold with_address with_pending with_epoch in up refl
  frame-awake false no_round p l up = clash p refl

  -- and what is pending when its round is half done
  next_harmless : (h : Bool) (mask : ℕ) (round : Round) → permitted_frame h round bytes ≡ true → halfway_after h (done mask) round ≡ true →
      Harmless (pending_duty (effect_of c round bytes).after)
  unfolding permitted_frame halfway_after effect_of with_address with_pending pending_duty
  next_harmless true mask (multipartner r) p l = clash p refl
  next_harmless true mask msd p l = clash l refl
  next_harmless true mask msa p l = clash p refl
  next_harmless true mask no_round p l = clash p refl
  next_harmless false mask (multipartner r) p l = clash l refl
  next_harmless false mask msd p l = clash p refl
  next_harmless false mask msa p l = address_harmless bytes p
  next_harmless false mask no_round p l = clash p refl

-- a frame of others, refused or accepted
module _ (names : List ℕ) (s : State) (p : Position) (arguments : FrameArguments) (good : Good s) where
  abbrev bytes : List ℕ
  bytes = arguments.bytes

  abbrev buffer : List ℕ
  buffer = arguments.buffer

  abbrev summary : Summary
  summary = arguments.summary

  refused-frame : (round_keeping_ground s.file summary bytes buffer ≡ 0 → ⊥) → call_on names s p (frame arguments) ≡ (s, p)
  unfolding call_on halfway_after
  refused-frame n = rw (keeping_refused s.file summary bytes buffer n)

  frame_views : Bytes bytes → round_ground s.file bytes buffer ≡ 0 → permitted_frame s.halfway (round_by_lem bytes) bytes ≡ true →
      Same (view (decode s.file)) (view (frame_on (decode s.file) bytes).after)
  unfolding view frame_on
  frame_views b g may =
      frame_same (decode s.file) bytes s.halfway (round_by_lem bytes) may good.apart (between-bytes b)
      (unfold frame_on in (round-kept s.file bytes buffer b g).names)

  awake-after : Bytes bytes → round_ground s.file bytes buffer ≡ 0 → permitted_frame s.halfway (round_by_lem bytes) bytes ≡ true → (round_by_lem bytes ≡ msa → AwakeIn s) →
      AllAwake (round_on s.file bytes buffer).2
  unfolding frame_on
  awake-after b g may up =
      rw (round-becomes s.file bytes buffer good.bytes b g).decoded
      (frame-awake (decode s.file) bytes s.halfway (round_by_lem bytes) may good.apart up)

  frame-pending : round_ground s.file bytes buffer ≡ 0 → permitted_frame s.halfway (round_by_lem bytes) bytes ≡ true →
      halfway_after s.halfway (round_on s.file bytes buffer).0 (round_by_lem bytes) ≡ true →
      Harmless (pending_duty (frame_on (decode s.file) bytes).after)
  unfolding frame_on
  frame-pending g may h =
      next_harmless (decode s.file) bytes s.halfway _ (round_by_lem bytes) may (rw (round-accepted s.file bytes buffer g) at h)

  accepted-frame : Bytes bytes → round_keeping_ground s.file summary bytes buffer ≡ 0 → permitted_frame s.halfway (round_by_lem bytes) bytes ≡ true →
      Left State view_in Good AwakeIn s p (call_on names s p (frame arguments))
  unfolding call_on view_in
  accepted-frame b k may =
      let g : round_ground s.file bytes buffer ≡ 0 = keeping-round s.file summary bytes buffer k in
      let after : Becomes (round_on s.file bytes buffer).2 (frame_on (decode s.file) bytes).after = round-becomes s.file bytes buffer good.bytes b g in
      rw (keeping-accepted s.file summary bytes buffer k)
      (record {
        good = record {
          bytes = rw after.encoded (encode-bytes _ after.legal);
          accepted = after.accepted;
          apart = λ h. rw after.decoded (frame-pending g may h);
        };
        awake = λ up. awake-after b g may (λ _. up);
        same = rw after.decoded (frame_views b g may);
        stays = refl;
      })

  frame-of : OfBytes (frame arguments) → Bytes bytes
  frame-of (of_frame b) = b

  accepted-may : round_keeping_ground s.file summary bytes buffer ≡ 0 → permitted_call names s p (frame arguments) ≡ true → permitted_frame s.halfway (round_by_lem bytes) bytes ≡ true
  unfolding permitted_call
  accepted-may k may = rw k at may

  any_frame : Allowed names s p (frame arguments) → Left State view_in Good AwakeIn s p (call_on names s p (frame arguments))
  any_frame allowed =
      by_case (eqb (round_keeping_ground s.file summary bytes buffer) 0)
      (λ t. let k = eqb-true _ _ t in accepted-frame (frame-of allowed.bytes) k (accepted-may k allowed.may))
      (λ f. rw (refused-frame (eqb-false _ _ f)) (record { good = good; awake = λ up. up; same = same_refl (view_in s); stays = refl }))

  -- one that is accepted and no MSA wakes all
  pub frame-wakes : Allowed names s p (frame arguments) → round_keeping_ground s.file summary bytes buffer ≡ 0 → round_by_lem bytes ≢ msa →
      AwakeIn (call_on names s p (frame arguments)).0
  unfolding call_on
  frame-wakes allowed k other =
      rw (keeping-accepted s.file summary bytes buffer k)
      (awake-after (frame-of allowed.bytes) (keeping-round s.file summary bytes buffer k) (accepted-may k allowed.may) (λ e. absurd (other e)))

-- ---- the laws

pub byte_laws : (names : List ℕ) → Names names → Laws State names view_in Good AwakeIn (Allowed names) (call_on names)
byte_laws names n =
    record {
      turned = refused-step names n;
      idle = idle-step names n;
      steps = running-step names n;
      others = λ s p arguments good allowed. any_frame names s p arguments good allowed;
    }
