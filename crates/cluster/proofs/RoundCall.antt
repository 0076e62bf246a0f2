-- The public call's ways: a file that is refused, a buffer that is too short, and one frame of any bytes on an accepted file.
-- Assumes nothing.
use Prim.Native.Nat.{ℕ, ◌≤◌, ◌<◌}
use mathlib.Core.Path.{◌≡◌, sym, ◌∙◌}
use mathlib.Core.List.{List}
use lib.ListN.{length, get_or}
use lib.Dec.{eqb}
use borrow.Author.Tests.{eqb-true, eqb-false}
use native.Mathlib.Omega.{arith}
use Rattle.file.specs.Rules.Results.{refused}
use Rattle.file.specs.Rules.Encode.{encode}
use Rattle.file.specs.Rules.Decode.{decode}
use Rattle.file.specs.Rules.FileGrounds.{file_ground}
use Rattle.file.specs.Inner.Accepted.{Becomes}
use Rattle.file.proofs.Order.{by_case}
use Rattle.master_slave.specs.Rules.Bus.{slots}
use Rattle.cluster.specs.Inner.EachGround.{frame_ground}
use Rattle.cluster.specs.Rules.Round.{Answer, frame_on, round_ground, round_on}
use Rattle.cluster.specs.Inner.Effects.{carried_by, buffer_by}
use Rattle.cluster.specs.Inner.Exchanged.{answer_to, left_by_lem, heard_in, Exchanged}
use Rattle.cluster.proofs.Rounds.{file_decides, buffer_decides, others_decide, round-refused, round-accepted}

pub file-refused : (file frame buffer : List ℕ) {n : ℕ} → n ≡ file_ground file → (n ≡ 0 → ⊥) → (refused n, buffer, file) ≡ round_on file frame buffer
unfolding round_ground
file-refused file frame buffer {n} e some =
    let here : round_ground file frame buffer ≡ file_ground file = file_decides file buffer _ (λ z. some (e ∙ z)) in
    sym (round-refused file frame buffer (λ z. some (e ∙ sym here ∙ z)) ∙ rw (here, e))

pub buffer-refused : (file frame buffer : List ℕ) → file_ground file ≡ 0 → length buffer < slots → (refused 9, buffer, file) ≡ round_on file frame buffer
unfolding round_ground
buffer-refused file frame buffer accepted short =
    let here : round_ground file frame buffer ≡ 9 = buffer_decides file buffer _ accepted short in
    sym (round-refused file frame buffer (λ z. let bad : ◌≡◌ {A = ℕ} 9 0 = sym here ∙ z in omega (arith, bad)) ∙ rw here)

-- the ground of an accepted file with a buffer of 64 bytes is its frame's
pub frame_decides : (file frame buffer : List ℕ) → file_ground file ≡ 0 → slots ≤ length buffer → round_ground file frame buffer ≡ frame_ground (decode file) frame
unfolding round_ground frame_ground
frame_decides file frame buffer accepted long = others_decide file buffer _ accepted long

pub exchanged-round :
    (file frame : List ℕ) {old new : List ℕ} {answer : Answer} {file' : List ℕ} → Becomes file (decode file) → slots ≤ length old →
    Exchanged (decode file) frame old new answer file' → (answer, new, file') ≡ round_on file frame old
unfolding answer_to left_by_lem heard_in
exchanged-round file frame {old} {new} {answer} {file'} h long x =
    let same : round_ground file frame old ≡ frame_ground (decode file) frame = frame_decides file frame old h.accepted long in
    by_case (eqb (frame_ground (decode file) frame) 0)
    (λ e.
    let fits : round_ground file frame old ≡ 0 = same ∙ eqb-true _ _ e in
    let a : answer ≡ carried_by (frame_on (decode file) frame) = rw e at x.answers in
    let b : new ≡ buffer_by (frame_on (decode file) frame) (get_or frame 0 0) old = rw e at x.buffer in
    let f : file' ≡ encode (frame_on (decode file) frame).after = rw e at x.becomes.encoded in
    rw (a, b, f) (sym (round-accepted file frame old fits)))
    (λ e.
    let a : answer ≡ refused (frame_ground (decode file) frame) = rw e at x.answers in
    let b : new ≡ old = rw e at x.buffer in
    let f : file' ≡ encode (decode file) = rw e at x.becomes.encoded in
    let back : file' ≡ file = f ∙ sym h.encoded in
    rw (a, b, back) (sym (round-refused file frame old (λ z. eqb-false _ _ e (sym same ∙ z)) ∙ rw same)))
