-- Who is awake after a trace (document 02, job 9: "A sleeping slave .. is awake after the next accepted MSD or multipartner round."). Its
-- frames are sent one after the other, each on the file as those before it left it.
use Rattle.std.specs.Prelude.{ℕ, ◌≡◌, ◌≢◌, List, [], ◌∷◌, replicate}
use Rattle.file.specs.Rules.Bytes.{Bytes}
use Rattle.file.specs.Rules.Decode.{decode}
use Rattle.frame.specs.Rules.Fireworks.{msa}
use Rattle.master_slave.specs.Rules.Bus.{slots}
use Rattle.cluster.specs.Rules.RoundGrounds.{round_by_lem}
use Rattle.cluster.specs.Rules.Round.{round_ground}
use Rattle.cluster.specs.Claims.Sleep.{AllAwake, PutsToSleep}
use Rattle.trace.specs.Rules.Trace.{frames_of}
use Rattle.trace.specs.Rules.TraceRun.{sent, trace_ground, trace_on}

-- the ground of a frame that is sent
abbrev pub sent_ground : List ℕ → List ℕ → ℕ
sent_ground file frame = round_ground file frame (replicate slots 0)

-- what holds of each frame on the file where it comes
pub data EachSent (P : List ℕ → List ℕ → Type 0) : List ℕ → List (List ℕ) → Type 0 where
  none_left_lem : {file : List ℕ} → EachSent P file []
  one_sent : {file x : List ℕ} {xs : List (List ℕ)} → P file x → EachSent P (sent file x).2 xs → EachSent P file (x ∷ xs)

-- a frame that is no accepted MSD of an execute of record 4 of 0x08
abbrev pub NoSleep : List ℕ → List ℕ → Type 0
NoSleep file frame = (name : ℕ) → PutsToSleep file frame (replicate slots 0) name → ⊥

-- an accepted frame that is no MSA, so an MSD or a multipartner frame (`CarriedHasRound`), and from it on no such execute
pub data Woken : List ℕ → List (List ℕ) → Type 0 where
  woken :
      {file x : List ℕ} {xs : List (List ℕ)} → sent_ground file x ≡ 0 → round_by_lem x ≢ msa → EachSent NoSleep file (x ∷ xs) →
      Woken file (x ∷ xs)
  later : {file x : List ℕ} {xs : List (List ℕ)} → Woken (sent file x).2 xs → Woken file (x ∷ xs)

-- after a trace that is run and has such a frame all are awake
abbrev pub TraceWakes : Type 0
TraceWakes =
    (file t : List ℕ) → Bytes file → Bytes t → trace_ground file t ≡ 0 → Woken file (frames_of t) → AllAwake (trace_on file t).1

-- and where all were awake, after every trace without such an execute
abbrev pub TraceStaysAwake : Type 0
TraceStaysAwake =
    (file t : List ℕ) → Bytes file → Bytes t → EachSent NoSleep file (frames_of t) → AllAwake file → AllAwake (trace_on file t).1

-- MSAs and refused frames wake nobody and put nobody to sleep
abbrev pub OnlyAddress : List ℕ → List ℕ → Type 0
OnlyAddress file frame = sent_ground file frame ≡ 0 → round_by_lem frame ≡ msa

abbrev pub AddressesWakeNobody : Type 0
AddressesWakeNobody =
    (file t : List ℕ) → Bytes file → Bytes t → EachSent OnlyAddress file (frames_of t) →
    (decode (trace_on file t).1).slaves ≡ (decode file).slaves
