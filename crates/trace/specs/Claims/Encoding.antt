-- Ground 19 is the layout: a trace is accepted exactly where it is the encoding of its frames.
use Rattle.std.specs.Prelude.{ℕ, ◌≡◌, ◌↔◌, List, false}
use Rattle.file.specs.Rules.Bytes.{Bytes}
use Rattle.trace.specs.Rules.Encode.{Frames, encode_trace}
use Rattle.trace.specs.Rules.Trace.{broken_trace, frames_of}

-- bytes that break nothing are the encoding of their frames, each of at most 255 bytes, and the other way round
abbrev pub AcceptedIsEncoded : Type 0
AcceptedIsEncoded = (t : List ℕ) → Bytes t → (broken_trace t ≡ false) ↔ (Frames (frames_of t) × (t ≡ encode_trace (frames_of t)))

-- the encoding of any frames that a trace can hold breaks nothing, and its frames are those
pub record ReadBack (frames : List (List ℕ)) : Type 0 where
  pub accepted : broken_trace (encode_trace frames) ≡ false
  pub read : frames_of (encode_trace frames) ≡ frames

abbrev pub EncodedIsAccepted : Type 0
EncodedIsAccepted = (frames : List (List ℕ)) → Frames frames → ReadBack frames
