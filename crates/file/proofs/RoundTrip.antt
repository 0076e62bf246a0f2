-- Encoding and decoding, and what is accepted, over the offset width w: `Accepted` states these laws at the width of an edition.
-- Assumes nothing.
use Rattle.std.proofs.Common.{ℕ, ◌^◌, ◌<◌, ◌≡◌, refl, List, length}
use Rattle.file.specs.Rules.Bytes.{Bytes}
use Rattle.file.specs.Rules.Layout.{OffsetWidth, width_of}
use Rattle.file.specs.Rules.Cluster.{Cluster}
use Rattle.file.specs.Rules.Encode.{header, encode_at}
use Rattle.file.specs.Rules.Decode.{decode_at}
use Rattle.file.specs.Rules.Legal.{LegalAt}
use Rattle.file.specs.Rules.FileGrounds.{file_ground_at}
use Rattle.file.proofs.Width.{Width, Which, narrow, wide, which, place-fits, wide_enough}
use Rattle.file.proofs.Bytes.{all_map}
use Rattle.file.proofs.Sizes.{encode_at-length}
use Rattle.file.proofs.AcceptedFacts.{accepted}
use Rattle.file.proofs.Encoded as E
use Rattle.file.proofs.EncodedBytes.{encode-is-bytes}

-- an encoding says its width
says : {w : ℕ} → Which w → (c : Cluster) → width_of (encode_at w c) ≡ w
unfolding width_of encode_at header
says narrow c = refl
says wide c = refl

pub width-encoded : {w : ℕ} → OffsetWidth w → (c : Cluster) → width_of (encode_at w c) ≡ w
width-encoded width c = says (which width) c

module _ {w : ℕ} (c : Cluster) (l : LegalAt w c) where
  ample : Width w
  ample = wide_enough l.width

  legal-encoded : E.Encoded w (encode_at w c) c
  legal-encoded = E.encoded ample c (all_map E.legal_laid l.slaves)

  pub decode-encode : decode_at w (encode_at w c) ≡ c
  decode-encode =
      let short : length (encode_at w c) < 256 ^ w = rw (encode_at-length ample.two c) (place-fits ample l.size) in
      E.encoded-decode ample l.edition short legal-encoded

  pub encode-accepted : file_ground_at w (encode_at w c) ≡ 0
  encode-accepted = (accepted w (encode_at w c)).1 (E.encoded-accepted ample l legal-encoded)

  pub encode-bytes : Bytes (encode_at w c)
  encode-bytes = encode-is-bytes ample c l

module _ {w : ℕ} (width : OffsetWidth w) (f : List ℕ) (b : Bytes f) (g : file_ground_at w f ≡ 0) where
  pub encode-decode : encode_at w (decode_at w f) ≡ f
  encode-decode = E.encoded-only (wide_enough width) (E.accepted-encoded (wide_enough width) b ((accepted w f).0 g))

  pub accepted-legal : LegalAt w (decode_at w f)
  accepted-legal = E.accepted-legal (wide_enough width) width b ((accepted w f).0 g)
