-- An accepted file at the offset width of its edition: what the laws over a width take, and what they give back.
-- Assumes nothing.
use Rattle.std.proofs.Common.{ℕ, ◌*◌, ◌≤◌, arith, ◌≡◌, sym, ◌∙◌, ap, subst, ◌≢◌, List, length, get_or}
use lib.ListN.{get_or-eq_default}
use Rattle.file.specs.Rules.Layout.{width_in, width_of, epoch_place, header_size, max_length}
use Rattle.file.specs.Inner.Numbers.{ByteAt}
use Rattle.file.specs.Rules.Cluster.{Cluster}
use Rattle.file.specs.Rules.Encode.{encode_at, encode}
use Rattle.file.specs.Rules.Decode.{decode_at, decode}
use Rattle.file.specs.Rules.Legal.{LegalAt}
use Rattle.file.specs.Rules.FileGrounds.{file_ground_at, file_ground}
use Rattle.file.specs.Inner.Places.{file_place_at, file_place, SameShape}
use Rattle.file.specs.Inner.Accepted.{Becomes, AcceptedFile, WidthOf, EpochAt}
use Rattle.file.proofs.AcceptedFacts.{accepted}
use Rattle.file.proofs.Width.{width_two, width_four, file-width, width_back}
use Rattle.file.proofs.Accepted.{decoded-width, legal-becomes}
use Rattle.file.proofs.Shape.{shape_file_place_at, shape_file_length}
use Rattle.file.proofs.Sizes.{encode_at-length}

-- the file is accepted at that width, and it is that cluster's one encoding
pub record BecomesAt (w : ℕ) (f : List ℕ) (c : Cluster) : Type 0 where
  pub accepted : file_ground_at w f ≡ 0
  pub decoded : decode_at w f ≡ c
  pub encoded : f ≡ encode_at w c
  pub legal : LegalAt w c

-- ---- the width of a file

pub edition-width : (f : List ℕ) → WidthOf f (width_of f)
edition-width f = record { is = sym (decoded-width f); width = file-width f }

-- as a reader finds it: there is no byte 2, it is not 2, or it is
module _ {f : List ℕ} where
  pub other_width : get_or f 2 0 ≢ 2 → WidthOf f 2
  other_width other = subst (WidthOf f) (width_two f other) (edition-width f)

  pub short-width : length f ≤ 2 → WidthOf f 2
  short-width short = other_width (λ is. omega (arith, is, get_or-eq_default f 0 short))

  pub wide_width : get_or f 2 0 ≡ 2 → WidthOf f 4
  wide_width is = subst (WidthOf f) (width_four f is) (edition-width f)

-- what a file is refused by and what it holds, at its width
module _ {f : List ℕ} {w : ℕ} (v : WidthOf f w) where
  its_width : width_of f ≡ w
  its_width = sym (v.is ∙ decoded-width f)

  pub ground_at : file_ground f ≡ file_ground_at w f
  unfolding file_ground
  ground_at = ap (λ (n : ℕ). file_ground_at n f) its_width

  pub decode-at : decode f ≡ decode_at w f
  unfolding decode
  decode-at = ap (λ (n : ℕ). decode_at n f) its_width

-- ---- by the width of the edition

-- an accepted file is so at the width of its cluster's edition
pub at-edition : {f : List ℕ} {c : Cluster} → Becomes f c → BecomesAt (width_in c.edition) f c
unfolding file_ground decode encode
at-edition {f} {c} h =
    let is : width_of f ≡ width_in c.edition = sym (decoded-width f) ∙ ap (λ (d : Cluster). width_in d.edition) h.decoded in
    record {
      accepted = subst (λ (w : ℕ). file_ground_at w f ≡ 0) is h.accepted;
      decoded = subst (λ (w : ℕ). decode_at w f ≡ c) is h.decoded;
      encoded = h.encoded;
      legal = h.legal;
    }

pub becomes_in : {w : ℕ} {f : List ℕ} {c : Cluster} → w ≡ width_in c.edition → Becomes f c → BecomesAt w f c
becomes_in {f = f} {c = c} is h = subst (λ (w : ℕ). BecomesAt w f c) (sym is) (at-edition h)

-- which is that of the file
pub becomes-at : {w : ℕ} {f : List ℕ} {c : Cluster} → WidthOf f w → Becomes f c → BecomesAt w f c
becomes-at {c = c} v h = becomes_in (v.is ∙ ap (λ (d : Cluster). width_in d.edition) h.decoded) h

-- a legal cluster's edition is that of the width
legal-width : {w : ℕ} {c : Cluster} → LegalAt w c → w ≡ width_in c.edition
legal-width l = sym (ap width_in l.edition ∙ width_back l.width)

-- the encoding of a cluster that is legal at that width
pub becomes_as : {w : ℕ} {f : List ℕ} {c : Cluster} → f ≡ encode_at w c → LegalAt w c → Becomes f c
unfolding encode
becomes_as {w} {f} {c} e l =
    let is : w ≡ width_in c.edition = legal-width l in
    let here : f ≡ encode c = e ∙ ap (λ (v : ℕ). encode_at v c) is in
    subst (λ (g : List ℕ). Becomes g c) (sym here) (legal-becomes c (subst (λ (v : ℕ). LegalAt v c) is l))

-- ---- what the header says

module _ {w : ℕ} {f : List ℕ} {c : Cluster} (h : BecomesAt w f c) where
  pub width-in : w ≡ width_in c.edition
  width-in = legal-width h.legal

  pub header-room-at : header_size w ≤ length f
  header-room-at = ((accepted w f).0 h.accepted).size.low

  pub length_at : length f ≤ max_length w
  length_at = ((accepted w f).0 h.accepted).size.high

-- and the width by its third byte
pub accepted-width : {f : List ℕ} {b : ℕ} → AcceptedFile f → ByteAt f 2 b → WidthOf f (2 * b)
accepted-width {f} {b} h read =
    let v = edition-width f in
    let here = becomes-at v h in
    let same : 2 * b ≡ width_of f = omega (arith, ((accepted (width_of f) f).0 here.accepted).edition, v.width.even, read.is) in
    subst (WidthOf f) (sym same) v

pub epoch-at : {f : List ℕ} {w : ℕ} → AcceptedFile f → WidthOf f w → EpochAt f (epoch_place w)
epoch-at h v =
    record {
      is = ap epoch_place v.is;
      room = omega (arith, header-room-at (becomes-at v h), v.width.least);
      low = omega (arith, v.width.most);
    }

-- ---- clusters of one edition and the same shape

-- their places are the same
pub shape_file_place : (c d : Cluster) → c.edition ≡ d.edition → SameShape c.slaves d.slaves → (s n : ℕ) → file_place c s n ≡ file_place d s n
unfolding file_place
shape_file_place c d edition same s n =
    ap (λ (e : ℕ). file_place_at (width_in e) c s n) edition ∙ shape_file_place_at c d same (width_in d.edition) s n

-- and so are the lengths of their files
pub length-kept : {f g : List ℕ} {c d : Cluster} → Becomes f c → Becomes g d → d.edition ≡ c.edition → SameShape c.slaves d.slaves → length g ≡ length f
length-kept {f} {g} {c} {d} old new edition same =
    let w : ℕ = width_in c.edition in
    let before : BecomesAt w f c = at-edition old in
    let after : BecomesAt w g d = becomes_in (ap width_in (sym edition)) new in
    ap length after.encoded
    ∙ encode_at-length before.legal.width.least d
    ∙ sym (shape_file_length w same)
    ∙ sym (ap length before.encoded ∙ encode_at-length before.legal.width.least c)
