-- What the cluster file's checker accepts, in either edition: exactly the encodings of legal clusters. Encoding and decoding are inverse
-- to each other between legal clusters and accepted files.
-- Assumes nothing.
use Rattle.std.proofs.Common.{ℕ, arith, ◌≡◌, refl, sym, ◌∙◌, subst, ◌↔◌, false, eqb-true, eqb, List}
use borrow.Author.Tests.{eqb-false}
use Rattle.file.specs.Rules.Layout.{width_in, width_of}
use Rattle.file.specs.Rules.Bytes.{Bytes}
use Rattle.file.specs.Rules.Cluster.{Cluster, logical_names}
use Rattle.file.specs.Rules.Encode.{encode_at, encode}
use Rattle.file.specs.Rules.Decode.{decode_at, decode}
use Rattle.file.specs.Rules.Legal.{LegalAt, Legal, Distinct}
use Rattle.file.specs.Rules.FileGrounds.{file_ground, held_names, equal_logical_names, load_ground, load_verdict}
use Rattle.file.specs.Claims.Accepted.{AcceptedExactly, LoadedExactly, FileGroundsFirst, ClusterComesBack, FileComesBack}
use Rattle.file.specs.Inner.Accepted.{Becomes}
use Rattle.file.proofs.Order.{by_case}
use Rattle.file.proofs.Results.{load_first, load_last, load_file, load_names, file-most, result_done, result_refused, no_ground, that_ground}
use Rattle.file.proofs.AcceptedFacts.{no_repeat, distinct_no_repeat}
use Rattle.file.proofs.Width.{file-width, width_back}
use Rattle.file.proofs.RoundTrip

-- a legal cluster comes back from its encoding
pub decode-encode : ClusterComesBack
unfolding decode encode
decode-encode c l = rw (RoundTrip.width-encoded l.width c) (RoundTrip.decode-encode c l)

-- the encoding of a legal cluster is accepted
pub encode-accepted : (c : Cluster) → Legal c → file_ground (encode c) ≡ 0
unfolding file_ground encode
encode-accepted c l = rw (RoundTrip.width-encoded l.width c) (RoundTrip.encode-accepted c l)

-- and it is bytes
pub encode-bytes : (c : Cluster) → Legal c → Bytes (encode c)
unfolding encode
encode-bytes c l = RoundTrip.encode-bytes c l

-- the edition of what a file holds is that of its width
pub decoded-width : (f : List ℕ) → width_in (decode f).edition ≡ width_of f
unfolding decode decode_at
decoded-width f = width_back (file-width f)

-- an accepted file comes back from its cluster
pub encode-decode : FileComesBack
unfolding file_ground encode decode
encode-decode f b g =
    subst (λ (w : ℕ). encode_at w (decode f) ≡ f) (sym (decoded-width f)) (RoundTrip.encode-decode (file-width f) f b g)

-- and its cluster is legal
pub accepted-legal : (f : List ℕ) → Bytes f → file_ground f ≡ 0 → Legal (decode f)
unfolding file_ground decode
accepted-legal f b g = subst (λ (w : ℕ). LegalAt w (decode f)) (sym (decoded-width f)) (RoundTrip.accepted-legal (file-width f) f b g)

-- bytes are accepted exactly where they are the encoding of a legal cluster
pub accepted_exactly : AcceptedExactly
accepted_exactly f b = (
  λ g. (decode f, accepted-legal f b g, sym (encode-decode f b g)),
  λ (c, l, e). subst (λ (h : List ℕ). file_ground h ≡ 0) (sym e) (encode-accepted c l),
)

-- the same as the layers above hand it on
pub legal-becomes : (c : Cluster) → Legal c → Becomes (encode c) c
legal-becomes c l = record { accepted = encode-accepted c l; decoded = decode-encode c l; encoded = refl; legal = l }

pub accepted-becomes : (f : List ℕ) → Bytes f → file_ground f ≡ 0 → Becomes f (decode f)
accepted-becomes f b g =
    record { accepted = g; decoded = refl; encoded = sym (encode-decode f b g); legal = accepted-legal f b g }

-- ---- on loading

-- ground 22 of an accepted file, by its cluster
held_once : (f : List ℕ) → (equal_logical_names (width_of f) f ≡ false) ↔ Distinct (held_names (logical_names (decode f)))
unfolding equal_logical_names decode
held_once f = (no_repeat _, distinct_no_repeat)

pub load_accepts : LoadedExactly
unfolding load_verdict
load_accepts f b = (
  λ v.
      let none : load_ground f ≡ 0 = no_ground tt (load_ground f) (sym v) in
      let g : file_ground f ≡ 0 = load_file f none in
      (decode f, accepted-legal f b g, (held_once f).0 (load_names f none), sym (encode-decode f b g)),
  λ (c, l, once, e).
      let g : file_ground f ≡ 0 = (accepted_exactly f b).1 (c, l, e) in
      let is : decode f ≡ c = rw e (decode-encode c l) in
      let names : equal_logical_names (width_of f) f ≡ false = (held_once f).1 (subst (λ (d : Cluster). Distinct (held_names (logical_names d))) (sym is) once) in
      result_done (load_last f g ∙ rw names),
)

pub file_grounds_first : FileGroundsFirst
unfolding load_verdict
file_grounds_first f =
    record {
      first = λ some. rw (load_first f some) (sym (result_refused tt some));
      last = (
        λ v.
            let by : 22 ≡ load_ground f = (that_ground tt 22 (load_ground f) (sym v)).0 in
            let g : file_ground f ≡ 0 = only_then by in
            (g, λ once. let z : ◌≡◌ {A = ℕ} 22 0 = by ∙ load_last f g ∙ rw ((held_once f).1 once) in omega arith),
        λ (g, twice). rw (held-twice g twice) (sym (result_refused tt (λ z. omega arith))),
      );
    }
  where
    held-twice : file_ground f ≡ 0 → (Distinct (held_names (logical_names (decode f))) → ⊥) → load_ground f ≡ 22
    held-twice g twice =
        by_case (equal_logical_names (width_of f) f)
        (λ t. load_last f g ∙ rw t)
        (λ t. absurd (twice ((held_once f).0 t)))

    only_then : 22 ≡ load_ground f → file_ground f ≡ 0
    only_then by =
        by_case (eqb (file_ground f) 0)
        (λ t. eqb-true (file_ground f) 0 t)
        (λ t.
        let z : 22 ≡ file_ground f = by ∙ load_first f (eqb-false (file_ground f) 0 t) in
        absurd (omega (arith, file-most f)))
