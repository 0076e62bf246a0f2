-- No rule of a round looks at the edition (document 02, job 10: "All calls take both editions, and rounds give equal answers on a file and
-- its converted form, with the rules shown for both through one statement over the offset width.").
use Rattle.std.specs.Prelude.{ℕ, ◌≡◌, ◌↔◌, List, ◌∷◌, false, cond, get_or, eqb}
use Rattle.file.specs.Rules.Bytes.{Bytes}
use Rattle.file.specs.Rules.Order.{first_of}
use Rattle.file.specs.Rules.Results.{refused, done}
use Rattle.file.specs.Rules.Layout.{OffsetWidth, width_in, edition_of}
use Rattle.file.specs.Rules.Cluster.{Cluster}
use Rattle.file.specs.Rules.Encode.{encode_at}
use Rattle.file.specs.Rules.Decode.{decode}
use Rattle.file.specs.Rules.Changes.{with_edition}
use Rattle.file.specs.Rules.Legal.{LegalAt}
use Rattle.file.specs.Rules.FileGrounds.{file_ground}
use Rattle.file.specs.Rules.Editions.{in_edition, exceeds}
use Rattle.master_slave.specs.Rules.Bus.{sender_mask, answer_bytes, answer_in}
use Rattle.cluster.specs.Rules.RoundGrounds.{short_answer, round_by_lem, grounds_on}
use Rattle.cluster.specs.Rules.Round.{Answer, frame_on, round_on}
use Rattle.cluster.specs.Rules.Summary.{Summary, round_keeping, fill_on}
use Rattle.cluster.specs.Claims.Summary.{Matches}

-- ---- one statement over the offset width

-- a frame on a cluster: answer, buffer, and what the cluster becomes; of the file that holds it there is nothing in this
unfoldable pub exchange : Cluster → List ℕ → List ℕ → Answer × List ℕ × Cluster
exchange c frame buffer =
    let reason = first_of ((9, short_answer buffer) ∷ grounds_on c (round_by_lem frame) frame) in let effect = frame_on c frame in
    cond (eqb reason 0)
    (done (sender_mask effect.senders), answer_in buffer (answer_bytes (get_or frame 0 0) effect.senders), effect.after)
    (refused reason, buffer, c)

-- at every offset width w, on the encoding of a cluster that is legal in the edition of that width, a round is that exchange and leaves the
-- encoding of what the cluster becomes: w is the width of the encodings alone, and whichever edition is written in c, it is not looked at
abbrev pub RoundsAtWidth : Type 0
RoundsAtWidth =
    (w : ℕ) (c : Cluster) → LegalAt w (with_edition c (edition_of w)) → (frame buffer : List ℕ) →
    round_on (encode_at w c) frame buffer ≡ ((exchange c frame buffer).0, (exchange c frame buffer).1, encode_at w (exchange c frame buffer).2)

-- ---- a file and its converted form

-- an accepted file of bytes, and an edition that there is and that has room for it
pub record Convertible (f : List ℕ) (e : ℕ) : Type 0 where
  pub bytes : Bytes f
  pub accepted : file_ground f ≡ 0
  pub width : OffsetWidth (width_in e)
  pub room : exceeds (width_in e) (decode f).slaves ≡ false

-- edition 2 has room for every file of edition 1
abbrev pub EditionOneWidens : Type 0
EditionOneWidens = (f : List ℕ) → Bytes f → file_ground f ≡ 0 → get_or f 2 0 ≡ 1 → Convertible f 2

-- "rounds give equal answers on a file and its converted form": equal buffers too, and the file that is left is the converted form of the
-- one left by the round on the file itself, which there is room for again
abbrev pub RoundsConverted : Type 0
RoundsConverted =
    (f : List ℕ) (e : ℕ) (frame buffer : List ℕ) → Convertible f e → Bytes frame →
    (round_on (in_edition f e) frame buffer ≡ ((round_on f frame buffer).0, (round_on f frame buffer).1, in_edition (round_on f frame buffer).2 e)) ×
    Convertible (round_on f frame buffer).2 e

-- a summary matches the converted form exactly where it matches the file
abbrev pub SummaryConverted : Type 0
SummaryConverted = (f : List ℕ) (e : ℕ) (summary : Summary) → Convertible f e → Matches (in_edition f e) summary ↔ Matches f summary

-- so a round given it is the same too, and leaves the same summary, and the filling is the same
abbrev pub KeepingConverted : Type 0
KeepingConverted =
    (f : List ℕ) (e : ℕ) (summary : Summary) (frame buffer : List ℕ) → Convertible f e → Bytes frame →
    (round_keeping (in_edition f e) summary frame buffer ≡ (
      (round_keeping f summary frame buffer).0,
      (round_keeping f summary frame buffer).1,
      in_edition (round_keeping f summary frame buffer).2 e,
      (round_keeping f summary frame buffer).3,
    )) ×
    Convertible (round_keeping f summary frame buffer).2 e

abbrev pub FillingConverted : Type 0
FillingConverted = (f : List ℕ) (e : ℕ) (slice : List ℕ) → Convertible f e → fill_on (in_edition f e) slice ≡ fill_on f slice
