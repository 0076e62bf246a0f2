-- No rule of a round looks at the edition: a frame on a cluster in another edition has the same grounds and the same senders, and leaves
-- the same cluster in that edition. So a round on the encoding of a cluster is the same at every offset width, and a round on the converted
-- form of a file is the round on the file.
-- Assumes nothing.
use Prim.Native.Nat.{ℕ, zero, suc}
use mathlib.Core.Path.{◌≡◌, refl, sym, ap, ◌∙◌, subst}
use mathlib.Core.List.{List, [], ◌∷◌, ◌++◌}
use mathlib.Core.Bool.{Bool}
use lib.ListN.{get_or}
use lib.Dec.{eqb}
use borrow.Author.Tests.{eqb-true, le-ltb}
use Rattle.file.specs.Rules.Bytes.{Bytes}
use Rattle.file.specs.Rules.Order.{Ground, first_of}
use Rattle.file.specs.Rules.Layout.{width_in, edition_of}
use Rattle.file.specs.Rules.Cluster.{Slave, Cluster, logical_names}
use Rattle.file.specs.Rules.Encode.{header, encode_at, encode}
use Rattle.file.specs.Rules.Decode.{decode}
use Rattle.file.specs.Rules.Changes.{with_slaves, with_epoch, with_pending, with_edition}
use Rattle.file.specs.Rules.Legal.{LegalAt, Legal}
use Rattle.file.specs.Rules.FileGrounds.{file_ground, file_grounds}
use Rattle.file.specs.Rules.Editions.{in_edition, exceeds}
use Rattle.file.specs.Inner.Accepted.{Becomes}
use Rattle.file.specs.Inner.Places.{SameShape}
use Rattle.file.proofs.Order.{by_case, either_false, joined-next, first-none}
use Rattle.file.proofs.Results.{file-first, file_numbered}
use Rattle.file.proofs.Width.{two_widths, width_back}
use Rattle.file.proofs.Shape.{shape_count, shape_file_length}
use Rattle.file.proofs.Accepted.{accepted-legal, legal-becomes, accepted-becomes, decode-encode, encode-decode, encode-bytes}
use Rattle.file.proofs.Editions.{legal_in, widened}
use Rattle.frame.specs.Rules.Fireworks.{Round, multipartner, msd, msa, no_round}
use Rattle.master_slave.specs.Rules.Bus.{Senders, slots, sender_mask, anyone}
use Rattle.master_slave.specs.Rules.Slaves.{with_address, epoch_raised, nothing, pending_duty, slaves_after, rested}
use Rattle.multipartner.specs.Rules.Entries.{Entry}
use Rattle.multipartner.specs.Rules.Multipartner.{sent_in, received_in, cluster_below, sent_during}
use Rattle.cluster.specs.Rules.RoundGrounds.{short_answer, round_by_lem, write_pending, grounds_on}
use Rattle.multipartner.specs.Rules.Multipartner.{passed_over_lem}
use Rattle.cluster.specs.Rules.Round.{effect_of, frame_on, Answer, round_ground, round_on}
use Rattle.cluster.specs.Rules.MasterSlave.{Sent, address_sent, data_sent, round_sent}
use Rattle.cluster.specs.Rules.Summary.{Summary, round_keeping_ground, round_keeping, fill_ground, fill_on}
use Rattle.cluster.specs.Inner.EachGround.{frame_ground}
use Rattle.cluster.specs.Inner.Sending.{MaySend}
use Rattle.cluster.specs.Claims.Renaming.{names_of}
use Rattle.cluster.specs.Claims.RoundEditions.{exchange, RoundsAtWidth, Convertible, EditionOneWidens, RoundsConverted, SummaryConverted, KeepingConverted, FillingConverted}
use Rattle.master_slave.proofs.Bus.{mask-alike, answer-alike}
use Rattle.master_slave.proofs.Kept.{ClusterKept, kept_refl}
use Rattle.cluster.proofs.Rounds.{frame-kept}
use Rattle.cluster.proofs.SentRounds.{address-sent-bytes, data-sent-bytes}
use Rattle.cluster.proofs.SummaryLaws.{right_matches, matches_right}

-- ---- a frame on a cluster in another edition

module _ (e : ℕ) where
  module _ (passed : Entry → Bool) (round : ℕ) where
    received :
        (slot : ℕ) (c : Cluster) (sent : List ℕ) →
        received_in passed round slot (with_edition c e) sent ≡ with_edition (received_in passed round slot c sent) e
    unfolding received_in with_edition with_slaves
    received slot c [] = refl
    received slot c (b ∷ bs) = refl

    sent-same : (slot : ℕ) (c : Cluster) → sent_in passed round slot (with_edition c e) ≡ sent_in passed round slot c
    unfolding sent_in with_edition
    sent-same zero c = refl
    sent-same (suc slot) c = refl

    below : (c : Cluster) (n : ℕ) → cluster_below passed round (with_edition c e) n ≡ with_edition (cluster_below passed round c n) e
    unfolding cluster_below
    below c zero = refl
    below c (suc n) =
        let before : Cluster = cluster_below passed round c n in
        rw (below c n, sent-same n before) (received n before (sent_in passed round n before))

    during : (c : Cluster) (slot : ℕ) → sent_during passed round (with_edition c e) slot ≡ sent_during passed round c slot
    unfolding sent_during
    during c slot = rw (below c slot) (sent-same slot (cluster_below passed round c slot))

  senders-same :
      (c : Cluster) (round : Round) (frame : List ℕ) (slot : ℕ) →
      (effect_of (with_edition c e) round frame).senders slot ≡ (effect_of c round frame).senders slot
  unfolding effect_of epoch_raised with_epoch with_edition pending_duty passed_over_lem
  senders-same c (multipartner r) frame slot = unfold with_edition epoch_raised with_epoch in during (passed_over_lem c) r (epoch_raised c) slot
  senders-same c msd frame slot = refl
  senders-same c msa frame slot = refl
  senders-same c no_round frame slot = refl

  after_same :
      (c : Cluster) (round : Round) (frame : List ℕ) → (effect_of (with_edition c e) round frame).after ≡ with_edition (effect_of c round frame).after e
  unfolding effect_of epoch_raised with_epoch with_edition pending_duty slaves_after with_slaves with_address with_pending passed_over_lem rested
  after_same c (multipartner r) frame =
      unfold with_edition epoch_raised with_epoch rested with_slaves in
      ap (λ (d : Cluster). rested nothing d) (below (passed_over_lem c) r (epoch_raised c) slots)
  after_same c msd frame = refl
  after_same c msa frame = refl
  after_same c no_round frame = refl

  grounds_same : (c : Cluster) (round : Round) (frame : List ℕ) → grounds_on (with_edition c e) round frame ≡ grounds_on c round frame
  unfolding grounds_on write_pending with_edition
  grounds_same c (multipartner r) frame = refl
  grounds_same c msd frame = refl
  grounds_same c msa frame = refl
  grounds_same c no_round frame = refl

  -- so is the exchange, but that it leaves the cluster in that edition
  exchange-same :
      (c : Cluster) (frame buffer : List ℕ) →
      exchange (with_edition c e) frame buffer ≡ ((exchange c frame buffer).0, (exchange c frame buffer).1, with_edition (exchange c frame buffer).2 e)
  unfolding exchange frame_on sender_mask
  exchange-same c frame buffer =
      let old : Senders = (effect_of c (round_by_lem frame) frame).senders in
      let new : Senders = (effect_of (with_edition c e) (round_by_lem frame) frame).senders in
      let same : (slot : ℕ) → new slot ≡ old slot = senders-same c (round_by_lem frame) frame in
      by_case (eqb (first_of ((9, short_answer buffer) ∷ grounds_on c (round_by_lem frame) frame)) 0)
      (λ t.
      rw (
        grounds_same c (round_by_lem frame) frame,
        t,
        mask-alike new old slots (λ slot. ap anyone (same slot)),
        answer-alike buffer (get_or frame 0 0) new old same,
        after_same c (round_by_lem frame) frame,
      ))
      (λ t. rw (grounds_same c (round_by_lem frame) frame, t))

-- ---- a round on an accepted file is the exchange of its cluster

-- the grounds behind those of an accepted file
pub behind-file : (f : List ℕ) (gs : List Ground) → file_ground f ≡ 0 → first_of (file_grounds f ++ gs) ≡ first_of gs
behind-file f gs none = joined-next (file_grounds f) gs (file_numbered f) (file-first f ∙ none)

pub round-exchange :
    {f : List ℕ} {c : Cluster} (frame buffer : List ℕ) → Becomes f c →
    round_on f frame buffer ≡ ((exchange c frame buffer).0, (exchange c frame buffer).1, encode (exchange c frame buffer).2)
unfolding round_on round_ground exchange
round-exchange {f} {c} frame buffer b =
    let gs : List Ground = (9, short_answer buffer) ∷ grounds_on c (round_by_lem frame) frame in
    by_case (eqb (first_of gs) 0)
    (λ t. rw (b.decoded, behind-file f gs b.accepted, t))
    (λ t. rw (b.decoded, behind-file f gs b.accepted, t, ← b.encoded))

-- what it leaves: the cluster itself where it is refused
exchange-kept : (c : Cluster) (frame buffer : List ℕ) → Bytes frame → ClusterKept c (exchange c frame buffer).2
unfolding exchange
exchange-kept c frame buffer bytes =
    by_case (eqb (first_of ((9, short_answer buffer) ∷ grounds_on c (round_by_lem frame) frame)) 0)
    (λ t. rw t (frame-kept c frame bytes (unfold frame_ground in (first-none 8 _ _ (eqb-true _ _ t)).1)))
    (λ t. rw t (kept_refl c))

-- ---- one statement over the offset width

-- the edition that is written in a cluster is not in its encoding
encode_same : (w e : ℕ) (c : Cluster) → encode_at w (with_edition c e) ≡ encode_at w c
unfolding encode_at header with_edition
encode_same w e c = refl

-- a cluster of a width's edition is encoded at that width
own_width : (w : ℕ) (c : Cluster) → width_in (edition_of w) ≡ w → encode (with_edition c (edition_of w)) ≡ encode_at w c
unfolding encode with_edition
own_width w c back =
    subst (λ (v : ℕ). encode_at v (with_edition c (edition_of w)) ≡ encode_at w c) (sym back) (encode_same w (edition_of w) c)

own-legal :
    (w : ℕ) (c : Cluster) → width_in (edition_of w) ≡ w → LegalAt w (with_edition c (edition_of w)) → Legal (with_edition c (edition_of w))
unfolding with_edition
own-legal w c back l = subst (λ (v : ℕ). LegalAt v (with_edition c (edition_of w))) (sym back) l

pub rounds-at-width : RoundsAtWidth
rounds-at-width w c l frame buffer =
    let e : ℕ = edition_of w in
    let back : width_in (edition_of w) ≡ w = width_back l.width in
    let legal : Legal (with_edition c e) = own-legal w c back l in
    let held : Becomes (encode_at w c) (with_edition c e) =
    subst (λ (f : List ℕ). Becomes f (with_edition c e)) (own_width w c back) (legal-becomes (with_edition c e) legal)
    in
    rw (round-exchange frame buffer held, exchange-same e c frame buffer, own_width w (exchange c frame buffer).2 back)

-- ---- a file and its converted form

edition-last : (c : Cluster) (e next : ℕ) → with_edition (with_edition c e) next ≡ with_edition c next
unfolding with_edition
edition-last c e next = refl

-- slaves of the same shape have room where the others have
shape_exceeds : (w : ℕ) {ss ts : List Slave} → SameShape ss ts → exceeds w ss ≡ exceeds w ts
unfolding exceeds
shape_exceeds w same = rw (shape_count same, shape_file_length w same)

module _ {f : List ℕ} {e : ℕ} (convertible : Convertible f e) where
  pub itself : Becomes f (decode f)
  itself = accepted-becomes f convertible.bytes convertible.accepted

  -- the converted form holds the cluster in that edition
  pub form : Becomes (in_edition f e) (with_edition (decode f) e)
  unfolding in_edition
  form = legal-becomes (with_edition (decode f) e) (legal_in (decode f) e convertible.width convertible.room itself.legal)

  -- a file of the same shape in its own edition is convertible too
  pub convertible_after : {g : List ℕ} {d : Cluster} → g ≡ encode d → ClusterKept (decode f) d → Convertible g e
  convertible_after {d = d} is kept =
      let new : Becomes (encode d) d = legal-becomes d (kept.legal itself.legal) in
      subst (λ (h : List ℕ). Convertible h e) (sym is) (record {
        bytes = encode-bytes d new.legal;
        accepted = new.accepted;
        width = convertible.width;
        room = rw (new.decoded, ← shape_exceeds (width_in e) kept.shape) convertible.room;
      })

  -- the grounds of a call are the same where those behind the file's are
  pub grounds_behind : {gs hs : List Ground} → gs ≡ hs → first_of (file_grounds (in_edition f e) ++ gs) ≡ first_of (file_grounds f ++ hs)
  grounds_behind {gs} {hs} same =
      behind-file (in_edition f e) gs form.accepted ∙ ap first_of same ∙ sym (behind-file f hs convertible.accepted)

  -- the slaves are the same, so are their names
  pub slaves-same : (decode (in_edition f e)).slaves ≡ (decode f).slaves
  unfolding with_edition
  slaves-same = ap (λ (c : Cluster). c.slaves) form.decoded

  pub names_same : names_of (in_edition f e) ≡ names_of f
  unfolding logical_names
  names_same = rw slaves-same

  -- converted twice, a file is in the last of the two editions
  pub form_again : (next : ℕ) → in_edition (in_edition f e) next ≡ in_edition f next
  unfolding in_edition
  form_again next = ap (λ (c : Cluster). encode (with_edition c next)) form.decoded ∙ ap encode (edition-last (decode f) e next)

pub edition-one_widens : EditionOneWidens
edition-one_widens f bytes accepted one =
    record { bytes = bytes; accepted = accepted; width = two_widths.1; room = (widened f bytes accepted one).fits }

-- a file is convertible to its own edition, in which it is as it was
pub own_edition : (f : List ℕ) → Bytes f → file_ground f ≡ 0 → Convertible f (decode f).edition × (in_edition f (decode f).edition ≡ f)
unfolding exceeds in_edition
own_edition f bytes accepted =
    let l : Legal (decode f) = accepted-legal f bytes accepted in (
      record {
        bytes = bytes;
        accepted = accepted;
        width = l.width;
        room = either_false (le-ltb _ _ l.count) (le-ltb _ _ l.size);
      },
      rw (same (decode f)) (encode-decode f bytes accepted),
    )
  where
    same : (c : Cluster) → with_edition c c.edition ≡ c
    same c = unfold with_edition in refl

-- of an encoding the converted form is that of its cluster
encoded-form : (d : Cluster) (e : ℕ) → Legal d → encode (with_edition d e) ≡ in_edition (encode d) e
unfolding in_edition
encoded-form d e l = rw (decode-encode d l)

pub rounds-converted : RoundsConverted
rounds-converted f e frame buffer convertible bytes =
    let x = exchange (decode f) frame buffer in
    let kept : ClusterKept (decode f) x.2 = exchange-kept (decode f) frame buffer bytes in
    let old = round-exchange frame buffer (itself convertible) in
    let new = round-exchange frame buffer (form convertible) in (
      rw (old, new, exchange-same e (decode f) frame buffer, encoded-form x.2 e (kept.legal (itself convertible).legal)),
      convertible_after convertible (ap (λ (r : Answer × List ℕ × List ℕ). r.2) old) kept,
    )

-- a complete round: the master asks the file for its epoch alone
pub sent-converted :
    (f : List ℕ) (e : ℕ) (s : Sent) (buffer : List ℕ) → Convertible f e → MaySend s →
    (round_sent (in_edition f e) s buffer ≡ ((round_sent f s buffer).0, (round_sent f s buffer).1, in_edition (round_sent f s buffer).2 e)) ×
    Convertible (round_sent f s buffer).2 e
unfolding round_sent
sent-converted f e s buffer convertible may =
    let address : List ℕ = address_sent (decode f) s in
    let asked : address_sent (decode (in_edition f e)) s ≡ address = rw (form convertible).decoded (unfold address_sent with_edition in refl) in
    let (first, between) = rounds-converted f e address buffer convertible (address-sent-bytes (decode f) s may) in
    let (second, after) =
    rounds-converted (round_on f address buffer).2 e (data_sent s) (round_on f address buffer).1 between (data-sent-bytes (decode f) s may)
    in
    (rw (asked, first) second, after)

pub summary-converted : SummaryConverted
summary-converted f e summary convertible =
    let same : names_of (in_edition f e) ≡ names_of f = names_same convertible in (
      λ m. right_matches f summary (rw same at (matches_right (in_edition f e) m)),
      λ m. right_matches (in_edition f e) summary (rw same (matches_right f m)),
    )

pub keeping-ground :
    (f : List ℕ) (e : ℕ) (summary : Summary) (frame buffer : List ℕ) → Convertible f e →
    round_keeping_ground (in_edition f e) summary frame buffer ≡ round_keeping_ground f summary frame buffer
unfolding round_keeping_ground
keeping-ground f e summary frame buffer convertible =
    grounds_behind convertible (rw (names_same convertible, (form convertible).decoded, grounds_same e (decode f) (round_by_lem frame) frame))

pub keeping_converted : KeepingConverted
unfolding round_keeping
keeping_converted f e summary frame buffer convertible bytes =
    let (same, after) = rounds-converted f e frame buffer convertible bytes in
    by_case (eqb (round_keeping_ground f summary frame buffer) 0)
    (λ t. (rw (keeping-ground f e summary frame buffer convertible, t, same, names_same after), rw t after))
    (λ t. (rw (keeping-ground f e summary frame buffer convertible, t), rw t convertible))

filling_ground : (f : List ℕ) (e : ℕ) (slice : List ℕ) → Convertible f e → fill_ground (in_edition f e) slice ≡ fill_ground f slice
unfolding fill_ground
filling_ground f e slice convertible = grounds_behind convertible (rw (slaves-same convertible))

pub filling_converted : FillingConverted
unfolding fill_on
filling_converted f e slice convertible = rw (filling_ground f e slice convertible, names_same convertible, slaves-same convertible)
