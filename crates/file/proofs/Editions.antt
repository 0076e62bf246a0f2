-- A file in its other edition: only the slave count and the length decide whether there is room for it, it comes back, and edition 2 has
-- room for every file of edition 1. And what a tester that knows edition 1 alone answers to a file of edition 2.
-- Assumes nothing.
use Rattle.std.proofs.Common.{ℕ, ◌+◌, ◌*◌, ◌≤◌, arith, ◌≡◌, refl, sym, ap, ◌∙◌, subst, List, [], ◌∷◌, false, cond, length, ltb, le-ltb, ltb-false}
use Rattle.file.specs.Rules.Bytes.{All}
use Rattle.file.specs.Rules.Order.{first_of, either}
use Rattle.file.specs.Rules.Layout.{OffsetWidth, width_in, max_slaves, max_length}
use Rattle.file.specs.Rules.Cluster.{Slave, Cluster}
use Rattle.file.specs.Rules.Encode.{slave_size, slaves_size, slaves_place, file_length, encode_at, encode}
use Rattle.file.specs.Rules.Decode.{decode}
use Rattle.file.specs.Rules.Changes.{with_edition}
use Rattle.file.specs.Rules.Legal.{LegalSlave, LegalPending, LegalAt, Legal}
use Rattle.file.specs.Rules.FileGrounds.{wrong_size, wrong_edition, file_grounds_at, file_ground_at, file_ground}
use Rattle.file.specs.Rules.Editions.{in_edition, exceeds}
use Rattle.file.specs.Claims.Editions.{Converts, ConvertsWhereItFits, WidenedComesBack, OwnEditionCopies, HandheldRefuses}
use Rattle.file.proofs.Order.{by_case, either_false, either_false_left, either_false_right}
use Rattle.file.proofs.Facts.{mark_yes}
use Rattle.file.proofs.AcceptedFacts.{accepted}
use Rattle.file.proofs.Sizes.{encode_at-length}
use Rattle.file.proofs.Width.{two_widths, width_four}
use Rattle.file.proofs.EncodedBytes.{files-few}
use Rattle.file.proofs.Accepted.{decode-encode, encode-accepted, encode-decode, accepted-legal}
use Rattle.file.proofs.EditionOne.{edition-at}

-- ---- another edition that has room for the slaves

room_for : (w : ℕ) (ss : List Slave) → length ss ≤ max_slaves w → file_length w ss ≤ max_length w → exceeds w ss ≡ false
unfolding exceeds
room_for w ss few short = either_false (le-ltb _ _ few) (le-ltb _ _ short)

-- the pending operation is read from five fields alone
pending_in : (c : Cluster) (e : ℕ) → LegalPending c → LegalPending (with_edition c e)
unfolding with_edition
pending_in c e p =
    record {
      epoch = p.epoch;
      flag = p.flag;
      name = p.name;
      pb2 = p.pb2;
      pb3 = p.pb3;
      operation = p.operation;
      broadcast_read = p.broadcast_read;
    }

pub legal_in : (c : Cluster) (e : ℕ) → OffsetWidth (width_in e) → exceeds (width_in e) c.slaves ≡ false → Legal c → Legal (with_edition c e)
unfolding with_edition exceeds
legal_in c e width room l =
    record {
      width = width;
      edition = omega arith;
      count = ltb-false _ _ (either_false_left _ _ room);
      pending = pending_in c e l.pending;
      slaves = l.slaves;
      names = l.names;
      size = ltb-false _ _ (either_false_right _ _ room);
    }

same_again : (c : Cluster) (e : ℕ) → with_edition (with_edition c e) c.edition ≡ c
unfolding with_edition
same_again c e = refl

pub converts : ConvertsWhereItFits
unfolding in_edition
converts f e b g width room =
    record {
      accepted = encode-accepted (with_edition (decode f) e) legal;
      cluster = decode-encode (with_edition (decode f) e) legal;
      long = long;
      back = rw (decode-encode (with_edition (decode f) e) legal, same_again (decode f) e) (encode-decode f b g);
    }
  where
    legal : Legal (with_edition (decode f) e)
    legal = legal_in (decode f) e width room (accepted-legal f b g)

    long : length (encode (with_edition (decode f) e)) ≡ file_length (width_in e) (decode f).slaves
    long = unfold encode in unfold with_edition in encode_at-length width.least (with_edition (decode f) e)

-- "Converting to the edition a file already has copies it."
own_edition : (c : Cluster) → with_edition c c.edition ≡ c
unfolding with_edition
own_edition c = refl

pub copies : OwnEditionCopies
unfolding in_edition
copies f b g = rw (← edition-at f g, own_edition (decode f)) (encode-decode f b g)

-- ---- edition 1 in edition 2

slave_wider : (s : Slave) → slave_size 4 s ≤ 2 * slave_size 2 s
unfolding slave_size
slave_wider s = omega arith

slaves_wider : (ss : List Slave) → slaves_size 4 ss ≤ 2 * slaves_size 2 ss
unfolding slaves_size
slaves_wider [] = omega arith
slaves_wider (s ∷ ss) = omega (arith, slave_wider s, slaves_wider ss)

pub widening_fits : (ss : List Slave) → file_length 4 ss ≤ 2 * file_length 2 ss
unfolding file_length slaves_place
widening_fits ss = omega (arith, slaves_wider ss)

-- an entry is 4 bytes longer, and a slave has at most 64 files
slaves-most : {ss : List Slave} → All LegalSlave ss → slaves_size 4 ss ≤ slaves_size 2 ss + 4 * 64 * length ss
unfolding slaves_size slave_size
slaves-most All.all_empty = omega arith
slaves-most (All.all_next l ls) = omega (arith, slaves-most ls, files-few l.rising l.files (omega arith))

widened_most : (c : Cluster) → LegalAt 2 c → file_length 4 c.slaves ≤ 41096
unfolding file_length slaves_place
widened_most c l = omega (arith, slaves-most l.slaves, l.count, l.size)

pub widened : WidenedComesBack
widened f b g one =
    record {
      fits = room;
      long = long;
      most = omega (arith, there.long, widened_most (decode f) legal);
      back = subst (λ (e : ℕ). in_edition (in_edition f 2) e ≡ f) edition there.back;
    }
  where
    edition : (decode f).edition ≡ 1
    edition = edition-at f g ∙ one

    legal : LegalAt 2 (decode f)
    legal = subst (λ (e : ℕ). LegalAt (width_in e) (decode f)) edition (accepted-legal f b g)

    whole : length f ≡ file_length 2 (decode f).slaves
    whole = ap length (sym (encode-decode f b g)) ∙ encoded-long
      where
        encoded-long : length (encode (decode f)) ≡ file_length 2 (decode f).slaves
        encoded-long =
            unfold encode in
            subst (λ (e : ℕ). length (encode_at (width_in e) (decode f)) ≡ file_length 2 (decode f).slaves) (sym edition) (encode_at-length two_widths.0.least (decode f))

    room : exceeds 4 (decode f).slaves ≡ false
    room =
        room_for 4 (decode f).slaves (omega (arith, legal.count)) (omega (arith, widening_fits (decode f).slaves, legal.size))

    there : Converts f 2
    there = converts f 2 b g two_widths.1 room

    long : length (in_edition f 2) ≤ 2 * length f
    long = omega (arith, there.long, widening_fits (decode f).slaves, whole)

-- ---- "An edition-1 handheld still refuses with 3, or with 1 above 32,768 bytes."

handheld_at : (f : List ℕ) → file_ground_at 4 f ≡ 0 → file_ground_at 2 f ≡ cond (ltb 32768 (length f)) 1 3
unfolding file_ground_at file_grounds_at first_of wrong_size wrong_edition either
handheld_at f g =
    let a = (accepted 4 f).0 g in
    let long : 16 ≤ length f = omega (arith, a.size.low) in
    let low : ltb (length f) 16 ≡ false = le-ltb _ _ long in
    by_case (ltb 32768 (length f))
    (λ t. rw (low, t))
    (λ t. rw (low, t, mark_yes f a.mark, a.edition))

pub handheld : HandheldRefuses
unfolding file_ground
handheld f g two = handheld_at f (subst (λ (w : ℕ). file_ground_at w f ≡ 0) (width_four f two) g)
