-- A file is accepted exactly where the facts of its bytes and of its slaves hold that the grounds ask: the facts of the pending
-- operation, the layout, the needed files and the physical names, each both ways, and all of them together.
-- Assumes nothing.
use Rattle.std.proofs.Common.{ℕ, ◌≤◌, ◌≡◌, refl, ap, ◌∙◌, ◌↔◌, List, [], ◌∷◌, map, true, false, length, get_or, eqb, arith, leb-true, le-leb}
use Rattle.std.proofs.Common.{ltb-false, le-ltb, eqb-true, eq-eqb, ne_eqb}
use borrow.Author.Tests.{eqb-false, not-false}
use Rattle.file.specs.Rules.Bytes.{All}
use Rattle.file.specs.Rules.Order.{both, either}
use Rattle.file.specs.Rules.Layout.{edition_of, length_place}
use Rattle.file.specs.Rules.Cluster.{Slave, bytes_in, last_record, configuration, documentation, physical_name, operation_of, read_operation, broadcast, no_operation}
use Rattle.file.specs.Rules.Cluster
use Rattle.file.specs.Rules.Decode.{offset_at, decode_at}
use Rattle.file.specs.Rules.Legal.{Distinct}
use Rattle.file.specs.Rules.FileGrounds.{wrong_pending, Walk, walk_file, ends_at, broken_layout, has_needed, all_have_needed, lacks_needed, is_among, has_repeat}
use Rattle.file.specs.Rules.FileGrounds.{equal_physical_names, file_grounds_at, file_ground_at}
use Rattle.file.proofs.Facts.{not_yes, no-operation, some-operation, SizeFacts, size_facts, size_yes, MarkFacts, mark_facts, mark_yes, edition_facts}
use Rattle.file.proofs.Facts.{edition_yes, length_facts, length_yes, HeaderFacts, header_facts, header_yes}
use Rattle.file.proofs.Order.{clash, both_left, both_right, both_true, both_unless, both_false_next, either_false, either_false_left, either_false_right, first-none, first_next, first-end}

-- ---- 5: the pending operation

pub record PendingFits (flag name pb2 : ℕ) : Type 0 where
  pub most : flag ≤ 1
  pub operation : flag ≡ 1 → operation_of pb2 ≡ 3 → ⊥
  pub broadcast_read : flag ≡ 1 → operation_of pb2 ≡ read_operation → name ≡ broadcast → ⊥

pub pending-fits : (flag name pb2 : ℕ) → (wrong_pending flag name pb2 ≡ false) ↔ PendingFits flag name pb2
unfolding wrong_pending Cluster.broadcast_read
pending-fits flag name pb2 = (
  λ p.
      let pending : flag ≡ 1 → either (no_operation (operation_of pb2)) (both (eqb (operation_of pb2) read_operation) (eqb name broadcast)) ≡ false =
      λ e. both_false_next _ (eq-eqb flag 1 e) (either_false_right _ _ p)
      in
      record {
        most = ltb-false _ _ (either_false_left _ _ p);
        operation = λ e o. clash (no-operation o) (either_false_left _ _ (pending e));
        broadcast_read =
            λ e o. eqb-false _ _ (both_false_next _ (eq-eqb (operation_of pb2) read_operation o) (either_false_right _ _ (pending e)));
      },
  λ s.
      either_false (le-ltb _ _ s.most)
      (both_unless (eqb flag 1)
      (λ e.
      let one : flag ≡ 1 = eqb-true flag 1 e in
      either_false (some-operation (s.operation one) (omega arith))
      (both_unless (eqb (operation_of pb2) read_operation)
      (λ o. ne_eqb _ _ (s.broadcast_read one (eqb-true (operation_of pb2) read_operation o)))))),
)

-- ---- 6

ends-at : (r : Walk) (n : ℕ) → ends_at r n ≡ true → r ≡ Walk.to n
unfolding ends_at
ends-at Walk.broken n p = clash p refl
ends-at (Walk.to place) n p = ap Walk.to (eqb-true place n p)

at-end : {r : Walk} (n : ℕ) → r ≡ Walk.to n → ends_at r n ≡ true
unfolding ends_at
at-end n p = rw p (eq-eqb n n refl)

pub layout-whole : (w : ℕ) (f : List ℕ) → (broken_layout w f ≡ false) ↔ (walk_file w f ≡ Walk.to (length f))
unfolding broken_layout
layout-whole w f = (λ p. ends-at (walk_file w f) (length f) (not-false _ p), λ e. not_yes (at-end (length f) e))

-- ---- 7

pub record Needed (s : Slave) : Type 0 where
  pub configured : 3 ≤ last_record (bytes_in s configuration)
  pub documented : 2 ≤ last_record (bytes_in s documentation)

pub needed : (s : Slave) → (has_needed s ≡ true) ↔ Needed s
unfolding has_needed
needed s = (
  λ p. record { configured = leb-true _ _ (both_left _ _ p); documented = leb-true _ _ (both_right _ _ p) },
  λ n. both_true (le-leb _ _ n.configured) (le-leb _ _ n.documented),
)

all-needed : (ss : List Slave) → all_have_needed ss ≡ true → All Needed ss
unfolding all_have_needed
all-needed [] p = All.all_empty
all-needed (s ∷ ss) p = All.all_next ((needed s).0 (both_left _ _ p)) (all-needed ss (both_right _ _ p))

needed-all : {ss : List Slave} → All Needed ss → all_have_needed ss ≡ true
unfolding all_have_needed
needed-all All.all_empty = refl
needed-all (All.all_next n ns) = both_true ((needed _).1 n) (needed-all ns)

pub all-have-needed : (w : ℕ) (f : List ℕ) → (lacks_needed w f ≡ false) ↔ All Needed (decode_at w f).slaves
unfolding lacks_needed
all-have-needed w f = (λ p. all-needed _ (not-false _ p), λ n. not_yes (needed-all n))

-- ---- 8

not_among : (n : ℕ) (ms : List ℕ) → is_among n ms ≡ false → All (λ m. n ≡ m → ⊥) ms
unfolding is_among
not_among n [] p = All.all_empty
not_among n (m ∷ ms) p = All.all_next (eqb-false n m (either_false_left _ _ p)) (not_among n ms (either_false_right _ _ p))

pub among_not : (n : ℕ) {ms : List ℕ} → All (λ m. n ≡ m → ⊥) ms → is_among n ms ≡ false
unfolding is_among
among_not n All.all_empty = refl
among_not n (All.all_next p q) = either_false (ne_eqb n _ p) (among_not n q)

pub no_repeat : (ns : List ℕ) → has_repeat ns ≡ false → Distinct ns
unfolding has_repeat
no_repeat [] p = Distinct.end
no_repeat (n ∷ ns) p = Distinct.next (not_among n ns (either_false_left _ _ p)) (no_repeat ns (either_false_right _ _ p))

pub distinct_no_repeat : {ns : List ℕ} → Distinct ns → has_repeat ns ≡ false
unfolding has_repeat
distinct_no_repeat Distinct.end = refl
distinct_no_repeat (Distinct.next {n = n} p d) = either_false (among_not n p) (distinct_no_repeat d)

pub names_distinct : (w : ℕ) (f : List ℕ) → (equal_physical_names w f ≡ false) ↔ Distinct (map physical_name (decode_at w f).slaves)
unfolding equal_physical_names
names_distinct w f = (no_repeat _, distinct_no_repeat)

-- ---- all of them

pub record Accepted (w : ℕ) (f : List ℕ) : Type 0 where
  pub size : SizeFacts w f
  pub mark : MarkFacts f
  pub edition : get_or f 2 0 ≡ edition_of w
  pub stated : offset_at w f (length_place w) ≡ length f
  pub header : HeaderFacts w f
  pub layout : walk_file w f ≡ Walk.to (length f)
  pub needed : All Needed (decode_at w f).slaves
  pub names : Distinct (map physical_name (decode_at w f).slaves)

pub accepted : (w : ℕ) (f : List ℕ) → (file_ground_at w f ≡ 0) ↔ Accepted w f
unfolding file_ground_at file_grounds_at
accepted w f = (
  λ p.
      let (size, p₁) = first-none 0 _ _ p in
      let (mark, p₂) = first-none 1 _ _ p₁ in
      let (edition, p₃) = first-none 2 _ _ p₂ in
      let (stated, p₄) = first-none 3 _ _ p₃ in
      let (header, p₅) = first-none 4 _ _ p₄ in
      let (layout, p₆) = first-none 5 _ _ p₅ in
      let (need, p₇) = first-none 6 _ _ p₆ in
      let (names, p₈) = first-none 7 _ _ p₇ in
      record {
        size = size_facts w f size;
        mark = mark_facts f mark;
        edition = edition_facts w f edition;
        stated = length_facts w f stated;
        header = header_facts w f header;
        layout = (layout-whole w f).0 layout;
        needed = (all-have-needed w f).0 need;
        names = (names_distinct w f).0 names;
      },
  λ a.
      first_next _ _ (size_yes w f a.size)
      ∙ first_next _ _ (mark_yes f a.mark)
      ∙ first_next _ _ (edition_yes w f a.edition)
      ∙ first_next _ _ (length_yes w f a.stated)
      ∙ first_next _ _ (header_yes w f a.header)
      ∙ first_next _ _ ((layout-whole w f).1 a.layout)
      ∙ first_next _ _ ((all-have-needed w f).1 a.needed)
      ∙ first_next _ _ ((names_distinct w f).1 a.names)
      ∙ first-end,
)
