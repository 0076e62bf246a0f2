-- The cluster of two that are joined: its slaves one by one, its shape and its names.
-- Assumes nothing.
use Rattle.std.proofs.Common.{ℕ, zero, suc, ◌+◌, ◌<◌, arith, ◌≡◌, refl, sym, ap, ap₂, ◌∙◌, List, [], ◌∷◌, ◌++◌, map, true, false, cond, length, get_or, length-append, get_or-append-add}
use mathlib.Core.List.{map-append, map-map}
use lib.ListN.{length-map, get_or-append}
use Rattle.file.specs.Rules.Bytes.{All, all_empty, all_next}
use Rattle.file.specs.Rules.Layout.{record_size}
use Rattle.file.specs.Rules.Cluster.{Slave, Cluster, no_slave_lem, bytes_in, configuration, unnamed, physical_name, logical_name, logical_names}
use Rattle.file.specs.Rules.Changes.{put_in_slave, with_sleep}
use Rattle.file.specs.Rules.Legal.{LegalSlave}
use Rattle.file.specs.Rules.FileGrounds.{is_among}
use Rattle.file.specs.Inner.Places.{SameFiles, SameShape, no_slaves, same_slave}
use Rattle.file.proofs.Order.{by_case}
use Rattle.file.proofs.Shape.{files_refl, slave-put}
use Rattle.file.proofs.Puts.{in_slave_physical_name}
use Rattle.file.proofs.LogicalNames.{name-held}
use Rattle.join.specs.Rules.Joined.{turned, slaves_joined, awake, joined}

-- ---- a slave that is turned or not, and awake

module _ (held : List ℕ) (s : Slave) where
  pub turned-put : is_among (logical_name s) held ≡ true → turned held s ≡ put_in_slave s configuration (record_size + 3) unnamed
  unfolding turned
  turned-put e = rw e

  pub turned-kept : is_among (logical_name s) held ≡ false → turned held s ≡ s
  unfolding turned
  turned-kept e = rw e

  pub turned_shape : SameFiles s.files (turned held s).files
  turned_shape =
      by_case (is_among (logical_name s) held)
      (λ e. rw (turned-put e) (slave-put s configuration (record_size + 3) unnamed))
      (λ e. rw (turned-kept e) (files_refl s.files))

  pub turned-physical : physical_name (turned held s) ≡ physical_name s
  turned-physical =
      by_case (is_among (logical_name s) held)
      (λ e. rw (turned-put e) (in_slave_physical_name configuration (record_size + 3) unnamed s (λ z. omega (arith, z))))
      (λ e. rw (turned-kept e))

-- the name that a slave of the second has then
unfoldable pub turned_name : List ℕ → ℕ → ℕ
turned_name held n = cond (is_among n held) unnamed n

pub turned-logical : (held : List ℕ) (s : Slave) → LegalSlave s → logical_name (turned held s) ≡ turned_name held (logical_name s)
unfolding turned_name
turned-logical held s l =
    by_case (is_among (logical_name s) held)
    (λ e. rw (turned-put held s e, e) (name-held s unnamed l))
    (λ e. rw (turned-kept held s e, e))

-- the sleep byte is no file's
module _ (s : Slave) where
  pub awake-files : (awake s).files ≡ s.files
  unfolding awake with_sleep
  awake-files = refl

  pub awake-asleep : (awake s).asleep ≡ 0
  unfolding awake with_sleep
  awake-asleep = refl

  pub awake-bytes : (n : ℕ) → bytes_in (awake s) n ≡ bytes_in s n
  unfolding awake with_sleep bytes_in
  awake-bytes n = refl

  pub awake-physical : physical_name (awake s) ≡ physical_name s
  unfolding physical_name
  awake-physical = rw (awake-bytes 0x3D)

  pub awake-logical : logical_name (awake s) ≡ logical_name s
  unfolding logical_name
  awake-logical = rw (awake-bytes 0x08)

-- ---- lists of slaves

-- equal by the elements
pub map_same : {A B : Type 0} (f g : A → B) → ((a : A) → f a ≡ g a) → (l : List A) → map f l ≡ map g l
map_same f g same [] = refl
map_same f g same (a ∷ l) = rw (same a, map_same f g same l)

pub map-same-all : {A B : Type 0} {P : A → Type 0} (f g : A → B) → ((a : A) → P a → f a ≡ g a) → {l : List A} → All P l → map f l ≡ map g l
map-same-all f g same all_empty = refl
map-same-all f g same (all_next {a = a} p r) = rw (same a p, map-same-all f g same r)

pub map_at : {A : Type 0} (f : A → A) (l : List A) (i : ℕ) (d : A) → i < length l → get_or (map f l) i d ≡ f (get_or l i d)
map_at f [] i d h = absurd (omega arith)
map_at f (x ∷ xs) zero d h = refl
map_at f (x ∷ xs) (suc i) d h = map_at f xs i d (omega arith)

shape_map : (f : Slave → Slave) → ((s : Slave) → SameFiles s.files (f s).files) → (ss : List Slave) → SameShape ss (map f ss)
shape_map f same [] = no_slaves
shape_map f same (s ∷ ss) = same_slave (same s) (shape_map f same ss)

shape_append : {ss ts us vs : List Slave} → SameShape ss ts → SameShape us vs → SameShape (ss ++ us) (ts ++ vs)
shape_append no_slaves r = r
shape_append (same_slave p q) r = same_slave p (shape_append q r)

pub names_of : (c : Cluster) → logical_names c ≡ map logical_name c.slaves
unfolding logical_names
names_of c = refl

-- the logical names of the second's slaves, turned by the names held
logical-second :
    (held : List ℕ) {ss : List Slave} → All LegalSlave ss
    → map logical_name (map (λ (s : Slave). awake (turned held s)) ss) ≡ map (turned_name held) (map logical_name ss)
logical-second held {ss} ls =
    map-map logical_name (λ (s : Slave). awake (turned held s)) ss
    ∙ map-same-all (λ (s : Slave). logical_name (awake (turned held s))) (λ (s : Slave). turned_name held (logical_name s))
    (λ s l. awake-logical (turned held s) ∙ turned-logical held s l) ls
    ∙ sym (map-map (turned_name held) logical_name ss)

-- ---- the joined cluster

module _ (c d : Cluster) where
  -- the first's slaves, awake, and then the second's, turned where their name is held, awake
  abbrev second : List Slave
  second = map (λ (s : Slave). awake (turned (logical_names c) s)) d.slaves

  pub joined-slaves : (joined c d).slaves ≡ map awake c.slaves ++ map (λ (s : Slave). awake (turned (logical_names c) s)) d.slaves
  unfolding joined slaves_joined
  joined-slaves =
      map-append awake c.slaves (map (turned (logical_names c)) d.slaves)
      ∙ ap (λ (l : List Slave). map awake c.slaves ++ l) (map-map awake (turned (logical_names c)) d.slaves)

  pub joined-edition : (joined c d).edition ≡ c.edition
  unfolding joined
  joined-edition = refl

  pub joined-count : length (joined c d).slaves ≡ length c.slaves + length d.slaves
  joined-count =
      ap length joined-slaves
      ∙ length-append (map awake c.slaves) second
      ∙ omega (arith, length-map c.slaves awake, length-map d.slaves (λ (s : Slave). awake (turned (logical_names c) s)))

  pub joined-first : (i : ℕ) → i < length c.slaves → get_or (joined c d).slaves i no_slave_lem ≡ awake (get_or c.slaves i no_slave_lem)
  joined-first i h =
      ap (λ (l : List Slave). get_or l i no_slave_lem) joined-slaves
      ∙ get_or-append (map awake c.slaves) second no_slave_lem i (omega (arith, length-map c.slaves awake))
      ∙ map_at awake c.slaves i no_slave_lem h

  pub joined-second : (k : ℕ) → k < length d.slaves
      → get_or (joined c d).slaves (length c.slaves + k) no_slave_lem ≡ awake (turned (logical_names c) (get_or d.slaves k no_slave_lem))
  joined-second k h =
      ap (λ (l : List Slave). get_or l (length c.slaves + k) no_slave_lem) joined-slaves
      ∙ ap (λ (n : ℕ). get_or (map awake c.slaves ++ second) (n + k) no_slave_lem) (sym (length-map c.slaves awake))
      ∙ get_or-append-add (map awake c.slaves) second k no_slave_lem
      ∙ map_at (λ (s : Slave). awake (turned (logical_names c) s)) d.slaves k no_slave_lem h

  -- as many files of the same sizes
  pub joined_shape : SameShape (c.slaves ++ d.slaves) (joined c d).slaves
  joined_shape =
      rw joined-slaves
      (shape_append
      (shape_map awake (λ s. rw (awake-files s) (files_refl s.files)) c.slaves)
      (shape_map (λ (s : Slave). awake (turned (logical_names c) s))
      (λ s. rw (awake-files (turned (logical_names c) s)) (turned_shape (logical_names c) s)) d.slaves))

  pub joined-physical : map physical_name (joined c d).slaves ≡ map physical_name c.slaves ++ map physical_name d.slaves
  joined-physical =
      ap (λ (l : List Slave). map physical_name l) joined-slaves
      ∙ map-append physical_name (map awake c.slaves) second
      ∙ rw (map-map physical_name awake c.slaves, map-map physical_name (λ (s : Slave). awake (turned (logical_names c) s)) d.slaves)
      (rw (
        map_same (λ (s : Slave). physical_name (awake s)) physical_name awake-physical c.slaves,
        map_same (λ (s : Slave). physical_name (awake (turned (logical_names c) s))) physical_name
            (λ s. awake-physical (turned (logical_names c) s) ∙ turned-physical (logical_names c) s) d.slaves,
      ))

  pub joined-logical : All LegalSlave d.slaves → logical_names (joined c d) ≡ logical_names c ++ map (turned_name (logical_names c)) (logical_names d)
  joined-logical ls =
      names_of (joined c d)
      ∙ ap (λ (l : List Slave). map logical_name l) joined-slaves
      ∙ map-append logical_name (map awake c.slaves) second
      ∙ ap₂ (λ (x y : List ℕ). x ++ y)
      (map-map logical_name awake c.slaves ∙ map_same (λ (s : Slave). logical_name (awake s)) logical_name awake-logical c.slaves ∙ sym (names_of c))
      (logical-second (logical_names c) ls ∙ ap (λ (l : List ℕ). map (turned_name (logical_names c)) l) (sym (names_of d)))
