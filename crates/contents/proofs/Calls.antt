-- The bytes that a buffer has room for, what the search for a file tells of its bytes, and the call by its answers.
-- Assumes nothing.
use Rattle.std.proofs.Common.{ℕ, zero, suc, ◌+◌, ◌-◌, ◌≤◌, min, arith, ◌≡◌, refl, sym, ap, ◌∙◌, List, [], ◌∷◌, ◌++◌, length, take, drop, get_or, length-drop, take_all, take-take, length-take-le, eqb, leb, eq-eqb, ne_eqb, eqb-true, leb-true, leb-false}
use lib.Seq.{take-length, take-nil}
use Rattle.file.specs.Rules.Bytes.{part}
use Rattle.file.specs.Rules.Results.{refused, done, written_in}
use Rattle.file.specs.Rules.Cluster.{Slave, no_slave_lem, Cluster, bytes_among, bytes_in}
use Rattle.file.specs.Rules.Decode.{decode}
use Rattle.file.specs.Rules.FileGrounds.{file_ground}
use Rattle.file.specs.Inner.Places.{slave_of, file_place}
use Rattle.file.specs.Inner.Accepted.{FoundFile, file_found, find_file, slave_count}
use Rattle.file.specs.Inner.FileAnswers.{found_file}
use Rattle.file.specs.Inner.Surveyed.{Surveyed}
use Rattle.file.specs.declared.records.FileBytes.{FileBytes}
use Rattle.file.specs.declared.types.Refusal.{Refusal}
use Rattle.file.proofs.Order.{by_case}
use Rattle.file.proofs.ReaderLaws.{part-there}
use Rattle.file.proofs.RecordLaws.{bytes-within}
use Rattle.file.proofs.Surveyed.{survey-accepted, survey-refused, survey-becomes}
use Rattle.contents.specs.Rules.Contents.{contents_in, contents_on}
use Rattle.file.specs.Inner.Refusals.{Answered, refusal_number, outcome_of}
use Rattle.std.specs.Prelude.{Ok, Err, Option, Some, None}

-- ---- the bytes that fit

take_min : (k size : ℕ) (l : List ℕ) → size ≤ length l → take k (take size l) ≡ take (min size k) l
take_min k size l room =
    by_case (leb k size)
    (λ t.
    let few = leb-true k size t in
    let least : min size k ≡ k = omega (arith, few) in
    take-take k size l few ∙ rw least)
    (λ t.
    let more = leb-false k size t in
    let least : min size k ≡ size = omega (arith, more) in
    take_all k (take size l) (omega (arith, more, length-take-le size l room)) ∙ rw least)

module _ (file buffer : List ℕ) (place size : ℕ) (within : place + size ≤ length file) where
  pub front-end : {n : ℕ} → n ≡ min size (length buffer) → place + n ≤ length file
  front-end least = omega (arith, least, within)

  -- what `copy` put in front of the buffer
  pub front-put : (new : List ℕ) (n : ℕ) → n ≡ min size (length buffer)
      → new ≡ take (length (take (place + n - place) (drop place file))) (take (place + n - place) (drop place file)) ++ drop (length (take (place + n - place) (drop place file))) buffer
      → new ≡ written_in buffer (take (length buffer) (part file place size))
  unfolding part written_in
  front-put new n least is =
      let count : place + n - place ≡ min size (length buffer) = omega (arith, least) in
      let room : size ≤ length (drop place file) = simp length-drop (omega (arith, within)) in
      let fits = take_min (length buffer) size (drop place file) room in
      is ∙ rw (take-length (take (place + n - place) (drop place file)), count, fits)

-- ---- a file that was looked for

no_bytes : (l : List ℕ) → length l ≡ 0 → l ≡ []
no_bytes [] h = refl
no_bytes (x ∷ xs) h = absurd (omega (arith, h))

pub past_none : (number : ℕ) (ss : List Slave) (s : ℕ) → length ss ≤ s → bytes_in (get_or ss s no_slave_lem) number ≡ []
unfolding bytes_in bytes_among
past_none number [] s h = refl
past_none number (x ∷ ss) zero h = absurd (omega (arith, h))
past_none number (x ∷ ss) (suc s) h = past_none number ss s (omega (arith, h))

module _ (c : Cluster) (s n : ℕ) {r : Option FileBytes} (is : found_file r ≡ find_file c s n) where
  missing : r ≡ None → bytes_in (slave_of c s) n ≡ []
  unfolding found_file find_file
  missing q =
      by_case (eqb (length (bytes_in (slave_of c s) n)) 0)
      (λ t. no_bytes (bytes_in (slave_of c s) n) (eqb-true (length (bytes_in (slave_of c s) n)) 0 t))
      (λ t. absurd (other (rw (q, t) at is)))
    where
      other : {a b : ℕ} → FoundFile.no_file_lem ≡ file_found a b → ⊥
      other q = let z : ◌≡◌ {A = ℕ} 0 1 = cc in omega arith

  found : {b : FileBytes} → r ≡ Some b → (b.place ≡ file_place c s n) × (b.size ≡ length (bytes_in (slave_of c s) n))
  unfolding found_file find_file
  found q =
      by_case (eqb (length (bytes_in (slave_of c s) n)) 0)
      (λ t. absurd (other (rw (q, t) at is)))
      (λ t. same (rw (q, t) at is))
    where
      other : {a b : ℕ} → file_found a b ≡ FoundFile.no_file_lem → ⊥
      other q = let z : ◌≡◌ {A = ℕ} 0 1 = cc in omega arith

      same : {x y v w : ℕ} → file_found x y ≡ file_found v w → (x ≡ v) × (y ≡ w)
      same q = (cc, cc)

-- ---- the ways of the call, by the answer of the survey

module _ (f : List ℕ) (slave number : ℕ) (buffer : List ℕ) where
  pub contents-refused : {n : ℕ} → n ≡ file_ground f → (n ≡ 0 → ⊥) → contents_on f slave number buffer ≡ (refused n, buffer)
  unfolding contents_on
  contents-refused is some = rw (ne_eqb (file_ground f) 0 (λ z. some (is ∙ z)), is)

  pub contents-read : file_ground f ≡ 0 →
      contents_on f slave number buffer ≡ (done (length (contents_in f slave number)), written_in buffer (take (length buffer) (contents_in f slave number)))
  unfolding contents_on
  contents-read accepted = rw (eq-eqb (file_ground f) 0 accepted)

  none_read : file_ground f ≡ 0 → contents_in f slave number ≡ [] → contents_on f slave number buffer ≡ (done 0, buffer)
  unfolding written_in
  none_read accepted none =
      let nothing : take (length buffer) [] ≡ [] = take-nil {A = ℕ} (length buffer) in
      contents-read accepted ∙ rw (none, nothing)

contents_of : (f : List ℕ) (slave number : ℕ) → contents_in f slave number ≡ bytes_in (slave_of (decode f) slave) number
unfolding contents_in slave_of
contents_of f slave number = refl

module _ {f places : List ℕ} {a : Answered (Unit {0})} (s : Surveyed f (outcome_of a) places) (slave number : ℕ) (buffer : List ℕ) where
  pub call-refused : {why : Refusal} → a ≡ Err why → (refused (refusal_number why), buffer) ≡ contents_on f slave number buffer
  call-refused e = let (is, some) = survey-refused s e in sym (contents-refused f slave number buffer is some)

  module _ {u : Unit {0}} (e : a ≡ Ok u) where
    pub call_past : {n : ℕ} → n ≡ slave_count f → n ≤ slave → (done 0, buffer) ≡ contents_on f slave number buffer
    unfolding contents_in
    call_past is past = sym (none_read f slave number buffer (survey-accepted s e) (past_none number (decode f).slaves slave (omega (arith, is, past))))

    module _ {r : Option FileBytes} (is : found_file r ≡ find_file (decode f) slave number) where
      pub call_missing : r ≡ None → (done 0, buffer) ≡ contents_on f slave number buffer
      call_missing q =
          sym (none_read f slave number buffer (survey-accepted s e) (contents_of f slave number ∙ missing (decode f) slave number is q))

      module _ {b : FileBytes} (q : r ≡ Some b) where
        pub call-within : b.place + b.size ≤ length f
        call-within = bytes-within (decode f) slave number is q (survey-becomes s e)

        there : part f b.place b.size ≡ contents_in f slave number
        unfolding part
        there =
            let bytes = bytes_in (slave_of (decode f) slave) number in
            let (place, size) = found (decode f) slave number is q in
            let front : file_place (decode f) slave number + 0 ≡ file_place (decode f) slave number = omega arith in
            let whole = rw front at (part-there (survey-becomes s e) slave number 0 (length bytes) (omega arith)) in
            rw (place, size) (whole ∙ take-length bytes) ∙ sym (contents_of f slave number)

        pub call-read : {new : List ℕ} → new ≡ written_in buffer (take (length buffer) (part f b.place b.size)) → (done b.size, new) ≡ contents_on f slave number buffer
        call-read is' =
            let long : b.size ≡ length (contents_in f slave number) = (found (decode f) slave number is q).1 ∙ ap length (sym (contents_of f slave number)) in
            rw (is', there, long) (sym (contents-read f slave number buffer (survey-accepted s e)))
