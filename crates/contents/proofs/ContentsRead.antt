-- What the call tells and leaves.
-- Assumes nothing.
use Rattle.std.proofs.Common.{ℕ, zero, suc, ◌+◌, ◌-◌, ◌≤◌, ◌<◌, min, arith, ◌≡◌, refl, sym, ap, ◌∙◌, subst, ◌≢◌, List, [], ◌∷◌, ◌++◌, length, take, drop, get_or, length-take, length-take-le, get_or-take, get_or-drop, get_or-append-add, eqb, leb, eq-eqb, ne_eqb, eqb-true, leb-true, leb-false}
use lib.ListN.{get_or-append}
use lib.Seq.{length_front}
use borrow.Author.Tests.{eqb-false}
use Rattle.file.specs.Rules.Bytes.{Bytes, All, all_empty, all_next}
use Rattle.file.specs.Rules.Results.{Result, refused, done, written_in}
use Rattle.file.specs.Rules.Cluster.{File, no_slave_lem, bytes_among, bytes_in}
use Rattle.file.specs.Rules.Decode.{decode}
use Rattle.file.specs.Rules.Legal.{LegalFile, Rising, LegalSlave}
use Rattle.file.specs.Rules.FileGrounds.{file_ground}
use Rattle.file.proofs.Order.{by_case}
use Rattle.file.proofs.Bytes.{all-at}
use Rattle.file.proofs.Accepted.{accepted-legal}
use Rattle.file.proofs.Edition.{unknown_edition, refused-edition}
use Rattle.contents.specs.Rules.Contents.{contents_in, contents_on}
use Rattle.contents.specs.Claims.ContentsRead.{AnsweredExactly, slave_files, slave_file, EachFileRead, NotThere, no_slave, no_file}
use Rattle.contents.specs.Claims.ContentsRead.{NoneExactly, MostBytes, LeftBy, BufferLeft, UnknownEdition}
use Rattle.contents.proofs.Calls.{past_none, contents-refused, contents-read}

-- ---- the answer

refused-is : {m n : ℕ} → ◌≡◌ {A = Result ℕ} (refused m) (refused n) → m ≡ n
refused-is q = cc

done-is : {m n : ℕ} → ◌≡◌ {A = Result ℕ} (done m) (done n) → m ≡ n
done-is q = cc

not-both : {m n : ℕ} → ◌≡◌ {A = Result ℕ} (done m) (refused n) → ⊥
not-both q = let z : ◌≡◌ {A = ℕ} 0 1 = cc in omega arith

module _ (f : List ℕ) (s n : ℕ) (buffer : List ℕ) where
  done-here : file_ground f ≡ 0 → (contents_on f s n buffer).0 ≡ done (length (contents_in f s n))
  done-here accepted = ap (λ (r : Result ℕ × List ℕ). r.0) (contents-read f s n buffer accepted)

  refused-here : file_ground f ≢ 0 → (contents_on f s n buffer).0 ≡ refused (file_ground f)
  refused-here some = ap (λ (r : Result ℕ × List ℕ). r.0) (contents-refused f s n buffer refl some)

  pub told-accepted : (k : ℕ) → (contents_on f s n buffer).0 ≡ done k → file_ground f ≡ 0
  told-accepted k is =
      by_case (eqb (file_ground f) 0)
      (λ t. eqb-true (file_ground f) 0 t)
      (λ t. absurd (not-both (sym is ∙ refused-here (eqb-false (file_ground f) 0 t))))

  refused-some : (k : ℕ) → (contents_on f s n buffer).0 ≡ refused k → (file_ground f ≡ k) × (k ≢ 0)
  refused-some k is =
      by_case (eqb (file_ground f) 0)
      (λ t. absurd (not-both (sym (done-here (eqb-true (file_ground f) 0 t)) ∙ is)))
      (λ t.
      let some = eqb-false (file_ground f) 0 t in
      let same : file_ground f ≡ k = refused-is (sym (refused-here some) ∙ is) in
      (same, λ z. some (same ∙ z)))

pub answered_exactly : AnsweredExactly
answered_exactly =
    record {
      told = λ f s n buffer k. (
        λ is. let accepted = told-accepted f s n buffer k is in (accepted, done-is (sym is ∙ done-here f s n buffer accepted)),
        λ (accepted, long). done-here f s n buffer accepted ∙ ap (λ (m : ℕ). done m) (sym long),
      );
      turned_away = λ f s n buffer k. (
        refused-some f s n buffer k,
        λ (reason, some). refused-here f s n buffer (λ z. some (sym reason ∙ z)) ∙ ap (λ (m : ℕ). refused m) reason,
      );
    }

-- ---- the files of a slave

abbrev no_file_lem : File
no_file_lem = record { number = 0; bytes = [] }

-- numbers rise, so none stands behind itself
rising-above : {low : ℕ} {xs : List File} → Rising low xs → (i : ℕ) → i < length xs → low ≤ (get_or xs i no_file_lem).number
rising-above Rising.end i l = absurd (omega (arith, l))
rising-above (Rising.next least r) zero l = least
rising-above (Rising.next least r) (suc i) l = let above = rising-above r i (omega (arith, l)) in omega (arith, least, above)

among_each : {low : ℕ} {xs : List File} → Rising low xs → (i : ℕ) → i < length xs → bytes_among xs (get_or xs i no_file_lem).number ≡ (get_or xs i no_file_lem).bytes
unfolding bytes_among
among_each Rising.end i l = absurd (omega (arith, l))
among_each (Rising.next {x = x} least r) zero l = rw (eq-eqb x.number x.number refl)
among_each (Rising.next {x = x} {xs = xs} least r) (suc i) l =
    let above = rising-above r i (omega (arith, l)) in
    rw (ne_eqb x.number (get_or xs i no_file_lem).number (λ e. omega (arith, e, above))) (among_each r i (omega (arith, l)))

among_none : (xs : List File) (n : ℕ) → ((i : ℕ) → i < length xs → (get_or xs i no_file_lem).number ≢ n) → bytes_among xs n ≡ []
unfolding bytes_among
among_none [] n other = refl
among_none (x ∷ xs) n other =
    rw (ne_eqb x.number n (other 0 (omega arith))) (among_none xs n (λ i l. other (suc i) (omega (arith, l))))

-- at most 1,024 bytes
among_legal : {xs : List File} (n : ℕ) → All LegalFile xs → length (bytes_among xs n) ≤ 1024
unfolding bytes_among
among_legal n all_empty = omega arith
among_legal n (all_next {a = x} p r) = by_case (eqb x.number n) (λ t. rw t (omega (arith, p.whole, p.most))) (λ t. rw t (among_legal n r))

module _ (f : List ℕ) (b : Bytes f) (accepted : file_ground f ≡ 0) where
  legal-here : (s : ℕ) → s < length (decode f).slaves → LegalSlave (get_or (decode f).slaves s no_slave_lem)
  legal-here s l = all-at no_slave_lem (accepted-legal f b accepted).slaves l

  each-here : (s i : ℕ) → s < length (decode f).slaves → i < length (slave_files f s) → contents_in f s (slave_file f s i).number ≡ (slave_file f s i).bytes
  unfolding contents_in bytes_in
  each-here s i there l = among_each (legal-here s there).rising i l

  some_bytes : (s i : ℕ) → s < length (decode f).slaves → i < length (slave_files f s) → 0 < length (slave_file f s i).bytes
  some_bytes s i there l = let file = all-at no_file_lem (legal-here s there).files l in omega (arith, file.whole, file.some)

  none-there : (s n : ℕ) → NotThere f s n → length (contents_in f s n) ≡ 0
  unfolding contents_in bytes_in
  none-there s n (no_slave past) = ap length (past_none n (decode f).slaves s past)
  none-there s n (no_file other) = ap length (among_none (slave_files f s) n other)

  not_there : (s n : ℕ) → length (contents_in f s n) ≡ 0 → NotThere f s n
  not_there s n none =
      by_case (leb (length (decode f).slaves) s)
      (λ t. no_slave (leb-true (length (decode f).slaves) s t))
      (λ t.
      let there : s < length (decode f).slaves = omega (arith, leb-false (length (decode f).slaves) s t) in
      no_file
      (λ i l same.
      let read : contents_in f s n ≡ (slave_file f s i).bytes = subst (λ (m : ℕ). contents_in f s m ≡ (slave_file f s i).bytes) same (each-here s i there l) in
      let long : length (contents_in f s n) ≡ length (slave_file f s i).bytes = ap length read in
      omega (arith, some_bytes s i there l, long, none)))

  most-here : (s n : ℕ) → length (contents_in f s n) ≤ 1024
  unfolding contents_in bytes_in
  most-here s n =
      by_case (leb (length (decode f).slaves) s)
      (λ t. omega (arith, ap length (past_none n (decode f).slaves s (leb-true (length (decode f).slaves) s t))))
      (λ t.
      let there : s < length (decode f).slaves = omega (arith, leb-false (length (decode f).slaves) s t) in
      among_legal n (legal-here s there).files)

pub each-file-read : EachFileRead
each-file-read = each-here

pub none_exactly : NoneExactly
none_exactly f b accepted s n = (not_there f b accepted s n, none-there f b accepted s n)

pub most_bytes : MostBytes
most_bytes = most-here

-- ---- the buffer

pub left_by : (bytes buffer : List ℕ) → LeftBy bytes buffer (written_in buffer (take (length buffer) bytes))
unfolding written_in
left_by bytes buffer = record { long = long; front = front; rest = rest }
  where
    put : List ℕ
    put = take (length buffer) bytes

    size : length put ≡ min (length buffer) (length bytes)
    size = length-take (length buffer) bytes

    long : length (put ++ drop (length put) buffer) ≡ length buffer
    long = length_front buffer put (length put) (sym (length-take-le (length put) buffer (omega (arith, size))))

    front : (i : ℕ) → i < length bytes → i < length buffer → get_or (put ++ drop (length put) buffer) i 0 ≡ get_or bytes i 0
    front i few room =
        get_or-append put (drop (length put) buffer) 0 i (omega (arith, size, few, room)) ∙ get_or-take (length buffer) bytes i 0 room

    rest : (i : ℕ) → length bytes ≤ i → get_or (put ++ drop (length put) buffer) i 0 ≡ get_or buffer i 0
    rest i past =
        let at : length put + (i - length put) ≡ i = omega (arith, size, past) in
        let behind = get_or-append-add put (drop (length put) buffer) (i - length put) 0 in
        rw at at (behind ∙ get_or-drop (length put) buffer (i - length put) 0)

pub buffer-left : BufferLeft
buffer-left f s n buffer k is =
    let read = contents-read f s n buffer (told-accepted f s n buffer k is) in
    subst (λ (r : Result ℕ × List ℕ). LeftBy (contents_in f s n) buffer r.1) (sym read) (left_by (contents_in f s n) buffer)

-- ---- a file of unknown edition

pub contents-edition : UnknownEdition
contents-edition f g s t m n a b long front other =
    let refused-f : file_ground f ≢ 0 = refused-edition f other in
    let same : file_ground f ≡ file_ground g = unknown_edition f g long front other in
    let refused-g : file_ground g ≢ 0 = λ z. refused-f (same ∙ z) in
    refused-here f s m a refused-f ∙ ap (λ (k : ℕ). refused k) same ∙ sym (refused-here g t n b refused-g)
