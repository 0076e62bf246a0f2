-- Bytes put one behind the other are put at once: the one law of a form that is written front to back.
-- Assumes nothing.
use Rattle.std.proofs.Common.{ℕ, zero, suc, ◌+◌, ◌-◌, ◌/◌, ◌%◌, ◌≤◌, ◌<◌, arith, add-zero, zero-add, ◌≡◌, refl, sym, ap, ap₂, ◌∙◌, subst, List, [], ◌∷◌, ◌++◌, append-nil, append_assoc, length, take, drop, set, replicate, length-drop, drop_of_length-le, set-set, drop-drop, length-take-le}
use lib.ListN.{length-replicate}
use lib.Seq.{sets, length-sets, sets-eq, set_comm, take-length}
use borrow.Rule.Slice.PartMut.{put_mid}
use Rattle.file.specs.Rules.Bytes.{bytes_of}
use Rattle.file.specs.Rules.Layout.{OffsetWidth}
use Rattle.file.specs.Rules.Results.{written_in}
use Rattle.file.proofs.Sizes.{bytes_of-length}
use Rattle.convert.specs.Inner.Putting.{Put, OffsetFits}

sets_append : (bs cs l : List ℕ) (at : ℕ) → sets (sets l at bs) (at + length bs) cs ≡ sets l at (bs ++ cs)
sets_append [] cs l at = rw (add-zero at)
sets_append (b ∷ bs) cs l at =
    let next : at + suc (length bs) ≡ suc at + length bs = omega arith in
    rw next (sets_append bs cs (set l at b) (suc at))

pub put-none : (l : List ℕ) (at : ℕ) → Put l at [] l
put-none l at = record { is = refl }

-- the buffer keeps its length
pub put-room : {l m bs : List ℕ} {at : ℕ} → Put l at bs m → length m ≡ length l
put-room {l} {bs = bs} {at = at} p = ap length p.is ∙ length-sets l at bs

-- the same bytes
pub put_same : {l m bs cs : List ℕ} {at : ℕ} → bs ≡ cs → Put l at bs m → Put l at cs m
put_same {l} {m} {at = at} same p = subst (λ (x : List ℕ). Put l at x m) same p

-- bytes behind those that are put
pub put_then : {l m n bs cs : List ℕ} {at next : ℕ} → Put l at bs m → next ≡ at + length bs → Put m next cs n → Put l at (bs ++ cs) n
put_then {l} {bs = bs} {cs = cs} {at = at} first there second =
    record { is = second.is ∙ rw (first.is, there) (sets_append bs cs l at) }

-- one byte behind them
pub put_next : {l m bs : List ℕ} {at next : ℕ} (b : ℕ) → Put l at bs m → next ≡ at + length bs → Put l at (bs ++ (b ∷ [])) (set m next b)
put_next b first there = put_then first there (record { is = refl })

-- ---- bytes put at two places

set-behind : (bs l : List ℕ) (i j b : ℕ) → i + length bs ≤ j → set (sets l i bs) j b ≡ sets (set l j b) i bs
set-behind [] l i j b apart = refl
set-behind (c ∷ bs) l i j b apart =
    set-behind bs (set l i c) (suc i) j b (omega arith) ∙ ap (λ (m : List ℕ). sets m (suc i) bs) (set_comm l i j c b (λ e. omega (arith, e)))

set_before : (bs l : List ℕ) (i j b : ℕ) → j < i → set (sets l i bs) j b ≡ sets (set l j b) i bs
set_before [] l i j b apart = refl
set_before (c ∷ bs) l i j b apart =
    set_before bs (set l i c) (suc i) j b (omega arith) ∙ ap (λ (m : List ℕ). sets m (suc i) bs) (set_comm l i j c b (λ e. omega (arith, e)))

-- in either order, where the first lie before the others
pub sets_swap : (cs l bs : List ℕ) (i j : ℕ) → i + length bs ≤ j → sets (sets l i bs) j cs ≡ sets (sets l j cs) i bs
sets_swap [] l bs i j apart = refl
sets_swap (c ∷ cs) l bs i j apart =
    ap (λ (m : List ℕ). sets m (suc j) cs) (set-behind bs l i j c apart) ∙ sets_swap cs (set l j c) bs i (suc j) (omega arith)

-- as many bytes put over others
sets_over : (bs cs l : List ℕ) (i : ℕ) → length bs ≡ length cs → sets (sets l i bs) i cs ≡ sets l i cs
sets_over [] [] l i same = refl
sets_over [] (c ∷ cs) l i same = absurd (omega (arith, same))
sets_over (b ∷ bs) [] l i same = absurd (omega (arith, same))
sets_over (b ∷ bs) (c ∷ cs) l i same =
    ap (λ (m : List ℕ). sets m (suc i) cs) (set_before bs (set l i b) (suc i) i c (omega arith) ∙ ap (λ (m : List ℕ). sets m (suc i) bs) (set-set l i b c))
    ∙ sets_over bs cs (set l i c) (suc i) (omega (arith, same))

-- bytes behind the first of two, before the second
pub put-between : (l bs : List ℕ) (at : ℕ) {m n cs es : List ℕ} {next place : ℕ} → Put (sets l at bs) place cs m → next ≡ at + length bs → next + length es ≤ place
    → Put m next es n → Put (sets l at (bs ++ es)) place cs n
put-between l bs at {cs = cs} {es = es} {next = next} {place = place} both there apart more =
    record {
      is = more.is
          ∙ ap (λ (x : List ℕ). sets x next es) both.is
          ∙ sym (sets_swap cs (sets l at bs) es next place apart)
          ∙ ap (λ (x : List ℕ). sets x place cs) (ap (λ (k : ℕ). sets (sets l at bs) k es) there ∙ sets_append bs es l at);
    }

-- as many bytes over some of those that are put
pub put_over : {l m n : List ℕ} (xs ds es rs : List ℕ) {at next : ℕ} → Put l at (xs ++ (ds ++ rs)) m → next ≡ at + length xs → length ds ≡ length es
    → Put m next es n → Put l at (xs ++ (es ++ rs)) n
put_over {l} xs ds es rs {at} {next} whole there same more =
    let front : List ℕ = sets l at xs in
    let laid : (bs : List ℕ) → sets l at (xs ++ (bs ++ rs)) ≡ sets (sets front next bs) (next + length bs) rs =
    λ (bs : List ℕ). sym (rw there (sets_append bs rs front (at + length xs) ∙ sets_append xs (bs ++ rs) l at))
    in
    record {
      is = more.is
          ∙ ap (λ (x : List ℕ). sets x next es) (whole.is ∙ laid ds)
          ∙ sym (sets_swap rs (sets front next ds) es next (next + length ds) (omega (arith, same)))
          ∙ ap (λ (x : List ℕ). sets x (next + length ds) rs) (sets_over ds es front next same)
          ∙ ap (λ (k : ℕ). sets (sets front next es) (next + k) rs) same
          ∙ sym (laid es);
    }

-- bytes before those that are put
pub put_first : {l m n bs cs : List ℕ} {at next : ℕ} → Put l next cs m → next ≡ at + length bs → Put m at bs n → Put l at (bs ++ cs) n
put_first {l} {bs = bs} {cs = cs} {at = at} {next = next} second there first =
    record {
      is = first.is ∙ ap (λ (x : List ℕ). sets x at bs) second.is ∙ sym (sets_swap cs l bs at next (omega (arith, there)))
          ∙ ap (λ (k : ℕ). sets (sets l at bs) k cs) there
          ∙ sets_append bs cs l at;
    }

-- what is put at the second place lies behind the first
pub put_both : (l bs : List ℕ) (at : ℕ) {m cs : List ℕ} {place : ℕ} → Put (sets l at bs) place cs m → place ≡ at + length bs → Put l at (bs ++ cs) m
put_both l bs at both there = put_then {bs = bs} (record { is = refl }) there both

pub put_split : (l bs : List ℕ) (at : ℕ) {m cs : List ℕ} {place : ℕ} → Put l at (bs ++ cs) m → place ≡ at + length bs → Put (sets l at bs) place cs m
put_split l bs at {cs = cs} whole there = record { is = whole.is ∙ sym (rw there (sets_append bs cs l at)) }

pub both-room : (l bs : List ℕ) (at : ℕ) {m cs : List ℕ} {place : ℕ} → Put (sets l at bs) place cs m → length m ≡ length l
both-room l bs at both = put-room both ∙ length-sets l at bs

-- from the buffer's start on: what a call leaves that writes them
pub put_written : {l m bs : List ℕ} → Put l 0 bs m → length bs ≤ length l → m ≡ written_in l bs
unfolding written_in
put_written {l} {bs = bs} p fits = p.is ∙ sets-eq bs l 0 (omega (arith, zero-add (length bs))) ∙ rw (zero-add (length bs))

-- ---- numbers

pub put-short : (l : List ℕ) (at n : ℕ) → Put l at (bytes_of 2 n) (set (set l at (n / 256)) (at + 1) (n % 256))
unfolding bytes_of
put-short l at n =
    let next : at + 1 ≡ suc at = omega arith in
    let low : n % 256 ≡ n % 256 / 1 = omega arith in
    record { is = rw next (ap (λ (b : ℕ). set (set l at (n / 256)) (suc at) b) low) }

halves : (n : ℕ) → bytes_of 2 (n / 65536) ++ bytes_of 2 (n % 65536) ≡ bytes_of 4 n
unfolding bytes_of
halves n =
    let b₀ : n / 65536 / 256 ≡ n / 16777216 = omega arith in
    let b₁ : n / 65536 % 256 / 1 ≡ n % 16777216 / 65536 = omega arith in
    let b₂ : n % 65536 / 256 ≡ n % 16777216 % 65536 / 256 = omega arith in
    let b₃ : n % 65536 % 256 / 1 ≡ n % 16777216 % 65536 % 256 / 1 = omega arith in
    rw (b₀, b₁, b₂, b₃)

pub put-long : (n : ℕ) {l m k : List ℕ} {at : ℕ} → Put l at (bytes_of 2 (n / 65536)) m → Put m (at + 2) (bytes_of 2 (n % 65536)) k → Put l at (bytes_of 4 n) k
put-long n {at = at} high low =
    put_same (halves n) (put_then high (ap (λ (k : ℕ). at + k) (sym (bytes_of-length 2 (n / 65536)))) low)

-- ---- zeros

replicate_next : (n : ℕ) → ◌++◌ {A = ℕ} (replicate n 0) (0 ∷ []) ≡ replicate (suc n) 0
replicate_next zero = refl
replicate_next (suc n) = ap (λ (l : List ℕ). 0 ∷ l) (replicate_next n)

pub zero_next : (n : ℕ) {l m : List ℕ} {at : ℕ} → Put l at (replicate n 0) m → Put l at (replicate (n + 1) 0) (set m (at + n) 0)
zero_next n {at = at} p =
    let one : suc n ≡ n + 1 = omega arith in
    let there : at + n ≡ at + length (replicate {A = ℕ} n 0) = ap (λ (k : ℕ). at + k) (sym (length-replicate {A = ℕ} n 0)) in
    put_same (replicate_next n ∙ ap (λ (k : ℕ). replicate k 0) one) (put_next 0 p there)

-- those that fill an entry up
pub fill_none : {w : ℕ} {l : List ℕ} {at : ℕ} → w ≡ 2 → Put l at (replicate (w - 2) 0) l
fill_none {w} {l} {at} is = let none : 0 ≡ w - 2 = omega arith in rw (sym none) (put-none l at)

pub fill-two : {w : ℕ} {l m : List ℕ} {at : ℕ} → OffsetWidth w → (w ≡ 2 → ⊥) → Put l at (bytes_of 2 0) m → Put l at (replicate (w - 2) 0) m
unfolding bytes_of
fill-two {w} {l} {m} {at} width other p =
    let two : 2 ≡ w - 2 = omega (arith, width.least, width.most, width.even) in
    rw (sym two) p

pub fill-fits : {w : ℕ} (at : ℕ) {n : ℕ} → OffsetWidth w → (w ≡ 2 → ⊥) → at + (w - 2) ≤ n → at + 2 ≤ n
fill-fits at width other room = omega (arith, width.least, width.most, width.even)

-- ---- a run that is copied into a part of the buffer

pub put_copied : (l src : List ℕ) (at n : ℕ) {new : List ℕ} → at + n ≤ length l → length src ≡ n
    → new ≡ take (length src) src ++ drop (length src) (take n (drop at l))
    → Put l at src (put_mid at n l new)
put_copied l src at n {new} fits long is =
    let cut : length (take n (drop at l)) ≤ length src = omega (arith, long, length-take_le') in
    let whole : new ≡ src = is ∙ ap₂ (λ (x y : List ℕ). x ++ y) (take-length src) (drop_of_length-le (take n (drop at l)) cut) ∙ append-nil src in
    let put : sets l at src ≡ take at l ++ src ++ drop (at + n) l = sets-eq src l at (omega (arith, long)) ∙ ap (λ (k : ℕ). take at l ++ src ++ drop (at + k) l) long in
    record { is = rw (whole, drop-drop n at l) (sym (append_assoc (take at l) src (drop (at + n) l))) ∙ sym put }
  where
    length-take_le' : length (take n (drop at l)) ≤ n
    length-take_le' = part-most n (drop at l)
      where
        part-most : (k : ℕ) (x : List ℕ) → length (take k x) ≤ k
        part-most zero x = omega arith
        part-most (suc k) [] = omega arith
        part-most (suc k) (y ∷ ys) = omega (arith, part-most k ys)

-- ---- offsets, of either width

pub wide_is : {w : ℕ} → OffsetWidth w → (w ≡ 2 → ⊥) → w ≡ 4
wide_is width other = omega (arith, width.least, width.most, width.even)

pub put_narrow : {w : ℕ} (n : ℕ) {l m : List ℕ} {at : ℕ} → w ≡ 2 → Put l at (bytes_of 2 n) m → Put l at (bytes_of w n) m
put_narrow n {l} {m} {at} is p = rw is p

pub put_wide : {w : ℕ} (n : ℕ) {l m k : List ℕ} {at : ℕ} → OffsetFits w n → (w ≡ 2 → ⊥) → Put l at (bytes_of 2 (n / 65536)) m → Put m (at + 2) (bytes_of 2 (n % 65536)) k → Put l at (bytes_of w n) k
put_wide n {l} {m} {k} {at} o other high low = rw (wide_is o.width other) (put-long n high low)

-- all zeros are put
pub zeros-done : {n count : ℕ} {l m : List ℕ} {at : ℕ} → n ≤ count → count ≤ n → Put l at (replicate n 0) m → Put l at (replicate count 0) m
zeros-done {n} {count} {l} {m} {at} few done p = let same : n ≡ count = omega arith in rw (sym same) p

-- a run of a file, copied into a part of the buffer as long
pub put-run : (l f : List ℕ) (at start end : ℕ) {new : List ℕ} → start ≤ end → end ≤ length f → at + (end - start) ≤ length l
    → new ≡ take (length (take (end - start) (drop start f))) (take (end - start) (drop start f)) ++ drop (length (take (end - start) (drop start f))) (take (at + (end - start) - at) (drop at l))
    → Put l at (take (end - start) (drop start f)) (put_mid at (at + (end - start) - at) l new)
put-run l f at start end {new} order inside room is =
    let same : at + (end - start) - at ≡ end - start = omega arith in
    rw same
    (put_copied l (take (end - start) (drop start f)) at (end - start) room
    (length-take-le (end - start) (drop start f) (omega (arith, length-drop start f))) (rw same at is))
