-- Laws of lists of bytes: of a property that every element has, of the numbers that bytes spell and the bytes that spell a number, of
-- a part of a list, and of zeros. No proof above this file opens `number_of`, `bytes_of`, `part` or `all_zero`.
-- Assumes nothing.
use Rattle.std.proofs.Common.{ℕ, zero, suc, ◌+◌, ◌*◌, ◌%◌, ◌^◌, ◌<◌, mod-lt, div-add-mod', div-lt_iff_lt-mul, arith, ◌≡◌, refl, ap₂, List, [], ◌∷◌}
use Rattle.std.proofs.Common.{◌++◌, true, false, length, take, drop, get_or, replicate, get_or-take, get_or-drop, eqb, eqb-true}
use native.Mathlib.Nat.{one-le-pow, pow-succ', pow-zero}
use lib.Arith.{digits_lt, digits_div, digits_mod}
use Rattle.file.specs.Rules.Bytes.{All, Byte, Bytes, number_of, bytes_of, part, all_zero}
use Rattle.file.proofs.Order.{by_case, clash}
use Rattle.file.proofs.Sizes.{bytes_of-length}

-- ---- every element has the property

module _ {A : Type 0} {P : A → Type 0} where
  pub all_append : {x y : List A} → All P x → All P y → All P (x ++ y)
  all_append All.all_empty q = q
  all_append (All.all_next p r) q = All.all_next p (all_append r q)

  pub all_take : (n : ℕ) {x : List A} → All P x → All P (take n x)
  all_take zero q = All.all_empty
  all_take (suc n) All.all_empty = All.all_empty
  all_take (suc n) (All.all_next p q) = All.all_next p (all_take n q)

  pub all_drop : (n : ℕ) {x : List A} → All P x → All P (drop n x)
  all_drop zero q = q
  all_drop (suc n) All.all_empty = All.all_empty
  all_drop (suc n) (All.all_next p q) = all_drop n q

  pub all_replicate : (n : ℕ) (a : A) → P a → All P (replicate n a)
  all_replicate zero a p = All.all_empty
  all_replicate (suc n) a p = All.all_next p (all_replicate n a p)

  pub all_first : {a : A} {x : List A} → All P (a ∷ x) → P a
  all_first (All.all_next p q) = p

  pub all_others : {a : A} {x : List A} → All P (a ∷ x) → All P x
  all_others (All.all_next p q) = q

  -- an element at any index, past the end too, where the default has the property
  pub all_get_d : {x : List A} {d : A} → All P x → P d → (i : ℕ) → P (get_or x i d)
  all_get_d All.all_empty z i = z
  all_get_d (All.all_next p q) z zero = p
  all_get_d (All.all_next p q) z (suc i) = all_get_d q z i

  pub all-at : (d : A) {x : List A} {i : ℕ} → All P x → i < length x → P (get_or x i d)
  all-at d All.all_empty h = absurd (omega arith)
  all-at d {i = zero} (All.all_next p q) h = p
  all-at d {i = suc i} (All.all_next p q) h = all-at d q (omega arith)

  -- a property that follows from another
  pub all_map : {Q : A → Type 0} {x : List A} → ((a : A) → P a → Q a) → All P x → All Q x
  all_map f All.all_empty = All.all_empty
  all_map f (All.all_next {a = a} p q) = All.all_next (f a p) (all_map f q)

-- a byte of a list of bytes, at any index
pub byte_at : {f : List ℕ} → Bytes f → (i : ℕ) → Byte (get_or f i 0)
byte_at b i = all_get_d b (omega arith) i

pub bytes-part : {f : List ℕ} → Bytes f → (p n : ℕ) → Bytes (part f p n)
unfolding part
bytes-part b p n = all_take n (all_drop p b)

-- ---- numbers in bytes

pow_positive : (w : ℕ) → 0 < 256 ^ w
pow_positive w = one-le-pow w 256 (omega arith)

-- bytes spell a number below 256 to the power of their count
pub number_of-below : {bs : List ℕ} → Bytes bs → number_of bs < 256 ^ length bs
unfolding number_of
number_of-below All.all_empty = rw pow-zero (omega arith)
number_of-below (All.all_next {l = bs} p q) = rw (pow-succ' 256 (length bs)) (digits_lt p (number_of-below q))

-- a number that fits w bytes is what its bytes spell
pub number_of-bytes_of : (w : ℕ) {n : ℕ} → n < 256 ^ w → number_of (bytes_of w n) ≡ n
unfolding number_of bytes_of
number_of-bytes_of zero {n} h = let k : n < 1 = rw pow-zero at h in omega arith
number_of-bytes_of (suc w) {n} h =
    rw (bytes_of-length w (n % 256 ^ w), number_of-bytes_of w (mod-lt n (pow_positive w))) (div-add-mod' n (256 ^ w))

-- bytes are the bytes of the number they spell
pub bytes_of-number_of : {bs : List ℕ} → Bytes bs → bytes_of (length bs) (number_of bs) ≡ bs
unfolding number_of bytes_of
bytes_of-number_of All.all_empty = refl
bytes_of-number_of (All.all_next {a = b} {l = bs} p q) =
    rw (digits_div b (number_of-below q), digits_mod b (number_of-below q), bytes_of-number_of q)

pub bytes-bytes_of : (w : ℕ) {n : ℕ} → n < 256 ^ w → Bytes (bytes_of w n)
unfolding bytes_of
bytes-bytes_of zero h = All.all_empty
bytes-bytes_of (suc w) {n} h =
    let k : n < 256 * 256 ^ w = rw (pow-succ' 256 w) at h in
    All.all_next ((div-lt_iff_lt-mul (pow_positive w)).1 k) (bytes-bytes_of w (mod-lt n (pow_positive w)))

-- ---- a part of a list

pub get_d_part : (f : List ℕ) (p n i : ℕ) → i < n → get_or (part f p n) i 0 ≡ get_or f (p + i) 0
unfolding part
get_d_part f p n i h = rw (get_or-take, get_or-drop)

-- ---- zeros

pub all_zero-replicate : (n : ℕ) → all_zero (replicate n 0) ≡ true
unfolding all_zero
all_zero-replicate zero = refl
all_zero-replicate (suc n) = all_zero-replicate n

pub replicate-all_zero : (l : List ℕ) → all_zero l ≡ true → l ≡ replicate (length l) 0
unfolding all_zero
replicate-all_zero [] z = refl
replicate-all_zero (b ∷ bs) z =
    by_case (eqb b 0)
    (λ e. let rest : all_zero bs ≡ true = rw e at z in ap₂ (λ (x : ℕ) (y : List ℕ). x ∷ y) (eqb-true b 0 e) (replicate-all_zero bs rest))
    (λ e. let none : false ≡ true = rw e at z in clash none refl)

pub zero_at : (l : List ℕ) (k : ℕ) → all_zero l ≡ true → get_or l k 0 ≡ 0
unfolding all_zero
zero_at [] k z = refl
zero_at (b ∷ bs) zero z = by_case (eqb b 0) (λ e. eqb-true b 0 e) (λ e. clash (rw e at z) refl)
zero_at (b ∷ bs) (suc k) z = by_case (eqb b 0) (λ e. zero_at bs k (rw e at z)) (λ e. clash (rw e at z) refl)
