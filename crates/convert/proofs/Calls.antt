-- The call that converts: its grounds in their order, what it answers, and what it leaves in the buffer.
-- Assumes nothing.
use Rattle.std.proofs.Common.{ℕ, ◌*◌, ◌≤◌, ◌<◌, arith, ◌≡◌, refl, sym, ap, ◌∙◌, ◌≢◌, List, [], ◌∷◌, Bool, true, false, length, ltb, eq-eqb, ne_eqb, lt-ltb, le-ltb, ltb-false}
use Rattle.file.specs.Rules.Order.{first_of, either}
use Rattle.file.specs.Rules.Layout.{width_in, max_slaves, max_length}
use Rattle.file.specs.Rules.Results.{refused, done, written_in}
use Rattle.file.specs.Rules.Cluster.{Slave, Cluster}
use Rattle.file.specs.Rules.Encode.{file_length, header, encode_at, encode}
use Rattle.file.specs.Rules.Decode.{decode}
use Rattle.file.specs.Rules.Changes.{with_edition}
use Rattle.file.specs.Rules.Editions.{in_edition, exceeds}
use Rattle.file.specs.Rules.FileGrounds.{file_grounds, file_ground}
use Rattle.file.specs.Inner.Accepted.{slave_count}
use Rattle.file.specs.Inner.Surveyed.{Surveyed}
use Rattle.file.specs.declared.types.Refusal.{Refusal}
use Rattle.file.proofs.Order.{joined-here, joined-next, either_false_left, either_false_right}
use Rattle.file.proofs.Results.{file-first, file_numbered}
use Rattle.file.proofs.Surveyed.{survey-accepted, survey-refused}
use Rattle.file.proofs.Sizes.{encode_at-length}
use Rattle.convert.specs.declared.editions.Edition.{Edition}
use Rattle.convert.specs.Rules.Convert.{convert_grounds, convert_ground, convert_on}
use Rattle.convert.specs.Inner.ConversionAnswers.{edition_in}
use Rattle.convert.specs.Inner.Putting.{Put}
use Rattle.convert.specs.Inner.Slaves.{FormFits, is_over}
use Rattle.convert.proofs.Putting.{put_same, put_written}
use Rattle.convert.proofs.EditionLaws.{edition-width}
use Rattle.file.specs.Inner.Refusals.{Answered, refusal_number, outcome_of}
use Rattle.std.specs.Prelude.{Ok, Err}

-- ---- the limits

pub over_many : (v : ℕ) {n : ℕ} (size : ℕ) → 16 * v < n → true ≡ is_over v n size
unfolding is_over either
over_many v {n} size many = rw (lt-ltb (max_slaves v) n many)

pub over_long : (v : ℕ) {n : ℕ} (size : ℕ) → n ≤ 16 * v → ltb (16384 * v) size ≡ is_over v n size
unfolding is_over either
over_long v {n} size few = rw (le-ltb (max_slaves v) n few)

-- they are those of the slaves that the form has
pub over_slaves : (v : ℕ) (ss : List Slave) {n size : ℕ} → n ≡ length ss → size ≡ file_length v ss → is_over v n size ≡ exceeds v ss
unfolding is_over exceeds
over_slaves v ss count long = rw (count, long)

-- a form within the limits
pub record Within (v : ℕ) (ss : List Slave) : Type 0 where
  pub few : length ss ≤ max_slaves v
  pub short : file_length v ss ≤ max_length v

pub within : {v : ℕ} {ss : List Slave} → exceeds v ss ≡ false → Within v ss
unfolding exceeds
within e = record { few = ltb-false _ _ (either_false_left _ _ e); short = ltb-false _ _ (either_false_right _ _ e) }

-- ---- the grounds in their order

module _ (f : List ℕ) (e : ℕ) (out : List ℕ) where
  pub file_decides : file_ground f ≢ 0 → convert_ground f e out ≡ file_ground f
  unfolding convert_ground convert_grounds
  file_decides some = joined-here (file_grounds f) _ (file_numbered f) (λ z. some (sym (file-first f) ∙ z)) ∙ file-first f

  after-file : file_ground f ≡ 0 → convert_ground f e out
      ≡ first_of ((25, exceeds (width_in e) (decode f).slaves) ∷ (26, ltb (length out) (file_length (width_in e) (decode f).slaves)) ∷ [])
  unfolding convert_ground convert_grounds
  after-file accepted = joined-next (file_grounds f) _ (file_numbered f) (file-first f ∙ accepted)

  pub limits_decide : file_ground f ≡ 0 → exceeds (width_in e) (decode f).slaves ≡ true → convert_ground f e out ≡ 25
  unfolding first_of
  limits_decide accepted over = after-file accepted ∙ rw over

  pub buffer_decides : file_ground f ≡ 0 → exceeds (width_in e) (decode f).slaves ≡ false → length out < file_length (width_in e) (decode f).slaves → convert_ground f e out ≡ 26
  unfolding first_of
  buffer_decides accepted under short = after-file accepted ∙ rw (under, lt-ltb (length out) (file_length (width_in e) (decode f).slaves) short)

  pub none-holds : file_ground f ≡ 0 → exceeds (width_in e) (decode f).slaves ≡ false → file_length (width_in e) (decode f).slaves ≤ length out → convert_ground f e out ≡ 0
  unfolding first_of
  none-holds accepted under fits = after-file accepted ∙ rw (under, le-ltb (length out) (file_length (width_in e) (decode f).slaves) fits)

  -- refused, with the buffer as it was; or written
  pub convert-refused : {n : ℕ} → convert_ground f e out ≡ n → n ≢ 0 → convert_on f e out ≡ (refused n, out)
  unfolding convert_on
  convert-refused is some = rw (is, ne_eqb _ _ some)

  pub convert-written : convert_ground f e out ≡ 0 → convert_on f e out ≡ (done (length (in_edition f e)), written_in out (in_edition f e))
  unfolding convert_on
  convert-written none = rw (eq-eqb _ _ none)

-- a form does not ask for the edition's field
form-is : (w e : ℕ) (c : Cluster) → encode_at w (with_edition c e) ≡ encode_at w c
unfolding encode_at header with_edition
form-is w e c = refl

pub in-edition : (f : List ℕ) (e : ℕ) → in_edition f e ≡ encode_at (width_in e) (decode f)
unfolding in_edition encode with_edition
in-edition f e = form-is (width_in e) e (decode f)

-- ---- the ways of the call, by the answer of the survey

module _ {f places : List ℕ} {a : Answered (Unit {0})} (s : Surveyed f (outcome_of a) places) (e : Edition) (out : List ℕ) where
  pub call-refused : {why : Refusal} → a ≡ Err why → (refused (refusal_number why), out) ≡ convert_on f (edition_in e) out
  call-refused {why} is =
      let reason = survey-refused s is in
      let here : convert_ground f (edition_in e) out ≡ file_ground f = file_decides f (edition_in e) out (λ z. reason.1 (reason.0 ∙ z)) in
      sym (convert-refused f (edition_in e) out (here ∙ sym reason.0) reason.1)

  module _ {u : Unit {0}} (accepted : a ≡ Ok u) {v size : ℕ} (width : v ≡ width_in (edition_in e)) (long : size ≡ file_length v (decode f).slaves) where
    length-is : size ≡ file_length (width_in (edition_in e)) (decode f).slaves
    length-is = long ∙ ap (λ (w : ℕ). file_length w (decode f).slaves) width

    over_here : {n : ℕ} {over b : Bool} → n ≡ slave_count f → over ≡ is_over v n size → over ≡ b → exceeds v (decode f).slaves ≡ b
    over_here count is b = sym (over_slaves v (decode f).slaves count long) ∙ sym is ∙ b

    over_is : {n : ℕ} {over b : Bool} → n ≡ slave_count f → over ≡ is_over v n size → over ≡ b → exceeds (width_in (edition_in e)) (decode f).slaves ≡ b
    over_is count is b = ap (λ (w : ℕ). exceeds w (decode f).slaves) (sym width) ∙ over_here count is b

    pub call_over : {n : ℕ} {over : Bool} → n ≡ slave_count f → over ≡ is_over v n size → over ≡ true → (refused 25, out) ≡ convert_on f (edition_in e) out
    call_over count is holds =
        sym (convert-refused f (edition_in e) out (limits_decide f (edition_in e) out (survey-accepted s accepted) (over_is count is holds)) (λ z. omega arith))

    module _ {n : ℕ} {over : Bool} (count : n ≡ slave_count f) (is : over ≡ is_over v n size) (no' : over ≡ false) where
      pub call-short : length out < size → (refused 26, out) ≡ convert_on f (edition_in e) out
      call-short short =
          sym
          (convert-refused f (edition_in e) out
          (buffer_decides f (edition_in e) out (survey-accepted s accepted) (over_is count is no') (omega (arith, length-is))) (λ z. omega arith))

      pub call_fits : size ≤ length out → FormFits v out size (decode f).slaves
      call_fits room =
          let inside : Within v (decode f).slaves = within (over_here count is no') in
          record { width = rw width (edition-width e); is = long; room = omega (arith, long); short = inside.short; few = inside.few }

      pub call-written : {new : List ℕ} → size ≤ length out → Put out 0 (encode_at v (decode f)) new → (done size, new) ≡ convert_on f (edition_in e) out
      call-written {new} room p =
          let form : encode_at v (decode f) ≡ in_edition f (edition_in e) = ap (λ (w : ℕ). encode_at w (decode f)) width ∙ sym (in-edition f (edition_in e)) in
          let least = (call_fits room).width.least in
          let bytes : size ≡ length (in_edition f (edition_in e)) = long ∙ sym (encode_at-length least (decode f)) ∙ ap length form in
          let left : new ≡ written_in out (in_edition f (edition_in e)) = put_written (put_same form p) (omega (arith, bytes)) in
          rw (bytes, left)
          (sym (convert-written f (edition_in e) out (none-holds f (edition_in e) out (survey-accepted s accepted) (over_is count is no') (omega (arith, length-is)))))
