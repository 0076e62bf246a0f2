-- The plain account's rounds: within a pass, and the last of a pass of a taken name, of one that is given, and of the run.
-- Assumes nothing.
use Rattle.std.proofs.Common.{ℕ, suc, ◌+◌, ◌<◌, ◌≡◌, List, [], ◌∷◌, map, true, false, arith, eqb, eq-eqb, ne_eqb}
use Rattle.file.specs.Rules.FileGrounds.{is_among}
use Rattle.naming.specs.Rules.Account.{Named, Account, end_with, go_on_lem, pass_done, give, free_pass, pass, pass_on, naming_rounds, naming_comparisons, ending_rounds}

abbrev pub account : List ℕ → List ℕ → List Named → List ℕ → ℕ → ℕ → ℕ → ℕ → Account
account left waiting slaves held end rounds done k =
    record { left = left; waiting = waiting; slaves = slaves; held = held; end = end; rounds = rounds; done = done; k = k }

-- the account has more rounds to make
abbrev pub Goes : List ℕ → ℕ → Type 0
Goes [] k = eqb (suc k) ending_rounds ≡ false
Goes (p ∷ ps) k = suc k < naming_rounds p

pub goes_on :
    (n : ℕ) (ns ws : List ℕ) (slaves : List Named) (held : List ℕ) (rounds done k : ℕ) → is_among n held ≡ false → Goes ws k →
    pass_on (account (n ∷ ns) ws slaves held 0 rounds done k) ≡ account (n ∷ ns) ws slaves held 0 (suc rounds) done (suc k)
unfolding pass_on pass free_pass go_on_lem
goes_on n ns [] slaves held rounds done k free g = rw (free, g)
goes_on n ns (p ∷ ps) slaves held rounds done k free g = rw (free, ne_eqb (suc k) (naming_rounds p) (λ (e : suc k ≡ naming_rounds p). omega arith))

-- the account's last round of a pass: of a taken name, of one that is given, of the run
pub taken-round :
    (n : ℕ) (ns ws : List ℕ) (slaves : List Named) (held : List ℕ) (rounds done k : ℕ) → is_among n held ≡ true →
    pass_on (account (n ∷ ns) ws slaves held 0 rounds done k) ≡ account ns ws slaves held (end_with ns) (suc rounds) (done + 0) 0
unfolding pass_on pass pass_done
taken-round n ns ws slaves held rounds done k t = rw t

pub giving-round :
    (n : ℕ) (ns : List ℕ) (p : ℕ) (ps : List ℕ) (slaves : List Named) (held : List ℕ) (rounds done k : ℕ) → is_among n held ≡ false →
    suc k ≡ naming_rounds p →
    pass_on (account (n ∷ ns) (p ∷ ps) slaves held 0 rounds done k) ≡
    account ns ps (map (give p n) slaves) held (end_with ns) (suc rounds) (done + naming_comparisons) 0
unfolding pass_on pass free_pass pass_done
giving-round n ns p ps slaves held rounds done k f e = rw (f, eq-eqb (suc k) (naming_rounds p) e)

pub ending-round :
    (n : ℕ) (ns : List ℕ) (slaves : List Named) (held : List ℕ) (rounds done k : ℕ) → is_among n held ≡ false → suc k ≡ ending_rounds →
    pass_on (account (n ∷ ns) [] slaves held 0 rounds done k) ≡ account (n ∷ ns) [] slaves held 1 (suc rounds) done (suc k)
unfolding pass_on pass free_pass go_on_lem
ending-round n ns slaves held rounds done k f e = rw (f, eq-eqb (suc k) ending_rounds e)
