-- Naming after a join (document 02, job 13: "Naming after a join takes as unnamed exactly the slaves that were at 0xFF and those the join
-- turns."): the unnamed of the joined file, for whom the account waits, and demand 3 from the joined file, over the rules and over the C
-- calls.
use Rattle.std.specs.Prelude.{ℕ, ◌≡◌, List, [], ◌∷◌, ◌++◌, true, false, cond, take, eqb}
use Rattle.file.specs.Rules.Bytes.{Bytes, All}
use Rattle.file.specs.Rules.Order.{either}
use Rattle.file.specs.Rules.Results.{done}
use Rattle.file.specs.Rules.Cluster.{unnamed}
use Rattle.file.specs.Rules.FileGrounds.{is_among, file_ground}
use Rattle.join.specs.Rules.Join.{join_on}
use Rattle.naming.specs.Rules.Account.{Named, falling, unnamed_among, names_held, account_of, Call}
use Rattle.naming.specs.Rules.Position.{fresh}
use Rattle.naming.specs.Rules.RunGrounds.{start_ground}
use Rattle.naming.specs.Claims.Demand.{start_on, after_calls as after_by_rules, permitted as permitted_by_rules, OfBytes, Demand}
use Rattle.ttpa.specs.Rules.Calls.{check_call, start_call, join_call}
use Rattle.demand.specs.Claims.DemandCalls.{CCall, GivenBytes, after_calls, permitted, slaves_in, TakenByRounds, CallsDemand, started}
use Rattle.demand.specs.Claims.DemandEditions.{CallOrConversion, after_converting, permitted_converting, calls_among, Fitting}

-- ---- the unnamed

-- the physical names of those that were at 0xFF and of those that the join turns, whose logical name is among the first's, in table order
unfoldable pub unnamed_or_held : List ℕ → List Named → List ℕ
unnamed_or_held held [] = []
unnamed_or_held held (s ∷ ss) =
    cond (either (eqb s.logical unnamed) (is_among s.logical held)) (s.physical ∷ unnamed_or_held held ss) (unnamed_or_held held ss)

-- of two files that are joined: no slave of the first is turned
unfoldable pub unnamed_joined : List ℕ → List ℕ → List ℕ
unnamed_joined f g = unnamed_among (slaves_in f) ++ unnamed_or_held (names_held (slaves_in f)) (slaves_in g)

-- exactly these are unnamed in the joined file j, and for them the account waits, "the unnamed physical names in falling order", whichever
-- names it is fed
pub record UnnamedIn (f g j : List ℕ) : Type 0 where
  pub are : unnamed_among (slaves_in j) ≡ unnamed_joined f g
  pub waiting : (names : List ℕ) → (account_of (slaves_in j) names).waiting ≡ falling (unnamed_joined f g)

abbrev pub UnnamedAfterJoin : Type 0
UnnamedAfterJoin =
    (f g out : List ℕ) (n : ℕ) → Bytes f → Bytes g → (join_on f g out).0 ≡ done n → UnnamedIn f g (take n (join_on f g out).1)

-- the same of ttpa_join, if it returns 0: the file is the front of the buffer, as long as the length says that it leaves
abbrev pub joined_by : List ℕ → List ℕ → List ℕ → ℕ → List ℕ
joined_by f g out length = take (join_call f g out length).1 (join_call f g out length).2

abbrev pub UnnamedAfterJoinCall : Type 0
UnnamedAfterJoinCall =
    (f g out : List ℕ) (length : ℕ) → Bytes f → Bytes g → (join_call f g out length).0 ≡ 0 → UnnamedIn f g (joined_by f g out length)

-- ---- demand 3

-- from the file j: it is one of bytes and accepted, so that demand 3 starts from it
pub record NamingFrom (j : List ℕ) : Type 0 where
  pub bytes : Bytes j
  pub accepted : file_ground j ≡ 0
  pub demand :
      (names : List ℕ) → Bytes names → start_ground names ≡ 0 →
      (calls : List Call) → All OfBytes calls → permitted_by_rules names (start_on j) (fresh names) calls ≡ true →
      Demand j names calls (after_by_rules names (start_on j) (fresh names) calls).0.file (after_by_rules names (start_on j) (fresh names) calls).1

abbrev pub NamingAfterJoin : Type 0
NamingAfterJoin = (f g out : List ℕ) (n : ℕ) → Bytes f → Bytes g → (join_on f g out).0 ≡ done n → NamingFrom (take n (join_on f g out).1)

-- over the C calls, and with conversions anywhere between them; ttpa_check takes the joined file if it takes the two
pub record NamingFromCalls (f g j : List ℕ) : Type 0 where
  pub bytes : Bytes j
  pub taken : TakenByRounds j
  pub loads : check_call f ≡ 0 → check_call g ≡ 0 → check_call j ≡ 0
  pub demand :
      (names : List ℕ) → Bytes names → (run : List ℕ) → (start_call names run).0 ≡ 0 →
      (calls : List CCall) → All GivenBytes calls → permitted false names (started j names run) calls ≡ true →
      CallsDemand j names calls (after_calls names (started j names run) calls)
  pub converted :
      (names : List ℕ) → Bytes names → (run : List ℕ) → (start_call names run).0 ≡ 0 →
      (calls : List CallOrConversion) → All (Fitting j) calls → permitted_converting false names (started j names run) calls ≡ true →
      CallsDemand j names (calls_among calls) (after_converting names (started j names run) calls)

abbrev pub NamingAfterJoinCall : Type 0
NamingAfterJoinCall =
    (f g out : List ℕ) (length : ℕ) → Bytes f → Bytes g → (join_call f g out length).0 ≡ 0 → NamingFromCalls f g (joined_by f g out length)
