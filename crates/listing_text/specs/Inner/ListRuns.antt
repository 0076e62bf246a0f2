-- What the inner functions of the listing promise to one another.
use Rattle.std.specs.Prelude.{ℕ, suc, ◌*◌, ◌≤◌, ◌<◌, ◌≡◌, List, Bool, cond, not, eqb, length, take, drop}
use Rattle.naming.specs.Rules.Position.{Position}
use Rattle.naming.specs.Rules.Pass.{last_step}
use Rattle.naming.specs.Rules.RunGrounds.{count_limit}
use Rattle.file.specs.Rules.Order.{either}
use Rattle.file.specs.Rules.Results.{Result}
use Rattle.naming.specs.Rules.Step.{StepDone}
use Rattle.naming.specs.Inner.StepAnswers.{position_of}
use Rattle.naming.specs.declared.position.RunPosition.{RunPosition}
use Rattle.listing_text.specs.Rules.Listing.{ListState, without_name, with_name, name_count, text_size}
use Rattle.listing_text.specs.Rules.Text.{line_size}
use Rattle.listing_text.specs.declared.run.ListProgress.{ListProgress}

-- the run that the code has under way: its lines stand in front of the text
abbrev pub state_of : ListProgress → List ℕ → List ℕ → List ℕ → ListState
state_of r file answer text =
    record {
      file = file;
      run = position_of r.run;
      buffer = answer;
      begun = r.begun;
      given = r.given;
      lines = take r.at text;
    }

-- the lines so far leave room for the others; and a run that counts no round is at its begin, so the extra read is no last round of a pass
pub record Room (r : ListProgress) (size : ℕ) : Type 0 where
  pub counted : r.begun ≤ r.run.counts.comparisons
  pub few : r.given ≤ r.run.place.index
  pub most : r.given ≤ name_count
  pub within : r.at ≤ r.given * line_size
  pub long : text_size ≤ size
  pub begins : r.run.counts.rounds ≡ 0 → r.run.place.step ≡ 0

-- from one run under way to another, with that much of the text written
pub record StateIs (wanted : ListState) (old : List ℕ) (at : ℕ) (r : ListProgress) (file answer text : List ℕ) : Type 0 where
  pub is : state_of r file answer text ≡ wanted
  pub rest : drop r.at text ≡ drop r.at old
  pub onward : at ≤ r.at
  pub same : length text ≡ length old
  pub room : Room r (length text)

-- what a round of the run leaves of a position
pub record Moves (p q : Position) : Type 0 where
  pub inside : p.place.index < name_count
  pub compared : p.counts.comparisons ≤ q.counts.comparisons
  pub small : q.counts.comparisons ≤ count_limit
  pub further : p.place.index ≤ q.place.index
  pub named : p.place.step ≡ last_step → q.place.index ≡ suc p.place.index
  pub made : 0 < q.counts.rounds

-- the state after such a round, whatever file and answer it left
pub record StepListed (state : ListProgress) (next : Position) (old : List ℕ) (r : ListProgress) (new : List ℕ) : Type 0 where
  pub reached :
      (s : Result StepDone) (file answer file' answer' : List ℕ) →
      StateIs
      (cond (eqb state.run.place.step last_step) (with_name (state_of state file answer old) (s, next, answer', file'))
      (without_name (state_of state file answer old) (s, next, answer', file')))
      old
      state.at
      r
      file'
      answer'
      new

-- the state with the run elsewhere
unfoldable pub moved_to : ListProgress → RunPosition → ListProgress
moved_to state run = record { run = run; begun = state.begun; given = state.given; at = state.at }

-- no step is left, or the next one gives no name
unfoldable pub none_given : ℕ → ℕ → Bool
none_given left step = either (eqb left 0) (not (eqb step last_step))
