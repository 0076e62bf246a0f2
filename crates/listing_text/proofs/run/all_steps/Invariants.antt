-- `listing_text::run::all_steps` meets its contract: what is left of the run is the whole run.
use Rattle.std.proofs.Common.{◌≡◌, length}
use Rattle.file.specs.Inner.Accepted.{Placed}
use Rattle.listing_text.specs.Rules.Listing.{list_steps, most_steps}
use Rattle.listing_text.specs.Inner.ListRuns.{state_of}
use Rattle.listing_text.proofs.ListLaws.{Going}
use Rattle.listing_text.proofs.run.all_steps.Given as goal

abbrev pub invariant-loop-left : goal.invariant-loop-left
invariant-loop-left l =
    Going (list_steps most_steps (state_of l.initial.state l.initial.file l.initial.answer l.initial.text)) l.initial.text l.initial.state.at l.state l.left l.file l.answer l.text ×
    (length l.file ≡ length l.initial.file) × (length l.answer ≡ length l.initial.answer) × Placed l.file l.places

abbrev pub decreases-loop-left : goal.decreases-loop-left
decreases-loop-left l = l.left
