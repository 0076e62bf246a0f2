-- Words of the contracts and laws: what the run sees of a cluster, the places of a pass by their number, and the code's types.
pub mod View
pub mod PassPlaces
pub mod StepAnswers
pub mod Steps
