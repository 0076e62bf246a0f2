-- Rules: what a reader must believe of multipartner rounds. Inner: words of the contracts between functions and maps of the code's types.
pub mod Rules
pub mod Inner
