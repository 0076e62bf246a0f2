-- Rules: what each C call returns and leaves in lent memory, in terms of the layers below. Claims: what is proved of all of them.
-- Inner: words of the contracts between functions.
pub mod Rules
pub mod Inner
pub mod Claims
