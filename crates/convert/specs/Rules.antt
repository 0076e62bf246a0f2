-- What document 02 says of conversions ("Job 10. Edition 2 with wider offsets."): the call, with grounds 25 and 26.
pub mod Convert
