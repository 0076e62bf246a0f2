-- What document 01 says of the cluster file, in its order: "The cluster file", then "Grounds for turning something away"; then a file in
-- another edition (document 02, job 10).
pub mod Bytes
pub mod Layout
pub mod Cluster
pub mod Encode
pub mod Decode
pub mod Changes
pub mod Legal
pub mod Order
pub mod Results
pub mod FileGrounds
pub mod Editions
