pub mod TreeRead
